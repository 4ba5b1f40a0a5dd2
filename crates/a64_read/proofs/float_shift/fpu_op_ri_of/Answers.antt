use Rattle.std.proofs.Common.{rules, arith}
use Rattle.std.proofs.lemmas.Slice.Eq.{text_from_reads}
use Rattle.std.specs.Prelude.{codes}
use Rattle.a64_read.proofs.FloatShifts.{ushr32, ushr64}
use Rattle.a64_read.proofs.float_shift.fpu_op_ri_of.Goals as goal

pub returns-in_ok-read_right_amount-in-UShr32 : goal.returns-in_ok-read_right_amount-in-UShr32
returns-in_ok-read_right_amount-in-UShr32 c = ushr32 c.args.name.now c.args.amount.now c.in_ok-read_right_amount-in-UShr32.field-0 (text_from_reads c.args.name.now (codes "UShr32") (omega arith) (search rules)) c.in_ok-read_right_amount-in-UShr32.ensures

pub returns-in_ok-read_right_amount-in-UShr64 : goal.returns-in_ok-read_right_amount-in-UShr64
returns-in_ok-read_right_amount-in-UShr64 c = ushr64 c.args.name.now c.args.amount.now c.in_ok-read_right_amount-in-UShr64.field-0 (text_from_reads c.args.name.now (codes "UShr64") (omega arith) (search rules)) c.in_ok-read_right_amount-in-UShr64.ensures
