use Rattle.std.proofs.Common.{rules, arith}
use Rattle.std.proofs.lemmas.Slice.Eq.{text_from_reads}
use Rattle.std.specs.Prelude.{codes}
use Rattle.a64_read.proofs.FloatShifts.{sli32, sli64}
use Rattle.a64_read.proofs.float_shift.fpu_op_ri_mod_of.Goals as goal

pub returns-in_ok-read_left_amount-in-Sli32 : goal.returns-in_ok-read_left_amount-in-Sli32
returns-in_ok-read_left_amount-in-Sli32 c = sli32 c.args.name.now c.args.amount.now c.in_ok-read_left_amount-in-Sli32.field-0 (text_from_reads c.args.name.now (codes "Sli32") (omega arith) (search rules)) c.in_ok-read_left_amount-in-Sli32.ensures

pub returns-in_ok-read_left_amount-in-Sli64 : goal.returns-in_ok-read_left_amount-in-Sli64
returns-in_ok-read_left_amount-in-Sli64 c = sli64 c.args.name.now c.args.amount.now c.in_ok-read_left_amount-in-Sli64.field-0 (text_from_reads c.args.name.now (codes "Sli64") (omega arith) (search rules)) c.in_ok-read_left_amount-in-Sli64.ensures
