use Rattle.std.proofs.Common.{sym, ◌∙◌, arith}
use Rattle.a64_text.proofs.MovImms.{no_mov, is_mov}
use Rattle.a64_text.proofs.mov_imm.mov_imm_of.Goals as goal

pub returns-then-not-is_given : goal.returns-then-not-is_given
returns-then-not-is_given c = no_mov c.args.written c.args.lane c.is_64-is_64bit.result c.is_64-is_64bit.ensures (sym c.is_given.ensures ∙ c.if-not-is_given.true)

pub returns : goal.returns
returns c = is_mov c.args.written c.args.lane c.is_64-is_64bit.result c.is_64-is_64bit.ensures (omega arith) (sym c.is_given.ensures ∙ c.if-not-is_given.false)
