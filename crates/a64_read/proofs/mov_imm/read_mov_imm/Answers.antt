use Rattle.std.proofs.Common.{ap, ◌∙◌, List, refl}
use Rattle.a64_tokens.specs.declared.value.Value.{Value}
use Rattle.a64_read.proofs.MovImmReads.{no_mov_imm, mov_imm_read}
use Rattle.a64_read.proofs.mov_imm.read_mov_imm.Goals as goal

pub returns-in_err-read_fields : goal.returns-in_err-read_fields
returns-in_err-read_fields c = rw c.from_residual.ensures (no_mov_imm c.args.token.now c.in_err-read_fields.ensures.read)

pub returns : goal.returns
returns c = mov_imm_read c.args.token.now c.read_fields.new.values.items c.in_ok-read_fields.ensures.read _ (rw (c.get-imm.ensures, c.get-shift.ensures, c.get-ones.ensures, c.as_slice-values.ensures.value) refl)
