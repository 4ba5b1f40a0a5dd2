use Rattle.std.proofs.Common.{sym, ◌∙◌}
use Rattle.a64_tokens.proofs.Registers.{no_preg, is_preg}
use Rattle.a64_tokens.proofs.register.read_preg.Goals as goal

pub returns-in_err-read_reg : goal.returns-in_err-read_reg
returns-in_err-read_reg c = rw c.from_residual.ensures (no_preg c.args.token.now c.in_err-read_reg.ensures)

pub returns-in-Real : goal.returns-in-Real
returns-in-Real c =
    let is = sym c.kind.ensures ∙ c.in-Real.is in
    is_preg c.args.token.now c.in-Real.preg (rw is at c.in_ok-read_reg.ensures)
