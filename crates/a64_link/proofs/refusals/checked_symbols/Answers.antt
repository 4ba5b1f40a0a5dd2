use Rattle.std.proofs.Common.{sym}
use Rattle.a64_link.proofs.Faultless.{linkable}
use Rattle.a64_link.proofs.refusals.checked_symbols.Goals as goal

pub returns-clause-linkable : goal.returns-clause-linkable
returns-clause-linkable c = linkable c.args.units.now c.in_ok-check_units.ensures (sym c.in_default.ensures) (sym c.in_default-first_large.ensures)
