use Rattle.std.proofs.Common.{sym, ◌∙◌}
use Rattle.a64_inst.proofs.Copies.{of_access}
use Rattle.a64_inst.proofs.copied.copied_memory.Goals as goal

pub returns-in-Some : goal.returns-in-Some
returns-in-Some c = c.from_access.ensures.inst ∙ of_access c.args.inst.now c.in-Some.access (sym c.access.ensures ∙ c.in-Some.is)
