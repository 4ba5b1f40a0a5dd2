use Rattle.std.proofs.Common.{false, ap, ◌∙◌, rules}
use Rattle.std.specs.Bool.{Decides}
use Rattle.a64_imms.specs.Logic.{size_for}
use Rattle.a64_imms.proofs.LogicRuns.{size_of_type, decided}
use Rattle.a64_imms.proofs.imm_logic.ImmLogic.is_lawful.Goals as goal

never : {P : Type 0} → (P → ⊥) → Decides false P
never refuted = (λ e. absurd cc, λ p. absurd (refuted p))

pub returns-then-imm-self-2-clause-test : goal.returns-then-imm-self-2-clause-test
returns-then-imm-self-2-clause-test c = decided c.args.self.now _ (search rules)

pub returns-else-imm-self-2-clause-test : goal.returns-else-imm-self-2-clause-test
returns-else-imm-self-2-clause-test c = decided c.args.self.now _ (search rules)

pub returns-in-None-clause-lawful : goal.returns-in-None-clause-lawful
returns-in-None-clause-lawful c =
    let imm = c.args.self.now in
    never (λ is. c.in-None.ensures.none imm.size (ap size_for c.to_ty.ensures ∙ size_of_type imm.size) (is.run, is.is_run, is.number_is))

pub returns-in-None-clause-test : goal.returns-in-None-clause-test
returns-in-None-clause-test c =
    let imm = c.args.self.now in
    decided imm false (never (λ is. c.in-None.ensures.none imm.size (ap size_for c.to_ty.ensures ∙ size_of_type imm.size) (is.run, is.is_run, is.number_is)))
