use Rattle.std.proofs.Common.{◌≡◌, ◌≢◌, ℕ, Option, None, Some, sym, ap, ◌∙◌}
use Rattle.std.specs.Prelude.{option_map, option_and_then}
use Rattle.a64_base.specs.declared.ir_type.IrType.{IrType}
use Rattle.a64_base.specs.declared.size.OperandSize.{OperandSize}
use Rattle.a64_imms.specs.declared.run.Run.{Run}
use Rattle.a64_imms.specs.Runs.{number, IsRun, run_of}
use Rattle.a64_imms.specs.Logic.{size_for, seen, logic_with, logic_of, logic_at}
use Rattle.a64_imms.proofs.Found.{run_named, no_run}
use Rattle.a64_imms.proofs.imm_logic.ImmLogic.maybe_from_u64.Goals as goal

-- the immediate at a type that has a size, by the run that is named
at_size : (ty : IrType) (size : OperandSize) (value : ℕ) (named : Option Run) → size_for ty ≡ Some size → run_of (seen size value) ≡ named
    → logic_at ty value ≡ option_map (logic_with size value) named
at_size ty size value named is e =
    ap (λ s. option_and_then (λ z. logic_of z value) s) is ∙ ap (option_map (logic_with size value)) e

-- a number of which another run was found, or none, has no run
other_found : (n : ℕ) (found : Option Run) → ((run : Run) → IsRun run → number run ≡ n → found ≡ Some run)
    → ((run : Run) → found ≡ Some run → number run ≢ n) → (run : Run) → IsRun run → number run ≢ n
other_found n found finds apart run is e = apart run (finds run is e) e

pub returns-in-Some-clause-immediate : goal.returns-in-Some-clause-immediate
returns-in-Some-clause-immediate c =
    let run = c.in-Some.run' in
    let number_is : number run ≡ seen c.in_ok-size.size c.args.value = sym c.number.ensures ∙ c.if-number.true ∙ c.seen_at-number.ensures in
    let named = at_size c.args.ty c.in_ok-size.size c.args.value (Some run) (sym c.logic_size.ensures ∙ c.in_ok-size.was) (run_named (seen c.in_ok-size.size c.args.value) run (c.in-Some.ensures.run) number_is) in
    ap (λ imm. Some imm) c.of_run.ensures.fields ∙ sym named

pub returns-in_default-clause-immediate : goal.returns-in_default-clause-immediate
returns-in_default-clause-immediate c =
    let n = c.seen_at-number.result in
    let none = other_found n c.find.result c.find.ensures.found (λ run is e. c.if-number.false (let same = c.in-Some.is in let number_is = c.number.ensures in cc)) in
    sym (at_size c.args.ty c.in_ok-size.size c.args.value None (sym c.logic_size.ensures ∙ c.in_ok-size.was)
    (ap run_of (sym c.seen_at-number.ensures) ∙ no_run n none))

pub returns-in_default-2-clause-immediate : goal.returns-in_default-2-clause-immediate
returns-in_default-2-clause-immediate c =
    let n = c.seen_at-number.result in
    let none = other_found n c.find.result c.find.ensures.found (λ run is e. let nothing = c.in_default.is in absurd cc) in
    sym (at_size c.args.ty c.in_ok-size.size c.args.value None (sym c.logic_size.ensures ∙ c.in_ok-size.was)
    (ap run_of (sym c.seen_at-number.ensures) ∙ no_run n none))
