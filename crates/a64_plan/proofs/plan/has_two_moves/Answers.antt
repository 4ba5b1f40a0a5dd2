use Rattle.std.proofs.Common.{◌≡◌, ◌-◌, ◌^◌, false, true, ◌&&◌, nat_eq, length, sym, ap, ◌∙◌}
use Rattle.std.proofs.lemmas.Bool.{eq-eqb, ne_eqb, le-ltb}
use Rattle.a64_base.specs.declared.size.OperandSize.TheVariants.{Size32}
use Rattle.a64_plan.specs.Plans.{count, moves_of}
use Rattle.a64_plan.proofs.Moves.{two_moves}
use Rattle.a64_plan.proofs.plan.has_two_moves.Goals as goal

pub returns-then-value : goal.returns-then-value
returns-then-value c =
    sym (ap (λ b. b && nat_eq (length (moves_of Size32 c.args.value)) 2) (le-ltb c.args.value (2 ^ 32) c.if-value.true))

pub returns-then-count_of-eq0 : goal.returns-then-count_of-eq0
returns-then-count_of-eq0 c =
    let value = c.args.value in
    let zeros : nat_eq (count 0 value 2) 0 ≡ true = eq-eqb (count 0 value 2) 0 (sym c.count_of.ensures ∙ c.if-count_of-eq0.true) in
    ap (λ ones. nat_eq ones 0) c.count_of-then-count_of-eq0.ensures
    ∙ sym (two_moves value c.if-value.false ∙ ap (λ b. b && nat_eq (count (2 ^ 16 - 1) value 2) 0) zeros)

pub returns-else-count_of-eq0 : goal.returns-else-count_of-eq0
returns-else-count_of-eq0 c =
    let value = c.args.value in
    let some : nat_eq (count 0 value 2) 0 ≡ false = ne_eqb (count 0 value 2) 0 (λ none. c.if-count_of-eq0.false (c.count_of.ensures ∙ none)) in
    ap (λ zeros. nat_eq zeros 0) c.count_of.ensures
    ∙ some
    ∙ sym (two_moves value c.if-value.false ∙ ap (λ b. b && nat_eq (count (2 ^ 16 - 1) value 2) 0) some)
