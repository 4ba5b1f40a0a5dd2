-- A value that one step loads without an orr of 32 bits keeps that step.
use Rattle.std.proofs.Common.{◌≡◌, ◌≢◌, ℕ, ◌-◌, ◌^◌, inl, inr, ◌&&◌, nat_eq, if◌then◌else◌, Bool, Option, None, Some, List, length, refl, ap, ◌∙◌, arith}
use Rattle.std.specs.Prelude.{option_map}
use Rattle.std.proofs.lemmas.Bool.{cases_lt, le-ltb, ne_eqb}
use Rattle.a64_base.specs.declared.size.OperandSize.TheVariants.{Size32, Size64}
use Rattle.a64_imms.specs.Logic.{logic_of}
use Rattle.a64_imms.specs.MoveWides.{wide_of}
use Rattle.a64_plan.specs.declared.step.ConstStep.{ConstStep}
use Rattle.a64_plan.specs.declared.step.ConstStep.TheVariants.{MovZ, MovN, Orr}
use Rattle.a64_plan.specs.Plans.{moves_of, moves_size, alone_or, narrow_logic_of, plan_of, plan_without_narrow}
use Rattle.a64_plan.proofs.Shortest.{size_low, narrow_low}

-- one move has no orr of 32 bits in its place
one_stays : (value : ℕ) → length (moves_of (moves_size value) value) ≡ 1 → narrow_logic_of value ≡ None
one_stays value one = elim (cases_lt value (2 ^ 32)) [
  | inl low ↦ (
      let same = ap (λ size. length (moves_of size value)) (size_low value low) in
      let other : length (moves_of Size32 value) ≢ 2 = λ two. absurd (omega arith) in
      narrow_low value low ∙ ap (λ (b : Bool). if b then logic_of Size32 value else None) (ne_eqb (length (moves_of Size32 value)) 2 other))
  | inr high ↦ ap (λ (b : Bool). if b && nat_eq (length (moves_of Size32 value)) 2 then logic_of Size32 value else None) (le-ltb value (2 ^ 32) high)
]

-- behind a step that was found all is the same, and else the rest is
same_behind : {A : Type 0} (found : Option A) (step : A → ConstStep) (rest other : List ConstStep) → (length other ≡ 1 → rest ≡ other)
    → length (alone_or (option_map step found) other) ≡ 1 → alone_or (option_map step found) rest ≡ alone_or (option_map step found) other
same_behind (Some x) step rest other same one = refl
same_behind None step rest other same one = same one

pub plan_kept : (value : ℕ) → length (plan_without_narrow value) ≡ 1 → plan_of value ≡ plan_without_narrow value
unfolding plan_of plan_without_narrow
plan_kept value =
    same_behind (wide_of value) (λ imm. MovZ imm Size64) _ _
    (same_behind (wide_of (2 ^ 64 - 1 - value)) (λ imm. MovN imm Size64) _ _
    (same_behind (logic_of Size64 value) Orr _ _
    (λ one. ap (λ found. alone_or (option_map Orr found) (moves_of (moves_size value) value)) (one_stays value one))))
