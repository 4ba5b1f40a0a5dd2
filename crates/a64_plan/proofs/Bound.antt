-- What steps of a shape can leave: the lower bound of their number.
use Rattle.std.proofs.Common.{◌≡◌, ℕ, ◌+◌, ◌-◌, ◌*◌, ◌^◌, ◌<◌, ◌≤◌, ◌⊎◌, inl, inr, List, [], ◌∷◌, length, sym, subst, ◌∙◌, arith}
use Rattle.std.specs.Prelude.{nat_eq}
use Rattle.std.specs.List.{AllByRecursion}
use Rattle.std.proofs.lemmas.Bool.{and_parts, eqb-true}
use Rattle.a64_base.specs.declared.size.OperandSize.{OperandSize}
use Rattle.a64_base.specs.declared.size.OperandSize.TheVariants.{Size32, Size64}
use Rattle.a64_base.specs.OperandSizes.{operand_bits}
use Rattle.a64_imms.specs.declared.imm_logic.ImmLogic.{ImmLogic}
use Rattle.a64_imms.specs.MoveWides.{halfword, wide_value}
use Rattle.a64_imms.specs.Runs.{number, is_run}
use Rattle.a64_imms.specs.Logic.{seen, logic_value, IsLogicValue, IsImmLogic, run_in, is_imm_logic}
use Rattle.a64_imms.proofs.LogicRuns.{passes}
use Rattle.a64_imms.proofs.Table.{is_built}
use Rattle.a64_plan.specs.declared.step.ConstStep.{ConstStep}
use Rattle.a64_plan.specs.declared.step.ConstStep.TheVariants.{MovZ, MovN, MovK, Orr}
use Rattle.a64_plan.specs.Machine.{cut, with_halfword, after, after_all}
use Rattle.a64_plan.specs.Shapes.{halfword_count, IsMovK, IsShape, NoneFewer}
use Rattle.a64_plan.specs.Plans.{count, moves_of}
use Rattle.a64_plan.proofs.Counts.{at_each, one_few, written_count}
use Rattle.a64_plan.proofs.Moves.{moves_few}

-- all but so many halfwords of a size are these bits
abbrev pub AllBut : ℕ → OperandSize → ℕ → ℕ → Type 0
AllBut many size bits value = halfword_count size ≤ count bits value (halfword_count size) + many

-- ---- one move, and movks behind it

abbrev SetsOne : OperandSize → ℕ → Type 0
SetsOne size k = (bits : ℕ) → bits < 2 ^ 16 → AllBut 1 size 0 (cut size (bits * 2 ^ (16 * k)))

movz_sets : (size : OperandSize) (k : ℕ) → k < halfword_count size → SetsOne size k
movz_sets = at_each SetsOne (λ bits fits. grind arith) (λ bits fits. grind arith) (λ bits fits. grind arith)
    (λ bits fits. grind arith) (λ bits fits. grind arith) (λ bits fits. grind arith)

abbrev ClearsOne : OperandSize → ℕ → Type 0
ClearsOne size k = (bits : ℕ) → bits < 2 ^ 16 → AllBut 1 size (2 ^ 16 - 1) (2 ^ operand_bits size - 1 - cut size (bits * 2 ^ (16 * k)))

movn_clears : (size : OperandSize) (k : ℕ) → k < halfword_count size → ClearsOne size k
movn_clears = at_each ClearsOne (λ bits fits. grind arith) (λ bits fits. grind arith) (λ bits fits. grind arith)
    (λ bits fits. grind arith) (λ bits fits. grind arith) (λ bits fits. grind arith)

movk_takes : (size : OperandSize) (bits : ℕ) (step : ConstStep) (old : ℕ) → IsMovK size step
    → count bits old (halfword_count size) ≤ count bits (after step old) (halfword_count size) + 1
movk_takes size bits (MovK imm width) old (e, is) =
    subst (λ z. count bits old (halfword_count size) ≤ count bits (cut z (with_halfword imm.shift imm.bits old)) (halfword_count size) + 1) (sym e)
    (written_count size bits imm.shift imm.bits old is.bits_fit is.has_place)
movk_takes size bits (MovZ imm width) old is = elim is [ ]
movk_takes size bits (MovN imm width) old is = elim is [ ]
movk_takes size bits (Orr imm) old is = elim is [ ]

movks_take : (size : OperandSize) (bits : ℕ) (steps : List ConstStep) (old many : ℕ) → AllByRecursion (IsMovK size) steps
    → AllBut many size bits old → AllBut (many + length steps) size bits (after_all steps old)
movks_take size bits [] old many all few = omega arith
movks_take size bits (step ∷ steps) old many (here, all) few =
    let one = movk_takes size bits step old here in
    let rest = movks_take size bits steps (after step old) (many + 1) all (omega arith) in
    omega arith

-- ---- the register's upper half

cut_fits : (size : OperandSize) (n : ℕ) → cut size n < 2 ^ operand_bits size
cut_fits Size32 n = omega arith
cut_fits Size64 n = omega arith

movk_fits : (size : OperandSize) (step : ConstStep) (old : ℕ) → IsMovK size step → after step old < 2 ^ operand_bits size
movk_fits size (MovK imm width) old (e, is) =
    subst (λ z. cut z (with_halfword imm.shift imm.bits old) < 2 ^ operand_bits size) (sym e) (cut_fits size (with_halfword imm.shift imm.bits old))
movk_fits size (MovZ imm width) old is = elim is [ ]
movk_fits size (MovN imm width) old is = elim is [ ]
movk_fits size (Orr imm) old is = elim is [ ]

movks_fit : (size : OperandSize) (steps : List ConstStep) (old : ℕ) → AllByRecursion (IsMovK size) steps → old < 2 ^ operand_bits size
    → after_all steps old < 2 ^ operand_bits size
movks_fit size [] old all fits = fits
movks_fit size (step ∷ steps) old (here, all) fits = movks_fit size steps (after step old) all (movk_fits size step old here)

negated_fits : (size : OperandSize) (n : ℕ) → 2 ^ operand_bits size - 1 - n < 2 ^ operand_bits size
negated_fits Size32 n = omega arith
negated_fits Size64 n = omega arith

-- ---- each shape

-- what so many moves at a size can leave
pub record IsFew (many : ℕ) (size : OperandSize) (value : ℕ) : Type 0 where
  pub fits : value < 2 ^ operand_bits size
  pub few : AllBut many size 0 value ⊎ AllBut many size (2 ^ 16 - 1) value

-- what a step that is no move can leave
abbrev pub IsAlone : ℕ → Type 0
IsAlone value = IsLogicValue Size64 value ⊎ ((value < 2 ^ 32) × IsLogicValue Size32 value)

-- the fields of an immediate tell the number that is seen
pub orr_number : (imm : ImmLogic) → IsImmLogic imm → number (run_in imm) ≡ seen imm.size (logic_value imm)
unfolding is_imm_logic
orr_number imm is =
    let (run, same) = and_parts (is_run (run_in imm)) (nat_eq (number (run_in imm)) (seen imm.size (logic_value imm))) (passes imm is) in
    eqb-true (number (run_in imm)) (seen imm.size (logic_value imm)) same

orr_leaves : (imm : ImmLogic) → IsImmLogic imm → IsAlone (cut imm.size (number (run_in imm)))
orr_leaves imm is = at imm.size (is.number_is, orr_number imm is)
  where
    at : (size : OperandSize) → (number is.run ≡ seen size imm.value) × (number (run_in imm) ≡ seen size imm.value)
        → IsAlone (cut size (number (run_in imm)))
    at Size32 (e, same) =
        let low : seen Size32 (cut Size32 (number (run_in imm))) ≡ seen Size32 imm.value = omega arith in
        inr (cut_fits Size32 (number (run_in imm)), (is.run, is.is_run, e ∙ sym low))
    at Size64 (e, same) =
        let fits = (is_built is.run is.is_run).fits in
        let whole : cut Size64 (number (run_in imm)) ≡ imm.value = omega arith in
        inl (is.run, is.is_run, e ∙ sym whole)

pub shape_leaves : (steps : List ConstStep) (old : ℕ) → IsShape steps
    → IsAlone (after_all steps old) ⊎ ((size : OperandSize) × IsFew (length steps) size (after_all steps old))
shape_leaves [] old is = elim is [ ]
shape_leaves (MovZ imm size ∷ steps) old (is, all) = inr (
  size,
  record {
    fits = movks_fit size steps (after (MovZ imm size) old) all (cut_fits size (wide_value imm));
    few = inl (let few = movks_take size 0 steps (after (MovZ imm size) old) 1 all (movz_sets size imm.shift is.has_place imm.bits is.bits_fit) in omega arith);
  },
)
shape_leaves (MovN imm size ∷ steps) old (is, all) = inr (
  size,
  record {
    fits = movks_fit size steps (after (MovN imm size) old) all (negated_fits size (cut size (wide_value imm)));
    few = inr (let few = movks_take size (2 ^ 16 - 1) steps (after (MovN imm size) old) 1 all (movn_clears size imm.shift is.has_place imm.bits is.bits_fit) in omega arith);
  },
)
shape_leaves (MovK imm size ∷ steps) old is = elim is [ ]
shape_leaves (Orr imm ∷ []) old (is, e) = inl (orr_leaves imm is)
shape_leaves (Orr imm ∷ step ∷ steps) old (is, e) = absurd cc

-- ---- the plan's moves

least_of : (size : OperandSize) (value many : ℕ) → AllBut many size 0 value ⊎ AllBut many size (2 ^ 16 - 1) value → length (moves_of size value) ≤ many
least_of size value many (inl few) = let (zeros, ones) = moves_few size value in omega arith
least_of size value many (inr few) = let (zeros, ones) = moves_few size value in omega arith

-- what serves at 64 bits serves at 32
narrower : (value bits many : ℕ) → AllBut many Size64 bits value → AllBut many Size32 bits value
narrower value bits many few =
    let third = one_few bits (halfword 2 value) in
    let fourth = one_few bits (halfword 3 value) in
    omega arith

least_low : (value many : ℕ) (size : OperandSize) → IsFew many size value → length (moves_of Size32 value) ≤ many
least_low value many Size32 is = least_of Size32 value many is.few
least_low value many Size64 is = least_of Size32 value many (elim is.few [
  | inl few ↦ inl (narrower value 0 many few)
  | inr few ↦ inr (narrower value (2 ^ 16 - 1) many few)
])

least_high : (value many : ℕ) (size : OperandSize) → 2 ^ 32 ≤ value → IsFew many size value → length (moves_of Size64 value) ≤ many
least_high value many Size32 high is = let fits = is.fits in absurd (omega arith)
least_high value many Size64 high is = least_of Size64 value many is.few

-- none are fewer than so many, where moves that leave the value are not, and no other step leaves it
pub none_fewer : (value least : ℕ) → ¬ IsAlone value → ((many : ℕ) (size : OperandSize) → IsFew many size value → least ≤ many) → NoneFewer least value
none_fewer value least apart moves steps old shape e = elim (shape_leaves steps old shape) [
  | inl alone ↦ absurd (apart (subst IsAlone e alone))
  | inr few ↦ moves (length steps) few.0 (subst (IsFew (length steps) few.0) e few.1)
]

pub low_least : (value : ℕ) → ¬ IsAlone value → NoneFewer (length (moves_of Size32 value)) value
low_least value apart = none_fewer value (length (moves_of Size32 value)) apart (λ many size few. least_low value many size few)

pub high_least : (value : ℕ) → 2 ^ 32 ≤ value → ¬ IsAlone value → NoneFewer (length (moves_of Size64 value)) value
high_least value high apart = none_fewer value (length (moves_of Size64 value)) apart (λ many size few. least_high value many size high few)
