-- The shapes of the steps that may load a constant, and what it means that none of them are fewer.
use Rattle.std.specs.Prelude.{ℕ, ◌≡◌, ◌<◌, ◌≤◌, ◌^◌, List, [], ◌∷◌, length}
use Rattle.std.specs.List.{AllByRecursion}
use Rattle.a64_base.specs.declared.size.OperandSize.{OperandSize}
use Rattle.a64_base.specs.declared.size.OperandSize.TheVariants.{Size32, Size64}
use Rattle.a64_imms.specs.declared.move_wide.MoveWideConst.{MoveWideConst}
use Rattle.a64_imms.specs.Logic.{IsImmLogic}
use Rattle.a64_plan.specs.declared.step.ConstStep.{ConstStep}
use Rattle.a64_plan.specs.declared.step.ConstStep.TheVariants.{MovZ, MovN, MovK, Orr}
use Rattle.a64_plan.specs.Machine.{after_all}

-- the number of halfwords of a size
abbrev pub halfword_count : OperandSize → ℕ
halfword_count Size32 = 2
halfword_count Size64 = 4

-- 16 bits at a halfword that the size has
pub record IsWithin (size : OperandSize) (imm : MoveWideConst) : Type 0 where
  pub bits_fit : imm.bits < 2 ^ 16
  pub has_place : imm.shift < halfword_count size

-- a movk at a size
abbrev pub IsMovK : OperandSize → ConstStep → Type 0
IsMovK size (MovZ imm width) = ⊥
IsMovK size (MovN imm width) = ⊥
IsMovK size (MovK imm width) = (width ≡ size) × IsWithin size imm
IsMovK size (Orr imm) = ⊥

-- one movz or movn and then movks at its size, which may be none; or one orr at either size
abbrev pub IsShape : List ConstStep → Type 0
IsShape [] = ⊥
IsShape (MovZ imm size ∷ steps) = IsWithin size imm × AllByRecursion (IsMovK size) steps
IsShape (MovN imm size ∷ steps) = IsWithin size imm × AllByRecursion (IsMovK size) steps
IsShape (MovK imm size ∷ steps) = ⊥
IsShape (Orr imm ∷ steps) = IsImmLogic imm × (steps ≡ [])

-- the steps leave the value in the register, whatever it held
abbrev pub Leave : List ConstStep → ℕ → Type 0
Leave steps value = (old : ℕ) → after_all steps old ≡ value

-- steps of a shape that leave the value, from whatever the register held, are so many or more
abbrev pub NoneFewer : ℕ → ℕ → Type 0
NoneFewer many value =
    (steps : List ConstStep) (old : ℕ) → IsShape steps → after_all steps old ≡ value
    → many ≤ length steps
