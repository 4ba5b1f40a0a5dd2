-- The instructions of steps of a shape have no fault of their own.
use Rattle.std.proofs.Common.{◌≡◌, ℕ, true, ◌&&◌, nat_eq, nat_lt, None, List, [], ◌∷◌, map, refl, sym, subst, arith}
use Rattle.std.specs.Prelude.{All}
use Rattle.std.specs.Ordering.{nat_cmp}
use Rattle.std.specs.FinMap.{FinMap}
use Rattle.std.specs.List.{AllByRecursion}
use Rattle.std.proofs.lemmas.Bool.{lt-ltb, le-leb, eq-eqb, ltb-true, and_parts, and_from, or_left}
use Rattle.std.proofs.lemmas.List.Elements.{All-nil, All-cons}
use Rattle.a64_base.specs.declared.reg.Reg.{Reg}
use Rattle.a64_base.specs.declared.reg.RegKind.TheVariants.{Real, Virtual}
use Rattle.a64_base.specs.declared.reg.RegClass.{RegClass}
use Rattle.a64_base.specs.declared.reg.RegClass.TheVariants.{Int, Float}
use Rattle.a64_base.specs.declared.size.OperandSize.{OperandSize}
use Rattle.a64_base.specs.declared.size.OperandSize.TheVariants.{Size32, Size64}
use Rattle.a64_base.specs.Registers.{integer_register}
use Rattle.a64_imms.specs.declared.imm_logic.ImmLogic.{ImmLogic}
use Rattle.a64_imms.specs.declared.move_wide.MoveWideConst.{MoveWideConst}
use Rattle.a64_imms.specs.Logic.{IsImmLogic, is_imm_logic}
use Rattle.a64_imms.proofs.LogicRuns.{passes}
use Rattle.a64_plan.specs.declared.step.ConstStep.{ConstStep}
use Rattle.a64_plan.specs.declared.step.ConstStep.TheVariants as steps
use Rattle.a64_plan.specs.Shapes.{IsWithin, IsMovK, IsShape}
use Rattle.a64_inst.specs.declared.emission.EmitFlags.{EmitFlags}
use Rattle.a64_inst.specs.declared.frame.FrameLayout.{FrameLayout}
use Rattle.a64_operand.specs.declared.virtuals.VirtualRegisters.{VirtualRegisters}
use Rattle.a64_operand.specs.declared.virtuals.VirtualRegisters.TheVariants.{Refused}
use Rattle.a64_operand.specs.Operands.{is_int, is_register, is_register_or_zero, is_register_or_stack, is_same_register, is_same_size, is_wide_in, is_logic_of}
use Rattle.a64_operand.specs.IntegerOperands.{is_kept}
use Rattle.a64_inst.specs.Faults.{has_operands, inst_fault}
use Rattle.a64_inst.specs.Constants.{step_into, HaveNoFault}

-- ---- operands

int_class : (class : RegClass) → is_int class ≡ true → class ≡ Int
int_class Int e = refl
int_class Float e = absurd cc

-- what the operand tests say of x0 to x30
record IsGood (virtuals : VirtualRegisters) (rd : Reg) : Type 0 where
  or_zero : is_register_or_zero virtuals rd ≡ true
  or_stack : is_register_or_stack virtuals rd ≡ true
  itself : is_same_register rd rd ≡ true

good_int : (virtuals : VirtualRegisters) (number : ℕ) → nat_lt number 31 ≡ true → IsGood virtuals (integer_register number)
good_int virtuals number e =
    let low = ltb-true number 31 e in
    record {
      or_zero = lt-ltb number 32 (omega arith);
      or_stack = or_left (nat_lt number 31) (nat_eq number 63) e;
      itself = eq-eqb number number refl;
    }

good : (virtuals : VirtualRegisters) (rd : Reg) → is_register Refused rd ≡ true → IsGood virtuals rd
good virtuals (Real p) e =
    let (int, low) = and_parts (is_int p.class) (nat_lt p.number 31) e in
    subst (λ (class : RegClass). IsGood virtuals (Real (record { number = p.number; class = class }))) (sym (int_class p.class int))
    (good_int virtuals p.number low)
good virtuals (Virtual index class) e = absurd cc

wide_in : (size : OperandSize) (imm : MoveWideConst) → IsWithin size imm → is_wide_in size imm ≡ true
wide_in Size32 imm is = let low = is.has_place in le-leb imm.shift 1 (omega arith)
wide_in Size64 imm is = let low = is.has_place in le-leb imm.shift 3 (omega arith)

same_size : (size : OperandSize) → is_same_size size size ≡ true
same_size Size32 = refl
same_size Size64 = refl

-- ---- each step

module _ (frame : FrameLayout) (flags : EmitFlags) (constants : FinMap nat_cmp (List ℕ)) (virtuals : VirtualRegisters) (rd : Reg) (numbered : is_register Refused rd ≡ true) where
  abbrev IsFaultless : ConstStep → Type 0
  IsFaultless step = inst_fault frame flags constants virtuals (step_into rd step) ≡ None

  -- an instruction of a step has no fault where its operands are in their sets
  operands_decide : (step : ConstStep) → has_operands frame flags virtuals (step_into rd step) ≡ true → IsFaultless step
  operands_decide (steps.MovZ imm size) e = rw e refl
  operands_decide (steps.MovN imm size) e = rw e refl
  operands_decide (steps.MovK imm size) e = rw e refl
  operands_decide (steps.Orr imm) e = rw e refl

  movz_good : (size : OperandSize) (imm : MoveWideConst) → IsWithin size imm → IsFaultless (steps.MovZ imm size)
  movz_good size imm is =
      operands_decide (steps.MovZ imm size) (and_from (is_register_or_zero virtuals rd) (is_wide_in size imm) (good virtuals rd numbered).or_zero (wide_in size imm is))

  movn_good : (size : OperandSize) (imm : MoveWideConst) → IsWithin size imm → IsFaultless (steps.MovN imm size)
  movn_good size imm is =
      operands_decide (steps.MovN imm size) (and_from (is_register_or_zero virtuals rd) (is_wide_in size imm) (good virtuals rd numbered).or_zero (wide_in size imm is))

  movk_good : (size : OperandSize) (step : ConstStep) → IsMovK size step → IsFaultless step
  movk_good size (steps.MovK imm width) (e, is) =
      let is_good = good virtuals rd numbered in
      operands_decide (steps.MovK imm width)
      (and_from (is_register_or_zero virtuals rd) (is_register_or_zero virtuals rd && is_kept rd rd imm width) is_good.or_zero
      (and_from (is_register_or_zero virtuals rd) (is_kept rd rd imm width) is_good.or_zero
      (and_from (is_same_register rd rd) (is_wide_in width imm) is_good.itself (wide_in width imm (subst (λ z. IsWithin z imm) (sym e) is)))))
  movk_good size (steps.MovZ imm width) is = elim is [ ]
  movk_good size (steps.MovN imm width) is = elim is [ ]
  movk_good size (steps.Orr imm) is = elim is [ ]

  orr_good : (imm : ImmLogic) → IsImmLogic imm → IsFaultless (steps.Orr imm)
  orr_good imm is =
      operands_decide (steps.Orr imm)
      (and_from (is_register_or_stack virtuals rd) (is_logic_of imm.size imm) (good virtuals rd numbered).or_stack
      (and_from (is_same_size imm.size imm.size) (is_imm_logic imm) (same_size imm.size) (passes imm is)))

  -- ---- all of them

  abbrev AreFaultless : List ConstStep → Type 0
  AreFaultless all = All (λ inst. inst_fault frame flags constants virtuals inst ≡ None) (map (step_into rd) all)

  one_more : (step : ConstStep) (rest : List ConstStep) → IsFaultless step → AreFaultless rest → AreFaultless (step ∷ rest)
  one_more step rest = All-cons (λ inst. inst_fault frame flags constants virtuals inst ≡ None) (step_into rd step) (map (step_into rd) rest)

  movks_good : (size : OperandSize) (all : List ConstStep) → AllByRecursion (IsMovK size) all → AreFaultless all
  movks_good size [] are = All-nil (λ inst. inst_fault frame flags constants virtuals inst ≡ None)
  movks_good size (step ∷ rest) (is, are) = one_more step rest (movk_good size step is) (movks_good size rest are)

  shape_good : (all : List ConstStep) → IsShape all → AreFaultless all
  shape_good [] is = elim is [ ]
  shape_good (steps.MovZ imm size ∷ rest) (is, are) = one_more (steps.MovZ imm size) rest (movz_good size imm is) (movks_good size rest are)
  shape_good (steps.MovN imm size ∷ rest) (is, are) = one_more (steps.MovN imm size) rest (movn_good size imm is) (movks_good size rest are)
  shape_good (steps.MovK imm size ∷ rest) is = elim is [ ]
  shape_good (steps.Orr imm ∷ []) (is, e) = one_more (steps.Orr imm) [] (orr_good imm is) (movks_good Size64 [] tt)
  shape_good (steps.Orr imm ∷ step ∷ rest) (is, e) = absurd cc

pub steps_good : (rd : Reg) (all : List ConstStep) → is_register Refused rd ≡ true → IsShape all → HaveNoFault (map (step_into rd) all)
steps_good rd all numbered is = λ frame flags constants virtuals. shape_good frame flags constants virtuals rd numbered all is
