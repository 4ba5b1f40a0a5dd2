-- What is known of the operands of an instruction without a fault.
use Rattle.std.proofs.Common.{ℕ, ℤ, pos, negsuc, suc, zero, ◌≡◌, ◌<◌, lit<, ◌≤◌, ◌*◌, ◌-◌, ◌%◌, ◌^◌, Bool, true, false, List, [], ◌∷◌, Option, None, refl, ap, ◌∙◌, arith}
use Rattle.std.specs.Ordering.{nat_cmp}
use Rattle.std.specs.FinMap.{FinMap}
use Rattle.std.specs.Prelude.{◌&&◌, nat_lt, nat_eq}
use Rattle.std.proofs.lemmas.Bool.{leb-true, ltb-true, and_parts}
use Rattle.std.proofs.lemmas.Int.{ints}
use Rattle.std.proofs.Math.Nat.{pow-succ'}
use Rattle.a64_base.specs.declared.size.OperandSize.{OperandSize}
use Rattle.a64_base.specs.declared.target.BranchTarget.{BranchTarget}
use Rattle.a64_base.specs.declared.target.BranchTarget.TheVariants.{Label, ResolvedOffset}
use Rattle.a64_base.specs.Target.{FitsField, IsWithinField}
use Rattle.a64_base.specs.Words.{words_of}
use Rattle.a64_base.specs.declared.size.OperandSize.TheVariants.{Size32, Size64}
use Rattle.a64_imms.specs.declared.move_wide.MoveWideConst.{MoveWideConst}
use Rattle.a64_inst.specs.declared.emission.EmitFlags.{EmitFlags}
use Rattle.a64_inst.specs.declared.frame.FrameLayout.{FrameLayout}
use Rattle.a64_operand.specs.declared.virtuals.VirtualRegisters.{VirtualRegisters}
use Rattle.a64_inst.specs.declared.inst.Inst.{Inst}
use Rattle.a64_inst.specs.declared.fault.OwnFault.{OwnFault}
use Rattle.a64_inst.specs.declared.fault.OwnFault.TheVariants as own
use Rattle.a64_operand.specs.Operands.{is_wide_in, is_offset}
use Rattle.a64_inst.specs.ControlOperands.{are_jump_operands, is_target}
use Rattle.a64_inst.specs.Faults.{first_of, constant_size, has_operands, is_within_constant, has_mode, has_scratch, has_constant, inst_fault}

-- where no test fails, the first was passed
pub first_passed : (b : Bool) (fault : OwnFault) (tests : List (Bool × OwnFault)) → first_of ((b, fault) ∷ tests) ≡ None → b ≡ true
first_passed true fault tests e = refl
first_passed false fault tests e = absurd cc

-- the operands of an instruction without a fault are in their sets
pub operands_good : (frame : FrameLayout) (flags : EmitFlags) (constants : FinMap nat_cmp (List ℕ)) (virtuals : VirtualRegisters) (inst : Inst) → inst_fault frame flags constants virtuals inst ≡ None → has_operands frame flags virtuals inst ≡ true
operands_good frame flags constants virtuals inst e =
    let size : Option ℕ = constant_size constants inst in
    let first = first_passed (has_operands frame flags virtuals inst && is_within_constant size inst) own.BadOperand ((has_mode inst, own.BadMode) ∷ (has_scratch frame inst, own.ScratchConflict) ∷ (has_constant size inst, own.UnknownConstant) ∷ []) e in
    (and_parts (has_operands frame flags virtuals inst) (is_within_constant size inst) first).0

-- the second test passes too
pub second : (a b : Bool) → (a && b) ≡ true → b ≡ true
second true b e = e
second false b e = absurd cc

-- a halfword inside a register
pub shift_in : (size : OperandSize) (imm : MoveWideConst) → is_wide_in size imm ≡ true → imm.shift ≤ 3
shift_in Size32 imm e = let le : imm.shift ≤ 1 = leb-true imm.shift 1 e in omega arith
shift_in Size64 imm e = leb-true imm.shift 3 e

-- a power of two is twice the one before
doubled : (bits : ℕ) → 0 < bits → 2 ^ bits ≡ 2 * 2 ^ (bits - 1)
doubled zero below = absurd (omega (arith, below))
doubled (suc n) below = pow-succ' 2 n ∙ ap (λ k. 2 * 2 ^ k) (omega arith)

-- an offset that a field of so many bits can hold in words fits it
pub within : (bits : ℕ) (offset : ℤ) → 0 < bits → is_offset (2 * 2 ^ bits) offset ≡ true → IsWithinField bits (words_of offset)
within bits (pos n) some e =
    let power : 2 ^ bits ≡ 2 * 2 ^ (bits - 1) = doubled bits some in
    let small : n < 2 * 2 ^ bits = ltb-true n (2 * 2 ^ bits) (second (nat_eq (n % 4) 0) (nat_lt n (2 * 2 ^ bits)) e) in
    record { low = omega (arith, ints); high = omega (arith, ints) }
within bits (negsuc n) some e =
    let power : 2 ^ bits ≡ 2 * 2 ^ (bits - 1) = doubled bits some in
    let small : n < 2 * 2 ^ bits = ltb-true n (2 * 2 ^ bits) (second (nat_eq (n % 4) 3) (nat_lt n (2 * 2 ^ bits)) e) in
    record { low = omega (arith, ints); high = omega (arith, ints) }

-- and a target of such a branch
pub target_fits : (bits : ℕ) (dest : BranchTarget) → 0 < bits → is_target (2 * 2 ^ bits) dest ≡ true → FitsField bits dest
target_fits bits (Label label) some e = tt
target_fits bits (ResolvedOffset offset) some e = within bits offset some e

pub jump_fits : (dest : BranchTarget) → are_jump_operands dest ≡ true → FitsField 26 dest
unfolding are_jump_operands
jump_fits dest e = target_fits 26 dest (lit< tt) e
