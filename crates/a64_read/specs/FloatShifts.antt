-- The texts of shifts of scalar floats: the name, which says the lane, and in parentheses the
-- amount, for which the constructor gives it at that lane.
use Rattle.std.specs.Prelude.{ℕ, ◌≡◌, codes, List}
use Rattle.std.specs.Fmt.{decimal}
use Rattle.a64_imms.specs.FpuShifts.{IsLeftShift, IsRightShift}
use Rattle.a64_imms.specs.declared.fpu_shift.FPULeftShiftImm.{FPULeftShiftImm}
use Rattle.a64_imms.specs.declared.fpu_shift.FPURightShiftImm.{FPURightShiftImm}
use Rattle.a64_operand.specs.declared.fpu_op.FPUOpRI.{FPUOpRI}
use Rattle.a64_operand.specs.declared.fpu_op.FPUOpRI.TheVariants as fpu_op_ris
use Rattle.a64_operand.specs.declared.fpu_op.FPUOpRIMod.{FPUOpRIMod}
use Rattle.a64_operand.specs.declared.fpu_op.FPUOpRIMod.TheVariants as fpu_op_ri_mods
use Rattle.a64_tokens.specs.Fields.{call_text}

abbrev pub right_amount_text : FPURightShiftImm → List ℕ
right_amount_text imm = decimal imm.amount

abbrev pub IsRightAt : ℕ → FPURightShiftImm → Type 0
IsRightAt lane imm = IsRightShift lane imm.amount × (imm.lane_size_in_bits ≡ lane)

abbrev pub left_amount_text : FPULeftShiftImm → List ℕ
left_amount_text imm = decimal imm.amount

abbrev pub IsLeftAt : ℕ → FPULeftShiftImm → Type 0
IsLeftAt lane imm = IsLeftShift lane imm.amount × (imm.lane_size_in_bits ≡ lane)

-- the name of a shift to the right, and its amount
abbrev pub fpu_op_ri_parts : FPUOpRI → List ℕ × List ℕ
fpu_op_ri_parts (fpu_op_ris.UShr32 imm) = (codes "UShr32", right_amount_text imm)
fpu_op_ri_parts (fpu_op_ris.UShr64 imm) = (codes "UShr64", right_amount_text imm)

abbrev pub fpu_op_ri_text : FPUOpRI → List ℕ
fpu_op_ri_text op = call_text (fpu_op_ri_parts op)

abbrev pub IsFpuOpRI : FPUOpRI → Type 0
IsFpuOpRI (fpu_op_ris.UShr32 imm) = IsRightAt 32 imm
IsFpuOpRI (fpu_op_ris.UShr64 imm) = IsRightAt 64 imm

-- the name of a shift to the left, and its amount
abbrev pub fpu_op_ri_mod_parts : FPUOpRIMod → List ℕ × List ℕ
fpu_op_ri_mod_parts (fpu_op_ri_mods.Sli32 imm) = (codes "Sli32", left_amount_text imm)
fpu_op_ri_mod_parts (fpu_op_ri_mods.Sli64 imm) = (codes "Sli64", left_amount_text imm)

abbrev pub fpu_op_ri_mod_text : FPUOpRIMod → List ℕ
fpu_op_ri_mod_text op = call_text (fpu_op_ri_mod_parts op)

abbrev pub IsFpuOpRIMod : FPUOpRIMod → Type 0
IsFpuOpRIMod (fpu_op_ri_mods.Sli32 imm) = IsLeftAt 32 imm
IsFpuOpRIMod (fpu_op_ri_mods.Sli64 imm) = IsLeftAt 64 imm
