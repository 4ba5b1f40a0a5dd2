-- The fields of immediates fit the rows that have them.
use Rattle.std.proofs.Common.{ℕ, ℤ, pos, negsuc, ◌≡◌, ◌+◌, ◌-◌, ◌^◌, ◌<◌, false, true, refl, ◌∙◌, arith}
use Rattle.std.proofs.lemmas.Int.{ints}
use Rattle.std.proofs.lemmas.Nat.{div_below}
use Rattle.a64_base.specs.declared.ir_type.IrType.{IrType}
use Rattle.a64_base.specs.declared.size.OperandSize.{OperandSize}
use Rattle.a64_base.specs.declared.size.OperandSize.TheVariants.{Size32, Size64}
use Rattle.a64_base.specs.OperandSizes.{sf_of}
use Rattle.a64_imms.specs.declared.imm_logic.ImmLogic.{ImmLogic}
use Rattle.a64_imms.specs.declared.offset.SImm7Scaled.{SImm7Scaled}
use Rattle.a64_imms.specs.declared.offset.UImm12Scaled.{UImm12Scaled}
use Rattle.a64_imms.specs.declared.run.Period.{Period}
use Rattle.a64_imms.specs.declared.run.Period.TheVariants.{Two, Four, Eight, Sixteen, ThirtyTwo, SixtyFour}
use Rattle.a64_imms.specs.Runs.{width, prefix}
use Rattle.a64_imms.specs.Logic.{is_widest, logic_value, IsImmLogic}
use Rattle.a64_imms.specs.Offsets.{residue, floor_div}
use Rattle.a64_imms.specs.ScaledOffsets.{uimm12_scale, uimm12_value}
use Rattle.a64_imms.specs.Scales.{type_bytes}
use Rattle.a64_imms.proofs.LogicRuns.{narrow}
use Rattle.a64_rows.specs.Limits.{is_bitmask, is_bitmask_of}
use Rattle.a64_enc_int.specs.Operators.{bit_of, simm7_field, uimm12_field}

-- ---- bitmask immediates

-- the triple of a run is one of the row's
triple_in : (p : Period) (ones turn : ℕ) → 0 < ones → ones < width p → turn < width p → is_bitmask (bit_of (is_widest p)) turn (prefix p + (ones - 1)) ≡ true
triple_in Two ones turn some part turned = grind arith
triple_in Four ones turn some part turned = grind arith
triple_in Eight ones turn some part turned = grind arith
triple_in Sixteen ones turn some part turned = grind arith
triple_in ThirtyTwo ones turn some part turned = grind arith
triple_in SixtyFour ones turn some part turned = grind arith

bitmask_in : (imm : ImmLogic) → IsImmLogic imm → is_bitmask (bit_of imm.n) imm.r imm.s ≡ true
bitmask_in imm is =
    rw (is.triple.n_is, is.triple.r_is, is.triple.s_is) (triple_in is.run.period is.run.ones is.run.turn is.is_run.some is.is_run.part is.is_run.turned)

-- the fields of a bitmask immediate are within the limit of its size
pub logic_within : (size : OperandSize) (imm : ImmLogic) → imm.size ≡ size → IsImmLogic imm → is_bitmask_of (sf_of size) (bit_of imm.n) imm.r imm.s ≡ true
logic_within Size64 imm same is = rw (bitmask_in imm is) refl
logic_within Size32 imm same is =
    let small : imm.n ≡ false = is.triple.n_is ∙ narrow imm.size (logic_value imm) is.run same is.is_run is.number_is in
    rw (bitmask_in imm is, small) refl

-- ---- offsets

pub residue_below : (m : ℕ) (value : ℤ) → 0 < m → residue m value < m
residue_below m (pos n) some = omega arith
residue_below m (negsuc n) some = omega arith

pub simm9_below : (value : ℤ) → residue 512 value < 2 ^ 9
simm9_below value = residue_below 512 value (omega arith)

pub simm7_below : (imm : SImm7Scaled) → simm7_field imm < 2 ^ 7
simm7_below imm = residue_below 128 (floor_div imm.value (type_bytes imm.scale_ty)) (omega arith)

some_bytes : (ty : IrType) → 0 < type_bytes ty
some_bytes ty = grind arith

pub uimm12_below : (imm : UImm12Scaled) → uimm12_field imm < 2 ^ 12
uimm12_below imm =
    let high = imm.in_set.high in
    let some = some_bytes (uimm12_scale imm) in
    div_below (uimm12_value imm) (type_bytes (uimm12_scale imm)) 4096 some (omega (arith, ints))
