-- The fields that operators, types and immediates give.
use Rattle.std.specs.Prelude.{ℕ, ◌/◌, Bool, if◌then◌else◌, Option, None, Some}
use Rattle.a64_base.specs.declared.ir_type.IrType.{IrType}
use Rattle.a64_base.specs.declared.ir_type.IrType.TheVariants.{I8, I16, I32, I64}
use Rattle.a64_base.specs.declared.shift.ExtendOp.{ExtendOp}
use Rattle.a64_base.specs.declared.shift.ExtendOp.TheVariants.{UXTW, SXTW, SXTX}
use Rattle.a64_imms.specs.declared.offset.SImm7Scaled.{SImm7Scaled}
use Rattle.a64_imms.specs.declared.offset.UImm12Scaled.{UImm12Scaled}
use Rattle.a64_imms.specs.Offsets.{floor_div, residue}
use Rattle.a64_imms.specs.ScaledOffsets.{uimm12_scale, uimm12_value}
use Rattle.a64_imms.specs.Scales.{type_bytes}
use Rattle.a64_ops.specs.declared.operator.AtomicRMWOp.{AtomicRMWOp}
use Rattle.a64_ops.specs.declared.operator.AtomicRMWOp.TheVariants as atomic
use Rattle.a64_ops.specs.declared.operator.MoveWideOp.{MoveWideOp}
use Rattle.a64_ops.specs.declared.operator.MoveWideOp.TheVariants.{MovZ, MovN}

-- the field `opc` of a wide move
abbrev pub move_wide_opc : MoveWideOp → ℕ
move_wide_opc MovN = 0
move_wide_opc MovZ = 2

-- 1 for true, 0 for false
abbrev pub bit_of : Bool → ℕ
bit_of bit = if bit then 1 else 0

-- the ways to extend an index
abbrev pub IsIndexExtend : Option ExtendOp → Type 0
IsIndexExtend None = Unit {0}
IsIndexExtend (Some UXTW) = Unit {0}
IsIndexExtend (Some SXTW) = Unit {0}
IsIndexExtend (Some SXTX) = Unit {0}
IsIndexExtend _ = ⊥

-- the field `option` of an access with an index
abbrev pub index_option : Option ExtendOp → ℕ
index_option None = 3
index_option (Some UXTW) = 2
index_option (Some SXTW) = 6
index_option (Some SXTX) = 7
index_option _ = 0

-- the integers that one atomic access reads or writes
abbrev pub IsAccessType : IrType → Type 0
IsAccessType I8 = Unit {0}
IsAccessType I16 = Unit {0}
IsAccessType I32 = Unit {0}
IsAccessType I64 = Unit {0}
IsAccessType _ = ⊥

-- the field `size` of such an access: the logarithm of the bytes
abbrev pub access_size : IrType → ℕ
access_size I8 = 0
access_size I16 = 1
access_size I32 = 2
access_size I64 = 3
access_size _ = 0

-- the field `o3` of an atomic operation: 1 for the swap alone
abbrev pub is_swap : AtomicRMWOp → ℕ
is_swap atomic.Swp = 1
is_swap _ = 0

-- the field `opc` of an atomic operation
abbrev pub atomic_opc : AtomicRMWOp → ℕ
atomic_opc atomic.Add = 0
atomic_opc atomic.Clr = 1
atomic_opc atomic.Eor = 2
atomic_opc atomic.Set = 3
atomic_opc atomic.Smax = 4
atomic_opc atomic.Smin = 5
atomic_opc atomic.Umax = 6
atomic_opc atomic.Umin = 7
atomic_opc atomic.Swp = 0

-- the field `imm7` of a pair's offset: the offset in units of the scale, modulo 128
abbrev pub simm7_field : SImm7Scaled → ℕ
simm7_field imm = residue 128 (floor_div imm.value (type_bytes imm.scale_ty))

-- the field `imm12` of an unsigned offset: the offset in units of the scale
abbrev pub uimm12_field : UImm12Scaled → ℕ
uimm12_field imm = uimm12_value imm / type_bytes (uimm12_scale imm)
