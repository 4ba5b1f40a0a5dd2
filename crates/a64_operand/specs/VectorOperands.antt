-- What must hold of the operands of vector instructions, beside the classes of their registers (Arm
-- Architecture Reference Manual, C7.2).
use Rattle.std.specs.Prelude.{ℕ, ◌+◌, ◌%◌, Bool, true, false, not, ◌&&◌, ◌||◌, if◌then◌else◌}
use Rattle.std.specs.Prelude.{nat_lt, nat_le, nat_eq}
use Rattle.a64_base.specs.declared.reg.Reg.{Reg}
use Rattle.a64_base.specs.declared.reg.RegKind.TheVariants.{Real}
use Rattle.a64_base.specs.declared.size.OperandSize.{OperandSize}
use Rattle.a64_base.specs.declared.size.OperandSize.TheVariants as operands
use Rattle.a64_base.specs.declared.size.ScalarSize.{ScalarSize}
use Rattle.a64_base.specs.declared.size.ScalarSize.TheVariants.{Size8, Size16, Size32, Size64}
use Rattle.a64_base.specs.declared.size.ScalarSize.TheVariants.{Size128}
use Rattle.a64_base.specs.declared.size.VectorSize.{VectorSize}
use Rattle.a64_base.specs.declared.size.VectorSize.TheVariants.{Size8x8, Size8x16, Size16x4}
use Rattle.a64_base.specs.declared.size.VectorSize.TheVariants.{Size16x8, Size32x2, Size32x4}
use Rattle.a64_base.specs.declared.size.VectorSize.TheVariants.{Size64x2}
use Rattle.a64_base.specs.ScalarSizes.{has_operand_size}
use Rattle.a64_base.specs.VectorSizes.{has_float_lanes, is_full, lane_of}
use Rattle.a64_imms.specs.declared.asimd_fp.ASIMDFPModImm.{ASIMDFPModImm}
use Rattle.a64_imms.specs.declared.asimd_mov.ASIMDMovModImm.{ASIMDMovModImm}
use Rattle.a64_ops.specs.declared.vector.VecALUModOp.{VecALUModOp}
use Rattle.a64_ops.specs.declared.vector.VecALUModOp.TheVariants as mod_ops
use Rattle.a64_ops.specs.declared.vector.VecALUOp.{VecALUOp}
use Rattle.a64_ops.specs.declared.vector.VecALUOp.TheVariants as alu_ops
use Rattle.a64_ops.specs.declared.vector.VecMisc2.{VecMisc2}
use Rattle.a64_ops.specs.declared.vector.VecMisc2.TheVariants as misc_ops
use Rattle.a64_ops.specs.declared.vector.VecRRNarrowOp.{VecRRNarrowOp}
use Rattle.a64_ops.specs.declared.vector.VecRRNarrowOp.TheVariants.{Fcvtn}
use Rattle.a64_ops.specs.declared.vector.VecShiftImmOp.{VecShiftImmOp}
use Rattle.a64_ops.specs.declared.vector.VecShiftImmOp.TheVariants.{Shl, Ushr, Sshr}
use Rattle.a64_operand.specs.declared.lanes.Lanes.{Lanes}
use Rattle.a64_operand.specs.declared.lanes.Lanes.TheVariants as lanes
use Rattle.a64_operand.specs.declared.virtuals.VirtualRegisters.{VirtualRegisters}
use Rattle.a64_operand.specs.FloatOperands.{is_same_scalar}
use Rattle.a64_operand.specs.Operands.{is_lane, is_register_or_stack, is_same_class}
use Rattle.a64_operand.specs.Operands.{is_same_register, is_vector_register, lanes_of}

-- ---- the lanes that operators have

abbrev pub has_lanes : Lanes → VectorSize → Bool
has_lanes lanes.Any size = true
has_lanes lanes.To32 Size64x2 = false
has_lanes lanes.To32 _ = true
has_lanes lanes.Of16Or32 size =
    is_same_scalar (lane_of size) Size16 || is_same_scalar (lane_of size) Size32
has_lanes lanes.Floats size = has_float_lanes size
has_lanes lanes.Full size = is_full size
has_lanes lanes.FullFloats size = is_full size && has_float_lanes size
has_lanes lanes.Bytes size = is_same_scalar (lane_of size) Size8
has_lanes lanes.FullBytes Size8x16 = true
has_lanes lanes.FullBytes _ = false
has_lanes lanes.FullTo16 Size8x16 = true
has_lanes lanes.FullTo16 Size16x8 = true
has_lanes lanes.FullTo16 _ = false
has_lanes lanes.FullTo32 Size8x16 = true
has_lanes lanes.FullTo32 Size16x8 = true
has_lanes lanes.FullTo32 Size32x4 = true
has_lanes lanes.FullTo32 _ = false
has_lanes lanes.AtLeast4 Size32x2 = false
has_lanes lanes.AtLeast4 Size64x2 = false
has_lanes lanes.AtLeast4 _ = true

-- those of an operator on two vectors
abbrev pub alu_lanes : VecALUOp → Lanes
alu_lanes alu_ops.Sqadd = lanes.Any
alu_lanes alu_ops.Uqadd = lanes.Any
alu_lanes alu_ops.Sqsub = lanes.Any
alu_lanes alu_ops.Uqsub = lanes.Any
alu_lanes alu_ops.Cmeq = lanes.Any
alu_lanes alu_ops.Cmge = lanes.Any
alu_lanes alu_ops.Cmgt = lanes.Any
alu_lanes alu_ops.Cmhs = lanes.Any
alu_lanes alu_ops.Cmhi = lanes.Any
alu_lanes alu_ops.Fcmeq = lanes.Floats
alu_lanes alu_ops.Fcmgt = lanes.Floats
alu_lanes alu_ops.Fcmge = lanes.Floats
alu_lanes alu_ops.And = lanes.Any
alu_lanes alu_ops.Bic = lanes.Any
alu_lanes alu_ops.Orr = lanes.Any
alu_lanes alu_ops.Orn = lanes.Any
alu_lanes alu_ops.Eor = lanes.Any
alu_lanes alu_ops.Umaxp = lanes.To32
alu_lanes alu_ops.Add = lanes.Any
alu_lanes alu_ops.Sub = lanes.Any
alu_lanes alu_ops.Mul = lanes.To32
alu_lanes alu_ops.Sshl = lanes.Any
alu_lanes alu_ops.Ushl = lanes.Any
alu_lanes alu_ops.Umin = lanes.To32
alu_lanes alu_ops.Smin = lanes.To32
alu_lanes alu_ops.Umax = lanes.To32
alu_lanes alu_ops.Smax = lanes.To32
alu_lanes alu_ops.Urhadd = lanes.To32
alu_lanes alu_ops.Fadd = lanes.Floats
alu_lanes alu_ops.Fsub = lanes.Floats
alu_lanes alu_ops.Fdiv = lanes.Floats
alu_lanes alu_ops.Fmax = lanes.Floats
alu_lanes alu_ops.Fmin = lanes.Floats
alu_lanes alu_ops.Fmul = lanes.Floats
alu_lanes alu_ops.Addp = lanes.Any
alu_lanes alu_ops.Zip1 = lanes.Full
alu_lanes alu_ops.Zip2 = lanes.Full
alu_lanes alu_ops.Sqrdmulh = lanes.Of16Or32
alu_lanes alu_ops.Uzp1 = lanes.Full
alu_lanes alu_ops.Uzp2 = lanes.Full
alu_lanes alu_ops.Trn1 = lanes.Full
alu_lanes alu_ops.Trn2 = lanes.Full

-- those of an operator on two vectors and the register of its result
abbrev pub mod_lanes : VecALUModOp → Lanes
mod_lanes mod_ops.Bsl = lanes.Any
mod_lanes mod_ops.Fmla = lanes.Floats
mod_lanes mod_ops.Fmls = lanes.Floats
mod_lanes mod_ops.Sdot = lanes.Any
mod_lanes mod_ops.Usdot = lanes.Any

-- those of an operator on a vector and one lane
abbrev pub is_elem_op : VecALUModOp → Bool
is_elem_op mod_ops.Fmla = true
is_elem_op mod_ops.Fmls = true
is_elem_op _ = false

-- those of an operator on one vector
abbrev pub misc_lanes : VecMisc2 → Lanes
misc_lanes misc_ops.Not = lanes.Any
misc_lanes misc_ops.Neg = lanes.Any
misc_lanes misc_ops.Abs = lanes.Any
misc_lanes misc_ops.Fabs = lanes.Floats
misc_lanes misc_ops.Fneg = lanes.Floats
misc_lanes misc_ops.Fsqrt = lanes.Floats
misc_lanes misc_ops.Rev16 = lanes.FullBytes
misc_lanes misc_ops.Rev32 = lanes.FullTo16
misc_lanes misc_ops.Rev64 = lanes.FullTo32
misc_lanes misc_ops.Fcvtzs = lanes.Floats
misc_lanes misc_ops.Fcvtzu = lanes.Floats
misc_lanes misc_ops.Scvtf = lanes.FullFloats
misc_lanes misc_ops.Ucvtf = lanes.FullFloats
misc_lanes misc_ops.Frintn = lanes.Floats
misc_lanes misc_ops.Frintz = lanes.Floats
misc_lanes misc_ops.Frintm = lanes.Floats
misc_lanes misc_ops.Frintp = lanes.Floats
misc_lanes misc_ops.Cnt = lanes.Bytes
misc_lanes misc_ops.Cmeq0 = lanes.Any
misc_lanes misc_ops.Cmge0 = lanes.Any
misc_lanes misc_ops.Cmgt0 = lanes.Any
misc_lanes misc_ops.Cmle0 = lanes.Any
misc_lanes misc_ops.Cmlt0 = lanes.Any
misc_lanes misc_ops.Fcmeq0 = lanes.Floats
misc_lanes misc_ops.Fcmge0 = lanes.Floats
misc_lanes misc_ops.Fcmgt0 = lanes.Floats
misc_lanes misc_ops.Fcmle0 = lanes.Floats
misc_lanes misc_ops.Fcmlt0 = lanes.Floats

abbrev pub is_alu_at : VecALUOp → VectorSize → Bool
is_alu_at op size = has_lanes (alu_lanes op) size

abbrev pub is_misc_at : VecMisc2 → VectorSize → Bool
is_misc_at op size = has_lanes (misc_lanes op) size

-- the register of the third operand is the result's
abbrev pub is_mod_at : Reg → Reg → VecALUModOp → VectorSize → Bool
is_mod_at rd ri op size = is_same_register rd ri && has_lanes (mod_lanes op) size

abbrev pub is_across : VectorSize → Bool
is_across size = has_lanes lanes.AtLeast4 size

-- ---- lanes by their number

-- how many lanes a vector has
abbrev pub lane_count : VectorSize → ℕ
lane_count Size8x8 = 8
lane_count Size8x16 = 16
lane_count Size16x4 = 4
lane_count Size16x8 = 8
lane_count Size32x2 = 2
lane_count Size32x4 = 4
lane_count Size64x2 = 2

-- a lane of a whole register, of at most 64 bits
abbrev pub is_scalar_lane : ScalarSize → ℕ → Bool
is_scalar_lane scalar idx = has_operand_size scalar && nat_lt idx (lanes_of scalar)

-- a lane goes with its sign to a register of a size: one of 32 bits to 64 bits alone
abbrev pub is_signed_size : VectorSize → OperandSize → Bool
is_signed_size Size32x2 operands.Size32 = false
is_signed_size Size32x4 operands.Size32 = false
is_signed_size Size64x2 scalar_size = false
is_signed_size _ scalar_size = true

abbrev pub is_signed_lane : VectorSize → ℕ → OperandSize → Bool
is_signed_lane size idx scalar_size =
    is_signed_size size scalar_size && nat_lt idx (lane_count size)

-- the register of which other lanes stay is the result's
abbrev pub is_kept_lane : Reg → Reg → VectorSize → ℕ → Bool
is_kept_lane rd ri size idx = is_same_register rd ri && is_lane size idx

abbrev pub are_kept_lanes : Reg → Reg → VectorSize → ℕ → ℕ → Bool
are_kept_lanes rd ri size dest_idx src_idx =
    is_kept_lane rd ri size dest_idx && is_lane size src_idx

-- four lanes of 32 bits or two of 64, and the number of one of them
abbrev pub is_elem : VectorSize → ℕ → Bool
is_elem size idx = has_lanes lanes.FullFloats size && nat_lt idx (lane_count size)

abbrev pub is_elem_at : Reg → Reg → VecALUModOp → VectorSize → ℕ → Bool
is_elem_at rd ri op size idx = is_same_register rd ri && (is_elem_op op && is_elem size idx)

-- ---- immediates

-- an immediate float is one of a lane's size, by eight bits
abbrev pub is_float_imm_in : VectorSize → ASIMDFPModImm → Bool
is_float_imm_in size imm =
    has_float_lanes size && (is_same_scalar imm.size (lane_of size) && nat_lt imm.imm 256)

-- an amount of whole bytes, up to so many bits
abbrev pub is_byte_shift : ℕ → ℕ → Bool
is_byte_shift most shift = nat_eq (shift % 8) 0 && nat_le shift most

-- the immediate of a vector move, and whether it is complemented, by the size of a lane
abbrev pub is_mov_imm_of : ScalarSize → ASIMDMovModImm → Bool → Bool
is_mov_imm_of Size8 imm invert =
    not imm.is_64bit && (not invert && (not imm.shift_ones && nat_eq imm.shift 0))
is_mov_imm_of Size16 imm invert =
    not imm.is_64bit && (not imm.shift_ones && is_byte_shift 8 imm.shift)
is_mov_imm_of Size32 imm invert =
    not imm.is_64bit
    && (if imm.shift_ones then nat_eq imm.shift 8 || nat_eq imm.shift 16
    else is_byte_shift 24 imm.shift)
is_mov_imm_of Size64 imm invert =
    imm.is_64bit && (not invert && (not imm.shift_ones && nat_eq imm.shift 0))
is_mov_imm_of Size128 imm invert = false

abbrev pub is_mov_imm_in : VectorSize → ASIMDMovModImm → Bool → Bool
is_mov_imm_in size imm invert = nat_lt imm.imm 256 && is_mov_imm_of (lane_of size) imm invert

-- ---- lanes that become half as long

-- the size of a lane of the result: at most 32 bits, and of floats at least 16
abbrev pub is_narrow_at : VecRRNarrowOp → ScalarSize → Bool
is_narrow_at op Size16 = true
is_narrow_at op Size32 = true
is_narrow_at Fcvtn Size8 = false
is_narrow_at op Size8 = true
is_narrow_at op _ = false

-- the register of which the lower half stays is the result's
abbrev pub is_kept_narrow : Reg → Reg → VecRRNarrowOp → ScalarSize → Bool
is_kept_narrow rd ri op scalar = is_same_register rd ri && is_narrow_at op scalar

-- ---- shifts

-- how many bits a lane has
abbrev pub lane_bits : VectorSize → ℕ
lane_bits Size8x8 = 8
lane_bits Size8x16 = 8
lane_bits Size16x4 = 16
lane_bits Size16x8 = 16
lane_bits Size32x2 = 32
lane_bits Size32x4 = 32
lane_bits Size64x2 = 64

-- an amount below a lane's bits to the left, and from 1 to a lane's bits to the right
abbrev pub is_left_amount : VectorSize → ℕ → Bool
is_left_amount size imm = nat_lt imm (lane_bits size)

abbrev pub is_right_amount : VectorSize → ℕ → Bool
is_right_amount size imm = nat_lt 0 imm && nat_le imm (lane_bits size)

abbrev pub is_amount : VecShiftImmOp → VectorSize → ℕ → Bool
is_amount Shl size imm = is_left_amount size imm
is_amount Ushr size imm = is_right_amount size imm
is_amount Sshr size imm = is_right_amount size imm

-- the register of which bits stay is the result's
abbrev pub is_kept_amount : Reg → Reg → VectorSize → ℕ → Bool
is_kept_amount rd ri size imm = is_same_register rd ri && is_left_amount size imm

-- ---- tables of bytes

-- a register may be the next behind another, and v0 that behind v31; a virtual one may be any
abbrev pub is_next_vector : Reg → Reg → Bool
is_next_vector (Real p) (Real q) =
    is_same_class p.class q.class && nat_eq q.number ((p.number + 1) % 32)
is_next_vector _ _ = true

-- the register of which bytes stay is the result's
abbrev pub is_kept_table : Reg → Reg → Reg → Reg → Bool
is_kept_table rd ri rn rn2 = is_same_register rd ri && is_next_vector rn rn2

-- ---- instructions that are no plain words

-- a load of one value to all lanes: the address may be the stack pointer
unfoldable pub are_replicate_operands : VirtualRegisters → Reg → Reg → Bool
are_replicate_operands virtuals rd rn =
    is_vector_register virtuals rd && is_register_or_stack virtuals rn

-- a select of one of two vectors
unfoldable pub are_select_operands : VirtualRegisters → Reg → Reg → Reg → Bool
are_select_operands virtuals rd rn rm =
    is_vector_register virtuals rd
    && (is_vector_register virtuals rn && is_vector_register virtuals rm)
