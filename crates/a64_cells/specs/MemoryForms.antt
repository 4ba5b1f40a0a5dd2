-- The forms of loads and stores, and of their addresses (Arm Architecture Reference Manual, DDI
-- 0487, C4.1, "Loads and Stores").
use Rattle.std.specs.Prelude.{ℕ, ℤ, pos, negsuc, ◌/◌, ◌^◌, Bool, true, false, nat_lt, if◌then◌else◌}
use Rattle.std.specs.Prelude.{Option, None, Some, List, map}
use Rattle.std.specs.Int.RustNames.{unsigned_abs}
use Rattle.a64_base.specs.declared.reg.Reg.{Reg}
use Rattle.a64_base.specs.declared.size.OperandSize.TheVariants.{Size64}
use Rattle.a64_base.specs.Registers.{integer_register}
use Rattle.a64_base.specs.Shifts.{extend_bits}
use Rattle.a64_imms.specs.declared.imm12.Imm12.{Imm12}
use Rattle.a64_imms.specs.declared.offset.SImm7Scaled.{SImm7Scaled}
use Rattle.a64_imms.specs.Offsets.{residue}
use Rattle.a64_imms.specs.Scales.{type_bytes}
use Rattle.a64_ops.specs.declared.access.AccessOp.{AccessOp}
use Rattle.a64_ops.specs.AccessFields.{size_of, vector_of, opc_of}
use Rattle.a64_ops.specs.Accesses.{literal_of}
use Rattle.a64_ops.specs.declared.operator.ALUOp.{ALUOp}
use Rattle.a64_ops.specs.declared.operator.ALUOp.TheVariants as alu
use Rattle.a64_ops.specs.declared.operator.MoveWideOp.TheVariants as wide
use Rattle.a64_plan.specs.declared.step.ConstStep.{ConstStep}
use Rattle.a64_plan.specs.declared.step.ConstStep.TheVariants as steps
use Rattle.a64_inst.specs.declared.access.Access.{Access}
use Rattle.a64_inst.specs.declared.frame.FrameLayout.{FrameLayout}
use Rattle.a64_inst.specs.declared.mode.AMode.TheVariants as modes
use Rattle.a64_inst.specs.declared.mode.MemLabel.{MemLabel}
use Rattle.a64_inst.specs.declared.mode.MemLabel.TheVariants.{PCRel, Mach, Pool}
use Rattle.a64_inst.specs.declared.mode.PairAMode.{PairAMode}
use Rattle.a64_inst.specs.declared.mode.PairAMode.TheVariants as pairs
use Rattle.a64_inst.specs.Accesses.{access_type}
use Rattle.a64_inst.specs.FinalModes.{FinalMode, SignedOffset, ScaledOffset, Other, final_mode}
use Rattle.a64_inst.specs.FinalModes.{final_steps}
use Rattle.a64_rows.specs.Forms.{Form}
use Rattle.a64_rows.specs.Memory.{ld_st_imm9, ld_st_unsigned, ld_st_reg, ld_literal, ld_st_pair}
use Rattle.a64_enc_int.specs.Operators.{simm7_field}
use Rattle.a64_enc_int.specs.Registers.{register_field}
use Rattle.a64_enc_vec.specs.Operands.{vector_pair_form}
use Rattle.a64_cells.specs.IntegerForms as integer

-- ---- the steps before an access

abbrev pub step_form : Reg → ConstStep → Form
step_form rd (steps.MovZ imm size) = integer.mov_wide_form wide.MovZ rd imm size
step_form rd (steps.MovN imm size) = integer.mov_wide_form wide.MovN rd imm size
step_form rd (steps.MovK imm size) = integer.mov_k_form rd imm size
step_form rd (steps.Orr imm) =
    integer.alu_rr_imm_logic_form alu.Orr imm.size rd (integer_register 31) imm

abbrev pub step_forms : Reg → List ConstStep → List Form
step_forms rd plan = map (step_form rd) plan

-- ---- loads and stores of one register

-- with an offset of 9 bits: 0 where the base stays, 1 where the offset is added to it after the
-- access, 3 before it
unfoldable pub imm9_form : AccessOp → Reg → ℕ → Reg → ℤ → Form
imm9_form op rt mode rn offset =
    ld_st_imm9 (record {
      sz = size_of op;
      v = vector_of op;
      opc = opc_of op;
      imm9 = residue 512 offset;
      mode = mode;
      rn = register_field rn;
      rt = register_field rt;
    })

-- with an unsigned offset, of which the word has the number of units
unfoldable pub unsigned_form : AccessOp → Reg → Reg → ℕ → Form
unsigned_form op rt rn units =
    ld_st_unsigned (record {
      sz = size_of op;
      v = vector_of op;
      opc = opc_of op;
      imm12 = units;
      rn = register_field rn;
      rt = register_field rt;
    })

-- with an index, extended in one of the ways of ADD (extended register), in bytes or in units of
-- the access
unfoldable pub indexed_form : AccessOp → Reg → Reg → Reg → ℕ → ℕ → Form
indexed_form op rt rn rm ext s =
    ld_st_reg (record {
      sz = size_of op;
      v = vector_of op;
      opc = opc_of op;
      rm = register_field rm;
      ext = ext;
      s = s;
      rn = register_field rn;
      rt = register_field rt;
    })

abbrev pub option_or_zero : Option ℕ → ℕ
option_or_zero None = 0
option_or_zero (Some n) = n

-- of a literal, by the distance in words
unfoldable pub literal_form : AccessOp → Reg → ℕ → Form
literal_form op rt words =
    ld_literal (record {
      opc = option_or_zero (literal_of op);
      v = vector_of op;
      imm19 = words;
      rt = register_field rt;
    })

-- which is zero as long as it is that of a label or of a constant
abbrev pub literal_words : MemLabel → ℕ
literal_words (PCRel offset) = residue (2 ^ 21) offset / 4
literal_words (Mach label) = 0
literal_words (Pool addr) = 0

-- the extension bits of an index that is not extended
abbrev pub not_extended : ℕ
not_extended = 3

-- the form of an access in a mode that an instruction holds; the modes with an offset of 64 bits
-- stand in none
abbrev pub held_form : AccessOp → Reg → FinalMode → Form
held_form op rt (SignedOffset rn offset) = imm9_form op rt 0 rn offset
held_form op rt (ScaledOffset rn offset ty) = unsigned_form op rt rn (offset / type_bytes ty)
held_form op rt (Other (modes.RegReg rn rm)) = indexed_form op rt rn rm not_extended 0
held_form op rt (Other (modes.RegScaled rn rm)) = indexed_form op rt rn rm not_extended 1
held_form op rt (Other (modes.RegExtended rn rm extendop)) =
    indexed_form op rt rn rm (extend_bits extendop) 0
held_form op rt (Other (modes.RegScaledExtended rn rm extendop)) =
    indexed_form op rt rn rm (extend_bits extendop) 1
held_form op rt (Other (modes.Label label)) = literal_form op rt (literal_words label)
held_form op rt (Other (modes.SPPreIndexed simm9)) =
    imm9_form op rt 3 (integer_register 63) simm9.value
held_form op rt (Other (modes.SPPostIndexed simm9)) =
    imm9_form op rt 1 (integer_register 63) simm9.value
held_form op rt (Other _) = integer.nop4_form

-- the register for offsets that no access holds, and the one for those that no addition holds
abbrev pub offset_register : Reg
offset_register = integer_register 16

abbrev pub addend_register : Reg
addend_register = integer_register 17

abbrev pub access_steps : FrameLayout → Access → List Form
access_steps frame access =
    step_forms offset_register (final_steps frame (access_type access.op) access.mem)

abbrev pub access_form : FrameLayout → Access → Form
access_form frame access =
    held_form access.op access.reg (final_mode frame (access_type access.op) access.mem)

-- ---- loads and stores of two registers

-- the index of a mode: 2 where the base stays, 3 where the offset is added to it before the access,
-- 1 after it
abbrev pub pair_index : PairAMode → ℕ
pair_index (pairs.SignedOffset reg simm7) = 2
pair_index (pairs.SPPreIndexed simm7) = 3
pair_index (pairs.SPPostIndexed simm7) = 1

-- its base, which is the stack pointer where that changes
abbrev pub pair_base : PairAMode → Reg
pair_base (pairs.SignedOffset reg simm7) = reg
pair_base (pairs.SPPreIndexed simm7) = integer_register 63
pair_base (pairs.SPPostIndexed simm7) = integer_register 63

abbrev pub pair_offset : PairAMode → SImm7Scaled
pair_offset (pairs.SignedOffset reg simm7) = simm7
pair_offset (pairs.SPPreIndexed simm7) = simm7
pair_offset (pairs.SPPostIndexed simm7) = simm7

-- of 64 bits of general registers
unfoldable pub pair_word_form : ℕ → ℕ → Reg → SImm7Scaled → Reg → Reg → Form
pair_word_form load idx rn simm7 rt rt2 =
    ld_st_pair (record {
      opc = 2;
      v = 0;
      idx = idx;
      load = load;
      imm7 = simm7_field simm7;
      rt2 = register_field rt2;
      rn = register_field rn;
      rt = register_field rt;
    })

abbrev pub pair_form : ℕ → Reg → Reg → PairAMode → Form
pair_form load rt rt2 mem =
    pair_word_form load (pair_index mem) (pair_base mem) (pair_offset mem) rt rt2

-- of vector registers, by the field opc: 1 for 64 bits of each, 2 for 128
unfoldable pub float_pair_form : ℕ → Bool → Reg → Reg → PairAMode → Form
float_pair_form opc load rt rt2 mem =
    vector_pair_form opc (pair_index mem) load (pair_offset mem) (pair_base mem) rt rt2

-- ---- addresses

abbrev pub is_negative : ℤ → Bool
is_negative (pos n) = false
is_negative (negsuc n) = true

-- an addition where the offset is not negative, and else a subtraction of its amount
abbrev pub sum_op : ℤ → ALUOp
sum_op offset = if is_negative offset then alu.Sub else alu.Add

-- a number as the immediate of an addition: in units of 4096 where it is not below that
abbrev pub addend : ℕ → Imm12
addend n =
    if nat_lt n 4096 then record { bits = n; shift12 = false }
    else record { bits = n / 4096; shift12 = true }

-- a base and an offset that an addition holds
abbrev pub addend_form : Reg → Reg → ℤ → Form
addend_form rd rn offset =
    integer.alu_rr_imm12_form (sum_op offset) Size64 rd rn (addend (unsigned_abs offset))

-- a base, and an offset in x17
abbrev pub sum_form : Reg → Reg → ℤ → Form
sum_form rd rn offset = integer.alu_rrr_form (sum_op offset) Size64 rd rn addend_register
