-- What has a name stands where its name leads.
use Rattle.std.specs.Prelude.{◌≡◌, map, Option, Some, refl}
use Rattle.a64_ops.specs.declared.operator.ALUOp.{ALUOp}
use Rattle.a64_ops.specs.declared.operator.ALUOp.TheVariants as alu_ops
use Rattle.a64_ops.specs.declared.operator.ALUOp3.{ALUOp3}
use Rattle.a64_ops.specs.declared.operator.ALUOp3.TheVariants as alu_op3s
use Rattle.a64_ops.specs.declared.operator.AtomicRMWLoopOp.{AtomicRMWLoopOp}
use Rattle.a64_ops.specs.declared.operator.AtomicRMWLoopOp.TheVariants as atomic_rmw_loop_ops
use Rattle.a64_ops.specs.declared.operator.BitOp.{BitOp}
use Rattle.a64_ops.specs.declared.operator.BitOp.TheVariants as bit_ops
use Rattle.a64_base.specs.declared.shift.ShiftOp.{ShiftOp}
use Rattle.a64_base.specs.declared.shift.ShiftOp.TheVariants as shift_ops
use Rattle.a64_base.specs.declared.shift.ExtendOp.{ExtendOp}
use Rattle.a64_base.specs.declared.shift.ExtendOp.TheVariants as extends
use Rattle.a64_base.specs.declared.cond.Cond.{Cond}
use Rattle.a64_base.specs.declared.cond.Cond.TheVariants as conds
use Rattle.a64_base.specs.declared.convention.CallConv.{CallConv}
use Rattle.a64_base.specs.declared.convention.CallConv.TheVariants as conventions
use Rattle.a64_base.specs.declared.key.APIKey.{APIKey}
use Rattle.a64_base.specs.declared.key.APIKey.TheVariants as keys
use Rattle.a64_tokens.specs.declared.convention.TheConstants.{CONVENTION_HOMES, CONVENTIONS}
use Rattle.a64_tokens.specs.declared.convention.TheConstants.{KEY_HOMES, KEYS}
use Rattle.a64_base.specs.declared.ir_type.IrType.{IrType}
use Rattle.a64_base.specs.declared.ir_type.IrType.TheVariants as types
use Rattle.a64_tokens.specs.declared.label_name.MemLabelName.{MemLabelName}
use Rattle.a64_tokens.specs.declared.label_name.MemLabelName.TheVariants as label_names
use Rattle.a64_tokens.specs.declared.label_name.TheConstants.{MEM_LABEL_HOMES, MEM_LABELS}
use Rattle.a64_tokens.specs.declared.type_name.TheConstants.{TYPE_HOMES, TYPES}
use Rattle.a64_tokens.specs.declared.emit_flag.EmitFlag.{EmitFlag}
use Rattle.a64_tokens.specs.declared.emit_flag.EmitFlag.TheVariants as emit_flags
use Rattle.a64_tokens.specs.declared.emit_flag.TheConstants.{EMIT_FLAG_HOMES, EMIT_FLAGS}
use Rattle.a64_tokens.specs.declared.frame_field.FrameField.{FrameField}
use Rattle.a64_tokens.specs.declared.frame_field.FrameField.TheVariants as frame_fields
use Rattle.a64_tokens.specs.declared.frame_field.TheConstants.{FRAME_FIELD_HOMES, FRAME_FIELDS}
use Rattle.a64_tokens.specs.declared.operator.TheConstants.{ALU_OP_HOMES, ALU_OPS, ALU_OP3_HOMES}
use Rattle.a64_tokens.specs.declared.operator.TheConstants.{ALU_OP3S, ATOMIC_RMW_LOOP_OP_HOMES}
use Rattle.a64_tokens.specs.declared.operator.TheConstants.{ATOMIC_RMW_LOOP_OPS, BIT_OP_HOMES}
use Rattle.a64_tokens.specs.declared.operator.TheConstants.{BIT_OPS}
use Rattle.a64_tokens.specs.declared.modifier.TheConstants.{SHIFT_OP_HOMES, SHIFT_OPS, EXTEND_HOMES}
use Rattle.a64_tokens.specs.declared.modifier.TheConstants.{EXTENDS, COND_HOMES, CONDS}
use Rattle.a64_tokens.specs.Hash.{look_up}
use Rattle.a64_tokens.specs.Operators.{alu_op_text, alu_op3_text, atomic_rmw_loop_op_text}
use Rattle.a64_tokens.specs.Operators.{bit_op_text, shift_op_text, extend_text, cond_text}
use Rattle.a64_tokens.specs.Operators.{emit_flag_text, frame_field_text, mem_label_name_text}
use Rattle.a64_tokens.specs.Conventions.{convention_text, key_text}
use Rattle.a64_tokens.specs.Types.{type_text}

pub alu_op_found : (x : ALUOp)
    → look_up ALU_OP_HOMES (λ _. map (λ row. row.2) ALU_OPS) (alu_op_text x) ≡ Some x
alu_op_found alu_ops.Add = refl
alu_op_found _ = refl

pub alu_op3_found : (x : ALUOp3)
    → look_up ALU_OP3_HOMES (λ _. map (λ row. row.2) ALU_OP3S) (alu_op3_text x) ≡ Some x
alu_op3_found alu_op3s.MAdd = refl
alu_op3_found _ = refl

pub atomic_rmw_loop_op_found : (x : AtomicRMWLoopOp)
    → look_up ATOMIC_RMW_LOOP_OP_HOMES (λ _. map (λ row. row.2) ATOMIC_RMW_LOOP_OPS)
    (atomic_rmw_loop_op_text x) ≡ Some x
atomic_rmw_loop_op_found atomic_rmw_loop_ops.Add = refl
atomic_rmw_loop_op_found _ = refl

pub bit_op_found : (x : BitOp)
    → look_up BIT_OP_HOMES (λ _. map (λ row. row.2) BIT_OPS) (bit_op_text x) ≡ Some x
bit_op_found bit_ops.RBit = refl
bit_op_found _ = refl

pub shift_op_found : (x : ShiftOp)
    → look_up SHIFT_OP_HOMES (λ _. map (λ row. row.2) SHIFT_OPS) (shift_op_text x) ≡ Some x
shift_op_found shift_ops.LSL = refl
shift_op_found _ = refl

pub extend_found : (x : ExtendOp)
    → look_up EXTEND_HOMES (λ _. map (λ row. row.2) EXTENDS) (extend_text x) ≡ Some x
extend_found extends.UXTB = refl
extend_found _ = refl

pub cond_found : (x : Cond)
    → look_up COND_HOMES (λ _. map (λ row. row.2) CONDS) (cond_text x) ≡ Some x
cond_found conds.Eq = refl
cond_found _ = refl

pub frame_field_found : (x : FrameField)
    → look_up FRAME_FIELD_HOMES (λ _. map (λ row. row.2) FRAME_FIELDS) (frame_field_text x) ≡ Some x
frame_field_found frame_fields.SetupAreaSize = refl
frame_field_found _ = refl

pub emit_flag_found : (x : EmitFlag)
    → look_up EMIT_FLAG_HOMES (λ _. map (λ row. row.2) EMIT_FLAGS) (emit_flag_text x) ≡ Some x
emit_flag_found emit_flags.EnableProbestack = refl
emit_flag_found _ = refl

pub type_found : (x : IrType)
    → look_up TYPE_HOMES (λ _. map (λ row. row.2) TYPES) (type_text x) ≡ Some x
type_found types.I8 = refl
type_found _ = refl

pub convention_found : (x : CallConv)
    → look_up CONVENTION_HOMES (λ _. map (λ row. row.2) CONVENTIONS) (convention_text x) ≡ Some x
convention_found conventions.SystemV = refl
convention_found _ = refl

pub key_found : (x : Option APIKey)
    → look_up KEY_HOMES (λ _. map (λ row. row.2) KEYS) (key_text x) ≡ Some x
key_found (Some keys.AZ) = refl
key_found _ = refl

pub mem_label_found : (x : MemLabelName)
    → look_up MEM_LABEL_HOMES (λ _. map (λ row. row.2) MEM_LABELS) (mem_label_name_text x) ≡ Some x
mem_label_found label_names.PCRel = refl
mem_label_found _ = refl
