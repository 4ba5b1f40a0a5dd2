-- The instructions of a frame.
use Rattle.std.specs.Prelude.{pos, negsuc, false, None}
use Rattle.a64_base.specs.declared.ir_type.IrType.TheVariants.{I64}
use Rattle.a64_base.specs.declared.reg.RegKind.{RegKind}
use Rattle.a64_base.specs.declared.size.OperandSize.TheVariants.{Size64}
use Rattle.a64_base.specs.Registers.{integer_register}
use Rattle.a64_inst.specs.declared.inst.Inst.{Inst}
use Rattle.a64_inst.specs.declared.inst.Inst.TheVariants.{StoreP64, LoadP64, AluRRImm12}
use Rattle.a64_inst.specs.declared.mode.PairAMode.TheVariants.{SPPreIndexed, SPPostIndexed}
use Rattle.a64_ops.specs.declared.operator.ALUOp.TheVariants.{Add}

-- two registers are stored to the stack, which grows by 16 bytes
abbrev pub pushed_pair : RegKind → RegKind → Inst
pushed_pair rt rt2 =
    StoreP64 rt rt2 (SPPreIndexed (record { value = negsuc 15; scale_ty = I64 })) None

-- two registers are loaded from the stack, which shrinks by 16 bytes
abbrev pub popped_pair : RegKind → RegKind → Inst
popped_pair rt rt2 = LoadP64 rt rt2 (SPPostIndexed (record { value = pos 16; scale_ty = I64 })) None

-- x29 and x30 are saved
abbrev pub saved_frame : Inst
saved_frame = pushed_pair (integer_register 29) (integer_register 30)

-- x29 points to them
abbrev pub frame_set : Inst
frame_set =
    AluRRImm12 Add Size64 (integer_register 29) (integer_register 63) (record {
      bits = 0;
      shift12 = false;
    })

-- x29 and x30 are restored
abbrev pub restored_frame : Inst
restored_frame = popped_pair (integer_register 29) (integer_register 30)
