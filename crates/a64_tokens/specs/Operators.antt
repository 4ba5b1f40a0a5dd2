-- The names of operators, shifts, extensions, conditions, sizes of a frame and settings.
use Rattle.std.specs.Prelude.{ℕ, List, codes, Bool, true, false}
use Rattle.a64_ops.specs.declared.operator.ALUOp.{ALUOp}
use Rattle.a64_ops.specs.declared.operator.ALUOp.TheVariants as alu_ops
use Rattle.a64_ops.specs.declared.operator.ALUOp3.{ALUOp3}
use Rattle.a64_ops.specs.declared.operator.ALUOp3.TheVariants as alu_op3s
use Rattle.a64_ops.specs.declared.operator.AtomicRMWOp.{AtomicRMWOp}
use Rattle.a64_ops.specs.declared.operator.AtomicRMWOp.TheVariants as atomic_rmw_ops
use Rattle.a64_ops.specs.declared.operator.AtomicRMWLoopOp.{AtomicRMWLoopOp}
use Rattle.a64_ops.specs.declared.operator.AtomicRMWLoopOp.TheVariants as atomic_rmw_loop_ops
use Rattle.a64_ops.specs.declared.operator.BitOp.{BitOp}
use Rattle.a64_ops.specs.declared.operator.BitOp.TheVariants as bit_ops
use Rattle.a64_ops.specs.declared.operator.BfmOp.{BfmOp}
use Rattle.a64_ops.specs.declared.operator.BfmOp.TheVariants as bfm_ops
use Rattle.a64_ops.specs.declared.operator.MoveWideOp.{MoveWideOp}
use Rattle.a64_ops.specs.declared.operator.MoveWideOp.TheVariants as move_wide_ops
use Rattle.a64_ops.specs.declared.system.BranchTargetType.{BranchTargetType}
use Rattle.a64_ops.specs.declared.system.BranchTargetType.TheVariants as branch_target_types
use Rattle.a64_base.specs.declared.shift.ShiftOp.{ShiftOp}
use Rattle.a64_base.specs.declared.shift.ShiftOp.TheVariants as shift_ops
use Rattle.a64_base.specs.declared.shift.ExtendOp.{ExtendOp}
use Rattle.a64_base.specs.declared.shift.ExtendOp.TheVariants as extends
use Rattle.a64_base.specs.declared.cond.Cond.{Cond}
use Rattle.a64_base.specs.declared.cond.Cond.TheVariants as conds
use Rattle.a64_base.specs.declared.cond.TestBitAndBranchKind.{TestBitAndBranchKind}
use Rattle.a64_base.specs.declared.cond.TestBitAndBranchKind.TheVariants as bit_tests
use Rattle.a64_tokens.specs.declared.label_name.MemLabelName.{MemLabelName}
use Rattle.a64_tokens.specs.declared.label_name.MemLabelName.TheVariants as label_names
use Rattle.a64_tokens.specs.declared.emit_flag.EmitFlag.{EmitFlag}
use Rattle.a64_tokens.specs.declared.emit_flag.EmitFlag.TheVariants as emit_flags
use Rattle.a64_tokens.specs.declared.frame_field.FrameField.{FrameField}
use Rattle.a64_tokens.specs.declared.frame_field.FrameField.TheVariants as frame_fields

abbrev pub alu_op_text : ALUOp → List ℕ
alu_op_text alu_ops.Add = codes "Add"
alu_op_text alu_ops.Sub = codes "Sub"
alu_op_text alu_ops.AddS = codes "AddS"
alu_op_text alu_ops.SubS = codes "SubS"
alu_op_text alu_ops.And = codes "And"
alu_op_text alu_ops.Orr = codes "Orr"
alu_op_text alu_ops.Eor = codes "Eor"
alu_op_text alu_ops.AndS = codes "AndS"
alu_op_text alu_ops.AndNot = codes "AndNot"
alu_op_text alu_ops.OrrNot = codes "OrrNot"
alu_op_text alu_ops.EorNot = codes "EorNot"
alu_op_text alu_ops.Adc = codes "Adc"
alu_op_text alu_ops.Sbc = codes "Sbc"
alu_op_text alu_ops.AdcS = codes "AdcS"
alu_op_text alu_ops.SbcS = codes "SbcS"
alu_op_text alu_ops.UDiv = codes "UDiv"
alu_op_text alu_ops.SDiv = codes "SDiv"
alu_op_text alu_ops.Lsl = codes "Lsl"
alu_op_text alu_ops.Lsr = codes "Lsr"
alu_op_text alu_ops.Asr = codes "Asr"
alu_op_text alu_ops.Extr = codes "Extr"
alu_op_text alu_ops.SMulH = codes "SMulH"
alu_op_text alu_ops.UMulH = codes "UMulH"

abbrev pub alu_op3_text : ALUOp3 → List ℕ
alu_op3_text alu_op3s.MAdd = codes "MAdd"
alu_op3_text alu_op3s.MSub = codes "MSub"
alu_op3_text alu_op3s.UMAddL = codes "UMAddL"
alu_op3_text alu_op3s.SMAddL = codes "SMAddL"

abbrev pub atomic_rmw_op_text : AtomicRMWOp → List ℕ
atomic_rmw_op_text atomic_rmw_ops.Add = codes "Add"
atomic_rmw_op_text atomic_rmw_ops.Clr = codes "Clr"
atomic_rmw_op_text atomic_rmw_ops.Eor = codes "Eor"
atomic_rmw_op_text atomic_rmw_ops.Set = codes "Set"
atomic_rmw_op_text atomic_rmw_ops.Smax = codes "Smax"
atomic_rmw_op_text atomic_rmw_ops.Smin = codes "Smin"
atomic_rmw_op_text atomic_rmw_ops.Umax = codes "Umax"
atomic_rmw_op_text atomic_rmw_ops.Umin = codes "Umin"
atomic_rmw_op_text atomic_rmw_ops.Swp = codes "Swp"

abbrev pub atomic_rmw_loop_op_text : AtomicRMWLoopOp → List ℕ
atomic_rmw_loop_op_text atomic_rmw_loop_ops.Add = codes "Add"
atomic_rmw_loop_op_text atomic_rmw_loop_ops.Sub = codes "Sub"
atomic_rmw_loop_op_text atomic_rmw_loop_ops.And = codes "And"
atomic_rmw_loop_op_text atomic_rmw_loop_ops.Nand = codes "Nand"
atomic_rmw_loop_op_text atomic_rmw_loop_ops.Eor = codes "Eor"
atomic_rmw_loop_op_text atomic_rmw_loop_ops.Orr = codes "Orr"
atomic_rmw_loop_op_text atomic_rmw_loop_ops.Smax = codes "Smax"
atomic_rmw_loop_op_text atomic_rmw_loop_ops.Smin = codes "Smin"
atomic_rmw_loop_op_text atomic_rmw_loop_ops.Umax = codes "Umax"
atomic_rmw_loop_op_text atomic_rmw_loop_ops.Umin = codes "Umin"
atomic_rmw_loop_op_text atomic_rmw_loop_ops.Xchg = codes "Xchg"

abbrev pub bit_op_text : BitOp → List ℕ
bit_op_text bit_ops.RBit = codes "RBit"
bit_op_text bit_ops.Clz = codes "Clz"
bit_op_text bit_ops.Cls = codes "Cls"
bit_op_text bit_ops.Rev16 = codes "Rev16"
bit_op_text bit_ops.Rev32 = codes "Rev32"
bit_op_text bit_ops.Rev64 = codes "Rev64"

abbrev pub bfm_op_text : BfmOp → List ℕ
bfm_op_text bfm_ops.UBfm = codes "UBfm"
bfm_op_text bfm_ops.SBfm = codes "SBfm"

abbrev pub move_wide_op_text : MoveWideOp → List ℕ
move_wide_op_text move_wide_ops.MovZ = codes "MovZ"
move_wide_op_text move_wide_ops.MovN = codes "MovN"

-- the branches that may go to a place
abbrev pub branch_target_type_text : BranchTargetType → List ℕ
branch_target_type_text branch_target_types.None = codes "None"
branch_target_type_text branch_target_types.C = codes "C"
branch_target_type_text branch_target_types.J = codes "J"
branch_target_type_text branch_target_types.JC = codes "JC"

abbrev pub shift_op_text : ShiftOp → List ℕ
shift_op_text shift_ops.LSL = codes "LSL"
shift_op_text shift_ops.LSR = codes "LSR"
shift_op_text shift_ops.ASR = codes "ASR"
shift_op_text shift_ops.ROR = codes "ROR"

abbrev pub extend_text : ExtendOp → List ℕ
extend_text extends.UXTB = codes "UXTB"
extend_text extends.UXTH = codes "UXTH"
extend_text extends.UXTW = codes "UXTW"
extend_text extends.UXTX = codes "UXTX"
extend_text extends.SXTB = codes "SXTB"
extend_text extends.SXTH = codes "SXTH"
extend_text extends.SXTW = codes "SXTW"
extend_text extends.SXTX = codes "SXTX"

abbrev pub cond_text : Cond → List ℕ
cond_text conds.Eq = codes "Eq"
cond_text conds.Ne = codes "Ne"
cond_text conds.Hs = codes "Hs"
cond_text conds.Lo = codes "Lo"
cond_text conds.Mi = codes "Mi"
cond_text conds.Pl = codes "Pl"
cond_text conds.Vs = codes "Vs"
cond_text conds.Vc = codes "Vc"
cond_text conds.Hi = codes "Hi"
cond_text conds.Ls = codes "Ls"
cond_text conds.Ge = codes "Ge"
cond_text conds.Lt = codes "Lt"
cond_text conds.Gt = codes "Gt"
cond_text conds.Le = codes "Le"
cond_text conds.Al = codes "Al"
cond_text conds.Nv = codes "Nv"

abbrev pub test_bit_text : TestBitAndBranchKind → List ℕ
test_bit_text bit_tests.Z = codes "Z"
test_bit_text bit_tests.NZ = codes "NZ"

abbrev pub frame_field_text : FrameField → List ℕ
frame_field_text frame_fields.SetupAreaSize = codes "setup_area_size"
frame_field_text frame_fields.TailArgsSize = codes "tail_args_size"
frame_field_text frame_fields.ClobberSize = codes "clobber_size"
frame_field_text frame_fields.FixedFrameStorageSize = codes "fixed_frame_storage_size"
frame_field_text frame_fields.OutgoingArgsSize = codes "outgoing_args_size"

abbrev pub emit_flag_text : EmitFlag → List ℕ
emit_flag_text emit_flags.EnableProbestack = codes "enable_probestack"
emit_flag_text emit_flags.EnableTableAccessSpectreMitigation =
    codes "enable_table_access_spectre_mitigation"
emit_flag_text emit_flags.UseCsdb = codes "use_csdb"

abbrev pub mem_label_name_text : MemLabelName → List ℕ
mem_label_name_text label_names.PCRel = codes "PCRel"
mem_label_name_text label_names.Mach = codes "Mach"
mem_label_name_text label_names.Pool = codes "Pool"

abbrev pub bool_text : Bool → List ℕ
bool_text false = codes "false"
bool_text true = codes "true"
