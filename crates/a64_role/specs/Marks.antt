-- Written by `python3 tools/instructions.py` from tables/instructions.txt.
-- What queries answer of instructions, whatever their operands are.
use Rattle.std.specs.Prelude.{Bool, true, false}
use Rattle.a64_inst.specs.declared.inst.Inst.{Inst}
use Rattle.a64_inst.specs.declared.inst.Inst.TheVariants as insts
use Rattle.a64_role.specs.declared.query.CallType.{CallType}
use Rattle.a64_role.specs.declared.query.CallType.TheVariants as calls
use Rattle.a64_role.specs.declared.query.MachTerminator.{MachTerminator}
use Rattle.a64_role.specs.declared.query.MachTerminator.TheVariants as terms

-- whether an instruction traps wherever it is reached
abbrev pub is_trap : Inst → Bool
is_trap (insts.Udf trap_code) = true
is_trap _ = false

-- whether an instruction has the arguments of the function
abbrev pub is_args : Inst → Bool
is_args (insts.Args args) = true
is_args _ = false

-- whether the garbage collector may look at the stack at an instruction
abbrev pub is_safepoint : Inst → Bool
is_safepoint (insts.Call info) = true
is_safepoint (insts.CallInd info) = true
is_safepoint _ = false

-- whether an instruction calls another function
abbrev pub call_type_of : Inst → CallType
call_type_of (insts.Call info) = calls.Regular
call_type_of (insts.CallInd info) = calls.Regular
call_type_of (insts.ReturnCall info) = calls.TailCall
call_type_of (insts.ReturnCallInd info) = calls.TailCall
call_type_of _ = calls.None

-- whether an instruction ends a block
abbrev pub term_of : Inst → MachTerminator
term_of (insts.CondBr taken not_taken kind) = terms.Branch
term_of (insts.IndirectBr rn targets) = terms.Branch
term_of (insts.Jump dest) = terms.Branch
term_of (insts.TestBitAndBranch kind taken not_taken rn bit) = terms.Branch
term_of (insts.Rets rets) = terms.Ret
term_of (insts.JTSequence default targets ridx rtmp1 rtmp2) = terms.Branch
term_of (insts.ReturnCall info) = terms.RetCall
term_of (insts.ReturnCallInd info) = terms.RetCall
term_of _ = terms.None

-- whether an instruction loads or stores a pair of registers; stores of pairs of vector registers
-- do not count
abbrev pub is_pair_access : Inst → Bool
is_pair_access (insts.StoreP64 rt rt2 mem flags) = true
is_pair_access (insts.LoadP64 rt rt2 mem flags) = true
is_pair_access (insts.FpuLoadP64 rt rt2 mem flags) = true
is_pair_access (insts.FpuLoadP128 rt rt2 mem flags) = true
is_pair_access _ = false
