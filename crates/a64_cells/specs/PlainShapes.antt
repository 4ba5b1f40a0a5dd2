-- Written by `python3 tools/instructions.py` from tables/instructions.txt.
-- The shape of each instruction that is no call, and no load or store of one register.
use Rattle.std.specs.Prelude.{true, false, ◌/◌, ◌%◌, ◌^◌, [], ◌∷◌, map, None, Some}
use Rattle.a64_base.specs.declared.ir_type.IrType.TheVariants.{I8}
use Rattle.a64_base.specs.declared.target.BranchTarget.TheVariants as branch_targets
use Rattle.a64_inst.specs.FinalModes.{final_mode, final_steps}
use Rattle.a64_inst.specs.declared.emission.EmitFlags.{EmitFlags}
use Rattle.a64_inst.specs.declared.frame.FrameLayout.{FrameLayout}
use Rattle.a64_inst.specs.declared.inst.Inst.{Inst}
use Rattle.a64_inst.specs.declared.inst.Inst.TheVariants as insts
use Rattle.a64_label_use.specs.declared.label_use.LabelUse.TheVariants as uses
use Rattle.a64_cells.specs.AtomicForms as atomic
use Rattle.a64_cells.specs.ControlForms as control
use Rattle.a64_cells.specs.IntegerForms as integer
use Rattle.a64_cells.specs.MemoryForms as memory
use Rattle.a64_cells.specs.VectorForms as vector
use Rattle.a64_cells.specs.PlainForms.{plain_form}
use Rattle.a64_cells.specs.Shapes.{FormOf, Data, Shape, OneWord, Several, Words, plain, last_cell}
use Rattle.a64_cells.specs.Shapes.{data_cell}
use Rattle.a64_cells.specs.Shapes.{branch, branches, trap_site, address_shape, table_jump}
use Rattle.a64_cells.specs.Shapes.{got_cells, near_cells, far_cells, probe_forms}
use Rattle.a64_cells.specs.Shapes.{vector_select_forms}
use Rattle.a64_cells.specs.Shapes.{rmw_loop_cells, cas_loop_cells}

-- Loads and stores of one register have the shape of their access, calls their words, and neither
-- has one here: what is left at the end has the form of its plain word, if it is one.
abbrev pub plain_shape : FrameLayout → EmitFlags → Inst → Shape
plain_shape frame flags (insts.Udf trap_code) =
    Words (last_cell (Data control.udf_word) None (Some trap_code) ∷ [])
plain_shape frame flags (insts.CondBr taken not_taken kind) =
    Words (branches (control.cond_br_form taken kind) uses.Branch19 taken not_taken)
plain_shape frame flags (insts.TrapIf kind trap_code) =
    Words (last_cell (FormOf (control.trap_if_form kind)) (Some (trap_site trap_code)) None ∷ [])
plain_shape frame flags insts.Brk = OneWord control.brk_form
plain_shape frame flags insts.Nop4 = OneWord integer.nop4_form
plain_shape frame flags (insts.MovToNZCV rn) = OneWord (integer.mov_to_nzcv_form rn)
plain_shape frame flags (insts.MovFromNZCV rd) = OneWord (integer.mov_from_nzcv_form rd)
plain_shape frame flags (insts.IndirectBr rn targets) = OneWord (control.indirect_br_form rn)
plain_shape frame flags insts.Ret = OneWord control.ret_form
plain_shape frame flags (insts.AuthenticatedRet key is_hint) =
    Words (map plain (control.authenticated_ret_forms key is_hint))
plain_shape frame flags (insts.Jump dest) =
    Words (branch (control.jump_form dest) uses.Branch26 dest ∷ [])
plain_shape frame flags (insts.TestBitAndBranch kind taken not_taken rn bit) =
    Words
    (branches (control.test_bit_and_branch_form kind taken rn bit) uses.Branch14 taken not_taken)
plain_shape frame flags (insts.LabelAddress dst label) =
    Words (branch (control.label_address_form dst) uses.Adr21 (branch_targets.Label label) ∷ [])
plain_shape frame flags insts.Nop0 = Words []
plain_shape frame flags (insts.Word4 value) = Words (data_cell value ∷ [])
plain_shape frame flags (insts.Word8 value) =
    Words (data_cell (value % 2 ^ 32) ∷ data_cell (value / 2 ^ 32) ∷ [])
plain_shape frame flags (insts.EmitIsland needed_space) = Words []
plain_shape frame flags (insts.Args args) = Words []
plain_shape frame flags (insts.Rets rets) = Words []
plain_shape frame flags (insts.DummyUse reg) = Words []
plain_shape frame flags insts.SequencePoint = Words []
plain_shape frame flags (insts.JTSequence default targets ridx rtmp1 rtmp2) =
    Words (table_jump flags default targets ridx rtmp1 rtmp2)
plain_shape frame flags (insts.LoadExtNameGot rd name) = Words (got_cells rd name)
plain_shape frame flags (insts.LoadExtNameNear rd name offset) = Words (near_cells rd name offset)
plain_shape frame flags (insts.LoadExtNameFar rd name offset) = Words (far_cells rd name offset)
plain_shape frame flags (insts.StackProbeLoop start end step) =
    Words (map plain (probe_forms start end step))
plain_shape frame flags (insts.AtomicRMWLoop ty op trap addr operand oldval scratch1 scratch2) =
    Words (rmw_loop_cells ty op trap)
plain_shape frame flags (insts.AtomicCASLoop ty trap addr expected replacement oldval scratch) =
    Words (cas_loop_cells ty trap)
plain_shape frame flags (insts.VecCSel rd rn rm cond) =
    Words (map plain (vector_select_forms rd rn rm cond))
plain_shape frame flags (insts.AtomicCAS128 args) =
    Several [] (FormOf (atomic.cas128_form args)) None args.flags
plain_shape frame flags (insts.VecLoadReplicate rd rn size trap) =
    Several [] (FormOf (vector.replicate_form size rd rn)) None trap
plain_shape frame flags (insts.StoreRelease access_ty rt rn trap) =
    Several [] (FormOf (atomic.store_release_form access_ty rt rn)) None trap
plain_shape frame flags (insts.LoadAcquire access_ty rt rn trap) =
    Several [] (FormOf (atomic.load_acquire_form access_ty rt rn)) None trap
plain_shape frame flags (insts.AtomicCAS rd rs rt rn ty trap) =
    Several [] (FormOf (atomic.cas_form ty rd rt rn)) None trap
plain_shape frame flags (insts.StoreP64 rt rt2 mem trap) =
    Several [] (FormOf (memory.pair_form 0 rt rt2 mem)) None trap
plain_shape frame flags (insts.LoadP64 rt rt2 mem trap) =
    Several [] (FormOf (memory.pair_form 1 rt rt2 mem)) None trap
plain_shape frame flags (insts.FpuStoreP64 rt rt2 mem trap) =
    Several [] (FormOf (memory.float_pair_form 1 false rt rt2 mem)) None trap
plain_shape frame flags (insts.FpuLoadP64 rt rt2 mem trap) =
    Several [] (FormOf (memory.float_pair_form 1 true rt rt2 mem)) None trap
plain_shape frame flags (insts.FpuStoreP128 rt rt2 mem trap) =
    Several [] (FormOf (memory.float_pair_form 2 false rt rt2 mem)) None trap
plain_shape frame flags (insts.FpuLoadP128 rt rt2 mem trap) =
    Several [] (FormOf (memory.float_pair_form 2 true rt rt2 mem)) None trap
plain_shape frame flags (insts.AtomicRMW ty op rs rt rn trap) =
    Several [] (FormOf (atomic.rmw_form ty op rs rt rn)) None trap
plain_shape frame flags (insts.LoadAddr rd mem) =
    address_shape rd (memory.step_forms memory.offset_register (final_steps frame I8 mem))
    (final_mode frame I8 mem)
plain_shape frame flags inst = elim (plain_form inst) [ None ↦ Words [] | Some form ↦ OneWord form ]
