-- The uses of instructions are of labels, of constants and of deferred traps.
use Rattle.std.proofs.Common.{◌≡◌, suc, zero, List, [], ◌∷◌, Option, None, Some, refl, sym, subst, arith}
use Rattle.std.specs.Prelude.{All, IfSome}
use Rattle.std.specs.List.{cons_option}
use Rattle.std.proofs.lemmas.List.Elements.{All-append, All-map}
use Rattle.a64_base.specs.declared.entity.MachLabel.{MachLabel}
use Rattle.a64_base.specs.declared.reg.Reg.{Reg}
use Rattle.a64_base.specs.declared.ir_type.IrType.TheVariants.{I8}
use Rattle.a64_base.specs.declared.target.BranchTarget.{BranchTarget}
use Rattle.a64_base.specs.declared.target.BranchTarget.TheVariants as branch_targets
use Rattle.a64_inst.specs.declared.access.Access.{Access}
use Rattle.a64_inst.specs.declared.emission.EmitFlags.{EmitFlags}
use Rattle.a64_inst.specs.declared.frame.FrameLayout.{FrameLayout}
use Rattle.a64_inst.specs.declared.group.Group.TheVariants.{Call}
use Rattle.a64_inst.specs.declared.inst.Inst.{Inst}
use Rattle.a64_inst.specs.declared.inst.Inst.TheVariants as insts
use Rattle.a64_inst.specs.declared.mode.AMode.{AMode}
use Rattle.a64_inst.specs.declared.mode.AMode.TheVariants as modes
use Rattle.a64_inst.specs.declared.mode.MemLabel.TheVariants.{PCRel, Mach, Pool}
use Rattle.a64_inst.specs.Accesses.{access_of}
use Rattle.a64_inst.specs.FinalModes.{final_mode, final_steps}
use Rattle.a64_inst.specs.Groups.{group_of}
use Rattle.a64_buffer.specs.declared.site.Target.{Target}
use Rattle.a64_buffer.specs.declared.site.Target.TheVariants.{Label, Constant, Trap, IslandEnd}
use Rattle.a64_label_use.specs.declared.label_use.LabelUse.{LabelUse}
use Rattle.a64_label_use.specs.declared.label_use.LabelUse.TheVariants as uses
use Rattle.a64_cells.specs.declared.site.Site.{Site}
use Rattle.a64_cells.specs.MemoryForms.{step_forms, offset_register, access_steps, access_form}
use Rattle.a64_cells.specs.Shapes.{FormOf, table_labels, entry_site, table_jump, branch_site, trap_site}
use Rattle.a64_cells.specs.Cells.{mode_site, shape_cells, access_shape, other_shape, inst_cells, sites_of}
use Rattle.a64_cells.specs.ControlForms.{authenticated_ret_forms}
use Rattle.a64_cells.specs.LoopForms.{operator_forms, stored_register, awaited_forms, new_register}
use Rattle.a64_emit.proofs.CallSites.{calls_sites}
use Rattle.a64_cells.proofs.Loops.{loop_sites}
use Rattle.a64_cells.proofs.Several.{several_sites, plain_sites, address_sites}
use Rattle.a64_emit.proofs.TableUses.{table_jump_sites}

-- a use of a label of any kind, the load of a constant, or a deferred trap
abbrev pub IsCodeTarget : Target → LabelUse → Type 0
IsCodeTarget (Label label) kind = Unit {0}
IsCodeTarget (Constant constant) kind = kind ≡ uses.Ldr19
IsCodeTarget (Trap code) kind = kind ≡ uses.Branch19
IsCodeTarget IslandEnd kind = ⊥

abbrev pub IsCodeSite : Site → Type 0
IsCodeSite site = IsCodeTarget site.target site.kind

no_sites : All IsCodeSite []
no_sites k d w = absurd (omega arith)

only_site : (site : Site) → IsCodeSite site → All IsCodeSite (site ∷ [])
only_site site one zero d w = one
only_site site one (suc k) d w = absurd (omega arith)

one_more : (o : Option Site) (rest : List Site) → IfSome o IsCodeSite → All IsCodeSite rest → All IsCodeSite (cons_option o rest)
one_more None rest one others = others
one_more (Some site) rest one others = All-append IsCodeSite (site ∷ []) rest (only_site site one) others

branch_target : (kind : LabelUse) (dest : BranchTarget) → IfSome (branch_site kind dest) IsCodeSite
branch_target kind (branch_targets.Label label) = tt
branch_target kind (branch_targets.ResolvedOffset offset) = tt

branch_targets_of : (kind : LabelUse) (dest : BranchTarget) → All IsCodeSite (cons_option (branch_site kind dest) [])
branch_targets_of kind dest = one_more (branch_site kind dest) [] (branch_target kind dest) no_sites

branches_targets : (kind : LabelUse) (taken not_taken : BranchTarget) → All IsCodeSite (cons_option (branch_site kind taken) (cons_option (branch_site uses.Branch26 not_taken) []))
branches_targets kind taken not_taken = one_more (branch_site kind taken) (cons_option (branch_site uses.Branch26 not_taken) []) (branch_target kind taken) (branch_targets_of uses.Branch26 not_taken)

-- the entries of a table are of labels
table_targets : (flags : EmitFlags) (default : MachLabel) (targets : List MachLabel) (ridx rtmp1 rtmp2 : Reg) → All IsCodeSite (sites_of (table_jump flags default targets ridx rtmp1 rtmp2))
table_targets flags default targets ridx rtmp1 rtmp2 =
    subst (All IsCodeSite) (sym (table_jump_sites flags default targets ridx rtmp1 rtmp2))
    (All-map IsCodeSite entry_site (table_labels default targets) (λ k d w. tt))

mode_target : (mem : AMode) → IfSome (mode_site mem) IsCodeSite
mode_target (modes.Label (PCRel offset)) = tt
mode_target (modes.Label (Mach label)) = tt
mode_target (modes.Label (Pool addr)) = refl
mode_target (modes.Const addr) = refl
mode_target _ = tt

module _ (frame : FrameLayout) (flags : EmitFlags) where
  -- calls have no uses
  call_targets : (inst : Inst) → group_of inst ≡ Call → All IsCodeSite (sites_of (shape_cells (other_shape frame flags inst)))
  call_targets inst group = subst (All IsCodeSite) (sym (calls_sites frame flags inst group)) no_sites

  other_targets : (inst : Inst) → All IsCodeSite (sites_of (shape_cells (other_shape frame flags inst)))
  other_targets (insts.Jump dest) = branch_targets_of uses.Branch26 dest
  other_targets (insts.CondBr taken not_taken kind) = branches_targets uses.Branch19 taken not_taken
  other_targets (insts.TestBitAndBranch kind taken not_taken rn bit) = branches_targets uses.Branch14 taken not_taken
  other_targets (insts.TrapIf kind trap_code) = one_more (Some (trap_site trap_code)) [] refl no_sites
  other_targets (insts.LabelAddress dst label) = branch_targets_of uses.Adr21 (branch_targets.Label label)
  other_targets (insts.JTSequence default targets ridx rtmp1 rtmp2) = table_targets flags default targets ridx rtmp1 rtmp2
  other_targets (insts.AuthenticatedRet key is_hint) = subst (All IsCodeSite) (sym (plain_sites (authenticated_ret_forms key is_hint))) no_sites
  other_targets (insts.AtomicRMWLoop ty op trap addr operand oldval scratch1 scratch2) =
      subst (All IsCodeSite) (sym (loop_sites ty (operator_forms ty op) (stored_register op) trap)) no_sites
  other_targets (insts.AtomicCASLoop ty trap addr expected replacement oldval scratch) =
      subst (All IsCodeSite) (sym (loop_sites ty (awaited_forms ty) new_register trap)) no_sites
  other_targets (insts.Call info) = call_targets (insts.Call info) refl
  other_targets (insts.CallInd info) = call_targets (insts.CallInd info) refl
  other_targets (insts.ReturnCall info) = call_targets (insts.ReturnCall info) refl
  other_targets (insts.ReturnCallInd info) = call_targets (insts.ReturnCallInd info) refl
  other_targets (insts.LoadAddr rd mem) = subst (All IsCodeSite) (sym (address_sites rd (step_forms offset_register (final_steps frame I8 mem)) (final_mode frame I8 mem))) no_sites
  other_targets _ = no_sites

  -- each use of an instruction's words is one of these
  pub inst_targets : (inst : Inst) → All IsCodeSite (sites_of (inst_cells frame flags inst))
  inst_targets inst = go (access_of inst) refl
    where
      go : (o : Option Access) → access_of inst ≡ o → All IsCodeSite (sites_of (inst_cells frame flags inst))
      go None e = subst (λ o. All IsCodeSite (sites_of (shape_cells (elim o [ None ↦ other_shape frame flags inst | Some access ↦ access_shape frame access ])))) (sym e) (other_targets inst)
      go (Some access) e =
          subst (λ o. All IsCodeSite (sites_of (shape_cells (elim o [ None ↦ other_shape frame flags inst | Some a ↦ access_shape frame a ])))) (sym e)
          (subst (All IsCodeSite) (sym (several_sites (access_steps frame access) (FormOf (access_form frame access)) (mode_site access.mem) access.flags))
          (one_more (mode_site access.mem) [] (mode_target access.mem) no_sites))
