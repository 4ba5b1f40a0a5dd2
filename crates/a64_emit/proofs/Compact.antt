-- Each use of an instruction reaches over its words, and over what its uses may want behind them.
use Rattle.std.proofs.Common.{◌≡◌, ◌+◌, ◌*◌, ◌≤◌, true, List, [], ◌∷◌, length, Option, None, Some, refl, sym, subst, arith}
use Rattle.std.specs.Prelude.{All}
use Rattle.std.specs.List.{cons_option}
use Rattle.std.proofs.lemmas.Bool.{false≢true}
use Rattle.std.proofs.lemmas.List.Elements.{All-cons, All-map}
use Rattle.a64_base.specs.declared.entity.MachLabel.{MachLabel}
use Rattle.a64_base.specs.declared.entity.TrapCode.{TrapCode}
use Rattle.a64_base.specs.declared.entity.UserStackMap.{UserStackMap}
use Rattle.a64_base.specs.declared.ir_type.IrType.{IrType}
use Rattle.a64_base.specs.declared.ir_type.IrType.TheVariants.{I8}
use Rattle.a64_base.specs.declared.reg.Reg.{Reg}
use Rattle.a64_base.specs.declared.target.BranchTarget.{BranchTarget}
use Rattle.a64_base.specs.declared.target.BranchTarget.TheVariants as branch_targets
use Rattle.a64_inst.specs.declared.access.Access.{Access}
use Rattle.a64_inst.specs.declared.emission.EmitFlags.{EmitFlags}
use Rattle.a64_inst.specs.declared.frame.FrameLayout.{FrameLayout}
use Rattle.a64_inst.specs.declared.inst.Inst.{Inst}
use Rattle.a64_inst.specs.declared.inst.Inst.TheVariants as insts
use Rattle.a64_inst.specs.declared.mode.AMode.{AMode}
use Rattle.a64_inst.specs.declared.mode.AMode.TheVariants as modes
use Rattle.a64_inst.specs.declared.mode.MemLabel.TheVariants.{PCRel, Mach, Pool}
use Rattle.a64_inst.specs.Accesses.{access_of, access_type}
use Rattle.a64_inst.specs.FinalModes.{final_mode, final_steps}
use Rattle.a64_buffer.specs.Classes.{wants, level_of, range_of}
use Rattle.a64_label_use.specs.declared.label_use.LabelUse.TheVariants as uses
use Rattle.a64_cells.specs.declared.site.Site.{Site}
use Rattle.a64_label_use.specs.LabelUses.{label_kinds}
use Rattle.a64_cells.specs.ControlForms as control
use Rattle.a64_cells.specs.LoopForms.{awaited_forms, new_register, operator_forms, stored_register}
use Rattle.a64_cells.specs.MemoryForms.{step_forms, offset_register, access_form}
use Rattle.a64_cells.specs.Shapes.{Cell, FormOf, branch, branches, entry_site, table_labels, table_jump, several, rmw_loop_cells, cas_loop_cells}
use Rattle.a64_cells.specs.Cells.{mode_site, shape_cells, access_shape, other_shape, inst_cells, keep, sites_of}
use Rattle.a64_emit.specs.Bounds.{ranges_in, size_of}
use Rattle.a64_emit.specs.Contents.{site_class}
use Rattle.a64_emit.specs.Rooms.{AreCompact}
use Rattle.a64_emit.proofs.CallSites.{calls_sites}
use Rattle.a64_cells.proofs.Loops.{loop_sites}
use Rattle.a64_cells.proofs.Several.{several_sites, plain_sites, address_sites}
use Rattle.a64_emit.proofs.TableUses.{table_jump_sites}
use Rattle.a64_rows.specs.Forms.{Form}

-- a use of cells that is compact
abbrev pub SiteIsCompact : List Cell → Site → Type 0
SiteIsCompact cells s = wants (site_class s) ≡ true → size_of cells + 28 * length (ranges_in cells) + 4 ≤ range_of label_kinds (level_of (site_class s))

pub no_sites : (cells : List Cell) → All (SiteIsCompact cells) []
no_sites cells k d w = absurd (omega arith)

unused_compact : (cells : List Cell) → sites_of cells ≡ [] → AreCompact cells
unused_compact cells none = subst (All (SiteIsCompact cells)) (sym none) (no_sites cells)

one_site : (cells : List Cell) (s : Site) → SiteIsCompact cells s → All (SiteIsCompact cells) (s ∷ [])
one_site cells s h = All-cons (SiteIsCompact cells) s [] h (no_sites cells)

two_sites : (cells : List Cell) (s t : Site) → SiteIsCompact cells s → SiteIsCompact cells t → All (SiteIsCompact cells) (s ∷ t ∷ [])
two_sites cells s t h g = All-cons (SiteIsCompact cells) s (t ∷ []) h (one_site cells t g)

jump_compact : (form : Form) (dest : BranchTarget) → AreCompact (branch form uses.Branch26 dest ∷ [])
jump_compact form (branch_targets.Label label) = one_site (branch form uses.Branch26 (branch_targets.Label label) ∷ []) _ (λ w. omega arith)
jump_compact form (branch_targets.ResolvedOffset offset) = no_sites (branch form uses.Branch26 (branch_targets.ResolvedOffset offset) ∷ [])

near_compact : (form : Form) (taken not_taken : BranchTarget) → AreCompact (branches form uses.Branch14 taken not_taken)
near_compact form (branch_targets.Label a) (branch_targets.Label b) = two_sites (branches form uses.Branch14 (branch_targets.Label a) (branch_targets.Label b)) _ _ (λ w. omega arith) (λ w. omega arith)
near_compact form (branch_targets.Label a) (branch_targets.ResolvedOffset n) = one_site (branches form uses.Branch14 (branch_targets.Label a) (branch_targets.ResolvedOffset n)) _ (λ w. omega arith)
near_compact form (branch_targets.ResolvedOffset m) (branch_targets.Label b) = one_site (branches form uses.Branch14 (branch_targets.ResolvedOffset m) (branch_targets.Label b)) _ (λ w. omega arith)
near_compact form (branch_targets.ResolvedOffset m) (branch_targets.ResolvedOffset n) = no_sites (branches form uses.Branch14 (branch_targets.ResolvedOffset m) (branch_targets.ResolvedOffset n))

middle_compact : (form : Form) (taken not_taken : BranchTarget) → AreCompact (branches form uses.Branch19 taken not_taken)
middle_compact form (branch_targets.Label a) (branch_targets.Label b) = two_sites (branches form uses.Branch19 (branch_targets.Label a) (branch_targets.Label b)) _ _ (λ w. omega arith) (λ w. omega arith)
middle_compact form (branch_targets.Label a) (branch_targets.ResolvedOffset n) = one_site (branches form uses.Branch19 (branch_targets.Label a) (branch_targets.ResolvedOffset n)) _ (λ w. omega arith)
middle_compact form (branch_targets.ResolvedOffset m) (branch_targets.Label b) = one_site (branches form uses.Branch19 (branch_targets.ResolvedOffset m) (branch_targets.Label b)) _ (λ w. omega arith)
middle_compact form (branch_targets.ResolvedOffset m) (branch_targets.ResolvedOffset n) = no_sites (branches form uses.Branch19 (branch_targets.ResolvedOffset m) (branch_targets.ResolvedOffset n))

-- no entry of a table wants anything
table_compact : (flags : EmitFlags) (default : MachLabel) (targets : List MachLabel) (ridx rtmp1 rtmp2 : Reg) → AreCompact (table_jump flags default targets ridx rtmp1 rtmp2)
table_compact flags default targets ridx rtmp1 rtmp2 =
    subst (All (SiteIsCompact (table_jump flags default targets ridx rtmp1 rtmp2))) (sym (table_jump_sites flags default targets ridx rtmp1 rtmp2))
    (All-map (SiteIsCompact (table_jump flags default targets ridx rtmp1 rtmp2)) entry_site (table_labels default targets) (λ k d w want. absurd (false≢true want)))

-- a map that is kept changes nothing of what uses want
pub kept_compact : (kept : Option UserStackMap) (cells : List Cell) → AreCompact cells → AreCompact (keep kept cells)
kept_compact None cells h = h
kept_compact (Some kept) [] h = h
kept_compact (Some kept) (c ∷ cs) h = h

module _ (frame : FrameLayout) (flags : EmitFlags) where
  -- a label of a literal wants nothing; a constant's load is one word
  access_compact : (ty : IrType) (form : Form) (mem : AMode) (trap : Option TrapCode) → AreCompact (several (step_forms offset_register (final_steps frame ty mem)) (FormOf form) (mode_site mem) trap)
  access_compact ty form mem trap =
      subst (All (SiteIsCompact (several (step_forms offset_register (final_steps frame ty mem)) (FormOf form) (mode_site mem) trap))) (sym (several_sites (step_forms offset_register (final_steps frame ty mem)) (FormOf form) (mode_site mem) trap)) (go mem)
    where
      go : (mem : AMode) → All (SiteIsCompact (several (step_forms offset_register (final_steps frame ty mem)) (FormOf form) (mode_site mem) trap)) (cons_option (mode_site mem) [])
      go (modes.Label (PCRel offset)) = no_sites (several [] (FormOf form) None trap)
      go (modes.Label (Mach label)) = one_site (several [] (FormOf form) (mode_site (modes.Label (Mach label))) trap) _ (λ w. absurd (false≢true w))
      go (modes.Label (Pool constant)) = one_site (several [] (FormOf form) (mode_site (modes.Label (Pool constant))) trap) _ (λ w. omega arith)
      go (modes.Const constant) = one_site (several [] (FormOf form) (mode_site (modes.Const constant)) trap) _ (λ w. omega arith)
      go mem = no_sites (several (step_forms offset_register (final_steps frame ty mem)) (FormOf form) None trap)

  other_compact : (inst : Inst) → AreCompact (shape_cells (other_shape frame flags inst))
  other_compact (insts.Jump dest) = jump_compact (control.jump_form dest) dest
  other_compact (insts.CondBr taken not_taken kind) = middle_compact (control.cond_br_form taken kind) taken not_taken
  other_compact (insts.TestBitAndBranch kind taken not_taken rn bit) = near_compact (control.test_bit_and_branch_form kind taken rn bit) taken not_taken
  other_compact (insts.LabelAddress dst label) = one_site (shape_cells (other_shape frame flags (insts.LabelAddress dst label))) _ (λ w. absurd (false≢true w))
  other_compact (insts.TrapIf kind code) = one_site (shape_cells (other_shape frame flags (insts.TrapIf kind code))) _ (λ w. omega arith)
  other_compact (insts.JTSequence default targets ridx rtmp1 rtmp2) = table_compact flags default targets ridx rtmp1 rtmp2
  other_compact (insts.LoadAddr rd mem) = unused_compact (shape_cells (other_shape frame flags (insts.LoadAddr rd mem))) (address_sites rd (step_forms offset_register (final_steps frame I8 mem)) (final_mode frame I8 mem))
  other_compact (insts.AuthenticatedRet key is_hint) =
      unused_compact (shape_cells (other_shape frame flags (insts.AuthenticatedRet key is_hint))) (plain_sites (control.authenticated_ret_forms key is_hint))
  other_compact (insts.AtomicRMWLoop ty op trap addr operand oldval scratch1 scratch2) =
      unused_compact (rmw_loop_cells ty op trap) (loop_sites ty (operator_forms ty op) (stored_register op) trap)
  other_compact (insts.AtomicCASLoop ty trap addr expected replacement oldval scratch) =
      unused_compact (cas_loop_cells ty trap) (loop_sites ty (awaited_forms ty) new_register trap)
  other_compact (insts.Call info) = unused_compact (shape_cells (other_shape frame flags (insts.Call info))) (calls_sites frame flags (insts.Call info) refl)
  other_compact (insts.CallInd info) = unused_compact (shape_cells (other_shape frame flags (insts.CallInd info))) (calls_sites frame flags (insts.CallInd info) refl)
  other_compact (insts.ReturnCall info) = unused_compact (shape_cells (other_shape frame flags (insts.ReturnCall info))) (calls_sites frame flags (insts.ReturnCall info) refl)
  other_compact (insts.ReturnCallInd info) = unused_compact (shape_cells (other_shape frame flags (insts.ReturnCallInd info))) (calls_sites frame flags (insts.ReturnCallInd info) refl)
  other_compact _ = λ k d w. absurd (omega arith)

  pub inst_compact : (inst : Inst) → AreCompact (inst_cells frame flags inst)
  inst_compact inst = go (access_of inst) refl
    where
      go : (o : Option Access) → access_of inst ≡ o → AreCompact (inst_cells frame flags inst)
      go None e = subst (λ o. AreCompact (shape_cells (elim o [ None ↦ other_shape frame flags inst | Some access ↦ access_shape frame access ]))) (sym e) (other_compact inst)
      go (Some access) e =
          subst (λ o. AreCompact (shape_cells (elim o [ None ↦ other_shape frame flags inst | Some a ↦ access_shape frame a ]))) (sym e)
          (access_compact (access_type access.op) (access_form frame access) access.mem access.flags)
