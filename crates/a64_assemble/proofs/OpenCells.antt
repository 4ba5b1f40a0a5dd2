-- The uses of instructions' words are of fields that their rows have.
use Rattle.std.proofs.Common.{ℕ, pos, ◌≡◌, ◌⊎◌, ◌+◌, ◌*◌, suc, zero, List, [], ◌∷◌, ◌++◌, length, map, Option, None, Some, refl, sym, subst, arith, inl, inr}
use Rattle.std.specs.Prelude.{All}
use Rattle.std.specs.List.{cons_option}
use Rattle.a64_base.specs.declared.cond.CondBrKind.{CondBrKind}
use Rattle.a64_base.specs.declared.cond.CondBrKind.TheVariants.{Zero, NotZero, Cond}
use Rattle.a64_base.specs.declared.cond.TestBitAndBranchKind.{TestBitAndBranchKind}
use Rattle.a64_base.specs.declared.entity.MachLabel.{MachLabel}
use Rattle.a64_base.specs.declared.entity.TrapCode.{TrapCode}
use Rattle.a64_base.specs.declared.entity.UserStackMap.{UserStackMap}
use Rattle.a64_base.specs.declared.ir_type.IrType.{IrType}
use Rattle.a64_base.specs.declared.ir_type.IrType.TheVariants.{I8}
use Rattle.a64_base.specs.declared.reg.Reg.{Reg}
use Rattle.a64_base.specs.declared.target.BranchTarget.{BranchTarget}
use Rattle.a64_base.specs.declared.target.BranchTarget.TheVariants as branch_targets
use Rattle.a64_ops.specs.declared.access.AccessOp.{AccessOp}
use Rattle.a64_inst.specs.declared.access.Access.{Access}
use Rattle.a64_inst.specs.declared.emission.EmitFlags.{EmitFlags}
use Rattle.a64_inst.specs.declared.frame.FrameLayout.{FrameLayout}
use Rattle.a64_inst.specs.declared.inst.Inst.{Inst}
use Rattle.a64_inst.specs.declared.inst.Inst.TheVariants as insts
use Rattle.a64_inst.specs.declared.item.Item.{Item}
use Rattle.a64_inst.specs.declared.item.Item.TheVariants.{Bind, Emit}
use Rattle.a64_inst.specs.declared.mode.AMode.{AMode}
use Rattle.a64_inst.specs.declared.mode.AMode.TheVariants as modes
use Rattle.a64_inst.specs.declared.mode.MemLabel.TheVariants.{PCRel, Mach, Pool}
use Rattle.a64_inst.specs.Accesses.{access_of, access_type}
use Rattle.a64_inst.specs.FinalModes.{final_mode, final_steps}
use Rattle.a64_rows.specs.Forms.{Form}
use Rattle.a64_label_use.specs.declared.label_use.LabelUse.{LabelUse}
use Rattle.a64_label_use.specs.declared.label_use.LabelUse.TheVariants as uses
use Rattle.a64_cells.specs.declared.site.Site.{Site}
use Rattle.a64_label_use.specs.LabelUses.{mask_for}
use Rattle.a64_cells.specs.IntegerForms.{adr_form}
use Rattle.a64_cells.specs.ControlForms.{authenticated_ret_forms, jump_form, cond_br_form, trap_if_form, test_bit_and_branch_form, label_address_form}
use Rattle.a64_cells.specs.LoopForms.{awaited_forms, new_register, operator_forms, stored_register}
use Rattle.a64_cells.specs.MemoryForms.{step_forms, offset_register, literal_form, held_form, access_steps, access_form}
use Rattle.a64_cells.specs.Shapes.{Body, FormOf, Data, Cell, plain, branch, trap_site, last_cell, several, entry_site, table_labels, table_cells, table_forms, table_jump}
use Rattle.a64_cells.specs.Cells.{mode_site, shape_cells, access_shape, other_shape, inst_cells, kept_by, keep, cells_of, sites_of}
use Rattle.a64_emit.proofs.CallSites.{calls_sites}
use Rattle.a64_cells.proofs.Loops.{loop_sites}
use Rattle.a64_cells.proofs.Several.{plain_sites, address_sites}
use Rattle.a64_assemble.proofs.ReadingBack.{IsOpenTo, IsOpenUse, IsOpenCell, open_branch26, open_branch_cond, open_compare_branch, open_test_branch, open_adr, open_ld_literal}

-- ---- cells without a use, and single ones

no_use : (body : Body) → IsOpenUse body None
no_use (FormOf form) = tt
no_use (Data word) = tt

first_unused : (c : Cell) (rest : List Site) (site : Option Site) → c.site ≡ site → cons_option site rest ≡ [] → IsOpenCell c × (rest ≡ [])
first_unused c rest None e none = (subst (IsOpenUse c.body) (sym e) (no_use c.body), none)
first_unused c rest (Some site) e none = absurd cc

unused : (cells : List Cell) → sites_of cells ≡ [] → All IsOpenCell cells
unused [] none k d h = absurd (omega arith)
unused (c ∷ cs) none zero d h = (first_unused c (sites_of cs) c.site refl none).0
unused (c ∷ cs) none (suc k) d h = unused cs (first_unused c (sites_of cs) c.site refl none).1 k d (omega arith)

one_more : (c : Cell) (cs : List Cell) → IsOpenCell c → All IsOpenCell cs → All IsOpenCell (c ∷ cs)
one_more c cs one others zero d h = one
one_more c cs one others (suc k) d h = others k d (omega arith)

only_cell : (c : Cell) → IsOpenCell c → All IsOpenCell (c ∷ [])
only_cell c one = one_more c [] one (λ k d h. absurd (omega arith))

several_cells : (forms : List Form) (body : Body) (site : Option Site) (trap : Option TrapCode) → IsOpenUse body site → All IsOpenCell (several forms body site trap)
several_cells [] body site trap last k d h = only_cell (last_cell body site trap) last k d h
several_cells (f ∷ forms) body site trap last zero d h = tt
several_cells (f ∷ forms) body site trap last (suc k) d h = several_cells forms body site trap last k d (omega arith)

-- ---- tables

plain_open : (forms : List Form) (cells : List Cell) → All IsOpenCell cells → All IsOpenCell (map plain forms ++ cells)
plain_open [] cells all = all
plain_open (f ∷ forms) cells all = one_more (plain f) (map plain forms ++ cells) tt (plain_open forms cells all)

entries_open : (k : ℕ) (labels : List MachLabel) → All IsOpenCell (table_cells k labels)
entries_open k [] = λ j d h. absurd (omega arith)
entries_open k (label ∷ labels) = one_more (last_cell (Data (4 * k)) (Some (entry_site label)) None) (table_cells (k + 1) labels) tt (entries_open (k + 1) labels)

-- the words before a table are no uses, and its entries are data
table_open : (flags : EmitFlags) (default : MachLabel) (targets : List MachLabel) (ridx rtmp1 rtmp2 : Reg) → All IsOpenCell (table_jump flags default targets ridx rtmp1 rtmp2)
table_open flags default targets ridx rtmp1 rtmp2 = plain_open (table_forms flags (length targets) ridx rtmp1 rtmp2) (table_cells 0 (table_labels default targets)) (entries_open 0 (table_labels default targets))

-- ---- branches, and addresses of labels

branch_open : (form : Form) (kind : LabelUse) (dest : BranchTarget) → IsOpenTo form.row (mask_for kind) → IsOpenCell (branch form kind dest)
branch_open form kind (branch_targets.Label label) may = may
branch_open form kind (branch_targets.ResolvedOffset offset) may = tt

jump_open : (dest : BranchTarget) → IsOpenTo (jump_form dest).row (mask_for uses.Branch26)
unfolding jump_form
jump_open dest = open_branch26

cond_br_open : (taken : BranchTarget) (kind : CondBrKind) → IsOpenTo (cond_br_form taken kind).row (mask_for uses.Branch19)
unfolding cond_br_form
cond_br_open taken (Zero reg size) = open_compare_branch
cond_br_open taken (NotZero reg size) = open_compare_branch
cond_br_open taken (Cond cond) = open_branch_cond

trap_if_open : (kind : CondBrKind) → IsOpenTo (trap_if_form kind).row (mask_for uses.Branch19)
unfolding trap_if_form
trap_if_open kind = cond_br_open (branch_targets.ResolvedOffset (pos 0)) kind

test_open : (kind : TestBitAndBranchKind) (taken : BranchTarget) (rn : Reg) (bit : ℕ) → IsOpenTo (test_bit_and_branch_form kind taken rn bit).row (mask_for uses.Branch14)
unfolding test_bit_and_branch_form
test_open kind taken rn bit = open_test_branch

address_open : (dst : Reg) → IsOpenTo (label_address_form dst).row (mask_for uses.Adr21)
unfolding label_address_form adr_form
address_open dst = open_adr

-- a branch where it is taken, and a jump where it is not
branches_open : (form : Form) (kind : LabelUse) (taken not_taken : BranchTarget) → IsOpenTo form.row (mask_for kind) → All IsOpenCell (branch form kind taken ∷ branch (jump_form not_taken) uses.Branch26 not_taken ∷ [])
branches_open form kind taken not_taken may =
    one_more (branch form kind taken) (branch (jump_form not_taken) uses.Branch26 not_taken ∷ []) (branch_open form kind taken may)
    (only_cell (branch (jump_form not_taken) uses.Branch26 not_taken) (branch_open (jump_form not_taken) uses.Branch26 not_taken (jump_open not_taken)))

-- ---- loads of literals

literal_open : (op : AccessOp) (rt : Reg) (words : ℕ) → IsOpenTo (literal_form op rt words).row (mask_for uses.Ldr19)
unfolding literal_form
literal_open op rt words = open_ld_literal

mode_open : (op : AccessOp) (rt : Reg) (frame : FrameLayout) (ty : IrType) (mem : AMode) → IsOpenUse (FormOf (held_form op rt (final_mode frame ty mem))) (mode_site mem)
mode_open op rt frame ty (modes.Label (PCRel offset)) = tt
mode_open op rt frame ty (modes.Label (Mach label)) = literal_open op rt 0
mode_open op rt frame ty (modes.Label (Pool addr)) = literal_open op rt 0
mode_open op rt frame ty (modes.Const addr) = literal_open op rt 0
mode_open op rt frame ty _ = tt

-- ---- instructions

-- a map that is kept at words leaves their uses
kept_open : (kept : Option UserStackMap) (cells : List Cell) → All IsOpenCell cells → All IsOpenCell (keep kept cells)
kept_open None cells all k d h = all k d h
kept_open (Some kept) [] all k d h = absurd (omega arith)
kept_open (Some kept) (c ∷ cs) all zero d h = all 0 c (omega arith)
kept_open (Some kept) (c ∷ cs) all (suc k) d h = all (suc k) d (omega arith)

module _ (frame : FrameLayout) (flags : EmitFlags) where
  other_open : (inst : Inst) → (sites_of (shape_cells (other_shape frame flags inst)) ≡ []) ⊎ All IsOpenCell (shape_cells (other_shape frame flags inst))
  other_open (insts.Jump dest) = inr (only_cell (branch (jump_form dest) uses.Branch26 dest) (branch_open (jump_form dest) uses.Branch26 dest (jump_open dest)))
  other_open (insts.CondBr taken not_taken kind) = inr (branches_open (cond_br_form taken kind) uses.Branch19 taken not_taken (cond_br_open taken kind))
  other_open (insts.TestBitAndBranch kind taken not_taken rn bit) = inr (branches_open (test_bit_and_branch_form kind taken rn bit) uses.Branch14 taken not_taken (test_open kind taken rn bit))
  other_open (insts.TrapIf kind trap_code) = inr (only_cell (last_cell (FormOf (trap_if_form kind)) (Some (trap_site trap_code)) None) (trap_if_open kind))
  other_open (insts.LabelAddress dst label) =
      inr (only_cell (branch (label_address_form dst) uses.Adr21 (branch_targets.Label label)) (branch_open (label_address_form dst) uses.Adr21 (branch_targets.Label label) (address_open dst)))
  other_open (insts.JTSequence default targets ridx rtmp1 rtmp2) = inr (table_open flags default targets ridx rtmp1 rtmp2)
  other_open (insts.LoadAddr rd mem) = inl (address_sites rd (step_forms offset_register (final_steps frame I8 mem)) (final_mode frame I8 mem))
  other_open (insts.AuthenticatedRet key is_hint) = inl (plain_sites (authenticated_ret_forms key is_hint))
  other_open (insts.AtomicRMWLoop ty op trap addr operand oldval scratch1 scratch2) = inl (loop_sites ty (operator_forms ty op) (stored_register op) trap)
  other_open (insts.AtomicCASLoop ty trap addr expected replacement oldval scratch) = inl (loop_sites ty (awaited_forms ty) new_register trap)
  other_open (insts.Call info) = inl (calls_sites frame flags (insts.Call info) refl)
  other_open (insts.CallInd info) = inl (calls_sites frame flags (insts.CallInd info) refl)
  other_open (insts.ReturnCall info) = inl (calls_sites frame flags (insts.ReturnCall info) refl)
  other_open (insts.ReturnCallInd info) = inl (calls_sites frame flags (insts.ReturnCallInd info) refl)
  other_open _ = inl refl

  other_all : (inst : Inst) → All IsOpenCell (shape_cells (other_shape frame flags inst))
  other_all inst = elim (other_open inst) [
    | inl none ↦ unused (shape_cells (other_shape frame flags inst)) none
    | inr all ↦ all
  ]

  -- each use of an instruction's words is of a field that the word's row has
  pub inst_open : (inst : Inst) → All IsOpenCell (inst_cells frame flags inst)
  inst_open inst = go (access_of inst) refl
    where
      go : (o : Option Access) → access_of inst ≡ o → All IsOpenCell (inst_cells frame flags inst)
      go None e = subst (λ o. All IsOpenCell (shape_cells (elim o [ None ↦ other_shape frame flags inst | Some access ↦ access_shape frame access ]))) (sym e) (other_all inst)
      go (Some access) e =
          subst (λ o. All IsOpenCell (shape_cells (elim o [ None ↦ other_shape frame flags inst | Some a ↦ access_shape frame a ]))) (sym e)
          (several_cells (access_steps frame access) (FormOf (access_form frame access)) (mode_site access.mem) access.flags (mode_open access.op access.reg frame (access_type access.op) access.mem))

  pub item_open : (item : Item) → All IsOpenCell (cells_of frame flags item)
  item_open (Bind label) = λ k d h. absurd (omega arith)
  item_open (Emit inst kept) = kept_open (kept_by inst kept) (inst_cells frame flags inst) (inst_open inst)
