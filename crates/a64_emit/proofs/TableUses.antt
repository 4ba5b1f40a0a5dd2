-- The words of a jump through a table, and their uses.
use Rattle.std.proofs.Common.{ℕ, pos, ◌≡◌, ◌+◌, Bool, true, false, List, [], ◌∷◌, ◌++◌, length, map, Some, refl, ap, ◌∙◌, arith}
use Rattle.std.specs.Prelude.{◌&&◌, if◌then◌else◌}
use Rattle.std.proofs.lemmas.List.{length-append, length-map}
use Rattle.a64_base.specs.declared.entity.MachLabel.{MachLabel}
use Rattle.a64_base.specs.declared.cond.Cond.TheVariants.{Lo}
use Rattle.a64_base.specs.declared.reg.Reg.{Reg}
use Rattle.a64_base.specs.declared.size.OperandSize.TheVariants.{Size64}
use Rattle.a64_ops.specs.declared.access.AccessOp.TheVariants.{SLoad32}
use Rattle.a64_ops.specs.declared.operator.ALUOp.TheVariants.{Add}
use Rattle.a64_plan.specs.Plans.{plan_of}
use Rattle.a64_inst.specs.declared.emission.EmitFlags.{EmitFlags}
use Rattle.a64_rows.specs.Forms.{Form}
use Rattle.a64_cells.specs.Shapes.{Cell, plain, table_labels, entry_site, table_cells, barrier_forms, table_forms, table_jump}
use Rattle.a64_cells.specs.Cells.{use_of, uses_of, sites_of, table_uses}
use Rattle.a64_cells.specs.ControlForms.{csdb_form, indirect_br_form}
use Rattle.a64_cells.specs.IntegerForms.{adr_form, alu_rrr_form, csel_form}
use Rattle.a64_cells.specs.MemoryForms.{step_forms, step_form, indexed_form}
use Rattle.a64_emit.proofs.Tables.{table_length}

-- ---- how many words there are

module _ (flags : EmitFlags) (n : ℕ) (ridx rtmp1 rtmp2 : Reg) where
  -- a barrier is one of them
  barrier_length : length (barrier_forms flags) ≡ (if flags.enable_table_access_spectre_mitigation && flags.use_csdb then 1 else 0)
  barrier_length = go (flags.enable_table_access_spectre_mitigation && flags.use_csdb)
    where
      go : (both : Bool) → length (if both then csdb_form ∷ [] else []) ≡ (if both then 1 else 0)
      go true = refl
      go false = refl

  pub table_forms_length : length (table_forms flags n ridx rtmp1 rtmp2) ≡ length (plan_of n) + 5 + (if flags.enable_table_access_spectre_mitigation && flags.use_csdb then 1 else 0)
  table_forms_length =
      let choice : List Form = csel_form rtmp2 ridx rtmp2 Lo ∷ barrier_forms flags in
      let jump : List Form = adr_form rtmp1 (pos 16) ∷ indexed_form SLoad32 rtmp2 rtmp1 rtmp2 2 1 ∷ alu_rrr_form Add Size64 rtmp1 rtmp1 rtmp2 ∷ indirect_br_form rtmp1 ∷ [] in
      let before : List Form = step_forms rtmp2 (plan_of n) ++ choice in
      let all : length (table_forms flags n ridx rtmp1 rtmp2) ≡ length before + length jump = length-append before jump in
      let most : length before ≡ length (step_forms rtmp2 (plan_of n)) + length choice = length-append (step_forms rtmp2 (plan_of n)) choice in
      omega (arith, all, most, length-map (plan_of n) (step_form rtmp2), barrier_length)

-- those of the jump, and one for each target and the default
pub table_jump_length : (flags : EmitFlags) (default : MachLabel) (targets : List MachLabel) (ridx rtmp1 rtmp2 : Reg) → length (table_jump flags default targets ridx rtmp1 rtmp2) ≡ length (table_forms flags (length targets) ridx rtmp1 rtmp2) + length targets + 1
table_jump_length flags default targets ridx rtmp1 rtmp2 =
    let forms = table_forms flags (length targets) ridx rtmp1 rtmp2 in
    omega (arith, length-append (map plain forms) (table_cells 0 (table_labels default targets)), length-map forms plain, table_length 0 (table_labels default targets), length-append targets (default ∷ []))

-- ---- which of them are uses

-- behind words that are none
behind_plain : (n : ℕ) (forms : List Form) (cells : List Cell) → uses_of n (map plain forms ++ cells) ≡ uses_of (n + length forms) cells
behind_plain n [] cells = ap (λ k. uses_of k cells) (omega arith)
behind_plain n (f ∷ forms) cells = behind_plain (n + 1) forms cells ∙ ap (λ k. uses_of k cells) (omega arith)

entry_uses : (n k : ℕ) (labels : List MachLabel) → uses_of n (table_cells k labels) ≡ table_uses n labels
entry_uses n k [] = refl
entry_uses n k (label ∷ labels) = ap (λ us. use_of n (Some (entry_site label)) ++ us) (entry_uses (n + 1) (k + 1) labels)

-- the entries of the table are
pub table_jump_uses : (flags : EmitFlags) (default : MachLabel) (targets : List MachLabel) (ridx rtmp1 rtmp2 : Reg) → uses_of 0 (table_jump flags default targets ridx rtmp1 rtmp2) ≡ table_uses (length (table_forms flags (length targets) ridx rtmp1 rtmp2)) (table_labels default targets)
table_jump_uses flags default targets ridx rtmp1 rtmp2 =
    let forms = table_forms flags (length targets) ridx rtmp1 rtmp2 in
    behind_plain 0 forms (table_cells 0 (table_labels default targets))
    ∙ ap (λ k. uses_of k (table_cells 0 (table_labels default targets))) (omega arith)
    ∙ entry_uses (length forms) 0 (table_labels default targets)

-- the sites of the entries
table_sites : (k : ℕ) (labels : List MachLabel) → sites_of (table_cells k labels) ≡ map entry_site labels
table_sites k [] = refl
table_sites k (label ∷ labels) = ap (λ ss. entry_site label ∷ ss) (table_sites (k + 1) labels)

pub behind_none : (forms : List Form) (cells : List Cell) → sites_of (map plain forms ++ cells) ≡ sites_of cells
behind_none [] cells = refl
behind_none (f ∷ forms) cells = behind_none forms cells

pub table_jump_sites : (flags : EmitFlags) (default : MachLabel) (targets : List MachLabel) (ridx rtmp1 rtmp2 : Reg) → sites_of (table_jump flags default targets ridx rtmp1 rtmp2) ≡ map entry_site (table_labels default targets)
table_jump_sites flags default targets ridx rtmp1 rtmp2 =
    behind_none (table_forms flags (length targets) ridx rtmp1 rtmp2) (table_cells 0 (table_labels default targets)) ∙ table_sites 0 (table_labels default targets)
