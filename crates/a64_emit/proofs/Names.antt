-- The cells of loads of names, by the words that are put for them.
use Rattle.std.proofs.Common.{ℕ, ℤ, pos, ◌≡◌, false, List, [], ◌∷◌, ◌++◌, map, sym, ap, ◌∙◌}
use Rattle.a64_base.specs.declared.entity.ExternalName.{ExternalName}
use Rattle.a64_base.specs.declared.entity.Reloc.{Reloc}
use Rattle.a64_base.specs.declared.entity.Reloc.TheVariants.{Abs8, Aarch64AdrGotPage21, Aarch64Ld64GotLo12Nc, Aarch64AdrPrelPgHi21, Aarch64AddAbsLo12Nc}
use Rattle.a64_base.specs.declared.reg.Reg.{Reg}
use Rattle.a64_base.specs.declared.size.OperandSize.TheVariants.{Size64}
use Rattle.a64_base.specs.declared.target.BranchTarget.TheVariants.{ResolvedOffset}
use Rattle.a64_ops.specs.declared.access.AccessOp.TheVariants.{ULoad64}
use Rattle.a64_ops.specs.declared.operator.ALUOp.TheVariants.{Add}
use Rattle.a64_rows.specs.Forms.{form_word}
use Rattle.a64_cells.specs.Shapes.{Data, Cell, data_cell, reloc_cell, got_cells, near_cells, far_cells}
use Rattle.a64_cells.specs.ControlForms.{jump_form}
use Rattle.a64_cells.specs.IntegerForms.{adrp_form, alu_rr_imm12_form}
use Rattle.a64_cells.specs.MemoryForms.{unsigned_form, literal_form}
use Rattle.a64_cells.specs.Words.{as_put}
use Rattle.a64_emit.proofs.Lasts.{silent}

-- two words, at each of which a relocation for one symbol is recorded
abbrev pub two_relocs : ℕ → Reloc → ℕ → Reloc → ExternalName → ℤ → List Cell
two_relocs first kind second other name addend = reloc_cell (Data first) kind name addend ∷ reloc_cell (Data second) other name addend ∷ []

two_words : (first first' second second' : ℕ) (kind other : Reloc) (name : ExternalName) (addend : ℤ) → first ≡ first' → second ≡ second'
    → two_relocs first' kind second' other name addend ≡ two_relocs first kind second other name addend
two_words first first' second second' kind other name addend e f =
    ap (λ w. two_relocs w kind second' other name addend) (sym e) ∙ ap (λ w. two_relocs first kind w other name addend) (sym f)

module _ (rd : Reg) (name : ExternalName) where
  pub got_put : (page entry : ℕ) → page ≡ form_word (adrp_form rd (pos 0)) → entry ≡ form_word (unsigned_form ULoad64 rd rd 0)
      → map as_put (got_cells rd name) ≡ two_relocs page Aarch64AdrGotPage21 entry Aarch64Ld64GotLo12Nc name (pos 0)
  got_put page entry e f = two_words page (form_word (adrp_form rd (pos 0))) entry (form_word (unsigned_form ULoad64 rd rd 0)) Aarch64AdrGotPage21 Aarch64Ld64GotLo12Nc name (pos 0) e f

  module _ (offset : ℤ) where
    pub near_put : (page place : ℕ) → page ≡ form_word (adrp_form rd (pos 0)) → place ≡ form_word (alu_rr_imm12_form Add Size64 rd rd (record { bits = 0; shift12 = false }))
        → map as_put (near_cells rd name offset) ≡ two_relocs page Aarch64AdrPrelPgHi21 place Aarch64AddAbsLo12Nc name offset
    near_put page place e f =
        two_words page (form_word (adrp_form rd (pos 0))) place (form_word (alu_rr_imm12_form Add Size64 rd rd (record { bits = 0; shift12 = false }))) Aarch64AdrPrelPgHi21 Aarch64AddAbsLo12Nc name offset e f

    pub far_put : (words : List ℕ) → words ≡ form_word (literal_form ULoad64 rd 2) ∷ form_word (jump_form (ResolvedOffset (pos 12))) ∷ []
        → map as_put (far_cells rd name offset) ≡ silent words ++ reloc_cell (Data 0) Abs8 name offset ∷ data_cell 0 ∷ []
    far_put words e = ap (λ ws. silent ws ++ reloc_cell (Data 0) Abs8 name offset ∷ data_cell 0 ∷ []) (sym e)
