-- Cells by the words that are put for them.
use Rattle.std.proofs.Common.{ℕ, ◌≡◌, ◌+◌, ◌*◌, suc, zero, List, [], ◌∷◌, ◌++◌, length, take, map, Option, None, Some, refl, sym, ap, ◌∙◌, subst, arith, nat_cmp}
use Rattle.std.specs.Prelude.{IfSome}
use Rattle.std.specs.FinMap.{FinMap}
use Rattle.std.specs.List.{cons_option, filter_map}
use Rattle.std.proofs.lemmas.List.{length-map}
use Rattle.a64_base.specs.declared.target.BranchTarget.{BranchTarget}
use Rattle.a64_base.specs.declared.target.BranchTarget.TheVariants as branch_targets
use Rattle.a64_buffer.specs.declared.site.Use.{Use}
use Rattle.a64_buffer.specs.Buffer.{Buffer, end_of}
use Rattle.a64_buffer.specs.Classes as classes
use Rattle.a64_rows.specs.Forms.{form_word}
use Rattle.a64_label_use.specs.declared.label_use.LabelUse.{LabelUse}
use Rattle.a64_label_use.specs.LabelUses.{label_kinds}
use Rattle.a64_cells.specs.Shapes.{Cell, Shape, OneWord, Several, Words, branch_site}
use Rattle.a64_cells.specs.Cells.{cell_word, shape_cells, only_word, other_cells}
use Rattle.a64_emit.specs.Layout.{placed, reloc_at, call_at, patchable_at, map_at, trap_at, records_in, more_records}
use Rattle.a64_emit.specs.Emission.{use_at, uses_from, appended, Parts, part_records, IsAppendedInPart, HasRoom, CellsFit, CanPut}
use Rattle.a64_cells.specs.Words.{MayBePut, put_cell, as_put}
use Rattle.a64_cells.proofs.Shapes.{no_word}
use Rattle.a64_emit.proofs.Holding.{same_holding, same_records}

-- ---- nothing that emission makes of cells depends on their rows

put_words : (cells : List Cell) → map cell_word (map as_put cells) ≡ map cell_word cells
put_words [] = refl
put_words (c ∷ cs) = ap (λ ws. cell_word c ∷ ws) (put_words cs)

put_uses : (labels : FinMap nat_cmp ℕ) (place : ℕ) (cells : List Cell) → uses_from labels place (map as_put cells) ≡ uses_from labels place cells
put_uses labels place [] = refl
put_uses labels place (c ∷ cs) = ap (λ us. use_at labels place c.site ++ us) (put_uses labels (place + 4) cs)

put_take : (k : ℕ) (cells : List Cell) → take k (map as_put cells) ≡ map as_put (take k cells)
put_take zero cells = refl
put_take (suc k) [] = refl
put_take (suc k) (c ∷ cs) = ap (λ zs. as_put c ∷ zs) (put_take k cs)

-- what is found in cells at their places, as long as that is by their marks
module _ {X : Type 0} (found : ℕ × Cell → Option X) (by_marks : (place : ℕ) (c : Cell) → found (place, as_put c) ≡ found (place, c)) where
  put_found : (place : ℕ) (cells : List Cell) → filter_map found (placed place (map as_put cells)) ≡ filter_map found (placed place cells)
  put_found place [] = refl
  put_found place (c ∷ cs) =
      ap (λ o. cons_option o (filter_map found (placed (place + 4) (map as_put cs)))) (by_marks place c)
      ∙ ap (λ xs. cons_option (found (place, c)) xs) (put_found (place + 4) cs)

  -- of a first part of them
  put_found_in : (place k : ℕ) (cells : List Cell) → filter_map found (placed place (take k (map as_put cells))) ≡ filter_map found (placed place (take k cells))
  put_found_in place k cells = ap (λ zs. filter_map found (placed place zs)) (put_take k cells) ∙ put_found place (take k cells)

put_records : (place : ℕ) (cells : List Cell) → records_in (placed place (map as_put cells)) ≡ records_in (placed place cells)
put_records place cells =
    same_records _ _ _ _ _ _ _ _
    (put_found reloc_at (λ p c. refl) place cells) (put_found call_at (λ p c. refl) place cells)
    (put_found patchable_at (λ p c. refl) place cells) (put_found map_at (λ p c. refl) place cells)

-- a part of what is put is that of the cells
abbrev put_parts : (cells : List Cell) → Parts (map as_put cells) → Parts cells
put_parts cells p = record {
  count = p.count;
  used = p.used;
  last = p.last;
  marked = p.marked;
  next = p.next;
  related = p.related;
  next_related = p.next_related;
  called = p.called;
  called_few = p.called_few;
  patched = p.patched;
  patched_few = p.patched_few;
  mapped = p.mapped;
  mapped_few = p.mapped_few;
}

put_part_records : (place : ℕ) (cells : List Cell) (p : Parts (map as_put cells)) → part_records place (map as_put cells) p ≡ part_records place cells (put_parts cells p)
put_part_records place cells p =
    same_records _ _ _ _ _ _ _ _
    (put_found_in reloc_at (λ q c. refl) place p.related cells) (put_found_in call_at (λ q c. refl) place p.called cells)
    (put_found_in patchable_at (λ q c. refl) place p.patched cells) (put_found_in map_at (λ q c. refl) place p.mapped cells)

module _ (b : Buffer LabelUse) (cells : List Cell) where
  pub put_appended : appended b (map as_put cells) ≡ appended b cells
  put_appended =
      same_holding b _ _ _ _ _ _ _ _
      (ap (λ ws. b.words ++ ws) (put_words cells)) (ap (λ us. b.uses ++ us) (put_uses b.labels (end_of b) cells))
      (ap (λ ts. b.traps ++ ts) (put_found trap_at (λ p c. refl) (end_of b) cells)) (ap (more_records b.records) (put_records (end_of b) cells))

  pub put_part : (b' : Buffer LabelUse) → IsAppendedInPart b b' (map as_put cells) → IsAppendedInPart b b' cells
  put_part b' p = record {
    part = put_parts cells p.part;
    words = p.words ∙ ap (λ zs. b.words ++ map cell_word zs) (put_take p.part.count cells) ∙ ap (λ ws. b.words ++ ws) (put_words (take p.part.count cells));
    uses = p.uses ∙ ap (λ zs. b.uses ++ uses_from b.labels (end_of b) zs) (put_take p.part.used cells) ∙ ap (λ us. b.uses ++ us) (put_uses b.labels (end_of b) (take p.part.used cells));
    traps = p.traps ∙ ap (λ ts. b.traps ++ ts) (put_found_in trap_at (λ q c. refl) (end_of b) p.part.marked cells);
    records = p.records ∙ ap (more_records b.records) (put_part_records (end_of b) cells p.part);
    labels = p.labels;
    constants = p.constants;
    islands = p.islands;
  }

  put_room : HasRoom b cells → HasRoom b (map as_put cells)
  put_room h = omega (arith, h, length-map cells as_put)

  put_fits : CellsFit b cells → CellsFit b (map as_put cells)
  put_fits h =
      subst (λ n. classes.HasRoom label_kinds (end_of b) (b.uses ++ uses_from b.labels (end_of b) (map as_put cells)) (4 * n)) (sym (length-map cells as_put))
      (subst (λ (us : List (Use LabelUse)). classes.HasRoom label_kinds (end_of b) (b.uses ++ us) (4 * length cells)) (sym (put_uses b.labels (end_of b) cells)) h)

  pub can_as_put : CanPut b cells → CanPut b (map as_put cells)
  can_as_put can = record { room = put_room can.room; fits = put_fits can.fits }

-- ---- the word of a branch

pub branch_puttable : (constants : FinMap nat_cmp (List ℕ)) (kind : LabelUse) (dest : BranchTarget) → IfSome (branch_site kind dest) (MayBePut constants)
branch_puttable constants kind (branch_targets.Label label) = tt
branch_puttable constants kind (branch_targets.ResolvedOffset offset) = tt

-- ---- one word without a use, and the words of others

pub word_put : (shape : Shape) (word : ℕ) → Some word ≡ only_word shape → put_cell word None None ∷ [] ≡ map as_put (shape_cells shape)
word_put (OneWord form) word e = let is : word ≡ form_word form = cc in ap (λ w. put_cell w None None ∷ []) is
word_put (Several forms body site trap) word e = absurd cc
word_put (Words cells) word e = absurd cc

pub other_put : (shape : Shape) → None ≡ only_word shape → map as_put (other_cells shape) ≡ map as_put (shape_cells shape)
other_put shape e = ap (map as_put) (no_word shape e)
