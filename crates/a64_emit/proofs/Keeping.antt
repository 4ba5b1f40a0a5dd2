-- Words at which a map of the stack is kept: only what is recorded of maps is another.
use Rattle.std.proofs.Common.{ℕ, ◌≡◌, ◌+◌, ◌*◌, ◌^◌, ◌<◌, List, [], ◌∷◌, ◌++◌, length, map, Option, None, Some, refl, sym, ap, subst, nat_cmp}
use Rattle.std.specs.FinMap.{FinMap}
use Rattle.a64_base.specs.declared.entity.UserStackMap.{UserStackMap}
use Rattle.a64_buffer.specs.declared.site.Use.{Use}
use Rattle.a64_buffer.specs.Buffer.{Buffer, end_of}
use Rattle.a64_buffer.specs.Classes as classes
use Rattle.a64_label_use.specs.declared.label_use.LabelUse.{LabelUse}
use Rattle.a64_label_use.specs.LabelUses.{label_kinds}
use Rattle.a64_emit.specs.Bounds.{ranges_in, size_of, charge_of}
use Rattle.a64_cells.specs.Shapes.{Cell}
use Rattle.a64_cells.specs.Cells.{cell_word, sites_of, uses_of, keep}
use Rattle.a64_emit.specs.Layout.{placed, relocs_in, calls_in, patchable_in, traps_in}
use Rattle.a64_emit.specs.Emission.{uses_from, HasRoom, CellsFit, CanPut}
use Rattle.a64_cells.specs.Words.{as_put}

-- ---- how many words there are

pub keep_length : (kept : Option UserStackMap) (cells : List Cell) → length (keep kept cells) ≡ length cells
keep_length None cells = refl
keep_length (Some m) [] = refl
keep_length (Some m) (c ∷ cs) = refl

pub keep_size : (kept : Option UserStackMap) (cells : List Cell) → size_of (keep kept cells) ≡ size_of cells
keep_size kept cells = ap (λ n. 4 * n) (keep_length kept cells)

-- ---- which words

pub keep_words : (kept : Option UserStackMap) (cells : List Cell) → map cell_word (keep kept cells) ≡ map cell_word cells
keep_words None cells = refl
keep_words (Some m) [] = refl
keep_words (Some m) (c ∷ cs) = refl

-- the words that are put are the same too
pub keep_put : (kept : Option UserStackMap) (cells : List Cell) → map as_put (keep kept cells) ≡ keep kept (map as_put cells)
keep_put None cells = refl
keep_put (Some m) [] = refl
keep_put (Some m) (c ∷ cs) = refl

-- ---- their uses

pub keep_sites : (kept : Option UserStackMap) (cells : List Cell) → sites_of (keep kept cells) ≡ sites_of cells
keep_sites None cells = refl
keep_sites (Some m) [] = refl
keep_sites (Some m) (c ∷ cs) = refl

pub keep_uses : (kept : Option UserStackMap) (n : ℕ) (cells : List Cell) → uses_of n (keep kept cells) ≡ uses_of n cells
keep_uses None n cells = refl
keep_uses (Some m) n [] = refl
keep_uses (Some m) n (c ∷ cs) = refl

pub keep_uses_from : (kept : Option UserStackMap) (labels : FinMap nat_cmp ℕ) (place : ℕ) (cells : List Cell) → uses_from labels place (keep kept cells) ≡ uses_from labels place cells
keep_uses_from None labels place cells = refl
keep_uses_from (Some m) labels place [] = refl
keep_uses_from (Some m) labels place (c ∷ cs) = refl

pub keep_ranges : (kept : Option UserStackMap) (cells : List Cell) → ranges_in (keep kept cells) ≡ ranges_in cells
keep_ranges None cells = refl
keep_ranges (Some m) [] = refl
keep_ranges (Some m) (c ∷ cs) = refl

pub keep_charge : (kept : Option UserStackMap) (cells : List Cell) → charge_of (keep kept cells) ≡ charge_of cells
keep_charge None cells = refl
keep_charge (Some m) [] = refl
keep_charge (Some m) (c ∷ cs) = refl

-- ---- what is recorded

pub keep_traps : (kept : Option UserStackMap) (place : ℕ) (cells : List Cell) → traps_in (placed place (keep kept cells)) ≡ traps_in (placed place cells)
keep_traps None place cells = refl
keep_traps (Some m) place [] = refl
keep_traps (Some m) place (c ∷ cs) = refl

pub keep_relocs : (kept : Option UserStackMap) (place : ℕ) (cells : List Cell) → relocs_in (placed place (keep kept cells)) ≡ relocs_in (placed place cells)
keep_relocs None place cells = refl
keep_relocs (Some m) place [] = refl
keep_relocs (Some m) place (c ∷ cs) = refl

pub keep_calls : (kept : Option UserStackMap) (place : ℕ) (cells : List Cell) → calls_in (placed place (keep kept cells)) ≡ calls_in (placed place cells)
keep_calls None place cells = refl
keep_calls (Some m) place [] = refl
keep_calls (Some m) place (c ∷ cs) = refl

pub keep_patchable : (kept : Option UserStackMap) (place : ℕ) (cells : List Cell) → patchable_in (placed place (keep kept cells)) ≡ patchable_in (placed place cells)
keep_patchable None place cells = refl
keep_patchable (Some m) place [] = refl
keep_patchable (Some m) place (c ∷ cs) = refl

-- ---- room

module _ (b : Buffer LabelUse) (kept : Option UserStackMap) (cells : List Cell) where
  keep_room : HasRoom b cells → HasRoom b (keep kept cells)
  keep_room h = subst (λ n. end_of b + 4 * n < 2 ^ 31) (sym (keep_length kept cells)) h

  keep_fits : CellsFit b cells → CellsFit b (keep kept cells)
  keep_fits h =
      subst (λ n. classes.HasRoom label_kinds (end_of b) (b.uses ++ uses_from b.labels (end_of b) (keep kept cells)) (4 * n)) (sym (keep_length kept cells))
      (subst (λ (us : List (Use LabelUse)). classes.HasRoom label_kinds (end_of b) (b.uses ++ us) (4 * length cells)) (sym (keep_uses_from kept b.labels (end_of b) cells)) h)

  pub keep_can : CanPut b cells → CanPut b (keep kept cells)
  keep_can can = record { room = keep_room can.room; fits = keep_fits can.fits }
