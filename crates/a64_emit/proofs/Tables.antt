-- Tables that are put, one entry behind another.
use Rattle.std.proofs.Common.{ℕ, ◌≡◌, ◌+◌, ◌*◌, ◌<◌, List, [], ◌∷◌, ◌++◌, length, take, drop, map, Some, None, refl, sym, ap, ◌∙◌, subst, arith, slice_index_or}
use Rattle.std.proofs.lemmas.List.{take_more, take-append-drop, length-take-le}
use Rattle.a64_base.specs.declared.entity.MachLabel.{MachLabel}
use Rattle.a64_base.specs.declared.reg.Reg.{Reg}
use Rattle.a64_inst.specs.declared.emission.EmitFlags.{EmitFlags}
use Rattle.a64_buffer.specs.Buffer.{Buffer}
use Rattle.a64_rows.specs.Forms.{form_word}
use Rattle.a64_label_use.specs.declared.label_use.LabelUse.{LabelUse}
use Rattle.a64_cells.specs.Shapes.{Cell, entry_site, table_labels, table_cells, table_forms, table_jump}
use Rattle.a64_emit.specs.Emission.{appended, IsAppendedInPart, CanPut}
use Rattle.a64_cells.specs.Words.{put_cell, as_put}
use Rattle.a64_emit.proofs.Behind.{words_put}
use Rattle.a64_emit.proofs.Joined.{joined, part_first, part_second, can_first, can_second}
use Rattle.a64_emit.proofs.Lasts.{silent}

-- ---- entries

-- an entry that stands so many bytes behind the first
abbrev pub entry : ℕ → MachLabel → Cell
entry distance label = put_cell distance (Some (entry_site label)) None

table_append : (k : ℕ) (xs ys : List MachLabel) → table_cells k (xs ++ ys) ≡ table_cells k xs ++ table_cells (k + length xs) ys
table_append k [] ys = ap (λ n. table_cells n ys) (omega arith)
table_append k (x ∷ xs) ys =
    let there : k + 1 + length xs ≡ k + length (x ∷ xs) = omega arith in
    ap (λ cells. entry (4 * k) x ∷ cells) (table_append (k + 1) xs ys)
    ∙ ap (λ n. entry (4 * k) x ∷ (table_cells (k + 1) xs ++ table_cells n ys)) there

pub table_length : (k : ℕ) (xs : List MachLabel) → length (table_cells k xs) ≡ length xs
table_length k [] = refl
table_length k (x ∷ xs) = let rest = table_length (k + 1) xs in omega (arith, rest)

-- the last entry is that of the default
pub with_default : (default : MachLabel) (targets : List MachLabel) → table_cells 0 (table_labels default targets) ≡ table_cells 0 targets ++ entry (4 * length targets) default ∷ []
with_default default targets =
    let there : 0 + length targets ≡ length targets = omega arith in
    table_append 0 targets (default ∷ []) ∙ ap (λ n. table_cells 0 targets ++ table_cells n (default ∷ [])) there

-- nothing changes where they are put
pub table_put : (k : ℕ) (xs : List MachLabel) → map as_put (table_cells k xs) ≡ table_cells k xs
table_put k [] = refl
table_put k (x ∷ xs) = ap (λ cells. entry (4 * k) x ∷ cells) (table_put (k + 1) xs)

-- a jump through a table, with the table behind it
pub table_split : (flags : EmitFlags) (default : MachLabel) (targets : List MachLabel) (ridx rtmp1 rtmp2 : Reg) (words : List ℕ) → words ≡ map form_word (table_forms flags (length targets) ridx rtmp1 rtmp2)
    → map as_put (table_jump flags default targets ridx rtmp1 rtmp2) ≡ silent words ++ table_cells 0 (table_labels default targets)
table_split flags default targets ridx rtmp1 rtmp2 words e =
    words_put words (table_forms flags (length targets) ridx rtmp1 rtmp2) (table_cells 0 (table_labels default targets)) e
    ∙ ap (λ cells. silent words ++ cells) (table_put 0 (table_labels default targets))

-- ---- an entry behind those before it

module _ (b : Buffer LabelUse) (xs : List MachLabel) (i : ℕ) (d : MachLabel) (h : i < length xs) where
  abbrev pub label : MachLabel
  label = slice_index_or xs i d

  abbrev pub before : List Cell
  before = table_cells 0 (take i xs)

  abbrev pub rest : List Cell
  rest = table_cells (i + 1) (drop (i + 1) xs)

  one_more : table_cells 0 (take (i + 1) xs) ≡ before ++ entry (4 * i) label ∷ []
  one_more =
      let there : 0 + length (take i xs) ≡ i = omega (arith, length-take-le i xs (omega (arith, h))) in
      ap (table_cells 0) (take_more xs i d h)
      ∙ table_append 0 (take i xs) (label ∷ [])
      ∙ ap (λ n. before ++ table_cells n (label ∷ [])) there

  whole : table_cells 0 xs ≡ (before ++ entry (4 * i) label ∷ []) ++ rest
  whole =
      let there : 0 + length (take (i + 1) xs) ≡ i + 1 = omega (arith, length-take-le (i + 1) xs (omega (arith, h))) in
      ap (table_cells 0) (sym (take-append-drop (i + 1) xs))
      ∙ table_append 0 (take (i + 1) xs) (drop (i + 1) xs)
      ∙ ap (λ n. table_cells 0 (take (i + 1) xs) ++ table_cells n (drop (i + 1) xs)) there
      ∙ ap (λ cells. cells ++ rest) one_more

  module _ (b1 : Buffer LabelUse) (e : b1 ≡ appended b before) where
    pub can_entry : CanPut b (table_cells 0 xs) → CanPut b1 (entry (4 * i) label ∷ [])
    can_entry can =
        can_second b before (entry (4 * i) label ∷ []) b1 e (can_first b (before ++ entry (4 * i) label ∷ []) rest (subst (CanPut b) whole can))

    pub entry_put : (b2 : Buffer LabelUse) → b2 ≡ appended b1 (entry (4 * i) label ∷ []) → b2 ≡ appended b (table_cells 0 (take (i + 1) xs))
    entry_put b2 f = joined b before (entry (4 * i) label ∷ []) b1 b2 e f ∙ ap (appended b) (sym one_more)

    pub entry_begun : (b2 : Buffer LabelUse) → IsAppendedInPart b1 b2 (entry (4 * i) label ∷ []) → IsAppendedInPart b b2 (table_cells 0 xs)
    entry_begun b2 p =
        subst (IsAppendedInPart b b2) (sym whole)
        (part_first b (before ++ entry (4 * i) label ∷ []) rest b2 (part_second b before (entry (4 * i) label ∷ []) b1 b2 e p))
