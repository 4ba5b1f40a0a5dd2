-- Buffers by their words, uses, traps and other records.
use Rattle.std.proofs.Common.{ℕ, ℤ, ◌≡◌, inl, inr, List, [], ◌++◌, length, take, map, refl, sym, ap, ◌∙◌, append_assoc, arith}
use Rattle.std.proofs.Math.Seq.{take-length}
use Rattle.std.proofs.lemmas.List.{append-nil}
use Rattle.a64_base.specs.declared.entity.ExternalName.{ExternalName}
use Rattle.a64_base.specs.declared.entity.Reloc.{Reloc}
use Rattle.a64_base.specs.declared.entity.TrapCode.{TrapCode}
use Rattle.a64_base.specs.declared.entity.UserStackMap.{UserStackMap}
use Rattle.a64_buffer.specs.declared.site.Use.{Use}
use Rattle.a64_buffer.specs.Buffer.{Records, Buffer, end_of, no_records}
use Rattle.a64_label_use.specs.declared.label_use.LabelUse.{LabelUse}
use Rattle.a64_cells.specs.Shapes.{Cell}
use Rattle.a64_cells.specs.Cells.{cell_word}
use Rattle.a64_emit.specs.Layout.{placed, traps_in, records_in, more_records}
use Rattle.a64_emit.specs.Emission.{uses_from, appended, Parts, IsAppendedInPart}

-- ---- records

abbrev pub recorded : List (ℕ × Reloc × ExternalName × ℤ) → List ℕ → List (ℕ × ℕ) → List (ℕ × UserStackMap) → Records
recorded relocs calls patchable maps = record { relocs = relocs; calls = calls; patchable = patchable; maps = maps }

pub same_records : (relocs relocs' : List (ℕ × Reloc × ExternalName × ℤ)) (calls calls' : List ℕ) (patchable patchable' : List (ℕ × ℕ)) (maps maps' : List (ℕ × UserStackMap))
    → relocs ≡ relocs' → calls ≡ calls' → patchable ≡ patchable' → maps ≡ maps' → recorded relocs calls patchable maps ≡ recorded relocs' calls' patchable' maps'
same_records relocs relocs' calls calls' patchable patchable' maps maps' e f g h =
    ap (λ rs. recorded rs calls patchable maps) e
    ∙ ap (λ cs. recorded relocs' cs patchable maps) f
    ∙ ap (λ ps. recorded relocs' calls' ps maps) g
    ∙ ap (λ ms. recorded relocs' calls' patchable' ms) h

-- nothing more is recorded
pub no_more : (rs : Records) → more_records rs no_records ≡ rs
no_more rs = same_records _ _ _ _ _ _ _ _ (append-nil rs.relocs) (append-nil rs.calls) (append-nil rs.patchable) (append-nil rs.maps)

pub more_twice : (rs first second : Records) → more_records (more_records rs first) second ≡ more_records rs (more_records first second)
more_twice rs first second =
    same_records _ _ _ _ _ _ _ _
    (append_assoc rs.relocs first.relocs second.relocs) (append_assoc rs.calls first.calls second.calls)
    (append_assoc rs.patchable first.patchable second.patchable) (append_assoc rs.maps first.maps second.maps)

-- ---- buffers

-- a buffer with these in place of its own
abbrev pub holding : Buffer LabelUse → List ℕ → List (Use LabelUse) → List (ℕ × TrapCode) → Records → Buffer LabelUse
holding b words uses traps records = record b { words = words; uses = uses; traps = traps; records = records }

pub same_holding : (b : Buffer LabelUse) (words words' : List ℕ) (uses uses' : List (Use LabelUse)) (traps traps' : List (ℕ × TrapCode)) (records records' : Records)
    → words ≡ words' → uses ≡ uses' → traps ≡ traps' → records ≡ records' → holding b words uses traps records ≡ holding b words' uses' traps' records'
same_holding b words words' uses uses' traps traps' records records' e f g h =
    ap (λ ws. holding b ws uses traps records) e
    ∙ ap (λ us. holding b words' us traps records) f
    ∙ ap (λ ts. holding b words' uses' ts records) g
    ∙ ap (λ rs. holding b words' uses' traps' rs) h

-- ---- first parts of cells

-- so many words with their uses and traps, and all that is recorded at them and behind them
abbrev pub whole_part : (cells : List Cell) → ℕ → Parts cells
whole_part cells k = record {
  count = k;
  used = k;
  last = inl refl;
  marked = k;
  next = inl refl;
  related = k;
  next_related = inl refl;
  called = k;
  called_few = omega arith;
  patched = k;
  patched_few = omega arith;
  mapped = k;
  mapped_few = omega arith;
}

-- the first word without its use
abbrev pub unused_part : (cells : List Cell) → Parts cells
unused_part cells = record {
  count = 1;
  used = 0;
  last = inr refl;
  marked = 1;
  next = inl refl;
  related = 1;
  next_related = inl refl;
  called = 0;
  called_few = omega arith;
  patched = 0;
  patched_few = omega arith;
  mapped = 0;
  mapped_few = omega arith;
}

-- no word, but the trap at the first one
abbrev pub marked_part : (cells : List Cell) → Parts cells
marked_part cells = record {
  count = 0;
  used = 0;
  last = inl refl;
  marked = 1;
  next = inr refl;
  related = 0;
  next_related = inl refl;
  called = 0;
  called_few = omega arith;
  patched = 0;
  patched_few = omega arith;
  mapped = 0;
  mapped_few = omega arith;
}

-- no word, but the relocation at the first one
abbrev pub related_part : (cells : List Cell) → Parts cells
related_part cells = record {
  count = 0;
  used = 0;
  last = inl refl;
  marked = 0;
  next = inl refl;
  related = 1;
  next_related = inr refl;
  called = 0;
  called_few = omega arith;
  patched = 0;
  patched_few = omega arith;
  mapped = 0;
  mapped_few = omega arith;
}

-- nothing was put of some cells
pub none_put : (b b' : Buffer LabelUse) (cells : List Cell) → b' ≡ b → IsAppendedInPart b b' cells
none_put b b' cells e = record {
  part = whole_part cells 0;
  words = ap (λ (c : Buffer LabelUse). c.words) e ∙ sym (append-nil b.words);
  uses = ap (λ (c : Buffer LabelUse). c.uses) e ∙ sym (append-nil b.uses);
  traps = ap (λ (c : Buffer LabelUse). c.traps) e ∙ sym (append-nil b.traps);
  records = ap (λ (c : Buffer LabelUse). c.records) e ∙ sym (no_more b.records);
  labels = ap (λ (c : Buffer LabelUse). c.labels) e;
  constants = ap (λ (c : Buffer LabelUse). c.constants) e;
  islands = ap (λ (c : Buffer LabelUse). c.islands) e;
}

-- all of them was
pub all_put : (b b' : Buffer LabelUse) (cells : List Cell) → b' ≡ appended b cells → IsAppendedInPart b b' cells
all_put b b' cells e =
    let all : take (length cells) cells ≡ cells = take-length cells in
    record {
      part = whole_part cells (length cells);
      words = ap (λ (c : Buffer LabelUse). c.words) e ∙ ap (λ cs. b.words ++ map cell_word cs) (sym all);
      uses = ap (λ (c : Buffer LabelUse). c.uses) e ∙ ap (λ cs. b.uses ++ uses_from b.labels (end_of b) cs) (sym all);
      traps = ap (λ (c : Buffer LabelUse). c.traps) e ∙ ap (λ cs. b.traps ++ traps_in (placed (end_of b) cs)) (sym all);
      records = ap (λ (c : Buffer LabelUse). c.records) e ∙ ap (λ cs. more_records b.records (records_in (placed (end_of b) cs))) (sym all);
      labels = ap (λ (c : Buffer LabelUse). c.labels) e;
      constants = ap (λ (c : Buffer LabelUse). c.constants) e;
      islands = ap (λ (c : Buffer LabelUse). c.islands) e;
    }

-- and no cells are nothing
pub none_appended : (b : Buffer LabelUse) → b ≡ appended b []
none_appended b = same_holding b _ _ _ _ _ _ _ _ (sym (append-nil b.words)) (sym (append-nil b.uses)) (sym (append-nil b.traps)) (sym (no_more b.records))
