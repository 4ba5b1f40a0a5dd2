-- Words that are put: some without uses, and one that may be a use and may trap.
use Rattle.std.proofs.Common.{ℕ, ℤ, ◌≡◌, ◌+◌, ◌*◌, ◌^◌, ◌<◌, ◌⊎◌, inl, inr, suc, zero, List, [], ◌∷◌, ◌++◌, length, take, map, Option, None, Some, refl, sym, ap, ◌∙◌, subst, arith, nat_cmp}
use Rattle.std.specs.FinMap.{FinMap}
use Rattle.std.proofs.lemmas.List.{append-nil, length-append, length-map}
use Rattle.a64_base.specs.declared.entity.ExternalName.{ExternalName}
use Rattle.a64_base.specs.declared.entity.Reloc.{Reloc}
use Rattle.a64_base.specs.declared.entity.TrapCode.{TrapCode}
use Rattle.a64_buffer.specs.declared.site.Target.{Target}
use Rattle.a64_buffer.specs.declared.site.Use.{Use}
use Rattle.a64_buffer.specs.Buffer.{Buffer, end_of, made_use, no_records}
use Rattle.a64_buffer.specs.Classes as classes
use Rattle.a64_buffer.specs.Classes.{Fits}
use Rattle.a64_label_use.specs.declared.label_use.LabelUse.{LabelUse}
use Rattle.a64_cells.specs.declared.site.Site.{Site}
use Rattle.a64_label_use.specs.LabelUses.{label_kinds}
use Rattle.a64_cells.specs.Shapes.{Data, Cell, reloc_cell}
use Rattle.a64_cells.specs.Cells.{cell_word}
use Rattle.a64_emit.specs.Layout.{placed, relocs_in, calls_in, patchable_in, maps_in, traps_in, records_in, more_records}
use Rattle.a64_emit.specs.Emission.{uses_from, appended, trapped, PutsInPart, IsAppendedInPart, HasRoom, CellsFit}
use Rattle.a64_cells.specs.Words.{put_cell}
use Rattle.a64_emit.proofs.Holding.{none_put, same_holding, same_records, no_more, whole_part, marked_part, unused_part, related_part}

-- ---- words without uses

-- words as they are put, that are no use and do not trap
abbrev pub silent : List ℕ → List Cell
silent words = map (λ word. put_cell word None None) words

silent_words : (words : List ℕ) → map cell_word (silent words) ≡ words
silent_words [] = refl
silent_words (w ∷ ws) = ap (λ vs. w ∷ vs) (silent_words ws)

silent_uses : (labels : FinMap nat_cmp ℕ) (place : ℕ) (words : List ℕ) → uses_from labels place (silent words) ≡ []
silent_uses labels place [] = refl
silent_uses labels place (w ∷ ws) = silent_uses labels (place + 4) ws

silent_traps : (place : ℕ) (words : List ℕ) → traps_in (placed place (silent words)) ≡ []
silent_traps place [] = refl
silent_traps place (w ∷ ws) = silent_traps (place + 4) ws

silent_relocs : (place : ℕ) (words : List ℕ) → relocs_in (placed place (silent words)) ≡ []
silent_relocs place [] = refl
silent_relocs place (w ∷ ws) = silent_relocs (place + 4) ws

silent_calls : (place : ℕ) (words : List ℕ) → calls_in (placed place (silent words)) ≡ []
silent_calls place [] = refl
silent_calls place (w ∷ ws) = silent_calls (place + 4) ws

pub silent_patchable : (place : ℕ) (words : List ℕ) → patchable_in (placed place (silent words)) ≡ []
silent_patchable place [] = refl
silent_patchable place (w ∷ ws) = silent_patchable (place + 4) ws

silent_maps : (place : ℕ) (words : List ℕ) → maps_in (placed place (silent words)) ≡ []
silent_maps place [] = refl
silent_maps place (w ∷ ws) = silent_maps (place + 4) ws

silent_records : (place : ℕ) (words : List ℕ) → records_in (placed place (silent words)) ≡ no_records
silent_records place words = same_records _ _ _ _ _ _ _ _ (silent_relocs place words) (silent_calls place words) (silent_patchable place words) (silent_maps place words)

pub silent_take : (k : ℕ) (words : List ℕ) → take k (silent words) ≡ silent (take k words)
silent_take zero words = refl
silent_take (suc k) [] = refl
silent_take (suc k) (w ∷ ws) = ap (λ cells. put_cell w None None ∷ cells) (silent_take k ws)

module _ (b b' : Buffer LabelUse) (words : List ℕ) where
  pub silent_appended : b' ≡ record b { words = b.words ++ words } → b' ≡ appended b (silent words)
  silent_appended e =
      e
      ∙ same_holding b _ _ _ _ _ _ _ _
      (ap (λ ws. b.words ++ ws) (sym (silent_words words)))
      (sym (ap (λ us. b.uses ++ us) (silent_uses b.labels (end_of b) words) ∙ append-nil b.uses))
      (sym (ap (λ ts. b.traps ++ ts) (silent_traps (end_of b) words) ∙ append-nil b.traps))
      (sym (ap (more_records b.records) (silent_records (end_of b) words) ∙ no_more b.records))

  pub silent_part : PutsInPart b b' words → IsAppendedInPart b b' (silent words)
  silent_part p = record {
    part = whole_part (silent words) p.count;
    words = ap (λ (c : Buffer LabelUse). c.words) p.is ∙ ap (λ ws. b.words ++ ws) (sym (silent_words (take p.count words)) ∙ ap (map cell_word) (sym (silent_take p.count words)));
    uses = ap (λ (c : Buffer LabelUse). c.uses) p.is ∙ sym (ap (λ cells. b.uses ++ uses_from b.labels (end_of b) cells) (silent_take p.count words) ∙ ap (λ us. b.uses ++ us) (silent_uses b.labels (end_of b) (take p.count words)) ∙ append-nil b.uses);
    traps = ap (λ (c : Buffer LabelUse). c.traps) p.is ∙ sym (ap (λ cells. b.traps ++ traps_in (placed (end_of b) cells)) (silent_take p.count words) ∙ ap (λ ts. b.traps ++ ts) (silent_traps (end_of b) (take p.count words)) ∙ append-nil b.traps);
    records =
        ap (λ (c : Buffer LabelUse). c.records) p.is
        ∙ sym (ap (λ cells. more_records b.records (records_in (placed (end_of b) cells))) (silent_take p.count words) ∙ ap (more_records b.records) (silent_records (end_of b) (take p.count words)) ∙ no_more b.records);
    labels = ap (λ (c : Buffer LabelUse). c.labels) p.is;
    constants = ap (λ (c : Buffer LabelUse). c.constants) p.is;
    islands = ap (λ (c : Buffer LabelUse). c.islands) p.is;
  }

pub silent_room : (b : Buffer LabelUse) (words : List ℕ) → HasRoom b (silent words) → end_of b + 4 * length words < 2 ^ 31
silent_room b words h = omega (arith, h, length-map words (λ word. put_cell word None None))

pub silent_fits : (b : Buffer LabelUse) (words : List ℕ) → CellsFit b (silent words) → Fits label_kinds b (4 * length words)
silent_fits b words h =
    subst (λ n. classes.HasRoom label_kinds (end_of b) b.uses (4 * n)) (length-map words (λ word. put_cell word None None))
    (subst (λ (us : List (Use LabelUse)). classes.HasRoom label_kinds (end_of b) us (4 * length (silent words))) (ap (λ us. b.uses ++ us) (silent_uses b.labels (end_of b) words) ∙ append-nil b.uses) h)

-- ---- one word

-- the traps at one word
abbrev pub trap_list : ℕ → Option TrapCode → List (ℕ × TrapCode)
trap_list place None = []
trap_list place (Some code) = (place, code) ∷ []

one_trap : (place word : ℕ) (site : Option Site) (trap : Option TrapCode) → traps_in (placed place (put_cell word site trap ∷ [])) ≡ trap_list place trap
one_trap place word site None = refl
one_trap place word site (Some code) = refl

trapped_is : (trap : Option TrapCode) (b : Buffer LabelUse) (place : ℕ) → trapped trap b place ≡ record b { traps = b.traps ++ trap_list place trap }
trapped_is None b place = ap (λ ts. record b { traps = ts }) (sym (append-nil b.traps))
trapped_is (Some code) b place = refl

module _ (b : Buffer LabelUse) (word : ℕ) (trap : Option TrapCode) where
  with_word_is : (site : Option Site) → trapped trap (record b { words = b.words ++ word ∷ [] }) (end_of b) ≡ record b { words = b.words ++ word ∷ []; traps = b.traps ++ traps_in (placed (end_of b) (put_cell word site trap ∷ [])) }
  with_word_is site =
      trapped_is trap (record b { words = b.words ++ word ∷ [] }) (end_of b)
      ∙ ap (λ ts. record b { words = b.words ++ word ∷ []; traps = b.traps ++ ts }) (sym (one_trap (end_of b) word site trap))

  -- that is the word as a cell without a use
  pub word_done : (b' : Buffer LabelUse) → b' ≡ trapped trap (record b { words = b.words ++ word ∷ [] }) (end_of b) → b' ≡ appended b (put_cell word None trap ∷ [])
  word_done b' e =
      e ∙ with_word_is None
      ∙ same_holding b _ _ _ _ _ _ _ _ refl (sym (append-nil b.uses)) refl (sym (no_more b.records))

  -- nothing was put, or the trap alone
  pub word_begun : (b' : Buffer LabelUse) (site : Option Site) → (b' ≡ b) ⊎ (b' ≡ trapped trap b (end_of b)) → IsAppendedInPart b b' (put_cell word site trap ∷ [])
  word_begun b' site (inl e) = none_put b b' (put_cell word site trap ∷ []) e
  word_begun b' site (inr e) =
      let is : b' ≡ record b { traps = b.traps ++ trap_list (end_of b) trap } = e ∙ trapped_is trap b (end_of b) in
      record {
        part = marked_part (put_cell word site trap ∷ []);
        words = ap (λ (c : Buffer LabelUse). c.words) is ∙ sym (append-nil b.words);
        uses = ap (λ (c : Buffer LabelUse). c.uses) is ∙ sym (append-nil b.uses);
        traps = ap (λ (c : Buffer LabelUse). c.traps) is ∙ ap (λ ts. b.traps ++ ts) (sym (one_trap (end_of b) word site trap));
        records = ap (λ (c : Buffer LabelUse). c.records) is ∙ sym (no_more b.records);
        labels = ap (λ (c : Buffer LabelUse). c.labels) is;
        constants = ap (λ (c : Buffer LabelUse). c.constants) is;
        islands = ap (λ (c : Buffer LabelUse). c.islands) is;
      }

  module _ (b1 b2 : Buffer LabelUse) (put : b1 ≡ trapped trap (record b { words = b.words ++ word ∷ [] }) (end_of b)) (site : Site) where
    there : b1 ≡ record b { words = b.words ++ word ∷ []; traps = b.traps ++ traps_in (placed (end_of b) (put_cell word (Some site) trap ∷ [])) }
    there = put ∙ with_word_is (Some site)

    -- the word stands, and its use is not made
    pub word_put : b2 ≡ b1 → IsAppendedInPart b b2 (put_cell word (Some site) trap ∷ [])
    word_put e =
        let is = e ∙ there in
        record {
          part = unused_part (put_cell word (Some site) trap ∷ []);
          words = ap (λ (c : Buffer LabelUse). c.words) is;
          uses = ap (λ (c : Buffer LabelUse). c.uses) is ∙ sym (append-nil b.uses);
          traps = ap (λ (c : Buffer LabelUse). c.traps) is;
          records = ap (λ (c : Buffer LabelUse). c.records) is ∙ sym (no_more b.records);
          labels = ap (λ (c : Buffer LabelUse). c.labels) is;
          constants = ap (λ (c : Buffer LabelUse). c.constants) is;
          islands = ap (λ (c : Buffer LabelUse). c.islands) is;
        }

    -- the constants are as they were
    pub same_constants : b1.constants ≡ b.constants
    same_constants = ap (λ (c : Buffer LabelUse). c.constants) there

    module _ (offset : ℕ) (target : Target) (at : offset ≡ end_of b) (of : site.target ≡ target) where
      same_use : made_use label_kinds b.labels offset target site.kind ≡ made_use label_kinds b.labels (end_of b) site.target site.kind
      same_use =
          ap (λ n. made_use label_kinds b.labels n target site.kind) at
          ∙ ap (λ (t : Target). made_use label_kinds b.labels (end_of b) t site.kind) (sym of)

      with_use : record b1 { uses = b1.uses ++ made_use label_kinds b1.labels offset target site.kind ∷ [] } ≡ appended b (put_cell word (Some site) trap ∷ [])
      with_use =
          ap (λ (c : Buffer LabelUse). record c { uses = c.uses ++ made_use label_kinds c.labels offset target site.kind ∷ [] }) there
          ∙ same_holding b _ _ _ _ _ _ _ _ refl (ap (λ u. b.uses ++ u ∷ []) same_use) refl (sym (no_more b.records))

      pub word_used : b2 ≡ record b1 { uses = b1.uses ++ made_use label_kinds b1.labels offset target site.kind ∷ [] } → b2 ≡ appended b (put_cell word (Some site) trap ∷ [])
      word_used e = e ∙ with_use

      -- there is room for the use
      pub use_fits : CellsFit b (put_cell word (Some site) trap ∷ []) → Fits label_kinds (record b1 { uses = b1.uses ++ made_use label_kinds b1.labels offset target site.kind ∷ [] }) 0
      use_fits h =
          subst (λ (c : Buffer LabelUse). Fits label_kinds c 0) (sym with_use)
          (record { rooms = λ k d w o. let y = h.rooms k d w o in omega (arith, y, length-append b.words (word ∷ [])) })

-- ---- one word at which a relocation is recorded

module _ (b : Buffer LabelUse) (word : ℕ) (kind : Reloc) (name : ExternalName) (addend : ℤ) where
  abbrev related : Buffer LabelUse
  related = record b { records = record b.records { relocs = b.records.relocs ++ (end_of b, kind, name, addend) ∷ [] } }

  -- it is all that is recorded at the word
  one_reloc : record b.records { relocs = b.records.relocs ++ (end_of b, kind, name, addend) ∷ [] } ≡ more_records b.records (records_in (placed (end_of b) (reloc_cell (Data word) kind name addend ∷ [])))
  one_reloc = same_records _ _ _ _ _ _ _ _ refl (sym (append-nil b.records.calls)) (sym (append-nil b.records.patchable)) (sym (append-nil b.records.maps))

  pub reloc_done : (b1 b2 : Buffer LabelUse) → b1 ≡ related → b2 ≡ record b1 { words = b1.words ++ word ∷ [] } → b2 ≡ appended b (reloc_cell (Data word) kind name addend ∷ [])
  reloc_done b1 b2 e f =
      f ∙ ap (λ (c : Buffer LabelUse). record c { words = c.words ++ word ∷ [] }) e
      ∙ same_holding b _ _ _ _ _ _ _ _ refl (sym (append-nil b.uses)) (sym (append-nil b.traps)) one_reloc

  -- the relocation was recorded, and the word not put
  pub reloc_begun : (b1 b2 : Buffer LabelUse) → b1 ≡ related → b2 ≡ b1 → IsAppendedInPart b b2 (reloc_cell (Data word) kind name addend ∷ [])
  reloc_begun b1 b2 e f =
      let is : b2 ≡ related = f ∙ e in
      record {
        part = related_part (reloc_cell (Data word) kind name addend ∷ []);
        words = ap (λ (c : Buffer LabelUse). c.words) is ∙ sym (append-nil b.words);
        uses = ap (λ (c : Buffer LabelUse). c.uses) is ∙ sym (append-nil b.uses);
        traps = ap (λ (c : Buffer LabelUse). c.traps) is ∙ sym (append-nil b.traps);
        records = ap (λ (c : Buffer LabelUse). c.records) is ∙ one_reloc;
        labels = ap (λ (c : Buffer LabelUse). c.labels) is;
        constants = ap (λ (c : Buffer LabelUse). c.constants) is;
        islands = ap (λ (c : Buffer LabelUse). c.islands) is;
      }
