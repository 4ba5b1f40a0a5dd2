-- The word of a call, with what is recorded at it and behind it.
use Rattle.std.proofs.Common.{ℕ, ◌≡◌, ◌+◌, ◌*◌, inl, suc, zero, List, [], ◌∷◌, ◌++◌, length, take, map, Option, None, Some, refl, sym, ap, ◌∙◌, subst, arith, ◌<◌, ◌^◌}
use Rattle.std.specs.Prelude.{option_map}
use Rattle.std.specs.List.{cons_option}
use Rattle.std.proofs.lemmas.List.{append-nil, length-append, length-map}
use Rattle.a64_base.specs.declared.entity.UserStackMap.{UserStackMap}
use Rattle.a64_buffer.specs.Buffer.{Buffer, end_of}
use Rattle.a64_buffer.specs.Classes.{Fits}
use Rattle.a64_rows.specs.Forms.{form_word}
use Rattle.a64_cells.specs.declared.callee.Callee.{Callee}
use Rattle.a64_cells.specs.declared.callee.Callee.TheVariants.{Symbol, Address}
use Rattle.a64_label_use.specs.declared.label_use.LabelUse.{LabelUse}
use Rattle.a64_label_use.specs.LabelUses.{label_kinds}
use Rattle.a64_cells.specs.Shapes.{Data, Cell, plain}
use Rattle.a64_cells.specs.Cells.{call_marks, cell_word, pop_forms, call_form, call_cell, patchable_cells, return_form, return_cell, keep}
use Rattle.a64_emit.specs.Layout.{placed, relocs_in, calls_in, patchable_in, maps_in, traps_in}
use Rattle.a64_emit.specs.Emission.{uses_from, appended, linked, mapped, Parts, IsAppendedInPart, CanPut}
use Rattle.a64_cells.specs.Words.{as_put, put_cell, put_kept}
use Rattle.a64_cells.proofs.PutWords.{plain_put}
use Rattle.a64_emit.proofs.Fitting.{before_word}
use Rattle.a64_emit.proofs.Holding.{holding, same_holding, same_records, related_part}
use Rattle.a64_emit.proofs.Lasts.{silent, silent_take, silent_patchable}

-- ---- what is recorded at one word

mapped_is : (kept : Option UserStackMap) (b : Buffer LabelUse) → mapped kept b ≡ record b { records = record b.records { maps = b.records.maps ++ cons_option (option_map (λ m. (end_of b, m)) kept) [] } }
mapped_is None b = ap (λ ms. record b { records = record b.records { maps = ms } }) (sym (append-nil b.records.maps))
mapped_is (Some m) b = refl

linked_is : (word : ℕ) (callee : Callee) (kept : Option UserStackMap) (b : Buffer LabelUse) → linked callee b ≡ record b { records = record b.records { relocs = b.records.relocs ++ relocs_in (placed (end_of b) (put_kept word callee kept ∷ [])) } }
linked_is word (Symbol name) kept b = refl
linked_is word (Address reg) kept b = ap (λ rs. record b { records = record b.records { relocs = rs } }) (sym (append-nil b.records.relocs))

-- ---- first parts of one word

-- the word alone, and behind it a map or none
abbrev word_part : (cells : List Cell) → Parts cells
word_part cells = record {
  count = 1;
  used = 1;
  last = inl refl;
  marked = 1;
  next = inl refl;
  related = 1;
  next_related = inl refl;
  called = 0;
  called_few = omega arith;
  patched = 0;
  patched_few = omega arith;
  mapped = 0;
  mapped_few = omega arith;
}

abbrev mapped_part : (cells : List Cell) → Parts cells
mapped_part cells = record {
  count = 1;
  used = 1;
  last = inl refl;
  marked = 1;
  next = inl refl;
  related = 1;
  next_related = inl refl;
  called = 0;
  called_few = omega arith;
  patched = 0;
  patched_few = omega arith;
  mapped = 1;
  mapped_few = omega arith;
}

module _ (b : Buffer LabelUse) (word : ℕ) (callee : Callee) (kept : Option UserStackMap) where
  abbrev cells : List Cell
  cells = put_kept word callee kept ∷ []

  -- the symbol
  with_symbol : linked callee b ≡ holding b b.words b.uses b.traps (record b.records { relocs = b.records.relocs ++ relocs_in (placed (end_of b) cells) })
  with_symbol = linked_is word callee kept b

  module _ (b1 : Buffer LabelUse) (e1 : b1 ≡ linked callee b) where
    -- so there is room for the word still
    pub named_short : CanPut b cells → end_of b1 + 4 < 2 ^ 31
    named_short can = subst (λ (c : Buffer LabelUse). end_of c + 4 < 2 ^ 31) (sym (e1 ∙ with_symbol)) can.room

    pub named_fits : CanPut b cells → Fits label_kinds b1 4
    named_fits can = subst (λ (c : Buffer LabelUse). Fits label_kinds c 4) (sym (e1 ∙ with_symbol)) (before_word b (put_kept word callee kept) can.fits)

    -- nothing else
    pub call_named : (b' : Buffer LabelUse) → b' ≡ b1 → IsAppendedInPart b b' cells
    call_named b' e =
        let is = e ∙ e1 ∙ with_symbol in
        record {
          part = related_part cells;
          words = ap (λ (c : Buffer LabelUse). c.words) is ∙ sym (append-nil b.words);
          uses = ap (λ (c : Buffer LabelUse). c.uses) is ∙ sym (append-nil b.uses);
          traps = ap (λ (c : Buffer LabelUse). c.traps) is ∙ sym (append-nil b.traps);
          records = ap (λ (c : Buffer LabelUse). c.records) is ∙ same_records _ _ _ _ _ _ _ _ refl (sym (append-nil b.records.calls)) (sym (append-nil b.records.patchable)) (sym (append-nil b.records.maps));
          labels = ap (λ (c : Buffer LabelUse). c.labels) is;
          constants = ap (λ (c : Buffer LabelUse). c.constants) is;
          islands = ap (λ (c : Buffer LabelUse). c.islands) is;
        }

    module _ (b2 : Buffer LabelUse) (e2 : b2 ≡ record b1 { words = b1.words ++ word ∷ [] }) where
      abbrev worded : Buffer LabelUse
      worded = holding b (b.words ++ word ∷ []) b.uses b.traps (record b.records { relocs = b.records.relocs ++ relocs_in (placed (end_of b) cells) })

      with_word : b2 ≡ worded
      with_word = e2 ∙ ap (λ (c : Buffer LabelUse). record c { words = c.words ++ word ∷ [] }) (e1 ∙ with_symbol)

      end_word : end_of worded ≡ end_of b + 4
      end_word = omega (arith, length-append b.words (word ∷ []))

      -- the word
      pub call_worded : (b' : Buffer LabelUse) → b' ≡ b2 → IsAppendedInPart b b' cells
      call_worded b' e =
          let is = e ∙ with_word in
          record {
            part = word_part cells;
            words = ap (λ (c : Buffer LabelUse). c.words) is;
            uses = ap (λ (c : Buffer LabelUse). c.uses) is ∙ sym (append-nil b.uses);
            traps = ap (λ (c : Buffer LabelUse). c.traps) is ∙ sym (append-nil b.traps);
            records = ap (λ (c : Buffer LabelUse). c.records) is ∙ same_records _ _ _ _ _ _ _ _ refl (sym (append-nil b.records.calls)) (sym (append-nil b.records.patchable)) (sym (append-nil b.records.maps));
            labels = ap (λ (c : Buffer LabelUse). c.labels) is;
            constants = ap (λ (c : Buffer LabelUse). c.constants) is;
            islands = ap (λ (c : Buffer LabelUse). c.islands) is;
          }

      module _ (b3 : Buffer LabelUse) (e3 : b3 ≡ mapped kept b2) where
        abbrev with_maps : Buffer LabelUse
        with_maps = holding b (b.words ++ word ∷ []) b.uses b.traps (record b.records { relocs = b.records.relocs ++ relocs_in (placed (end_of b) cells); maps = b.records.maps ++ maps_in (placed (end_of b) cells) })

        with_map : b3 ≡ with_maps
        with_map =
            e3 ∙ ap (mapped kept) with_word ∙ mapped_is kept worded
            ∙ ap (λ n. record worded { records = record worded.records { maps = b.records.maps ++ cons_option (option_map (λ m. (n, m)) kept) [] } }) end_word

        -- and the map
        pub call_mapped : (b' : Buffer LabelUse) → b' ≡ b3 → IsAppendedInPart b b' cells
        call_mapped b' e =
            let is = e ∙ with_map in
            record {
              part = mapped_part cells;
              words = ap (λ (c : Buffer LabelUse). c.words) is;
              uses = ap (λ (c : Buffer LabelUse). c.uses) is ∙ sym (append-nil b.uses);
              traps = ap (λ (c : Buffer LabelUse). c.traps) is ∙ sym (append-nil b.traps);
              records = ap (λ (c : Buffer LabelUse). c.records) is ∙ same_records _ _ _ _ _ _ _ _ refl (sym (append-nil b.records.calls)) (sym (append-nil b.records.patchable)) refl;
              labels = ap (λ (c : Buffer LabelUse). c.labels) is;
              constants = ap (λ (c : Buffer LabelUse). c.constants) is;
              islands = ap (λ (c : Buffer LabelUse). c.islands) is;
            }

        -- and the call
        pub call_done : (b4 : Buffer LabelUse) → b4 ≡ record b3 { records = record b3.records { calls = b3.records.calls ++ end_of b3 ∷ [] } } → b4 ≡ appended b cells
        call_done b4 e =
            e ∙ ap (λ (c : Buffer LabelUse). record c { records = record c.records { calls = c.records.calls ++ end_of c ∷ [] } }) with_map
            ∙ same_holding b _ _ _ _ _ _ _ _ refl (sym (append-nil b.uses)) (sym (append-nil b.traps))
            (same_records _ _ _ _ _ _ _ _ refl (ap (λ n. b.records.calls ++ n ∷ []) end_word) (sym (append-nil b.records.patchable)) refl)

-- ---- the cells of calls as they are put

module _ (callee : Callee) (kept : Option UserStackMap) where
  -- the word of a call that may be changed later
  abbrev pub put_patchable : ℕ → ℕ → Cell
  put_patchable word len = record { body = Data word; site = None; marks = record (call_marks callee (Some len)) { map = kept } }

pub called_put : (callee : Callee) (kept : Option UserStackMap) (word : ℕ) (rest : List Cell) → word ≡ form_word (call_form callee) → map as_put (keep kept (call_cell callee None ∷ rest)) ≡ (put_kept word callee kept ∷ []) ++ map as_put rest
called_put callee None word rest is = ap (λ w. put_kept w callee None ∷ map as_put rest) (sym is)
called_put callee (Some m) word rest is = ap (λ w. put_kept w callee (Some m) ∷ map as_put rest) (sym is)

patchable_put : (callee : Callee) (kept : Option UserStackMap) (word len : ℕ) (rest : List Cell) → word ≡ form_word (call_form callee) → map as_put (keep kept (call_cell callee (Some len) ∷ rest)) ≡ put_patchable callee kept word len ∷ map as_put rest
patchable_put callee None word len rest is = ap (λ w. put_patchable callee None w len ∷ map as_put rest) (sym is)
patchable_put callee (Some m) word len rest is = ap (λ w. put_patchable callee (Some m) w len ∷ map as_put rest) (sym is)

-- where its other words are these
pub patchable_is : (callee : Callee) (kept : Option UserStackMap) (word pop : ℕ) (words : List ℕ) → word ≡ form_word (call_form callee) → words ≡ map form_word (pop_forms pop)
    → map as_put (keep kept (patchable_cells callee pop)) ≡ put_patchable callee kept word (4 * (length words + 1)) ∷ silent words
patchable_is callee kept word pop words e f =
    let many : length (pop_forms pop) ≡ length words = sym (ap length f ∙ length-map (pop_forms pop) form_word) in
    patchable_put callee kept word (4 * (length (pop_forms pop) + 1)) (map plain (pop_forms pop)) e
    ∙ ap (λ n. put_patchable callee kept word (4 * (n + 1)) ∷ map as_put (map plain (pop_forms pop))) many
    ∙ ap (λ cells. put_patchable callee kept word (4 * (length words + 1)) ∷ cells) (sym (plain_put (pop_forms pop)) ∙ ap silent (sym f))

pub returned_put : (callee : Callee) (word : ℕ) → word ≡ form_word (return_form callee) → map as_put (return_cell callee ∷ []) ≡ put_kept word callee None ∷ []
returned_put callee word is = ap (λ w. put_kept w callee None ∷ []) (sym is)

-- ---- a call that may be changed later

module _ (b : Buffer LabelUse) (word : ℕ) (callee : Callee) (kept : Option UserStackMap) (words : List ℕ) (len : ℕ) where
  abbrev called : List Cell
  called = put_kept word callee kept ∷ silent words

  abbrev all : List Cell
  all = put_patchable callee kept word len ∷ silent words

  -- it needs no more room than another
  pub can_called : CanPut b all → CanPut b called
  can_called can = record { room = can.room; fits = can.fits }

  -- it is recorded behind its words
  pub patchable_done : (b1 b2 : Buffer LabelUse) → len ≡ 4 * (length words + 1) → b1 ≡ appended b called → b2 ≡ record b1 { records = record b1.records { patchable = b1.records.patchable ++ (end_of b1, len) ∷ [] } } → b2 ≡ appended b all
  patchable_done b1 b2 is e f =
      let there : end_of (appended b called) ≡ end_of b + len = omega (arith, is, length-append b.words (map cell_word called), length-map called cell_word, length-map words (λ w. put_cell w None None)) in
      f ∙ ap (λ (c : Buffer LabelUse). record c { records = record c.records { patchable = c.records.patchable ++ (end_of c, len) ∷ [] } }) e
      ∙ same_holding b _ _ _ _ _ _ _ _ refl refl refl
      (same_records _ _ _ _ _ _ _ _ refl refl
      (ap (λ ps. (b.records.patchable ++ ps) ++ (end_of (appended b called), len) ∷ []) (silent_patchable (end_of b + 4) words)
      ∙ ap (λ ps. ps ++ (end_of (appended b called), len) ∷ []) (append-nil b.records.patchable)
      ∙ ap (λ n. b.records.patchable ++ (n, len) ∷ []) there
      ∙ ap (λ ps. b.records.patchable ++ (end_of b + len, len) ∷ ps) (sym (silent_patchable (end_of b + 4) words)))
      refl)

  -- as long as it is not, it counts as a call
  pub patchable_begun : (b' : Buffer LabelUse) → IsAppendedInPart b b' called → IsAppendedInPart b b' all
  patchable_begun b' p = record {
    part = record {
      count = p.part.count;
      used = p.part.used;
      last = p.part.last;
      marked = p.part.marked;
      next = p.part.next;
      related = p.part.related;
      next_related = p.part.next_related;
      called = p.part.called;
      called_few = p.part.called_few;
      patched = 0;
      patched_few = omega arith;
      mapped = p.part.mapped;
      mapped_few = p.part.mapped_few;
    };
    words = p.words ∙ ap (λ ws. b.words ++ ws) (same_words p.part.count);
    uses = p.uses ∙ ap (λ us. b.uses ++ us) (same_uses p.part.used);
    traps = p.traps ∙ ap (λ ts. b.traps ++ ts) (same_traps p.part.marked);
    records =
        p.records
        ∙ same_records _ _ _ _ _ _ _ _
        (ap (λ rs. b.records.relocs ++ rs) (same_relocs p.part.related)) (ap (λ cs. b.records.calls ++ cs) (same_calls p.part.called))
        (ap (λ ps. b.records.patchable ++ ps) (no_patchable p.part.patched)) (ap (λ ms. b.records.maps ++ ms) (same_maps p.part.mapped));
    labels = p.labels;
    constants = p.constants;
    islands = p.islands;
  }
    where
      same_words : (k : ℕ) → map cell_word (take k called) ≡ map cell_word (take k all)
      same_words zero = refl
      same_words (suc k) = refl

      same_uses : (k : ℕ) → uses_from b.labels (end_of b) (take k called) ≡ uses_from b.labels (end_of b) (take k all)
      same_uses zero = refl
      same_uses (suc k) = refl

      same_traps : (k : ℕ) → traps_in (placed (end_of b) (take k called)) ≡ traps_in (placed (end_of b) (take k all))
      same_traps zero = refl
      same_traps (suc k) = refl

      same_relocs : (k : ℕ) → relocs_in (placed (end_of b) (take k called)) ≡ relocs_in (placed (end_of b) (take k all))
      same_relocs zero = refl
      same_relocs (suc k) = refl

      same_calls : (k : ℕ) → calls_in (placed (end_of b) (take k called)) ≡ calls_in (placed (end_of b) (take k all))
      same_calls zero = refl
      same_calls (suc k) = refl

      same_maps : (k : ℕ) → maps_in (placed (end_of b) (take k called)) ≡ maps_in (placed (end_of b) (take k all))
      same_maps zero = refl
      same_maps (suc k) = refl

      no_patchable : (k : ℕ) → patchable_in (placed (end_of b) (take k called)) ≡ []
      no_patchable zero = refl
      no_patchable (suc k) = ap (λ cs. patchable_in (placed (end_of b + 4) cs)) (silent_take k words) ∙ silent_patchable (end_of b + 4) (take k words)
