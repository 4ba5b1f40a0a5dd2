-- One record more at the end of a buffer.
use Rattle.std.proofs.Common.{ℕ, ◌≡◌, List, [], ◌∷◌, ◌++◌, sym, ◌∙◌, ap, subst}
use Rattle.a64_buffer.specs.Kinds.{Kinds, IsLawful}
use Rattle.a64_buffer.specs.Buffer.{Records, Buffer, end_of}
use Rattle.a64_buffer.specs.ByPlace.{AreByPlace, AreRecordedByPlace}
use Rattle.a64_buffer.specs.Later.{HasMoreRecords, IsLater}
use Rattle.a64_buffer.specs.Sound.{IsWhole}
use Rattle.a64_buffer.proofs.ByPlace.{placed_next}
use Rattle.a64_buffer.proofs.Laters.{one_reloc, one_call, one_patchable, one_map, later_beside}
use Rattle.a64_buffer.proofs.Sounds.{whole_records}

-- items are one of the lists of a buffer's records: what the records are with other items in their
-- place, and with one item more
pub record IsListOf {K A : Type 0} (b : Buffer K) (place_of : A → ℕ) (items : List A) (with_items : List A → Records) : Type 0 where
  pub placed : AreByPlace place_of 0 (end_of b) items
  pub recorded : (xs : List A) → AreByPlace place_of 0 (end_of b) xs → AreRecordedByPlace (end_of b) b.traps (with_items xs)
  pub more : (x : A) → HasMoreRecords b.records (with_items (items ++ x ∷ []))

module _ {K : Type 0} {r : Kinds K} {b : Buffer K} (whole : IsWhole r b) where
  pub relocs_of : IsListOf b (λ r. r.0) b.records.relocs (λ is. record b.records { relocs = is })
  relocs_of = record {
    placed = whole.recorded.relocs;
    recorded = λ xs p. record { traps = whole.recorded.traps; relocs = p; calls = whole.recorded.calls; patchable = whole.recorded.patchable; maps = whole.recorded.maps };
    more = one_reloc b.records;
  }

  pub calls_of : IsListOf b (λ place. place) b.records.calls (λ is. record b.records { calls = is })
  calls_of = record {
    placed = whole.recorded.calls;
    recorded = λ xs p. record { traps = whole.recorded.traps; relocs = whole.recorded.relocs; calls = p; patchable = whole.recorded.patchable; maps = whole.recorded.maps };
    more = one_call b.records;
  }

  pub patchable_of : IsListOf b (λ c. c.0) b.records.patchable (λ is. record b.records { patchable = is })
  patchable_of = record {
    placed = whole.recorded.patchable;
    recorded = λ xs p. record { traps = whole.recorded.traps; relocs = whole.recorded.relocs; calls = whole.recorded.calls; patchable = p; maps = whole.recorded.maps };
    more = one_patchable b.records;
  }

  pub maps_of : IsListOf b (λ m. m.0) b.records.maps (λ is. record b.records { maps = is })
  maps_of = record {
    placed = whole.recorded.maps;
    recorded = λ xs p. record { traps = whole.recorded.traps; relocs = whole.recorded.relocs; calls = whole.recorded.calls; patchable = whole.recorded.patchable; maps = p };
    more = one_map b.records;
  }

  -- an item was pushed whose place is the end
  module _ (law : IsLawful r) {A : Type 0} {place_of : A → ℕ} {items : List A} {with_items : List A → Records} (list : IsListOf b place_of items with_items) (item : ℕ → A) (at_place : place_of (item (end_of b)) ≡ end_of b) {place : ℕ} {items' : List A} (pushed : items' ≡ items ++ item place ∷ []) (at_end : place ≡ end_of b) where
    one_more : items' ≡ items ++ item (end_of b) ∷ []
    one_more = pushed ∙ ap (λ n. items ++ item n ∷ []) at_end

    pub whole_record : IsWhole r (record b { records = with_items items' })
    whole_record = whole_records r law b whole (with_items items') (list.recorded items'
        (subst (AreByPlace place_of 0 (end_of b)) (sym one_more) (placed_next (end_of b) items (item (end_of b)) at_place list.placed)))

    pub record_later : IsLater b (record b { records = with_items items' })
    record_later = subst (λ is. IsLater b (record b { records = with_items is })) (sym one_more)
        (later_beside b b.islands (with_items (items ++ item (end_of b) ∷ [])) (list.more (item (end_of b))))
