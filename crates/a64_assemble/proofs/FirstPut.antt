-- Items are put, one after another.
use Rattle.std.proofs.Common.{ℕ, ◌≡◌, ◌+◌, ◌-◌, ◌^◌, ◌<◌, List, [], ◌∷◌, ◌++◌, length, get_or, take, drop, None, sym, ap, ◌∙◌, subst, arith}
use Rattle.std.specs.FinMap.{empty}
use Rattle.std.proofs.lemmas.List.{take_all, drop-map, length-drop, length-map, get_or-map}
use Rattle.a64_inst.specs.declared.emission.EmitFlags.{EmitFlags}
use Rattle.a64_inst.specs.declared.frame.FrameLayout.{FrameLayout}
use Rattle.a64_inst.specs.declared.item.Item.{Item}
use Rattle.a64_buffer.specs.declared.force.ForceVeneers.{ForceVeneers}
use Rattle.a64_buffer.specs.Buffer.{Buffer, end_of, no_records}
use Rattle.a64_buffer.specs.Later.{IsLater}
use Rattle.a64_buffer.specs.Sound.{IsWhole}
use Rattle.a64_label_use.specs.declared.label_use.LabelUse.{LabelUse}
use Rattle.a64_label_use.specs.LabelUses.{label_kinds}
use Rattle.a64_emit.specs.Bounds.{whole}
use Rattle.a64_emit.specs.Faults.{second_binding}
use Rattle.a64_assemble.specs.Elements.{Element, Asking, element_of, elements_of, element_at}
use Rattle.a64_assemble.specs.Asks.{Moves, MayMove, NeedsNone}
use Rattle.a64_assemble.specs.Progress.{AreGood, AreQuiet}
use Rattle.a64_assemble.specs.Made.{HasPutFirst, HasPutAll}
use Rattle.a64_assemble.proofs.Compact.{all_compact}
use Rattle.a64_assemble.proofs.Distances.{distances_none, distances_step}
use Rattle.a64_assemble.proofs.Itemized.{once_same, whole_same}
use Rattle.a64_assemble.proofs.Moving.{move_later}
use Rattle.a64_assemble.proofs.Owners.{owned_none, owned_step}
use Rattle.a64_assemble.proofs.Progress.{put_none, put_step, next_may, next_quiet}
use Rattle.a64_assemble.proofs.Recording.{recorded_none, recorded_step}

-- ---- elements

module _ (force : ForceVeneers) (xs : List Element) (good : AreGood xs) where
  -- before the first
  pub first_none : (b : Buffer LabelUse) → IsWhole label_kinds b → b.words ≡ [] → b.uses ≡ [] → b.labels ≡ empty → b.islands ≡ [] → b.traps ≡ [] → b.records ≡ no_records → HasPutFirst force xs 0 [] b
  first_none b is_whole words uses labels islands traps records = record {
    whole = is_whole;
    put = put_none force xs good b words uses labels islands;
    distances = distances_none xs b words uses;
    owned = owned_none xs b uses;
    recorded = recorded_none xs b traps records;
  }

  module _ (k : ℕ) (places : List ℕ) (b b' : Buffer LabelUse) (within : k < length xs) (h : HasPutFirst force xs k places b) where
    -- what the next needs
    pub first_may : MayMove (element_at xs k) (drop (k + 1) xs) b
    first_may = next_may force xs good k places b within h.whole h.put

    -- and behind it, in quiet code
    pub first_quiet : AreQuiet force xs → NeedsNone force (element_at xs k) (drop (k + 1) xs) b
    first_quiet quiet = next_quiet force xs good k places b within h.put quiet

    first_later : Moves force (element_at xs k) (drop (k + 1) xs) b b' → IsLater b b'
    first_later p = move_later force (element_at xs k) (drop (k + 1) xs) b b' first_may p

    -- the constants stay
    pub first_constants : Moves force (element_at xs k) (drop (k + 1) xs) b b' → b'.constants ≡ b.constants
    first_constants p = (first_later p).constants

    -- one more
    pub first_step : IsWhole label_kinds b' → Moves force (element_at xs k) (drop (k + 1) xs) b b' → HasPutFirst force xs (k + 1) (places ++ end_of b ∷ []) b'
    first_step is_whole p =
        let count = h.put.laid.each_placed in
        let put = put_step force xs good k places b b' within h.whole h.put p in
        record {
          whole = is_whole;
          put = put;
          distances = distances_step xs force k places b b' within h.whole is_whole put count h.distances p;
          owned = owned_step force xs k places b b' count within (first_later p) p h.owned;
          recorded = recorded_step force xs k places b b' count within (first_later p) p h.recorded;
        }

  -- all
  pub first_all : (k : ℕ) (places : List ℕ) (b : Buffer LabelUse) → length xs ≡ k → HasPutFirst force xs k places b → HasPutAll force xs places b
  first_all k places b all h = subst (λ n. HasPutFirst force xs n places b) (sym all) h

-- ---- items

module _ (frame : FrameLayout) (flags : EmitFlags) (items : List Item) where
  pub are_good : second_binding items ≡ None → whole frame flags items < 2 ^ 31 → AreGood (elements_of frame flags items)
  are_good once short = record {
    compact = all_compact frame flags items;
    once = once_same frame flags items once;
    short = omega (arith, whole_same frame flags items, short);
  }

  pub count_same : length (elements_of frame flags items) ≡ length items
  count_same = length-map items (element_of frame flags)

  -- the element of an item, and those of the items behind it
  pub element_is : (k : ℕ) (x : Item) → k < length items → x ≡ get_or items k x → element_at (elements_of frame flags items) k ≡ element_of frame flags x
  element_is k x within is = get_or-map (element_of frame flags) items k x (Asking 0) within ∙ ap (element_of frame flags) (sym is)

  pub rest_is : (k : ℕ) → drop (k + 1) (elements_of frame flags items) ≡ elements_of frame flags (take (length items - (k + 1)) (drop (k + 1) items))
  rest_is k =
      drop-map (element_of frame flags) (k + 1) items
      ∙ ap (elements_of frame flags) (sym (take_all (length items - (k + 1)) (drop (k + 1) items) (omega (arith, length-drop (k + 1) items))))
