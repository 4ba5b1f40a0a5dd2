-- Items stand in finished code with islands between them.
use Rattle.std.proofs.Common.{ℕ, ◌≡◌, ◌≢◌, ◌⊎◌, ◌+◌, ◌<◌, pos, ◌+ℤ◌, Bool, true, List, [], ◌∷◌, ◌++◌, All, length, get_or, map, Option, None, Some, refl, sym, ap, ◌∙◌, subst, arith, inl, inr}
use Rattle.std.specs.Prelude.{Contains, IsSome, option_and_then, ◌↔◌}
use Rattle.std.specs.List.Sorted.{IsStrictlyIncreasing}
use Rattle.std.proofs.lemmas.Bool.{false≢true}
use Rattle.std.proofs.lemmas.List.{length-map, get_or-map, get_or_default}
use Rattle.std.proofs.lemmas.List.Elements.{All-same}
use Rattle.std.proofs.lemmas.Option.{same_Some, slice_get-get_or, slice_get_within}
use Rattle.a64_base.specs.declared.entity.MachLabel.{MachLabel}
use Rattle.a64_inst.specs.declared.emission.EmitFlags.{EmitFlags}
use Rattle.a64_inst.specs.declared.frame.FrameLayout.{FrameLayout}
use Rattle.a64_inst.specs.declared.item.Item.{Item}
use Rattle.a64_inst.specs.declared.item.Item.TheVariants.{Bind, Emit}
use Rattle.a64_buffer.specs.declared.finish.Finished.{Finished}
use Rattle.a64_buffer.specs.declared.force.ForceVeneers.{ForceVeneers}
use Rattle.a64_words.specs.Word.{outside, word_at}
use Rattle.a64_buffer.specs.Buffer.{Buffer, end_of}
use Rattle.a64_buffer.specs.Finished.{IsFinished}
use Rattle.a64_buffer.specs.Sound.{HasJump}
use Rattle.a64_buffer.proofs.Laters.{jump_stays}
use Rattle.a64_emit.specs.declared.code.Code.{Code}
use Rattle.a64_label_use.specs.declared.label_use.LabelUse.{LabelUse}
use Rattle.a64_label_use.specs.declared.label_use.LabelUse.TheVariants as uses
use Rattle.a64_label_use.specs.LabelUses.{label_kinds, mask_for, distance_in}
use Rattle.a64_cells.specs.Shapes.{Cell}
use Rattle.a64_cells.specs.Cells.{cells_of}
use Rattle.a64_emit.specs.Bounds.{asked}
use Rattle.a64_emit.specs.Falls.{inst_falls}
use Rattle.a64_emit.specs.Layout.{standing, Stands, IsBoundAt, IsIslandAfter, IsFollowed, StandsOnce, Laid, end_of_item}
use Rattle.a64_emit.specs.Leads.{JumpsTo}
use Rattle.a64_emit.specs.Emission.{IsPut}
use Rattle.a64_assemble.specs.Elements.{Element, Binding, Words, Asking, cells_in, hosts, falls_in, element_of, elements_of, element_at}
use Rattle.a64_assemble.specs.Stations.{IsIslandBehind, end_of_element}
use Rattle.a64_assemble.specs.Progress.{HasPut}
use Rattle.a64_assemble.proofs.Arrivals.{IsOutput, end_is, pool_is, cell_stands}
use Rattle.a64_assemble.proofs.Itemized.{binding_item, cell_lists, all_cells_are}
use Rattle.a64_assemble.proofs.Fronts.{falls_is}

-- behind an item an island may stand where it has words or asks for one
module _ (frame : FrameLayout) (flags : EmitFlags) where
  some_cells_are : (goes_on : Bool) (cells : List Cell) (x : Option ℕ) → hosts (elim x [ None ↦ Words goes_on cells | Some space ↦ Asking space ]) ≡ true → (cells ≢ []) ⊎ IsSome x
  some_cells_are goes_on cells (Some space) e = inr refl
  some_cells_are goes_on [] None e = absurd (false≢true e)
  some_cells_are goes_on (c ∷ cs) None e = inl (λ n. cc)

  may_host : (x : Item) → hosts (element_of frame flags x) ≡ true → (cells_of frame flags x ≢ []) ⊎ IsSome (asked x)
  may_host (Bind label) e = absurd (false≢true e)
  may_host (Emit inst kept) e = some_cells_are (inst_falls inst) (cells_of frame flags (Emit inst kept)) (asked (Emit inst kept)) e

module _ (frame : FrameLayout) (flags : EmitFlags) (items : List Item) (force : ForceVeneers) (b : Buffer LabelUse) (code : Finished) (f : IsFinished label_kinds b code) (out : Code) (o : IsOutput code out) (h : HasPut force (elements_of frame flags items) (length (elements_of frame flags items)) out.places.items b) where
  abbrev xs : List Element
  xs = elements_of frame flags items

  count_is : length xs ≡ length items
  count_is = length-map items (element_of frame flags)

  stations_are : out.places.items ++ out.pool ∷ [] ≡ out.places.items ++ end_of b ∷ []
  stations_are = ap (λ n. out.places.items ++ n ∷ []) (pool_is b code f out o)

  station_is : (i : ℕ) → get_or (out.places.items ++ out.pool ∷ []) i 0 ≡ get_or (out.places.items ++ end_of b ∷ []) i 0
  station_is i = ap (λ s. get_or s i 0) stations_are

  end_same : (i : ℕ) → i < length xs → end_of_element xs (out.places.items ++ end_of b ∷ []) i ≡ end_of_item frame flags items out i
  end_same i within =
      let cells : get_or (map (cells_of frame flags) items) i [] ≡ cells_in (element_at xs i) = ap (λ css. get_or css i []) (sym (cell_lists frame flags items)) ∙ get_or-map cells_in xs i (Asking 0) [] within in
      omega (arith, station_is i, ap length cells)

  -- the element behind which an island was asked for is the one behind which it stands
  asked_there : (i : ℕ) (island : ℕ × ℕ) → i < length xs → (c : Contains b.islands island) → IsIslandBehind xs (out.places.items ++ end_of b ∷ []) i island → (h.asked c.0 island c.1).after ≡ i
  asked_there i island within c s =
      let z = h.asked c.0 island c.1 in
      let one = h.laid.once c.0 island c.1 in
      one.once z.after z.within z.stands ∙ sym (one.once i within (subst (IsIslandBehind xs (out.places.items ++ end_of b ∷ []) i) (sym c.2) s))

  -- where execution goes on behind an element, the island there was asked for with a jump
  pub has_jump : (i : ℕ) (island : ℕ × ℕ) → i < length xs → Contains b.islands island → IsIslandBehind xs (out.places.items ++ end_of b ∷ []) i island → falls_in (element_at xs i) ≡ true → HasJump b.uses island
  has_jump i island within c s goes_on =
      let z = h.asked c.0 island c.1 in
      let falls : falls_in (element_at xs z.after) ≡ true = ap (λ k. falls_in (element_at xs k)) (asked_there i island within c s) ∙ goes_on in
      let (k, u, inside, is, front) = jump_stays z.written b (end_of z.moment, end_of z.written) z.since (z.has.front falls) in
      (k, u, inside, is, (front.0 ∙ z.at ∙ ap (λ (x : ℕ × ℕ). x.0) c.2, front.1))

  jumps : (i : ℕ) (island : ℕ × ℕ) → i < length xs → (c : Contains b.islands island) → IsIslandBehind xs (out.places.items ++ end_of b ∷ []) i island → falls_in (element_at xs i) ≡ true → JumpsTo out island.0 island.1
  jumps i island within c s goes_on =
      let j = f.jumps c.0 island c.1 (subst (HasJump b.uses) (sym c.2) (has_jump i island within c s goes_on)) in
      subst (JumpsTo out island.0) (ap (λ (i : ℕ × ℕ). i.1) c.2)
      (subst (λ n. JumpsTo out n (get_or b.islands c.0 island).1) (ap (λ (i : ℕ × ℕ). i.0) c.2) (
        ap (λ bytes. outside (mask_for uses.Branch26) (word_at bytes (get_or b.islands c.0 island).0)) o.bytes ∙ j.word,
        subst (λ bytes. pos (get_or b.islands c.0 island).0 +ℤ distance_in uses.Branch26 (word_at bytes (get_or b.islands c.0 island).0) ≡ pos (get_or b.islands c.0 island).1) (sym o.bytes) j.goes,
      ))

  islands_are : out.islands.items ≡ b.islands
  islands_are = o.islands ∙ f.islands

  -- an island behind an element is one behind its item
  pub island_after : (i : ℕ) (island : ℕ × ℕ) → i < length xs → Contains b.islands island → IsIslandBehind xs (out.places.items ++ end_of b ∷ []) i island → IsIslandAfter frame flags items out i island
  island_after i island within c s =
      let d : Item = Bind (record { 0 = 0 }) in
      let inside : i < length items = omega (arith, within, count_is) in
      let element : element_at xs i ≡ element_of frame flags (get_or items i d) = get_or-map (element_of frame flags) items i d (Asking 0) inside in
      record {
        listed = subst (λ is. Contains is island) (sym islands_are) c;
        long = s.long;
        begins = s.begins ∙ end_same i within;
        ends = s.ends ∙ sym (station_is (i + 1));
        has_words = elim (may_host frame flags (get_or items i d) (sym (ap hosts element) ∙ s.hosted)) [
          | inl words ↦ inl (λ none. words (sym (get_or-map (cells_of frame flags) items i d [] inside) ∙ none))
          | inr asks ↦ inr (subst (λ x. IsSome (option_and_then asked x)) (sym (slice_get-get_or items i d inside)) asks)
        ];
        jumped = λ goes_on. jumps i island within c s (falls_is frame flags items i inside ∙ goes_on);
      }

  pub followed : (i : ℕ) → i < length items → IsFollowed frame flags items out i
  followed i w =
      let within : i < length xs = omega (arith, w, count_is) in
      elim (h.laid.next i within) [
        | inl flat ↦ inl (station_is (i + 1) ∙ (flat ∙ end_same i within))
        | inr island ↦ inr (subst (λ n. IsIslandAfter frame flags items out i (end_of_item frame flags items out i, n)) (sym (station_is (i + 1)))
            (subst (λ n. IsIslandAfter frame flags items out i (n, get_or (out.places.items ++ end_of b ∷ []) (i + 1) 0)) (end_same i within)
            (island_after i (end_of_element xs (out.places.items ++ end_of b ∷ []) i, get_or (out.places.items ++ end_of b ∷ []) (i + 1) 0) within island.0 island.1)))
      ]

  has_host : (x : Item) → (cells_of frame flags x ≢ []) ⊎ IsSome (asked x) → hosts (element_of frame flags x) ≡ true
  has_host (Bind label) e = elim e [ inl words ↦ absurd (words refl) | inr asks ↦ absurd (false≢true asks) ]
  has_host (Emit inst kept) e = host (cells_of frame flags (Emit inst kept)) (asked (Emit inst kept)) e
    where
      host : (cells : List Cell) (x : Option ℕ) → (cells ≢ []) ⊎ IsSome x → hosts (elim x [ None ↦ Words (inst_falls inst) cells | Some space ↦ Asking space ]) ≡ true
      host cells (Some space) e = refl
      host [] None e = elim e [ inl words ↦ absurd (words refl) | inr asks ↦ absurd (false≢true asks) ]
      host (c ∷ cs) None e = refl

  -- an island behind an item is one behind its element
  pub island_behind : (i : ℕ) (island : ℕ × ℕ) → i < length xs → IsIslandAfter frame flags items out i island → IsIslandBehind xs (out.places.items ++ end_of b ∷ []) i island
  island_behind i island within a =
      let d : Item = Bind (record { 0 = 0 }) in
      let inside : i < length items = omega (arith, within, count_is) in
      let element : element_at xs i ≡ element_of frame flags (get_or items i d) = get_or-map (element_of frame flags) items i d (Asking 0) inside in
      record {
        begins = a.begins ∙ sym (end_same i within);
        ends = a.ends ∙ station_is (i + 1);
        long = a.long;
        hosted = ap hosts element ∙ has_host (get_or items i d) (elim a.has_words [
          | inl words ↦ inl (λ none. words (get_or-map (cells_of frame flags) items i d [] inside ∙ none))
          | inr asks ↦ inr (subst (λ x. IsSome (option_and_then asked x)) (slice_get-get_or items i d inside) asks)
        ]);
      }

  all_once : All (StandsOnce frame flags items out) out.islands.items
  all_once = All-same (StandsOnce frame flags items out) out.islands.items b.islands islands_are (λ k d w.
      let s = h.laid.once k d w in
      record {
        after = s.after;
        within = (let x = s.within in omega (arith, x, count_is));
        stands = island_after s.after (get_or b.islands k d) s.within (k, w, get_or_default b.islands k (get_or b.islands k d) d w) s.stands;
        once = λ i inside a. s.once i (omega (arith, inside, count_is)) (island_behind i (get_or b.islands k d) (omega (arith, inside, count_is)) a);
      })

  ordered : IsStrictlyIncreasing (map (λ (island : ℕ × ℕ). island.0) out.islands.items)
  ordered = subst (λ is. IsStrictlyIncreasing (map (λ (island : ℕ × ℕ). island.0) is)) (sym islands_are) (λ k w.
      let next : k + 1 < length b.islands = omega (arith, w, length-map b.islands (λ (island : ℕ × ℕ). island.0)) in
      let a = h.laid.apart k (k + 1) (0, 0) (omega arith) next in
      let long = (h.laid.once k (0, 0) (omega (arith, next))).stands.long in
      let one = get_or-map (λ (island : ℕ × ℕ). island.0) b.islands k (0, 0) 0 (omega (arith, next)) in
      let two = get_or-map (λ (island : ℕ × ℕ). island.0) b.islands (k + 1) (0, 0) 0 next in
      omega (arith, a, long, one, two))

  labels_bound : (label : MachLabel) (place : ℕ) → Contains out.labels.items (label, place) ↔ IsBoundAt items out.places.items label place
  labels_bound label place = (
    λ listed.
        let r = h.labels.only label.0 place ((f.labels.listed label place).0 (subst (λ (ls : List (MachLabel × ℕ)). Contains ls (label, place)) o.labels listed)) in
        (r.0, binding_item frame flags items r.0 label.0 (let w = r.1 in omega (arith, w, count_is)) r.2, slice_get-get_or out.places.items r.0 0 (let w = r.1 in omega (arith, w, h.laid.each_placed)) ∙ ap (λ n. Some n) r.3),
    λ bound.
        let d : Item = Bind label in
        let inside = slice_get_within items bound.0 (Bind label) bound.1 in
        let there : get_or items bound.0 d ≡ Bind label = same_Some _ _ (sym (slice_get-get_or items bound.0 d inside) ∙ bound.1) in
        let element : element_at xs bound.0 ≡ Binding label.0 = get_or-map (element_of frame flags) items bound.0 d (Asking 0) inside ∙ ap (element_of frame flags) there in
        let placed = slice_get_within out.places.items bound.0 place bound.2 in
        let at : get_or out.places.items bound.0 0 ≡ place = same_Some _ _ (sym (slice_get-get_or out.places.items bound.0 0 placed) ∙ bound.2) in
        subst (λ (ls : List (MachLabel × ℕ)). Contains ls (label, place)) (sym o.labels)
        ((f.labels.listed label place).1 (h.labels.bound bound.0 label.0 (omega (arith, inside, count_is)) element ∙ ap (λ n. Some n) at)),
  )

  -- each cell stands
  all_stand : All (Stands out.bytes.items) (standing (map (cells_of frame flags) items) out.places.items)
  all_stand = (let all = subst (λ cs. All (IsPut b) cs) (all_cells_are frame flags items out.places.items) h.cells in λ k d w.
      let s : ℕ × Cell = get_or (standing (map (cells_of frame flags) items) out.places.items) k d in
      let put = all k d w in
      cell_stands b code f out o s put s.1.site put.site)

  -- the items stand in order with islands between them and the pool behind them
  pub is_laid : Laid frame flags items out
  is_laid = record {
    count = h.laid.each_placed ∙ count_is;
    first = station_is 0 ∙ h.laid.first;
    next = followed;
    islands = all_once;
    islands_ordered = ordered;
    cells = all_stand;
    labels_ordered = subst (λ (ls : List (MachLabel × ℕ)). IsStrictlyIncreasing (map (λ e. e.0.0) ls)) (sym o.labels) f.labels.ordered;
    labels = labels_bound;
    whole_words = omega (arith, end_is b code f out o);
    pool = omega (arith, end_is b code f out o, pool_is b code f out o, f.later.end);
  }
