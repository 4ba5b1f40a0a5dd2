-- Why islands stand where they do, told from finished bytes.
use Rattle.std.proofs.Common.{ℕ, zero, suc, ◌≡◌, ◌≢◌, ◌+◌, ◌<◌, ◌≤◌, Bool, true, false, cond, List, [], ◌∷◌, All, length, get_or, map, take, Option, Some, refl, sym, ap, ◌∙◌, subst, arith, inl, inr}
use Rattle.std.specs.Prelude.{Contains, IsSome, slice_get, count_by}
use Rattle.std.specs.List.{AllPairs, filter}
use Rattle.std.specs.FinMap.{get}
use Rattle.std.proofs.lemmas.Bool.{cases_lt, false≢true}
use Rattle.std.proofs.lemmas.List.{length-map, length-take-le, get_or-map, get_or-take, get_or_default}
use Rattle.std.proofs.lemmas.List.Elements.{All-filter, filter_passes}
use Rattle.std.proofs.lemmas.List.Sums.{length-filter}
use Rattle.std.proofs.lemmas.Option.{slice_get-get_or, slice_get_within}
use Rattle.a64_base.specs.declared.entity.MachLabel.{MachLabel}
use Rattle.a64_inst.specs.declared.emission.EmitFlags.{EmitFlags}
use Rattle.a64_inst.specs.declared.frame.FrameLayout.{FrameLayout}
use Rattle.a64_inst.specs.declared.item.Item.{Item}
use Rattle.a64_inst.specs.declared.item.Item.TheVariants.{Bind}
use Rattle.a64_buffer.specs.declared.class.Class.TheVariants.{Far}
use Rattle.a64_buffer.specs.declared.site.Use.{Use}
use Rattle.a64_buffer.specs.declared.site.Target.{Target}
use Rattle.a64_buffer.specs.declared.site.Target.TheVariants.{Label, Constant, Trap, IslandEnd}
use Rattle.a64_buffer.specs.declared.finish.Finished.{Finished}
use Rattle.a64_buffer.specs.declared.force.ForceVeneers.{ForceVeneers}
use Rattle.a64_buffer.specs.Buffer.{Buffer, end_of, label_of}
use Rattle.a64_buffer.specs.Classes.{level_of, wants, class, range_of}
use Rattle.a64_buffer.specs.Finished.{IsFinished}
use Rattle.a64_buffer.proofs.Rooms.{wanting_range}
use Rattle.a64_emit.specs.declared.code.Code.{Code}
use Rattle.a64_label_use.specs.declared.label_use.LabelUse.{LabelUse}
use Rattle.a64_cells.specs.declared.site.Site.{Site}
use Rattle.a64_label_use.specs.LabelUses.{label_kinds, forward_range}
use Rattle.a64_label_use.specs.LabelLaws.{label_kinds_lawful}
use Rattle.a64_emit.specs.Emission.{site_of}
use Rattle.a64_emit.specs.Contents.{site_class}
use Rattle.a64_assemble.specs.Elements.{Element, Binding, Asking, element_of, elements_of, element_at, is_bound_by}
use Rattle.a64_assemble.specs.OpenUses.{stops_from, is_place, stops_at_label, is_open_in, Needs, StopsIn}
use Rattle.a64_assemble.specs.Progress.{HasPut}
use Rattle.a64_assemble.specs.Owners.{AreOwned}
use Rattle.a64_assemble.specs.Placement as placement
use Rattle.a64_assemble.specs.Placement.{IsOpenIn}
use Rattle.a64_assemble.proofs.Arrivals.{no_use, IsOutput, pool_is}
use Rattle.a64_assemble.proofs.BoundLabels.{bound_at, bound_by_is}
use Rattle.a64_assemble.proofs.Finishing.{all_stop}
use Rattle.a64_assemble.proofs.Itemized.{binding_item}
use Rattle.a64_assemble.proofs.Opens.{open_parts, parts_open, from_stop, from_to, some_place, stop_at, at_label, at_bound}
use Rattle.a64_assemble.proofs.Placing.{IsKnownUse, says_stop, stop_said, wanting_in, wanting_known}

-- ---- lists

pub some_same : {X : Type 0} {x y : X} → Some x ≡ Some y → x ≡ y
some_same e = cc

module _ {X : Type 0} (R : X → X → Type 0) (p : X → Bool) where
  pairs_filter : (xs : List X) → AllPairs R xs → AllPairs R (filter p xs)
  pairs_filter [] all = λ i j d lt h. absurd (omega (arith, h))
  pairs_filter (x ∷ xs) all = go (pairs_filter xs (λ i j d lt h. all (suc i) (suc j) d (omega (arith, lt)) (omega (arith, h)))) (p x)
    where
      first : All (R x) (filter p xs)
      first = All-filter p (R x) xs (λ k d h. all 0 (suc k) d (omega arith) (omega (arith, h)))

      there : AllPairs R (filter p xs) → AllPairs R (x ∷ filter p xs)
      there rest zero zero d lt h = absurd (omega (arith, lt))
      there rest zero (suc j) d lt h = first j d (omega (arith, h))
      there rest (suc i) zero d lt h = absurd (omega (arith, lt))
      there rest (suc i) (suc j) d lt h = rest i j d (omega (arith, lt)) (omega (arith, h))

      go : AllPairs R (filter p xs) → (c : Bool) → AllPairs R (cond c (x ∷ filter p xs) (filter p xs))
      go rest true = there rest
      go rest false = rest

contains_filter : {X : Type 0} (p : X → Bool) (xs : List X) (i : ℕ) (d : X) → i < length xs → p (get_or xs i d) ≡ true → Contains (filter p xs) (get_or xs i d)
contains_filter p [] i d h e = absurd (omega (arith, h))
contains_filter p (x ∷ xs) zero d h e = subst (λ c. Contains (cond c (x ∷ filter p xs) (filter p xs)) x) (sym e) (0, omega arith, refl)
contains_filter p (x ∷ xs) (suc i) d h e = go (contains_filter p xs i d (omega (arith, h)) e) (p x)
  where
    go : Contains (filter p xs) (get_or xs i d) → (c : Bool) → Contains (cond c (x ∷ filter p xs) (filter p xs)) (get_or xs i d)
    go rest true = (suc rest.0, (let w = rest.1 in omega (arith, w)), rest.2)
    go rest false = rest

contains_map : {X Y : Type 0} (f : X → Y) (xs : List X) (x : X) → Contains xs x → Contains (map f xs) (f x)
contains_map f xs x c = (c.0, (let w = c.1 in omega (arith, w, length-map xs f)), get_or-map f xs c.0 x (f x) c.1 ∙ ap f c.2)

module _ (frame : FrameLayout) (flags : EmitFlags) (items : List Item) (force : ForceVeneers) (b : Buffer LabelUse) (code : Finished) (f : IsFinished label_kinds b code) (out : Code) (o : IsOutput code out) (h : HasPut force (elements_of frame flags items) (length (elements_of frame flags items)) out.places.items b) (owned : AreOwned (elements_of frame flags items) (length (elements_of frame flags items)) out.places.items b) where
  abbrev xs : List Element
  xs = elements_of frame flags items

  abbrev use_at : ℕ → Use LabelUse
  use_at k = get_or f.final.uses k no_use

  pool_at : out.pool ≡ end_of b
  pool_at = pool_is b code f out o

  count_is : length xs ≡ length items
  count_is = length-map items (element_of frame flags)

  -- ---- labels

  -- an item that binds a label before is the element that does
  stops_by : (k i : ℕ) (label : MachLabel) (stop : ℕ) (t : Option ℕ) (s : Option ℕ) → k < length xs → i ≤ k → t ≡ Some label.0 → s ≡ Some stop → slice_get items i ≡ Some (Bind label) → slice_get out.places.items i ≡ Some stop → stops_at_label xs f.final.labels k t s ≡ true
  stops_by k i label stop t s within le et es item place =
      let d : Item = Bind label in
      let inside : i < length items = slice_get_within items i (Bind label) item in
      let there : get_or items i d ≡ Bind label = some_same (sym (slice_get-get_or items i d inside) ∙ item) in
      let element : element_at xs i ≡ Binding label.0 = get_or-map (element_of frame flags) items i d (Asking 0) inside ∙ ap (element_of frame flags) there in
      let placed : i < length out.places.items = slice_get_within out.places.items i stop place in
      let at : get_or out.places.items i 0 ≡ stop = some_same (sym (slice_get-get_or out.places.items i 0 placed) ∙ place) in
      let goal : get f.final.labels label.0 ≡ Some stop = ap (λ labels. get labels label.0) f.labels_kept ∙ (h.labels.bound i label.0 (omega (arith, inside, count_is)) element ∙ ap (λ n. Some n) at) in
      at_label xs f.final.labels k label.0 stop t s et es goal
      (bound_at (take (k + 1) xs) i label.0 (omega (arith, le, length-take-le (k + 1) xs (omega (arith, within)))) (get_or-take (k + 1) xs i (Asking 0) (omega (arith, le)) ∙ element))

  -- and the other way round
  bound_before : (k : ℕ) (label stop : ℕ) (s : Option ℕ) → k < length xs → s ≡ Some stop → stops_at_label xs f.final.labels k (Some label) s ≡ true → (i : ℕ) × (i ≤ k) × (slice_get items i ≡ Some (Bind (record { 0 = label }))) × (slice_get out.places.items i ≡ Some stop)
  bound_before k label stop s within es e =
      let z = at_bound xs f.final.labels k (Some label) s e in
      let same : label ≡ z.0 = some_same z.1 in
      let by : is_bound_by (take (k + 1) xs) label ≡ true = subst (λ n. is_bound_by (take (k + 1) xs) n ≡ true) (sym same) z.2.by in
      let i = bound_by_is (take (k + 1) xs) label by in
      let low : i.0 < k + 1 = (let w = i.1 in omega (arith, w, length-take-le (k + 1) xs (omega (arith, within)))) in
      let element : element_at xs i.0 ≡ Binding label = sym (get_or-take (k + 1) xs i.0 (Asking 0) low) ∙ i.2 in
      let goal : get f.final.labels label ≡ Some (get_or out.places.items i.0 0) = ap (λ labels. get labels label) f.labels_kept ∙ h.labels.bound i.0 label (omega (arith, low, within)) element in
      let at : s ≡ Some (get_or out.places.items i.0 0) = stop_at (get f.final.labels label) s (get_or out.places.items i.0 0) goal (subst (λ n. is_place (get f.final.labels n) s ≡ true) (sym same) z.2.at) in
      (i.0, omega (arith, low), binding_item frame flags items i.0 label (omega (arith, low, within, count_is)) element, slice_get-get_or out.places.items i.0 0 (omega (arith, low, within, h.laid.each_placed)) ∙ (sym at ∙ es))

  -- ---- open uses

  -- a use that is open by its bytes is open in the list of uses
  pub record IsOpenUse (k a c : ℕ) (use' : ℕ × Site) (stop : ℕ) : Type 0 where
    pub index : ℕ
    pub within : index < length f.final.uses
    pub is : site_of (use_at index) ≡ use'
    pub stop_is : (use_at index).stop ≡ Some stop
    pub open' : is_open_in xs f.final k a c (use_at index) ≡ true

  pub open_known : (k a c : ℕ) (use' : ℕ × Site) → k < length xs → c ≤ out.pool → (w : IsOpenIn frame flags items out k a c use') → IsOpenUse k a c use' w.stop
  open_known k a c use' within low w =
      let early : use'.0 < out.pool = (let x = w.before in omega (arith, x, low)) in
      let u : IsKnownUse frame flags items force b code f out o h owned use' = wanting_known frame flags items force b code f out o h owned use'.0 use'.1 w.is early in
      let inside : u.index < length f.final.uses = (let x = u.within in omega (arith, x, f.later.count)) in
      let want : wants (class label_kinds (use_at u.index)) ≡ true = subst (λ (s : ℕ × Site). wants (site_class s.1) ≡ true) (sym u.is) w.is.wanting in
      let stop : (use_at u.index).stop ≡ Some w.stop = stop_said frame flags items force b code f out o h owned u.index inside want w.stop (subst (λ (s : ℕ × Site). placement.UseStopsAt frame flags items out s.0 s.1.kind w.stop) (sym u.is) w.stops) in
      record {
        index = u.index;
        within = inside;
        is = u.is;
        stop_is = stop;
        open' = parts_open xs f.final k a c (use_at u.index) (record {
          before = (let x = w.before in omega (arith, x, ap (λ (s : ℕ × Site). s.0) u.is));
          wanting = want;
          from = from_stop a (use_at u.index).stop (subst IsSome (sym stop) refl) (λ t e. (let same : t ≡ w.stop = some_same (sym e ∙ stop) in let x = w.from in omega (arith, same, x)));
          away = λ e. away (use_at u.index).target (ap (λ (s : ℕ × Site). s.1.target) u.is) (use_at u.index).stop stop e;
        });
      }
    where
      away : (t : Target) → t ≡ use'.1.target → (s : Option ℕ) → s ≡ Some w.stop → stops_at_label xs f.final.labels k (label_of t) s ≡ true → ⊥
      away (Label l) e s es at = (let z = bound_before k l.0 w.stop s within es at in w.away l z.0 (sym e) z.1 z.2 z.3)
      away (Constant n) e s es at = false≢true at
      away (Trap n) e s es at = false≢true at
      away IslandEnd e s es at = false≢true at

  pub open_stands : (k a c j : ℕ) → k < length xs → c ≤ out.pool → j < length f.final.uses → is_open_in xs f.final k a c (use_at j) ≡ true → IsOpenIn frame flags items out k a c (site_of (use_at j))
  open_stands k a c j within low inside e =
      let parts = open_parts xs f.final k a c (use_at j) e in
      let old : j < length b.uses = elim (cases_lt j (length b.uses)) [ inl lt ↦ lt | inr ge ↦ (let fresh = f.later.fresh j no_use ge inside in let x = parts.before in absurd (omega (arith, fresh, x, low, pool_at))) ] in
      let stop = some_place (use_at j).stop (all_stop b code f j no_use inside parts.wanting) in
      record {
        is = wanting_in frame flags items force b code f out o h owned j old parts.wanting;
        before = parts.before;
        stop = stop.0;
        stops = says_stop frame flags items force b code f out o h owned j inside parts.wanting stop.0 stop.1;
        from = from_to a (use_at j).stop stop.0 stop.1 parts.from;
        away = λ label i target le item place. parts.away (stops_by k i label stop.0 (label_of (use_at j).target) (use_at j).stop within le (ap label_of target) stop.1 item place);
      }

  -- ---- what is needed

  abbrev opens : ℕ → ℕ → ℕ → List (ℕ × Site)
  opens k a c = map site_of (filter (is_open_in xs f.final k a c) f.final.uses)

  opens_apart : (k a c : ℕ) → AllPairs (λ u v. u.0 ≢ v.0) (opens k a c)
  opens_apart k a c i j d lt w =
      let us : List (Use LabelUse) = filter (is_open_in xs f.final k a c) f.final.uses in
      let inside : j < length us = omega (arith, w, length-map us site_of) in
      let all = pairs_filter (λ (u v : Use LabelUse). u.offset ≢ v.offset) (is_open_in xs f.final k a c) f.final.uses (λ i j d lt h. f.final_sound.apart i j d lt h) in
      subst (λ (s : ℕ × Site). s.0 ≢ (get_or (map site_of us) j d).0) (sym (get_or-map site_of us i no_use d (omega (arith, lt, inside))))
      (subst (λ (s : ℕ × Site). (get_or us i no_use).offset ≢ s.0) (sym (get_or-map site_of us j no_use d inside)) (all i j no_use lt inside))

  opens_stand : (k a c : ℕ) → k < length xs → c ≤ out.pool → All (IsOpenIn frame flags items out k a c) (opens k a c)
  opens_stand k a c within low i d w =
      let p : Use LabelUse → Bool = is_open_in xs f.final k a c in
      let us : List (Use LabelUse) = filter p f.final.uses in
      let inside : i < length us = omega (arith, w, length-map us site_of) in
      let each = All-filter p (λ u. p u ≡ true → IsOpenIn frame flags items out k a c (site_of u)) f.final.uses
      (λ j e h. λ is. subst (λ u. IsOpenIn frame flags items out k a c (site_of u)) (get_or_default f.final.uses j no_use e h) (open_stands k a c j within low h (subst (λ u. p u ≡ true) (get_or_default f.final.uses j e no_use h) is))) in
      subst (IsOpenIn frame flags items out k a c) (sym (get_or-map site_of us i no_use d inside)) (each i no_use inside (filter_passes p f.final.uses i no_use inside))

  one_range : (j : ℕ) → j < length f.final.uses → wants (class label_kinds (use_at j)) ≡ true → forward_range (use_at j).kind ≡ range_of label_kinds (level_of (class label_kinds (use_at j)))
  one_range j w want = wanting_range label_kinds label_kinds_lawful (use_at j).target (use_at j).kind (f.final_sound.kinded j no_use w) want

  opens_count : (k a c : ℕ) → length (opens k a c) ≡ count_by (is_open_in xs f.final k a c) f.final.uses
  opens_count k a c = length-map (filter (is_open_in xs f.final k a c) f.final.uses) site_of ∙ length-filter (is_open_in xs f.final k a c) f.final.uses

  pub need_in : (k a c space : ℕ) (passes : Site → Type 0) → k < length xs → c ≤ out.pool → Needs xs f.final k a c space (λ u. passes (site_of u).1) → placement.Need frame flags items out k a c space passes
  need_in k a c space passes within low n = record {
    opens = opens k a c;
    apart = opens_apart k a c;
    each = opens_stand k a c within low;
    late = site_of (use_at n.index);
    among = contains_map site_of (filter (is_open_in xs f.final k a c) f.final.uses) (use_at n.index) (contains_filter (is_open_in xs f.final k a c) f.final.uses n.index no_use n.within (n.open' no_use));
    passed = n.passed no_use;
    short = let x = n.late no_use in omega (arith, x, one_range n.index n.within (open_parts xs f.final k a c (use_at n.index) (n.open' no_use)).wanting, opens_count k a c);
  }

  -- ---- what stops where

  wider : (k a c c' : ℕ) (u : Use LabelUse) → c ≤ c' → is_open_in xs f.final k a c u ≡ true → is_open_in xs f.final k a c' u ≡ true
  wider k a c c' u le e = (let p = open_parts xs f.final k a c u e in parts_open xs f.final k a c' u (record { before = (let x = p.before in omega (arith, x, le)); wanting = p.wanting; from = p.from; away = p.away }))

  pub takes_near : (k : ℕ) (island : ℕ × ℕ) → k < length xs → island.0 ≤ island.1 → island.1 ≤ out.pool → All (λ u. (class label_kinds u ≡ Far → ⊥) → StopsIn xs f.final k island u) f.final.uses → placement.TakesNear frame flags items out k island
  takes_near k island within long low all use' w not_far =
      let u = open_known k island.0 island.0 use' within (omega (arith, long, low)) w in
      let stops = all u.index no_use u.within (λ far. not_far (subst (λ (s : ℕ × Site). site_class s.1 ≡ Far) u.is far)) (wider k island.0 island.0 island.1 (use_at u.index) long u.open') in
      let same : w.stop ≡ stops.0 = some_same (sym u.stop_is ∙ stops.1) in
      let x = stops.2 in
      omega (arith, same, x)

  pub takes_far : (k : ℕ) (island : ℕ × ℕ) → k < length xs → island.1 ≤ out.pool → All (λ u. class label_kinds u ≡ Far → StopsIn xs f.final k island u) f.final.uses → placement.TakesFar frame flags items out k island
  takes_far k island within low all use' w far =
      let u = open_known k island.0 island.1 use' within low w in
      let stops = all u.index no_use u.within (subst (λ (s : ℕ × Site). site_class s.1 ≡ Far) (sym u.is) far) u.open' in
      let same : w.stop ≡ stops.0 = some_same (sym u.stop_is ∙ stops.1) in
      let x = stops.2 in
      omega (arith, same, x)

  pub leaves_far : (k : ℕ) (island : ℕ × ℕ) → k < length xs → island.1 ≤ out.pool → All (λ u. class label_kinds u ≡ Far → is_open_in xs f.final k island.0 island.1 u ≡ true → stops_from island.1 u.stop ≡ true) f.final.uses → placement.LeavesFar frame flags items out k island
  leaves_far k island within low all use' w far =
      let u = open_known k island.0 island.1 use' within low w in
      from_to island.1 (use_at u.index).stop w.stop u.stop_is (all u.index no_use u.within (subst (λ (s : ℕ × Site). site_class s.1 ≡ Far) (sym u.is) far) u.open')
