-- What is recorded as elements are put, with islands between them.
use Rattle.std.proofs.Common.{ℕ, ◌≡◌, ◌⊎◌, ◌+◌, ◌*◌, ◌<◌, ◌≤◌, suc, zero, List, [], ◌∷◌, ◌++◌, length, get_or, map, take, drop, Option, None, Some, refl, sym, ap, ◌∙◌, subst, arith, inl, inr, Bool}
use Rattle.std.specs.Prelude.{All, Contains}
use Rattle.std.specs.List.{flat_map}
use Rattle.std.specs.Ordering.{nat_cmp}
use Rattle.std.specs.FinMap.{FinMap}
use Rattle.std.specs.List.Sorted.{IsStrictlyIncreasing}
use Rattle.std.proofs.lemmas.List.{append-nil, length-append, length-map, length-take-le, take_more, map-append}
use Rattle.std.proofs.lemmas.List.Concat.{flat_map-cons}
use Rattle.std.proofs.lemmas.List.Elements.{All-append, Contains-append_cases, Contains-append_left, Contains-append_right, filter_map-append}
use Rattle.a64_base.specs.declared.entity.TrapCode.{TrapCode}
use Rattle.a64_buffer.specs.declared.site.Use.{Use}
use Rattle.a64_buffer.specs.declared.site.Target.{Target}
use Rattle.a64_buffer.specs.declared.site.Target.TheVariants.{Label, Constant, Trap, IslandEnd}
use Rattle.a64_buffer.specs.declared.force.ForceVeneers.{ForceVeneers}
use Rattle.a64_buffer.specs.declared.force.ForceVeneers.TheVariants.{No}
use Rattle.a64_buffer.specs.Buffer.{Records, Buffer, end_of, no_records}
use Rattle.a64_buffer.specs.Classes.{class, class_of}
use Rattle.a64_buffer.specs.Later.{IsLater}
use Rattle.a64_buffer.specs.Islands.{HasIsland}
use Rattle.a64_buffer.specs.Pieces as pieces
use Rattle.a64_buffer.specs.Pieces.{Serves, IsServed, StopsAtPiece}
use Rattle.a64_label_use.specs.declared.label_use.LabelUse.{LabelUse}
use Rattle.a64_label_use.specs.LabelUses.{label_kinds}
use Rattle.a64_cells.specs.Shapes.{Cell}
use Rattle.a64_emit.specs.Layout.{placed, standing, reloc_at, call_at, patchable_at, map_at, trap_at, traps_in, records_in, more_records}
use Rattle.a64_emit.specs.Emission.{appended}
use Rattle.a64_emit.proofs.Holding.{same_records}
use Rattle.a64_assemble.proofs.Arrivals.{no_use}
use Rattle.a64_assemble.proofs.Later.{longer}
use Rattle.a64_assemble.proofs.Marked.{ordered_behind, ordered_more, below_more}
use Rattle.a64_emit.proofs.Sites.{standing-push}
use Rattle.a64_assemble.proofs.PieceTraps.{piece_traps_between}
use Rattle.a64_assemble.specs.Elements.{Element, Binding, Words, Asking, cells_in, next_room, element_at}
use Rattle.a64_assemble.specs.Asks.{Asks, AsksNext, PutsWords, Moves}
use Rattle.a64_assemble.specs.CellRecords.{HasRecorded, AreRecorded}
use Rattle.a64_assemble.specs.TrapRecords.{IsStoppedTrap, HasTraps}
use Rattle.a64_assemble.proofs.Moving.{put_later}
use Rattle.a64_buffer.proofs.Islands.{begun_end}

-- ---- what stays

-- a deferred trap that has its trap word keeps it
pub stopped_later : (b b' : Buffer LabelUse) → IsLater b b' → (t : ℕ × TrapCode) → IsStoppedTrap b t → IsStoppedTrap b' t
stopped_later b b' later t s = record {
  index = s.index;
  within = omega (arith, s.within, later.count);
  target = λ d. (later.uses s.index d s.within).target ∙ s.target d;
  stop = λ d. (later.uses s.index d s.within).kept t.0 (s.stop d);
}

known_later : (cells cells' : List (ℕ × Cell)) (b b' : Buffer LabelUse) → IsLater b b' → ((t : ℕ × TrapCode) → Contains (traps_in cells) t → Contains (traps_in cells') t) → (t : ℕ × TrapCode) → Contains (traps_in cells) t ⊎ IsStoppedTrap b t → Contains (traps_in cells') t ⊎ IsStoppedTrap b' t
known_later cells cells' b b' later more t k = elim k [ inl own ↦ inl (more t own) | inr s ↦ inr (stopped_later b b' later t s) ]

-- nothing was recorded
traps_kept : (cells : List (ℕ × Cell)) (b b' : Buffer LabelUse) → IsLater b b' → b'.traps ≡ b.traps → HasTraps cells b → HasTraps cells b'
traps_kept cells b b' later same h = record {
  ordered = subst (λ (ts : List (ℕ × TrapCode)). IsStrictlyIncreasing (map (λ t. t.0) ts)) (sym same) h.ordered;
  below = subst (λ (ts : List (ℕ × TrapCode)). All (λ t. t.0 < end_of b') ts) (sym same) (λ k d w. let x = h.below k d w in omega (arith, x, later.end));
  known = λ t c. known_later cells cells b b' later (λ s r. r) t (h.known t (subst (λ (ts : List (ℕ × TrapCode)). Contains ts t) same c));
  own = λ t c. subst (λ (ts : List (ℕ × TrapCode)). Contains ts t) (sym same) (h.own t c);
}

-- ---- pieces

-- a trap of pieces is that of a served use, which stops there
served_trap : (constants : FinMap nat_cmp (List ℕ)) (place : ℕ) (us : List (Use LabelUse)) (q : ℕ × TrapCode) → All (StopsAtPiece label_kinds constants) (pieces.pieces label_kinds constants place us)
    → Contains (flat_map (pieces.piece_traps label_kinds constants) (pieces.pieces label_kinds constants place us)) q
    → (i : ℕ) × (i < length us) × ((d : Use LabelUse) → ((get_or us i d).target ≡ Trap q.1) × ((get_or us i d).stop ≡ Some q.0))
served_trap constants place [] q stops c = absurd (let w : c.0 < 0 = c.1 in omega arith)
served_trap constants place (u ∷ us) q stops c =
    elim (Contains-append_cases (pieces.trap_at u.target place) (flat_map (pieces.piece_traps label_kinds constants) (pieces.pieces label_kinds constants next us)) q (subst (λ (ts : List (ℕ × TrapCode)). Contains ts q) (flat_map-cons (pieces.piece_traps label_kinds constants) (place, u) (pieces.pieces label_kinds constants next us)) c)) [
      | inl here ↦ (0, omega arith, λ d. at u.target refl here)
      | inr later ↦ (
          let r = served_trap constants next us q (λ k d h. stops (suc k) d (omega arith)) later in
          (suc r.0, omega (arith, r.1), λ d. r.2 d)
          )
    ]
  where
    next : ℕ
    next = place + 4 * length (pieces.words_for label_kinds constants (class label_kinds u) u.target place)

    own : u.stop ≡ Some (pieces.stop_for label_kinds constants (class label_kinds u) u.target place)
    own = stops 0 (place, u) (omega arith)

    same : {x y : ℕ × TrapCode} → Contains (x ∷ []) y → x ≡ y
    same (zero, w, e) = e
    same (suc k, w, e) = absurd (omega (arith, w))

    at : (t : Target) → u.target ≡ t → Contains (pieces.trap_at t place) q → (u.target ≡ Trap q.1) × (u.stop ≡ Some q.0)
    at (Label l) e h = absurd (let w : h.0 < 0 = h.1 in omega arith)
    at (Constant n) e h = absurd (let w : h.0 < 0 = h.1 in omega arith)
    at IslandEnd e h = absurd (let w : h.0 < 0 = h.1 in omega arith)
    at (Trap code) e h =
        let is : (place, code) ≡ q = same h in (
          e ∙ ap (λ (t : ℕ × TrapCode). Trap t.1) is,
          own ∙ (ap (λ t. Some (pieces.stop_for label_kinds constants (class_of label_kinds t u.kind) t place)) e ∙ ap (λ (t : ℕ × TrapCode). Some t.0) is),
        )

-- pieces for uses that waited in m, behind the end of b, were added to a buffer that recorded what m did
module _ (cells : List (ℕ × Cell)) (m b b' : Buffer LabelUse) (same : b.traps ≡ m.traps) (low : end_of m ≤ end_of b) (later : IsLater m b') (labels : FinMap nat_cmp ℕ) (constants : FinMap nat_cmp (List ℕ)) (served : List (Use LabelUse)) (s : Serves label_kinds labels constants served b b') (h : HasTraps cells m) where
  abbrev new : List (ℕ × TrapCode)
  new = flat_map (pieces.piece_traps label_kinds constants) (pieces.pieces label_kinds constants (end_of b) served)

  abbrev to : ℕ
  to = end_of b + 4 * length (flat_map (pieces.piece_words label_kinds constants) (pieces.pieces label_kinds constants (end_of b) served))

  traps_are : b'.traps ≡ m.traps ++ new
  traps_are = s.traps_are ∙ ap (λ ts. ts ++ new) same

  end_is : end_of b' ≡ to
  end_is = omega (arith, ap length s.words, length-append b.words (flat_map (pieces.piece_words label_kinds constants) (pieces.pieces label_kinds constants (end_of b) served)))

  stopped : (t : ℕ × TrapCode) → Contains new t → IsStoppedTrap b' t
  stopped t c =
      let r = served_trap constants (end_of b) served t s.stops c in
      let q : IsServed label_kinds labels b b' (get_or served r.0 no_use) = s.waited r.0 no_use r.1 in
      record {
        index = q.index;
        within = q.within;
        target = λ d. ap (λ (u : Use LabelUse). u.target) (q.is d) ∙ (r.2 no_use).0;
        stop = λ d. ap (λ (u : Use LabelUse). u.stop) (q.is d) ∙ (r.2 no_use).1;
      }

  pub served_traps : HasTraps cells b'
  served_traps =
      let between = piece_traps_between (record b { constants = constants }) (end_of b) served in
      record {
        ordered = subst (λ (ts : List (ℕ × TrapCode)). IsStrictlyIncreasing (map (λ t. t.0) ts)) (sym traps_are)
            (ordered_behind m.traps new (end_of b) to between h.ordered (λ k d w. let x = h.below k d w in omega (arith, x, low)));
        below = subst (λ (ts : List (ℕ × TrapCode)). All (λ t. t.0 < end_of b') ts) (sym traps_are)
            (All-append (λ (t : ℕ × TrapCode). t.0 < end_of b') m.traps new
            (λ k d w. let x = h.below k d w in omega (arith, x, later.end))
            (λ k d w. let x = between.inside k d w in omega (arith, x.1, end_is)));
        known = λ t c. elim (Contains-append_cases m.traps new t (subst (λ (ts : List (ℕ × TrapCode)). Contains ts t) traps_are c)) [
          | inl old ↦ known_later cells cells m b' later (λ s r. r) t (h.known t old)
          | inr fresh ↦ inr (stopped t fresh)
        ];
        own = λ t c. subst (λ (ts : List (ℕ × TrapCode)). Contains ts t) (sym traps_are) (Contains-append_left m.traps new t (h.own t c));
      }

-- ---- an island, words, an element

pub island_traps : {jump : Bool} (cells : List (ℕ × Cell)) (distance : ℕ) (force : ForceVeneers) (m b' : Buffer LabelUse) → HasIsland label_kinds distance force jump m b' → HasTraps cells m → HasTraps cells b'
island_traps {jump = jump} cells distance force m b' has h =
    served_traps cells m (pieces.begun label_kinds jump m) b' refl (omega (arith, begun_end label_kinds jump m)) has.later m.labels m.constants has.served has.serves h

asked_traps : {jump : Bool} (cells : List (ℕ × Cell)) (x : ℕ) (f g : ForceVeneers) (m b' : Buffer LabelUse) → Asks x f g jump m b' → HasTraps cells m → HasTraps cells b'
asked_traps cells x f g m b' a h = elim a.outcome [ inr l ↦ subst (HasTraps cells) (sym l.same) h | inl w ↦ island_traps cells x g m b' w.island h ]

next_traps : (cells : List (ℕ × Cell)) (force : ForceVeneers) (goes_on : Bool) (o : Option ℕ) (m b' : Buffer LabelUse) → AsksNext force goes_on o m b' → HasTraps cells m → HasTraps cells b'
next_traps cells force goes_on None m b' e h = subst (HasTraps cells) (sym e) h
next_traps cells force goes_on (Some x) m b' a h = asked_traps cells x No force m b' a h

module _ (old : List (ℕ × Cell)) (b : Buffer LabelUse) (h : HasTraps old b) where
  module _ (cells : List Cell) where
    both : traps_in (old ++ placed (end_of b) cells) ≡ traps_in old ++ traps_in (placed (end_of b) cells)
    both = filter_map-append trap_at old (placed (end_of b) cells)

    more : (t : ℕ × TrapCode) → Contains (traps_in old) t → Contains (traps_in (old ++ placed (end_of b) cells)) t
    more t c = subst (λ (ts : List (ℕ × TrapCode)). Contains ts t) (sym both) (Contains-append_left (traps_in old) (traps_in (placed (end_of b) cells)) t c)

    cells_traps : HasTraps (old ++ placed (end_of b) cells) (appended b cells)
    cells_traps = record {
      ordered = ordered_more b.traps (end_of b) cells h.ordered h.below;
      below = below_more b.traps (end_of b) cells (end_of (appended b cells)) h.below (longer b cells);
      known = λ t c. elim (Contains-append_cases b.traps (traps_in (placed (end_of b) cells)) t c) [
        | inl before ↦ known_later old (old ++ placed (end_of b) cells) b (appended b cells) (put_later b cells) more t (h.known t before)
        | inr here ↦ inl (subst (λ (ts : List (ℕ × TrapCode)). Contains ts t) (sym both) (Contains-append_right (traps_in old) (traps_in (placed (end_of b) cells)) t here))
      ];
      own = λ t c. elim (Contains-append_cases (traps_in old) (traps_in (placed (end_of b) cells)) t (subst (λ (ts : List (ℕ × TrapCode)). Contains ts t) both c)) [
        | inl before ↦ Contains-append_left b.traps (traps_in (placed (end_of b) cells)) t (h.own t before)
        | inr here ↦ Contains-append_right b.traps (traps_in (placed (end_of b) cells)) t here
      ];
    }

  none_more : HasTraps (old ++ []) b
  none_more = subst (λ cs. HasTraps cs b) (sym (append-nil old)) h

  words_traps : (force : ForceVeneers) (goes_on : Bool) (cells : List Cell) (rest : List Element) (b' : Buffer LabelUse) → PutsWords force goes_on cells rest b b' → HasTraps (old ++ placed (end_of b) cells) b'
  words_traps force goes_on [] rest b' p = subst (HasTraps (old ++ [])) (sym p) none_more
  words_traps force goes_on (c ∷ cs) rest b' p = next_traps (old ++ placed (end_of b) (c ∷ cs)) force goes_on (next_room rest) (appended b (c ∷ cs)) b' p (cells_traps (c ∷ cs))

  element_traps : (force : ForceVeneers) (x : Element) (rest : List Element) (b' : Buffer LabelUse) → IsLater b b' → Moves force x rest b b' → HasTraps (old ++ placed (end_of b) (cells_in x)) b'
  element_traps force (Binding label) rest b' later p = traps_kept (old ++ []) b b' later (ap (λ (v : Buffer LabelUse). v.traps) p) none_more
  element_traps force (Words goes_on cells) rest b' later p = words_traps force goes_on cells rest b' p
  element_traps force (Asking space) rest b' later p = asked_traps (old ++ []) space force force b b' p none_more

-- ---- what is recorded beside traps: islands and bindings leave it

asked_records : {jump : Bool} (x : ℕ) (f g : ForceVeneers) (m b' : Buffer LabelUse) → Asks x f g jump m b' → b'.records ≡ m.records
asked_records x f g m b' a = elim a.outcome [ inr l ↦ ap (λ (v : Buffer LabelUse). v.records) l.same | inl w ↦ w.island.records ]

next_records : (force : ForceVeneers) (goes_on : Bool) (o : Option ℕ) (m b' : Buffer LabelUse) → AsksNext force goes_on o m b' → b'.records ≡ m.records
next_records force goes_on None m b' e = ap (λ (v : Buffer LabelUse). v.records) e
next_records force goes_on (Some x) m b' a = asked_records x No force m b' a

-- what some cells record, and others behind them, is what all of them do
records_append : (old new : List (ℕ × Cell)) → more_records (records_in old) (records_in new) ≡ records_in (old ++ new)
records_append old new =
    same_records _ _ _ _ _ _ _ _
    (sym (filter_map-append reloc_at old new)) (sym (filter_map-append call_at old new)) (sym (filter_map-append patchable_at old new)) (sym (filter_map-append map_at old new))

module _ (old : List (ℕ × Cell)) (b : Buffer LabelUse) (h : b.records ≡ records_in old) where
  -- cells at the end record what they do
  cells_records : (cells : List Cell) → (appended b cells).records ≡ records_in (old ++ placed (end_of b) cells)
  cells_records cells = ap (λ (rs : Records). more_records rs (records_in (placed (end_of b) cells))) h ∙ records_append old (placed (end_of b) cells)

  no_new_records : b.records ≡ records_in (old ++ [])
  no_new_records = h ∙ ap records_in (sym (append-nil old))

  words_records : (force : ForceVeneers) (goes_on : Bool) (cells : List Cell) (rest : List Element) (b' : Buffer LabelUse) → PutsWords force goes_on cells rest b b' → b'.records ≡ records_in (old ++ placed (end_of b) cells)
  words_records force goes_on [] rest b' p = ap (λ (v : Buffer LabelUse). v.records) p ∙ no_new_records
  words_records force goes_on (c ∷ cs) rest b' p = next_records force goes_on (next_room rest) (appended b (c ∷ cs)) b' p ∙ cells_records (c ∷ cs)

  element_records : (force : ForceVeneers) (x : Element) (rest : List Element) (b' : Buffer LabelUse) → Moves force x rest b b' → b'.records ≡ records_in (old ++ placed (end_of b) (cells_in x))
  element_records force (Binding label) rest b' p = ap (λ (v : Buffer LabelUse). v.records) p ∙ no_new_records
  element_records force (Words goes_on cells) rest b' p = words_records force goes_on cells rest b' p
  element_records force (Asking space) rest b' p = asked_records space force force b b' p ∙ no_new_records

-- ---- element by element

-- before the first
pub recorded_none : (xs : List Element) (b : Buffer LabelUse) → b.traps ≡ [] → b.records ≡ no_records → AreRecorded xs 0 [] b
recorded_none xs b e records = record { traps = none; records = records }
  where
    none : HasTraps [] b
    none = record {
      ordered = subst (λ (ts : List (ℕ × TrapCode)). IsStrictlyIncreasing (map (λ t. t.0) ts)) (sym e) (λ k w. absurd (omega arith));
      below = subst (λ (ts : List (ℕ × TrapCode)). All (λ t. t.0 < end_of b) ts) (sym e) (λ k d w. absurd (omega arith));
      known = λ t c. absurd (let w : c.0 < length b.traps = c.1 in omega (arith, w, ap length e));
      own = λ t c. absurd (let w : c.0 < 0 = c.1 in omega arith);
    }

-- with one more
pub recorded_step : (force : ForceVeneers) (xs : List Element) (k : ℕ) (places : List ℕ) (b b' : Buffer LabelUse) → length places ≡ k → k < length xs → IsLater b b' → Moves force (element_at xs k) (drop (k + 1) xs) b b' → AreRecorded xs k places b → AreRecorded xs (k + 1) (places ++ end_of b ∷ []) b'
recorded_step force xs k places b b' count within later p h =
    let lists : map cells_in (take (k + 1) xs) ≡ map cells_in (take k xs) ++ cells_in (element_at xs k) ∷ [] = ap (map cells_in) (take_more xs k (Asking 0) within) ∙ map-append cells_in (take k xs) (element_at xs k ∷ []) in
    let long : length places ≡ length (map cells_in (take k xs)) = omega (arith, count, length-map (take k xs) cells_in, length-take-le k xs (omega arith)) in
    let old : List (ℕ × Cell) = standing (map cells_in (take k xs)) places in
    let both : standing (map cells_in (take (k + 1) xs)) (places ++ end_of b ∷ []) ≡ old ++ placed (end_of b) (cells_in (element_at xs k)) = ap (λ css. standing css (places ++ end_of b ∷ [])) lists ∙ standing-push (map cells_in (take k xs)) (cells_in (element_at xs k)) places (end_of b) long in
    subst (λ cs. HasRecorded cs b') (sym both) (record {
      traps = element_traps old b h.traps force (element_at xs k) (drop (k + 1) xs) b' later p;
      records = element_records old b h.records force (element_at xs k) (drop (k + 1) xs) b' p;
    })
