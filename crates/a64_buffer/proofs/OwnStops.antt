-- No two uses share a stop, but for loads of one constant and what stops at the place of its label.
use Rattle.std.proofs.Common.{ℕ, zero, suc, ◌≡◌, ◌≢◌, ◌⊎◌, ◌+◌, ◌*◌, ◌<◌, ◌≤◌, Bool, true, false, cond, List, [], ◌∷◌, All, Any, length, get_or, replicate, Option, None, Some, refl, sym, ap, ◌∙◌, subst, arith, inl, inr, nat_cmp}
use Rattle.std.specs.Prelude.{IsSome, IfSome, IsSomeAnd, ◌&&◌, is_none, nat_eq}
use Rattle.std.specs.List.{flat_map}
use Rattle.std.specs.Option.{unwrap_or}
use Rattle.std.specs.FinMap.{FinMap, get}
use Rattle.std.proofs.lemmas.Bool.{cases_lt, cases_eq, false≢true}
use Rattle.std.proofs.lemmas.List.{get_or_default, length-append, length-replicate}
use Rattle.std.proofs.lemmas.List.Concat.{flat_map-cons}
use Rattle.a64_buffer.specs.declared.site.Use.{Use}
use Rattle.a64_buffer.specs.declared.site.Target.{Target}
use Rattle.a64_buffer.specs.declared.site.Target.TheVariants.{Label, Constant, Trap, IslandEnd}
use Rattle.a64_buffer.specs.declared.class.Class.{Class}
use Rattle.a64_buffer.specs.declared.class.Class.TheVariants.{Near, Middle, Load, Trapping, Far, Direct}
use Rattle.a64_buffer.specs.Constants.{IsConstant}
use Rattle.a64_buffer.specs.Kinds.{Kinds}
use Rattle.a64_words.specs.Word.{words_of}
use Rattle.a64_buffer.specs.Buffer.{Buffer, end_of, goal_of}
use Rattle.a64_buffer.specs.Classes.{class, class_of, label_class, wants, is_open}
use Rattle.a64_buffer.specs.Later.{IsLater, HasStopBelow}
use Rattle.a64_buffer.specs.Sound.{IsTrap, IsShared, MayShare, HaveOwnStops, IsKnown, IsStop, IsSound}
use Rattle.a64_buffer.specs.Chain.{constant_of}
use Rattle.a64_buffer.specs.Pieces.{padding, copy_words, words_for, stop_for, piece_words, pieces, StopsAtPiece, StopsWith, Serves}
use Rattle.a64_buffer.proofs.Growth.{stands_there}
use Rattle.a64_buffer.proofs.Rooms.{label_wants}
use Rattle.a64_buffer.proofs.Serving.{same_class}
use Rattle.a64_words.proofs.WordLists.{words_long}

-- ---- traps

-- uses of traps share no stop
trap_shares : (labels : FinMap nat_cmp ℕ) (target : Target) (stop : ℕ) → IsTrap target → IsShared labels target stop → ⊥
trap_shares labels (Label l) stop t h = t
trap_shares labels (Constant c) stop t h = t
trap_shares labels (Trap code) stop t h = elim h [ inl e ↦ (let z : None ≡ Some stop = e in cc) | inr e ↦ (let z : Trap code ≡ IslandEnd = e in cc) ]
trap_shares labels IslandEnd stop t h = t

trap_no_load : (target : Target) → IsTrap target → IsSome (constant_of target) → ⊥
trap_no_load (Label l) t h = t
trap_no_load (Constant c) t h = t
trap_no_load (Trap code) t h = false≢true h
trap_no_load IslandEnd t h = t

-- so no two uses of traps stop at one trap word
pub own_traps : {K : Type 0} (labels : FinMap nat_cmp ℕ) (uses : List (Use K)) → HaveOwnStops labels uses → (j k stop : ℕ) (d : Use K) → j < k → k < length uses → IsTrap (get_or uses j d).target → IsTrap (get_or uses k d).target → (get_or uses j d).stop ≡ Some stop → (get_or uses k d).stop ≢ Some stop
own_traps labels uses own j k stop d lt h tj tk sj sk = elim (own j k stop d lt h sj sk) [
  | inl load ↦ trap_no_load (get_or uses j d).target tj load.0
  | inr shared ↦ elim shared [
    | inl first ↦ trap_shares labels (get_or uses j d).target stop tj first
    | inr second ↦ trap_shares labels (get_or uses k d).target stop tk second
  ]
]

-- ---- pieces

label_no_load : (v : Bool) (n : ℕ) → label_class v n ≡ Load → ⊥
label_no_load false n e = let z : Direct ≡ Load = e in cc
label_no_load true n e = by (nat_eq n 1) (nat_eq n 2) e
  where
    by : (x y : Bool) → cond x Near (cond y Middle Far) ≡ Load → ⊥
    by true y e = let z : Near ≡ Load = e in cc
    by false true e = let z : Middle ≡ Load = e in cc
    by false false e = let z : Far ≡ Load = e in cc

module _ {K : Type 0} (r : Kinds K) (constants : FinMap nat_cmp (List ℕ)) where
  pieces_count : (place : ℕ) (us : List (Use K)) → length (pieces r constants place us) ≡ length us
  pieces_count place [] = refl
  pieces_count place (u ∷ us) = omega (arith, pieces_count (place + 4 * length (words_for r constants (class r u) u.target place)) us)

  piece_use : (place : ℕ) (us : List (Use K)) (k : ℕ) (d : ℕ × Use K) → k < length us → (get_or (pieces r constants place us) k d).1 ≡ get_or us k d.1
  piece_use place [] k d h = absurd (omega arith)
  piece_use place (u ∷ us) zero d h = refl
  piece_use place (u ∷ us) (suc k) d h = piece_use (place + 4 * length (words_for r constants (class r u) u.target place)) us k d (omega arith)

  piece_behind : (place : ℕ) (us : List (Use K)) (k : ℕ) (d : ℕ × Use K) → k < length us → place ≤ (get_or (pieces r constants place us) k d).0
  piece_behind place [] k d h = absurd (omega arith)
  piece_behind place (u ∷ us) zero d h = omega arith
  piece_behind place (u ∷ us) (suc k) d h = let x = piece_behind (place + 4 * length (words_for r constants (class r u) u.target place)) us k d (omega arith) in omega (arith, x)

  flat_long : (place : ℕ) (u : Use K) (us : List (Use K)) → length (flat_map (piece_words r constants) (pieces r constants place (u ∷ us))) ≡ length (words_for r constants (class r u) u.target place) + length (flat_map (piece_words r constants) (pieces r constants (place + 4 * length (words_for r constants (class r u) u.target place)) us))
  flat_long place u us =
      let next : ℕ = place + 4 * length (words_for r constants (class r u) u.target place) in
      ap length (flat_map-cons (piece_words r constants) (place, u) (pieces r constants next us)) ∙ length-append (words_for r constants (class r u) u.target place) (flat_map (piece_words r constants) (pieces r constants next us))

  piece_ends : (place : ℕ) (us : List (Use K)) (k : ℕ) (d : ℕ × Use K) → k < length us → (get_or (pieces r constants place us) k d).0 + 4 * length (piece_words r constants (get_or (pieces r constants place us) k d)) ≤ place + 4 * length (flat_map (piece_words r constants) (pieces r constants place us))
  piece_ends place [] k d h = absurd (omega arith)
  piece_ends place (u ∷ us) zero d h = omega (arith, flat_long place u us)
  piece_ends place (u ∷ us) (suc k) d h = let x = piece_ends (place + 4 * length (words_for r constants (class r u) u.target place)) us k d (omega arith) in omega (arith, x, flat_long place u us)

  -- pieces stand one behind another
  pub pieces_apart : (place : ℕ) (us : List (Use K)) (j k : ℕ) (d : ℕ × Use K) → j < k → k < length us → (get_or (pieces r constants place us) j d).0 + 4 * length (piece_words r constants (get_or (pieces r constants place us) j d)) ≤ (get_or (pieces r constants place us) k d).0
  pieces_apart place [] j k d lt h = absurd (omega arith)
  pieces_apart place (u ∷ us) j zero d lt h = absurd (omega arith)
  pieces_apart place (u ∷ us) zero (suc k) d lt h = piece_behind (place + 4 * length (words_for r constants (class r u) u.target place)) us k d (omega arith)
  pieces_apart place (u ∷ us) (suc j) (suc k) d lt h = pieces_apart (place + 4 * length (words_for r constants (class r u) u.target place)) us j k d (omega arith) (omega arith)

  -- a piece holds the place where its use stops
  abbrev Holds : Class → Target → ℕ → Type 0
  Holds c target place = (place ≤ stop_for r constants c target place) × (stop_for r constants c target place < place + 4 * length (words_for r constants c target place))

  class_holds : (c : Class) (target : Target) (place : ℕ) → wants c ≡ true → (c ≡ Load → ⊥) → Holds c target place
  class_holds Near target place w n = (omega arith, omega arith)
  class_holds Middle target place w n = (omega arith, omega arith)
  class_holds Load target place w n = absurd (n refl)
  class_holds Trapping target place w n = (omega arith, omega arith)
  class_holds Far target place w n = (omega arith, omega (arith, length-append r.far_words (0 ∷ [])))
  class_holds Direct target place w n = absurd (false≢true w)

  copy_holds : (o : Option (List ℕ)) (place : ℕ) → IsSomeAnd o IsConstant → place + 4 * padding place (length (unwrap_or o [])) < place + 4 * length (copy_words (unwrap_or o []) place)
  copy_holds None place h = absurd h
  copy_holds (Some content) place h =
      let pad : ℕ = padding place (length content) in
      let long : 4 ≤ length content = elim h [ inl e ↦ omega (arith, e) | inr t ↦ elim t [ inl e ↦ omega (arith, e) | inr e ↦ omega (arith, e) ] ] in
      omega (arith, long, words_long content, length-append (replicate pad 0) (words_of content), length-replicate {A = ℕ} pad 0)

  piece_holds : (target : Target) (kind : K) (place : ℕ) → IsKnown constants target → wants (class_of r target kind) ≡ true → Holds (class_of r target kind) target place
  piece_holds (Label l) kind place known w = class_holds (label_class (r.veneers kind) (r.urgency kind)) (Label l) place w (label_no_load (r.veneers kind) (r.urgency kind))
  piece_holds (Constant c) kind place known w = (omega arith, copy_holds (get constants c.0) place known)
  piece_holds (Trap code) kind place known w = class_holds Trapping (Trap code) place w (λ e. let z : Trapping ≡ Load = e in cc)
  piece_holds IslandEnd kind place known w = absurd (false≢true w)

  -- so it does where the use of each stops at it
  module _ (place : ℕ) (us : List (Use K)) (stops : All (StopsAtPiece r constants) (pieces r constants place us)) (i stop : ℕ) (d : Use K) (h : i < length us) (known : IsKnown constants (get_or us i d).target) (want : wants (class r (get_or us i d)) ≡ true) (e : (get_or us i d).stop ≡ Some stop) where
    abbrev piece_at : ℕ × Use K
    piece_at = get_or (pieces r constants place us) i (0, d)

    pub piece_place : (piece_at.0 ≤ stop) × (stop < piece_at.0 + 4 * length (piece_words r constants piece_at))
    piece_place =
        let p : ℕ × Use K = get_or (pieces r constants place us) i (0, d) in
        let is : p.1 ≡ get_or us i d = piece_use place us i (0, d) h in
        let holds = piece_holds p.1.target p.1.kind p.0 (subst (λ (u : Use K). IsKnown constants u.target) (sym is) known) (ap (λ (u : Use K). wants (class r u)) is ∙ want) in
        let at : p.1.stop ≡ Some (stop_for r constants (class r p.1) p.1.target p.0) = stops i (0, d) (omega (arith, h, pieces_count place us)) in
        let z : Some (stop_for r constants (class r p.1) p.1.target p.0) ≡ Some stop = sym at ∙ (ap (λ (u : Use K). u.stop) is ∙ e) in
        subst (λ n. (p.0 ≤ n) × (n < p.0 + 4 * length (piece_words r constants p))) (cc z) holds

    -- and so it stops among their words
    pub piece_inside : (place ≤ stop) × (stop < place + 4 * length (flat_map (piece_words r constants) (pieces r constants place us)))
    piece_inside = (omega (arith, piece_place.0, piece_behind place us i (0, d) h), omega (arith, piece_place.1, piece_ends place us i (0, d) h))

-- a use that has its stop by the piece of another has that one's stop
same_stop : {K : Type 0} (v u : Use K) → StopsWith v u → v.stop ≡ u.stop
same_stop {K = K} v u h = elim h [ inl e ↦ ap (λ (x : Use K). x.stop) e | inr load ↦ load.2 ]

same_target : {K : Type 0} (v u : Use K) → StopsWith v u → v.target ≡ u.target
same_target {K = K} v u h = elim h [ inl e ↦ ap (λ (x : Use K). x.target) e | inr load ↦ load.1 ]

module _ {K : Type 0} (r : Kinds K) (areas : List (ℕ × ℕ)) (served : List (Use K)) (b b' : Buffer K) (s : Serves r b.labels b.constants served b b') (later : IsLater b b') (labels_are : b'.labels ≡ b.labels) (sound : IsSound r b' areas) where
  abbrev piece : ℕ → Use K → ℕ × Use K
  piece i d = get_or (pieces r b.constants (end_of b) served) i (0, d)

  -- the piece of a served use holds its stop
  pub served_place : (i stop : ℕ) (d : Use K) → i < length served → (get_or served i d).stop ≡ Some stop → ((piece i d).0 ≤ stop) × (stop < (piece i d).0 + 4 * length (piece_words r b.constants (piece i d)))
  served_place i stop d h e =
      let q = s.waited i d h in
      piece_place r b.constants (end_of b) served s.stops i stop d h (subst (λ (u : Use K). IsKnown b.constants u.target) (q.is d) (subst (λ cs. IsKnown cs (get_or b'.uses q.index d).target) later.constants (sound.known q.index d q.within))) q.wants_one e

  -- two pieces do not hold one stop
  served_two : (i j stop : ℕ) (d : Use K) → i < j → j < length served → (get_or served i d).stop ≡ Some stop → (get_or served j d).stop ≡ Some stop → ⊥
  served_two i j stop d lt h e f =
      let x : (piece i d).0 + 4 * length (piece_words r b.constants (piece i d)) ≤ (piece j d).0 = pieces_apart r b.constants (end_of b) served i j (0, d) lt h in
      omega (arith, x, (served_place i stop d (omega arith) e).1, (served_place j stop d h f).0)

  -- a use that stops by a piece stops behind the end
  behind_end : (v : Use K) (stop : ℕ) → Any (StopsWith v) served → v.stop ≡ Some stop → end_of b ≤ stop
  behind_end v stop (i, u, h, at, w) e =
      let place = served_place i stop u h (ap (λ (x : Use K). x.stop) at ∙ (sym (same_stop v u w) ∙ e)) in
      omega (arith, place.0, piece_behind r b.constants (end_of b) served i (0, u) h)

  -- and two that stop so at one place are loads of one constant
  one_piece : (j k stop : ℕ) (d : Use K) → j < k → k < length b'.uses → Any (StopsWith (get_or b'.uses j d)) served → Any (StopsWith (get_or b'.uses k d)) served → (get_or b'.uses j d).stop ≡ Some stop → (get_or b'.uses k d).stop ≡ Some stop → IsSome (constant_of (get_or b'.uses j d).target) × ((get_or b'.uses j d).target ≡ (get_or b'.uses k d).target)
  one_piece j k stop d lt h (i, u, hi, at, w) (i', u', hi', at', w') e e' =
      let v : Use K = get_or b'.uses j d in
      let v' : Use K = get_or b'.uses k d in
      let here : get_or served i d ≡ u = get_or_default served i d u hi ∙ at in
      let here' : get_or served i' d ≡ u' = get_or_default served i' d u' hi' ∙ at' in
      let stops : (get_or served i d).stop ≡ Some stop = ap (λ (x : Use K). x.stop) here ∙ (sym (same_stop v u w) ∙ e) in
      let stops' : (get_or served i' d).stop ≡ Some stop = ap (λ (x : Use K). x.stop) here' ∙ (sym (same_stop v' u' w') ∙ e') in
      elim (cases_eq i i') [
        | inl same ↦
            let one : u ≡ u' = sym here ∙ (ap (λ n. get_or served n d) same ∙ here') in
            let targets : v.target ≡ v'.target = same_target v u w ∙ (ap (λ (x : Use K). x.target) one ∙ sym (same_target v' u' w')) in
            elim w [
              | inl is ↦ elim w' [
                | inl is' ↦ absurd (sound.apart j k d lt h (ap (λ (x : Use K). x.offset) (is ∙ (one ∙ sym is'))))
                | inr load ↦ (subst (λ t. IsSome (constant_of t)) (sym (targets ∙ load.1)) load.0, targets)
              ]
              | inr load ↦ (subst (λ t. IsSome (constant_of t)) (sym load.1) load.0, targets)
            ]
        | inr ne ↦ absurd (elim (cases_lt i i') [
          | inl less ↦ served_two i i' stop d less hi' stops stops'
          | inr ge ↦ served_two i' i stop d (omega arith) hi stops' stops
        ])
      ]

  -- ---- all uses

  -- what may have no veneer stops at its label's place, or is the jump over an island
  direct_shares : (target : Target) (kind : K) (offset stop : ℕ) → wants (class_of r target kind) ≡ false → IsStop r b' areas target kind offset stop → IsShared b.labels target stop
  direct_shares (Label l) kind offset stop n h = elim h.leads [
    | inl goal ↦ inl (ap (λ ls. get ls l.0) (sym labels_are) ∙ goal)
    | inr v ↦ absurd (false≢true (sym n ∙ (ap (λ t. wants (label_class t (r.urgency kind))) v.0 ∙ label_wants (r.urgency kind))))
  ]
  direct_shares (Constant c) kind offset stop n h = absurd (false≢true (sym n))
  direct_shares (Trap code) kind offset stop n h = absurd (false≢true (sym n))
  direct_shares IslandEnd kind offset stop n h = inr refl

  -- a stop is one that others may share, was there before, or came by a piece
  abbrev Comes : ℕ → ℕ → Use K → Type 0
  Comes k stop d = IsShared b.labels (get_or b'.uses k d).target stop ⊎ ((k < length b.uses) × ((get_or b.uses k d).stop ≡ Some stop) × (stop < end_of b)) ⊎ Any (StopsWith (get_or b'.uses k d)) served

  module _ (below : All (HasStopBelow (end_of b) b.labels) b.uses) where
    came_before : (k stop : ℕ) (d : Use K) → k < length b.uses → (get_or b.uses k d).stop ≡ Some stop → Comes k stop d
    came_before k stop d h e =
        let same : (get_or b'.uses k d).target ≡ (get_or b.uses k d).target = (later.uses k d h).target in
        elim (subst (λ o. IfSome o (λ stop. (stop < end_of b) ⊎ IsShared b.labels (get_or b.uses k d).target stop)) e (below k d h)) [
          | inl low ↦ inr (inl (h, e, low))
          | inr shared ↦ inl (subst (λ t. IsShared b.labels t stop) (sym same) shared)
        ]

    came_since : (k stop : ℕ) (d : Use K) → k < length b.uses → (get_or b.uses k d).stop ≡ None → (get_or b'.uses k d).stop ≡ Some stop → Comes k stop d
    came_since k stop d h none e = by (wants (class r (get_or b.uses k d))) refl
      where
        inside : k < length b'.uses
        inside = omega (arith, h, later.count)

        by : (w : Bool) → wants (class r (get_or b.uses k d)) ≡ w → Comes k stop d
        by true w =
            let o : is_open r (get_or b.uses k d) ≡ true = ap (λ s. wants (class r (get_or b.uses k d)) && is_none s) none ∙ ap (λ w. w && true) w in
            inr (inr (s.answered k d h o (subst IsSome (sym e) refl)))
        by false n = inl (direct_shares (get_or b'.uses k d).target (get_or b'.uses k d).kind (get_or b'.uses k d).offset stop (ap wants (same_class r (end_of b) (get_or b.uses k d) (get_or b'.uses k d) (later.uses k d h)) ∙ n) (stands_there r b' areas sound.stops k stop d inside e))

    comes : (k stop : ℕ) (d : Use K) → k < length b'.uses → (get_or b'.uses k d).stop ≡ Some stop → Comes k stop d
    comes k stop d h e = elim (cases_lt k (length b.uses)) [
      | inl old ↦ elim (get_or b.uses k d).stop as (λ o. (get_or b.uses k d).stop ≡ o → Comes k stop d) [
        | None ↦ λ none. came_since k stop d old none e
        | Some t ↦ λ was. came_before k stop d old (was ∙ (sym ((later.uses k d old).kept t was) ∙ e))
      ] refl
      | inr new ↦ elim (s.new_answered k d new h) [
        | inl goal ↦ inl (inl (subst (λ o. IfSome o (λ stop. goal_of b.labels (get_or b'.uses k d).target ≡ Some stop)) e goal))
        | inr piece ↦ inr (inr piece)
      ]
    ]

    -- so uses that have stops of their own have them later on
    pub own_later : HaveOwnStops b.labels b.uses → HaveOwnStops b.labels b'.uses
    own_later own j k stop d lt h e f = elim (comes j stop d (omega arith) e) [
      | inl shared ↦ inr (inl shared)
      | inr alone ↦ elim (comes k stop d h f) [
        | inl shared ↦ inr (inr shared)
        | inr alone' ↦ elim alone [
          | inl was ↦ elim alone' [
            | inl was' ↦
                let share : MayShare b.labels stop (get_or b.uses j d).target (get_or b.uses k d).target = own j k stop d lt was'.0 was.1 was'.1 in
                subst (λ t. MayShare b.labels stop t (get_or b'.uses k d).target) (sym (later.uses j d was.0).target) (subst (MayShare b.labels stop (get_or b.uses j d).target) (sym (later.uses k d was'.0).target) share)
            | inr piece ↦ absurd (omega (arith, was.2, behind_end (get_or b'.uses k d) stop piece f))
          ]
          | inr piece ↦ elim alone' [
            | inl was ↦ absurd (omega (arith, was.2, behind_end (get_or b'.uses j d) stop piece e))
            | inr piece' ↦ inl (one_piece j k stop d lt h piece piece' e f)
          ]
        ]
      ]
    ]
