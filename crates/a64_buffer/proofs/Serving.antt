-- What stands in islands and in the pool, part by part.
use Rattle.std.proofs.Common.{ℕ, ◌≡◌, ◌+◌, ◌-◌, ◌*◌, ◌<◌, ◌≤◌, true, false, List, [], ◌∷◌, ◌++◌, Bool, All, Any, map, length, get_or, Option, None, Some, refl, sym, ap, ◌∙◌, subst, arith, inl, inr, nat_cmp}
use Rattle.std.specs.Prelude.{IsSome, IfSome, ◌&&◌, is_none}
use Rattle.std.specs.List.{AllPairs, flat_map}
use Rattle.std.specs.FinMap.{FinMap}
use Rattle.std.proofs.lemmas.Bool.{cases_lt, false≢true}
use Rattle.std.proofs.lemmas.List.{append-nil, append_assoc, length-append, length-map, get_or_append_left, get_or-append_right}
use Rattle.std.proofs.lemmas.List.Concat.{flat_map-append, flat_map-cons}
use Rattle.std.proofs.lemmas.List.Elements.{All-append, All-same}
use Rattle.a64_buffer.specs.declared.site.Use.{Use}
use Rattle.a64_buffer.specs.declared.site.Target.{Target}
use Rattle.a64_buffer.specs.declared.site.Target.TheVariants.{Label, Constant, Trap, IslandEnd}
use Rattle.a64_buffer.specs.declared.class.Class.TheVariants.{Load}
use Rattle.a64_buffer.specs.Kinds.{Kinds}
use Rattle.a64_buffer.specs.Buffer.{Buffer, end_of, label_of, goal_of}
use Rattle.a64_buffer.specs.Classes.{class, class_of, wants, rank_of, is_open}
use Rattle.a64_buffer.specs.Later.{IsSameUse, IsLater}
use Rattle.a64_buffer.specs.Chain.{constant_of}
use Rattle.a64_buffer.specs.Pieces.{AtGoal, IsAnswered, site_of, key_of, ComesBefore, words_for, piece_words, piece_traps, piece_sites, StopsAtPiece, pieces, IsServed, IsFirst, StopsWith, Serves}
use Rattle.a64_buffer.specs.Steps.{stopped}
use Rattle.a64_buffer.proofs.Rooms.{open_wants, open_stop}
use Rattle.a64_buffer.proofs.Laters.{was_open}

-- ---- lists

pub flat_one : {X A : Type 0} (f : X → List A) (x : X) → flat_map f (x ∷ []) ≡ f x
flat_one f x = flat_map-cons f x [] ∙ append-nil (f x)

pub pairs_append : {X : Type 0} (R : X → X → Type 0) (xs ys : List X) → AllPairs R xs → AllPairs R ys → ((j k : ℕ) (d : X) → j < length xs → k < length ys → R (get_or xs j d) (get_or ys k d)) → AllPairs R (xs ++ ys)
pairs_append R xs ys p q cross j k d lt h = elim (cases_lt k (length xs)) [
  | inl below ↦
      let first : j < length xs = omega arith in
      subst (λ x. R x (get_or (xs ++ ys) k d)) (sym (get_or_append_left xs ys d j first)) (subst (R (get_or xs j d)) (sym (get_or_append_left xs ys d k below)) (p j k d lt below))
  | inr past ↦
      let n : length (xs ++ ys) ≡ length xs + length ys = length-append xs ys in
      subst (R (get_or (xs ++ ys) j d)) (sym (get_or-append_right xs ys (length xs) k d refl past)) (elim (cases_lt j (length xs)) [
        | inl before ↦ subst (λ x. R x (get_or ys (k - length xs) d)) (sym (get_or_append_left xs ys d j before)) (cross j (k - length xs) d before (omega arith))
        | inr behind ↦ subst (λ x. R x (get_or ys (k - length xs) d)) (sym (get_or-append_right xs ys (length xs) j d refl behind)) (q (j - length xs) (k - length xs) d (omega arith) (omega arith))
      ])
]

any_left : {X : Type 0} (P : X → Type 0) (xs ys : List X) → Any P xs → Any P (xs ++ ys)
any_left P xs ys (k, x, h, e, p) = (k, x, omega (arith, h, length-append xs ys), get_or_append_left xs ys x k h ∙ e, p)

any_right : {X : Type 0} (P : X → Type 0) (xs ys : List X) → Any P ys → Any P (xs ++ ys)
any_right P xs ys (k, x, h, e, p) =
    let n : length xs + k - length xs ≡ k = omega arith in
    (length xs + k, x, omega (arith, h, length-append xs ys), get_or-append_right xs ys (length xs) (length xs + k) x refl (omega arith) ∙ (ap (λ i. get_or ys i x) n ∙ e), p)

-- ---- targets

-- all loads of constants are of one class
pub load_class : {K : Type 0} (r : Kinds K) (t : Target) (kind : K) → IsSome (constant_of t) → class_of r t kind ≡ Load
load_class r (Label l) kind h = absurd (false≢true h)
load_class r (Constant c) kind h = refl
load_class r (Trap code) kind h = absurd (false≢true h)
load_class r IslandEnd kind h = absurd (false≢true h)

pub label_no_constant : (target : Target) → IsSome (label_of target) → IsSome (constant_of target) → ⊥
label_no_constant (Label l) h c = false≢true c
label_no_constant (Constant constant) h c = false≢true h
label_no_constant (Trap code) h c = false≢true c
label_no_constant IslandEnd h c = false≢true c

-- ---- uses that have a stop

-- a stop is no part of a use's site
pub sites_stopped : {K : Type 0} (test : Use K → Bool) (place : ℕ) (us : List (Use K)) → map site_of (map (stopped test place) us) ≡ map site_of us
sites_stopped test place [] = refl
sites_stopped test place (u ∷ us) = ap (λ ss. site_of u ∷ ss) (sites_stopped test place us)

same_fields : {K : Type 0} (offset offset' : ℕ) (target target' : Target) (kind kind' : K) (stop stop' : Option ℕ) → offset ≡ offset' → target ≡ target' → kind ≡ kind' → stop ≡ stop' → ◌≡◌ {A = Use K} (record { offset = offset; target = target; kind = kind; stop = stop }) (record { offset = offset'; target = target'; kind = kind'; stop = stop' })
same_fields offset offset' target target' kind kind' stop stop' o t k s = rw (o, t, k, s) refl

-- a use with a stop stays as it is
pub stays_same : {K : Type 0} (end : ℕ) (u v : Use K) → IsSameUse end u v → IsSome u.stop → v ≡ u
stays_same end u v same h = elim u.stop as (λ o. u.stop ≡ o → IsSome o → v ≡ u) [
  | None ↦ λ e s. absurd (false≢true s)
  | Some t ↦ λ e s. same_fields v.offset u.offset v.target u.target v.kind u.kind v.stop u.stop same.offset same.target same.kind (same.kept t e ∙ sym e)
] refl h

module _ {K : Type 0} (r : Kinds K) where
  pub same_class : (end : ℕ) (u v : Use K) → IsSameUse end u v → class r v ≡ class r u
  same_class end u v same = ap (λ t. class_of r t v.kind) same.target ∙ ap (class_of r u.target) same.kind

  pub same_key : (end : ℕ) (u v : Use K) → IsSameUse end u v → key_of r v ≡ key_of r u
  same_key end u v same = omega (arith, ap rank_of (same_class end u v same), same.offset)

  pub open_none : (u : Use K) → is_open r u ≡ true → IsSome u.stop → ⊥
  open_none u o s = false≢true (subst IsSome (open_stop r u o) s)

  module _ (labels : FinMap nat_cmp ℕ) (constants : FinMap nat_cmp (List ℕ)) where
    pieces_append : (place : ℕ) (us vs : List (Use K)) → pieces r constants place (us ++ vs) ≡ pieces r constants place us ++ pieces r constants (place + 4 * length (flat_map (piece_words r constants) (pieces r constants place us))) vs
    pieces_append place [] vs =
        let e : place ≡ place + 4 * length (flat_map (piece_words r constants) []) = omega arith in
        ap (λ p. pieces r constants p vs) e
    pieces_append place (u ∷ us) vs =
        let p : ℕ = place + 4 * length (words_for r constants (class r u) u.target place) in
        let e : p + 4 * length (flat_map (piece_words r constants) (pieces r constants p us)) ≡ place + 4 * length (flat_map (piece_words r constants) (pieces r constants place (u ∷ us))) =
        omega (arith, ap length (flat_map-cons (piece_words r constants) (place, u) (pieces r constants p us)), length-append (words_for r constants (class r u) u.target place) (flat_map (piece_words r constants) (pieces r constants p us))) in
        ap (λ ps. (place, u) ∷ ps) (pieces_append p us vs ∙ ap (λ q. pieces r constants p us ++ pieces r constants q vs) e)

    -- nothing was added
    pub serves_none : (b b' : Buffer K) → b'.words ≡ b.words → b'.traps ≡ b.traps → map site_of b'.uses ≡ map site_of b.uses → ((k : ℕ) (d : Use K) → k < length b.uses → is_open r (get_or b.uses k d) ≡ true → IsSome (get_or b'.uses k d).stop → ⊥) → Serves r labels constants [] b b'
    serves_none b b' words traps sites closed = record {
      words = words ∙ sym (append-nil b.words);
      traps_are = traps ∙ sym (append-nil b.traps);
      uses_are = sites ∙ sym (append-nil (map site_of b.uses));
      stops = λ k d h. absurd (omega arith);
      in_order = λ j k d lt h. absurd (omega arith);
      first' = λ k d h. absurd (omega arith);
      waited = λ k d h. absurd (omega arith);
      copied = λ k d h. absurd (omega arith);
      answered = λ k d h o s. absurd (closed k d h o s);
      new_answered = λ k d low h. absurd (omega (arith, low, h, ap length sites, length-map b.uses site_of, length-map b'.uses site_of));
    }

    -- ---- one part behind another

    module _ (b m c : Buffer K) (us vs : List (Use K)) (first_part : Serves r labels constants us b m) (second' : Serves r labels constants vs m c) (before : IsLater b m) (then' : IsLater m c) where
      -- a use that was served stays
      kept : (k : ℕ) (d : Use K) → k < length m.uses → IsSome (get_or m.uses k d).stop → get_or c.uses k d ≡ get_or m.uses k d
      kept k d h s = stays_same (end_of m) (get_or m.uses k d) (get_or c.uses k d) (then'.uses k d h) s

      -- what was open in between, and comes behind all that was served until then, is served behind that
      pub served_behind : All (λ u. All (λ v. is_open r v ≡ true → key_of r u < key_of r v) m.uses) us → (index : ℕ) → index < length m.uses → (v : Use K) → get_or c.uses index v ≡ v → is_open r (get_or m.uses index v) ≡ true → (j : ℕ) (d : Use K) → j < length us → ComesBefore r (get_or us j d) v
      served_behind ahead index h v is o j d hj =
          let same : IsSameUse (end_of m) (get_or m.uses index v) (get_or c.uses index v) = then'.uses index v h in
          let key : key_of r v ≡ key_of r (get_or m.uses index v) = ap (key_of r) (sym is) ∙ same_key (end_of m) (get_or m.uses index v) (get_or c.uses index v) same in
          let less : key_of r (get_or us j d) < key_of r (get_or m.uses index v) = ahead j d hj index v h o in (
            omega (arith, key, less),
            λ is_constant e. open_none (get_or m.uses index v) o (first_part.copied j d hj is_constant index v h (sym same.target ∙ (ap (λ (w : Use K). w.target) is ∙ sym e))),
          )

      module _ (labelled : (k : ℕ) (d : Use K) → length m.uses ≤ k → k < length c.uses → IsSome (label_of (get_or c.uses k d).target)) (cross : (j k : ℕ) (d : Use K) → j < length us → k < length vs → ComesBefore r (get_or us j d) (get_or vs k d)) (steady : (k : ℕ) (d : Use K) → length b.uses ≤ k → k < length m.uses → wants (class r (get_or m.uses k d)) ≡ false → get_or c.uses k d ≡ get_or m.uses k d) where
        end_is : end_of b + 4 * length (flat_map (piece_words r constants) (pieces r constants (end_of b) us)) ≡ end_of m
        end_is = omega (arith, ap length first_part.words, length-append b.words (flat_map (piece_words r constants) (pieces r constants (end_of b) us)))

        pieces_are : pieces r constants (end_of b) (us ++ vs) ≡ pieces r constants (end_of b) us ++ pieces r constants (end_of m) vs
        pieces_are = pieces_append (end_of b) us vs ∙ ap (λ p. pieces r constants (end_of b) us ++ pieces r constants p vs) end_is

        joined : {A : Type 0} (f : ℕ × Use K → List A) (xs ys zs : List A) → ys ≡ xs ++ flat_map f (pieces r constants (end_of b) us) → zs ≡ ys ++ flat_map f (pieces r constants (end_of m) vs) → zs ≡ xs ++ flat_map f (pieces r constants (end_of b) (us ++ vs))
        joined f xs ys zs p q =
            let one = flat_map f (pieces r constants (end_of b) us) in
            let two = flat_map f (pieces r constants (end_of m) vs) in
            q ∙ (ap (λ ws. ws ++ two) p ∙ (append_assoc xs one two ∙ ap (λ ws. xs ++ ws) (sym (ap (flat_map f) pieces_are ∙ flat_map-append f (pieces r constants (end_of b) us) (pieces r constants (end_of m) vs)))))

        waited_first : (k : ℕ) (d : Use K) → k < length us → IsServed r labels b c (get_or us k d)
        waited_first k d h =
            let q : IsServed r labels b m (get_or us k d) = first_part.waited k d h in
            record {
              index = q.index;
              within = omega (arith, q.within, then'.count);
              is = λ e. kept q.index e q.within (subst (λ (w : Use K). IsSome w.stop) (sym (q.is e)) q.stops) ∙ q.is e;
              waited = q.waited;
              wants_one = q.wants_one;
              far_off = q.far_off;
              stops = q.stops;
            }

        waited_second : (k : ℕ) (d : Use K) → k < length vs → IsServed r labels b c (get_or vs k d)
        waited_second k d h =
            let q : IsServed r labels m c (get_or vs k d) = second'.waited k d h in
            record {
              index = q.index;
              within = q.within;
              is = q.is;
              waited = λ e lt. was_open r (end_of b) (get_or b.uses q.index e) (get_or m.uses q.index e) (before.uses q.index e lt) (q.waited e (omega (arith, lt, before.count)));
              wants_one = q.wants_one;
              far_off = q.far_off;
              stops = q.stops;
            }

        copied_first : (k : ℕ) (d : Use K) → k < length us → IsSome (constant_of (get_or us k d).target) → All (λ v. v.target ≡ (get_or us k d).target → IsSome v.stop) c.uses
        copied_first k d h is_constant i e hi same = elim (cases_lt i (length m.uses)) [
          | inl lt ↦
              let x : IsSome (get_or m.uses i e).stop = first_part.copied k d h is_constant i e lt (sym (then'.uses i e lt).target ∙ same) in
              subst (λ (w : Use K). IsSome w.stop) (sym (kept i e lt x)) x
          | inr ge ↦ absurd (label_no_constant (get_or us k d).target (subst (λ t. IsSome (label_of t)) same (labelled i e ge hi)) is_constant)
        ]

        answered_both : (k : ℕ) (d : Use K) → k < length b.uses → is_open r (get_or b.uses k d) ≡ true → IsSome (get_or c.uses k d).stop → Any (StopsWith (get_or c.uses k d)) (us ++ vs)
        answered_both k d h o s =
            let inside : k < length m.uses = omega (arith, h, before.count) in
            let same : class r (get_or m.uses k d) ≡ class r (get_or b.uses k d) = same_class (end_of b) (get_or b.uses k d) (get_or m.uses k d) (before.uses k d h) in
            elim (get_or m.uses k d).stop as (λ t. (get_or m.uses k d).stop ≡ t → Any (StopsWith (get_or c.uses k d)) (us ++ vs)) [
              | None ↦ λ e.
                  let w : wants (class r (get_or m.uses k d)) ≡ true = ap wants same ∙ open_wants r (get_or b.uses k d) o in
                  let o' : is_open r (get_or m.uses k d) ≡ true = ap (λ s. wants (class r (get_or m.uses k d)) && is_none s) e ∙ ap (λ w. w && true) w in
                  any_right (StopsWith (get_or c.uses k d)) us vs (second'.answered k d inside o' s)
              | Some t ↦ λ e.
                  let has : IsSome (get_or m.uses k d).stop = subst IsSome (sym e) refl in
                  any_left (StopsWith (get_or c.uses k d)) us vs (subst (λ (w : Use K). Any (StopsWith w) us) (sym (kept k d inside has)) (first_part.answered k d h o has))
            ] refl

        -- what the first part made has its stop by then, is served behind, or wants nothing and stays
        new_between : (k : ℕ) (d : Use K) → length b.uses ≤ k → k < length m.uses → IsAnswered labels (us ++ vs) (get_or c.uses k d)
        new_between k d low h = elim (get_or m.uses k d).stop as (λ t. (get_or m.uses k d).stop ≡ t → IsAnswered labels (us ++ vs) (get_or c.uses k d)) [
          | None ↦ λ e. waiting (wants (class r (get_or m.uses k d))) refl e
          | Some t ↦ λ e. carried (kept k d h (subst IsSome (sym e) refl))
        ] refl
          where
            carried : get_or c.uses k d ≡ get_or m.uses k d → IsAnswered labels (us ++ vs) (get_or c.uses k d)
            carried same = elim (first_part.new_answered k d low h) [
              | inl goal ↦ inl (subst (AtGoal labels) (sym same) goal)
              | inr piece ↦ inr (any_left (StopsWith (get_or c.uses k d)) us vs (subst (λ (w : Use K). Any (StopsWith w) us) (sym same) piece))
            ]

            waiting : (w : Bool) → wants (class r (get_or m.uses k d)) ≡ w → (get_or m.uses k d).stop ≡ None → IsAnswered labels (us ++ vs) (get_or c.uses k d)
            waiting false n e = carried (steady k d low h n)
            waiting true w e =
                let o : is_open r (get_or m.uses k d) ≡ true = ap (λ s. wants (class r (get_or m.uses k d)) && is_none s) e ∙ ap (λ w. w && true) w in
                elim (get_or c.uses k d).stop as (λ t. (get_or c.uses k d).stop ≡ t → IsAnswered labels (us ++ vs) (get_or c.uses k d)) [
                  | None ↦ λ none. inl (subst (λ o. IfSome o (λ stop. goal_of labels (get_or c.uses k d).target ≡ Some stop)) (sym none) tt)
                  | Some t ↦ λ some. inr (any_right (StopsWith (get_or c.uses k d)) us vs (second'.answered k d h o (subst IsSome (sym some) refl)))
                ] refl

        new_both : (k : ℕ) (d : Use K) → length b.uses ≤ k → k < length c.uses → IsAnswered labels (us ++ vs) (get_or c.uses k d)
        new_both k d low h = elim (cases_lt k (length m.uses)) [
          | inl lt ↦ new_between k d low lt
          | inr ge ↦ elim (second'.new_answered k d ge h) [
            | inl goal ↦ inl goal
            | inr piece ↦ inr (any_right (StopsWith (get_or c.uses k d)) us vs piece)
          ]
        ]

        -- a constant that is copied in the second part was not copied in the first
        not_copied : (j : ℕ) (e : Use K) → j < length vs → IsSome (constant_of (get_or vs j e).target) → (k : ℕ) (d : Use K) → k < length m.uses → (get_or m.uses k d).target ≡ (get_or vs j e).target → Any (StopsWith (get_or m.uses k d)) us → ⊥
        not_copied j e hj is_constant k d h same (i, w, hi, at, stops) =
            let q : IsServed r labels m c (get_or vs j e) = second'.waited j e hj in
            let target_is : w.target ≡ (get_or vs j e).target = elim stops [ inl is ↦ ap (λ (x : Use K). x.target) (sym is) ∙ same | inr s ↦ sym s.1 ∙ same ] in
            let copied : IsSome (constant_of (get_or us i w).target) → All (λ v. v.target ≡ (get_or us i w).target → IsSome v.stop) m.uses = first_part.copied i w hi in
            let there : (get_or us i w).target ≡ (get_or vs j e).target = ap (λ (x : Use K). x.target) at ∙ target_is in
            elim (cases_lt q.index (length m.uses)) [
              | inl lt ↦
                  let own : (get_or m.uses q.index e).target ≡ (get_or us i w).target = sym (then'.uses q.index e lt).target ∙ (ap (λ (x : Use K). x.target) (q.is e) ∙ sym there) in
                  open_none (get_or m.uses q.index e) (q.waited e lt) (copied (subst (λ t. IsSome (constant_of t)) (sym there) is_constant) q.index e lt own)
              | inr ge ↦ label_no_constant (get_or vs j e).target (subst (λ (x : Use K). IsSome (label_of x.target)) (q.is e) (labelled q.index e ge q.within)) is_constant
            ]

        first_second : (j : ℕ) (e : Use K) → j < length vs → IsFirst r b.uses (get_or vs j e)
        first_second j e hj is_constant k d h o same =
            let inside : k < length m.uses = omega (arith, h, before.count) in
            let use_is : IsSameUse (end_of b) (get_or b.uses k d) (get_or m.uses k d) = before.uses k d h in
            let class_is : class r (get_or m.uses k d) ≡ class r (get_or b.uses k d) = same_class (end_of b) (get_or b.uses k d) (get_or m.uses k d) use_is in
            elim (get_or m.uses k d).stop as (λ t. (get_or m.uses k d).stop ≡ t → (get_or vs j e).offset ≤ (get_or b.uses k d).offset) [
              | None ↦ λ none.
                  let w : wants (class r (get_or m.uses k d)) ≡ true = ap wants class_is ∙ open_wants r (get_or b.uses k d) o in
                  let o' : is_open r (get_or m.uses k d) ≡ true = ap (λ s. wants (class r (get_or m.uses k d)) && is_none s) none ∙ ap (λ w. w && true) w in
                  let x = second'.first' j e hj is_constant k d inside o' (use_is.target ∙ same) in
                  omega (arith, x, use_is.offset)
              | Some t ↦ λ some.
                  let has : IsSome (get_or m.uses k d).stop = subst IsSome (sym some) refl in
                  absurd (not_copied j e hj is_constant k d inside (use_is.target ∙ same) (first_part.answered k d h o has))
            ] refl

        pub serves_join : Serves r labels constants (us ++ vs) b c
        serves_join = record {
          words = joined (piece_words r constants) b.words m.words c.words first_part.words second'.words;
          traps_are = joined (piece_traps r constants) b.traps m.traps c.traps first_part.traps_are second'.traps_are;
          uses_are = joined (piece_sites r constants) (map site_of b.uses) (map site_of m.uses) (map site_of c.uses) first_part.uses_are second'.uses_are;
          first' = All-append (IsFirst r b.uses) us vs first_part.first' first_second;
          stops = All-same (StopsAtPiece r constants) (pieces r constants (end_of b) (us ++ vs)) (pieces r constants (end_of b) us ++ pieces r constants (end_of m) vs) pieces_are (All-append (StopsAtPiece r constants) (pieces r constants (end_of b) us) (pieces r constants (end_of m) vs) first_part.stops second'.stops);
          in_order = pairs_append (ComesBefore r) us vs first_part.in_order second'.in_order cross;
          waited = All-append (IsServed r labels b c) us vs waited_first waited_second;
          copied = All-append (λ (u : Use K). IsSome (constant_of u.target) → All (λ v. v.target ≡ u.target → IsSome v.stop) c.uses) us vs copied_first second'.copied;
          answered = answered_both;
          new_answered = new_both;
        }
