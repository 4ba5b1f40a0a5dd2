-- Open uses in queues.
use Rattle.std.proofs.Common.{ℕ, zero, suc, ◌≡◌, ◌+◌, ◌-◌, ◌^◌, ◌<◌, ◌≤◌, ◌≢◌, ◌⊎◌, Bool, true, false, cond, List, [], ◌∷◌, ◌++◌, All, length, get_or, set, take, map, Option, None, Some, IfSome, MatchOption, refl, sym, ap, ◌∙◌, subst, arith, inl, inr}
use Rattle.std.specs.Prelude.{◌&&◌, is_none}
use Rattle.std.specs.Option.{unwrap_or}
use Rattle.std.specs.List.{Contains}
use Rattle.std.specs.List.Sorted.{IsPermutation}
use Rattle.std.specs.BinaryHeap.{IsHeap}
use Rattle.std.proofs.lemmas.Bool.{cases_eq, cases_lt}
use Rattle.std.proofs.lemmas.List.{length_push, get_or_append_left, get_or-append_right, get_or-set_same, get_or-set_other, length-set, length-map, get_or-map, length-take-le, get_or-take, get_or_default}
use Rattle.std.proofs.lemmas.List.Sorted.{All-permutation, Contains-permutation}
use Rattle.std.proofs.lemmas.List.Elements.{All-nil, All-cons, All-push, All-tail}
use Rattle.a64_buffer.specs.declared.site.Use.{Use}
use Rattle.a64_buffer.specs.declared.queue.Queue.{Queue}
use Rattle.a64_buffer.specs.Kinds.{Kinds}
use Rattle.a64_buffer.specs.declared.class.Class.{Class}
use Rattle.a64_buffer.specs.declared.class.Class.TheVariants.{Near, Middle, Load, Trapping, Far, Direct}
use Rattle.a64_buffer.specs.declared.room.Burdens.{Burdens}
use Rattle.a64_buffer.specs.Buffer.{Buffer, end_of}
use Rattle.a64_buffer.specs.Later.{IsSameUse, IsLater}
use Rattle.a64_buffer.specs.Steps.{stopped}
use Rattle.a64_buffer.specs.Classes.{first, second, third, burden, wants, class, class_of, rank_of, is_open}
use Rattle.a64_buffer.specs.Queues.{entry_cmp, entry_of, entries, LosesRoom, LoseRoom, IsSameQueue, IsFirstStray, limit_of, IsEntry, NoneFarther, Follows, Holds, HoldsIn, IsNextWaiting, WaitsAt, IsLimitAt, IsFirstOf, IsLimitOf, IsLimit, AllHold, AllLimits, AreWaiting}
use Rattle.a64_buffer.proofs.Rooms.{open_wants, open_stop}

-- ---- elements of lists

contains_more : {X : Type 0} (y x : X) (xs : List X) → Contains xs x → Contains (y ∷ xs) x
contains_more y x xs (k, h, e) = (suc k, omega arith, e)

contains_rest : {X : Type 0} (y x : X) (xs : List X) → (y ≡ x → ⊥) → Contains (y ∷ xs) x → Contains xs x
contains_rest y x xs ne (zero, h, e) = absurd (ne e)
contains_rest y x xs ne (suc k, h, e) = (k, omega arith, e)

contains_none : {X : Type 0} (x : X) → Contains [] x → ⊥
contains_none x (k, h, e) = omega arith

pub last_of : {X : Type 0} (xs : List X) (y d : X) (k : ℕ) → k ≡ length xs → get_or (xs ++ y ∷ []) k d ≡ y
last_of xs y d k e = get_or-append_right xs (y ∷ []) (length xs) k d refl (omega arith) ∙ ap (λ n. get_or (y ∷ []) n d) (let z : k - length xs ≡ 0 = omega arith in z)

module _ {K : Type 0} (r : Kinds K) where
  -- uses that are the same, but that some of them are closed
  pub record Closes (us us' : List (Use K)) : Type 0 where
    pub same_length : length us' ≡ length us
    pub limit : (k : ℕ) (d : Use K) → k < length us → limit_of r (get_or us' k d) ≡ limit_of r (get_or us k d)
    pub class_is : (k : ℕ) (d : Use K) → k < length us → class r (get_or us' k d) ≡ class r (get_or us k d)
    pub opens : (k : ℕ) (d : Use K) → k < length us → is_open r (get_or us' k d) ≡ true → is_open r (get_or us k d) ≡ true

  closed_entry : (rank : ℕ) (us us' : List (Use K)) (e : ℕ × ℕ) → Closes us us' → IsEntry r rank us e → IsEntry r rank us' e
  closed_entry rank us us' e c h = record {
    within = omega (arith, h.within, c.same_length);
    limit = λ d. omega (arith, c.limit e.1 d h.within, h.limit d);
    rank_is = λ d. ap rank_of (c.class_is e.1 d h.within) ∙ h.rank_is d;
  }

  closed_farther : (rank : ℕ) (us us' : List (Use K)) (from to limit : ℕ) → Closes us us' → to ≤ length us → NoneFarther r rank us from to limit → NoneFarther r rank us' from to limit
  closed_farther rank us us' from to limit c le h j d a b o e =
      let w : j < length us = omega arith in
      let x : limit_of r (get_or us j d) ≤ limit = h j d a b (c.opens j d w o) (ap rank_of (sym (c.class_is j d w)) ∙ e) in
      omega (arith, x, c.limit j d w)

  closed_follows : (rank : ℕ) (us us' : List (Use K)) (next : Option ℕ) (k limit : ℕ) → Closes us us' → k ≤ length us → Follows r rank us next k limit → Follows r rank us' next k limit
  closed_follows rank us us' None k limit c le h = h
  closed_follows rank us us' (Some n) k limit c le h = (h.0, closed_farther rank us us' n k limit c le h.1)

  -- closed uses may stay in a queue
  pub closed_holds : (rank : ℕ) (us us' : List (Use K)) (most : ℕ) (next : Option ℕ) (es : List (ℕ × ℕ)) → Closes us us' → Holds r rank us most next es → Holds r rank us' most next es
  closed_holds rank us us' most next es c h = record {
    order = h.order;
    within = subst (λ (m : ℕ). IfSome next (λ n. n < m)) (sym c.same_length) h.within;
    farthest = subst (λ (m : ℕ). NoneFarther r rank us' 0 m most) (sym c.same_length) (closed_farther rank us us' 0 (length us) most c (omega arith) h.farthest);
    each = λ k d w o e.
        let l : k < length us = omega (arith, c.same_length) in
        elim (h.each k d l (c.opens k d l o) (ap rank_of (sym (c.class_is k d l)) ∙ e)) [
          | inl f ↦ inl (subst (Follows r rank us' next k) (sym (c.limit k d l)) (closed_follows rank us us' next k _ c (omega arith) f))
          | inr m ↦ inr (subst (λ p. Contains es (entry_of p k)) (sym (c.limit k d l)) m)
        ];
    only = λ k d w. closed_entry rank us us' (get_or es k d) c (h.only k d w);
  }

  pushed_entry : (rank : ℕ) (us : List (Use K)) (u : Use K) (e : ℕ × ℕ) → IsEntry r rank us e → IsEntry r rank (us ++ u ∷ []) e
  pushed_entry rank us u e h = record {
    within = omega (arith, h.within, length_push us u);
    limit = λ d. omega (arith, h.limit d, ap (limit_of r) (get_or_append_left us (u ∷ []) d e.1 h.within));
    rank_is = λ d. ap (λ v. rank_of (class r v)) (get_or_append_left us (u ∷ []) d e.1 h.within) ∙ h.rank_is d;
  }

  pushed_farther : (rank : ℕ) (us : List (Use K)) (u : Use K) (from to limit : ℕ) → to ≤ length us → NoneFarther r rank us from to limit → NoneFarther r rank (us ++ u ∷ []) from to limit
  pushed_farther rank us u from to limit le h j d a b o e =
      let same : get_or (us ++ u ∷ []) j d ≡ get_or us j d = get_or_append_left us (u ∷ []) d j (omega arith) in
      let x : limit_of r (get_or us j d) ≤ limit = h j d a b (ap (is_open r) (sym same) ∙ o) (ap (λ v. rank_of (class r v)) (sym same) ∙ e) in
      omega (arith, x, ap (limit_of r) same)

  -- the new use does not reach farther either
  all_farther : (rank : ℕ) (us : List (Use K)) (u : Use K) (from to limit most : ℕ) → to ≤ length us + 1 → most ≤ limit → limit_of r u ≤ limit → NoneFarther r rank us from (length us) most → NoneFarther r rank (us ++ u ∷ []) from to limit
  all_farther rank us u from to limit most le more is h j d a b o e = elim (cases_lt j (length us)) [
    | inl lt ↦
        let x : limit_of r (get_or (us ++ u ∷ []) j d) ≤ most = pushed_farther rank us u from (length us) most (omega arith) h j d a lt o e in
        omega arith
    | inr ge ↦
        let here : get_or (us ++ u ∷ []) j d ≡ u = last_of us u d j (omega arith) in
        omega (arith, ap (limit_of r) here)
  ]

  pushed_follows : (rank : ℕ) (us : List (Use K)) (u : Use K) (next : Option ℕ) (k limit : ℕ) → k ≤ length us → Follows r rank us next k limit → Follows r rank (us ++ u ∷ []) next k limit
  pushed_follows rank us u None k limit le h = h
  pushed_follows rank us u (Some n) k limit le h = (h.0, pushed_farther rank us u n k limit le h.1)

  old_each : (rank : ℕ) (us : List (Use K)) (u : Use K) (most : ℕ) (next : Option ℕ) (es : List (ℕ × ℕ)) → Holds r rank us most next es → (k : ℕ) (d : Use K) → k < length us → is_open r (get_or (us ++ u ∷ []) k d) ≡ true → rank_of (class r (get_or (us ++ u ∷ []) k d)) ≡ rank → Follows r rank (us ++ u ∷ []) next k (limit_of r (get_or (us ++ u ∷ []) k d)) ⊎ Contains es (entry_of (limit_of r (get_or (us ++ u ∷ []) k d)) k)
  old_each rank us u most next es h k d lt o e =
      let same : get_or (us ++ u ∷ []) k d ≡ get_or us k d = get_or_append_left us (u ∷ []) d k lt in
      subst (λ (v : Use K). Follows r rank (us ++ u ∷ []) next k (limit_of r v) ⊎ Contains es (entry_of (limit_of r v) k)) (sym same)
      (elim (h.each k d lt (ap (is_open r) (sym same) ∙ o) (ap (λ v. rank_of (class r v)) (sym same) ∙ e)) [
        | inl f ↦ inl (pushed_follows rank us u next k _ (omega arith) f)
        | inr m ↦ inr m
      ])

  longer : (us : List (Use K)) (u : Use K) (next : Option ℕ) → IfSome next (λ n. n < length us) → IfSome next (λ n. n < length (us ++ u ∷ []))
  longer us u None h = h
  longer us u (Some n) h = omega (arith, length_push us u)

  -- a use that is not of the rank, or not open, is not in the queue
  pub other_holds : (rank : ℕ) (us : List (Use K)) (u : Use K) (most : ℕ) (next : Option ℕ) (es : List (ℕ × ℕ)) → (is_open r u ≡ true → rank_of (class r u) ≡ rank → ⊥) → Holds r rank us most next es → Holds r rank (us ++ u ∷ []) most next es
  other_holds rank us u most next es ne h = record {
    order = h.order;
    within = longer us u next h.within;
    farthest = λ j d a b o e. elim (cases_lt j (length us)) [
      | inl lt ↦ pushed_farther rank us u 0 (length us) most (omega arith) h.farthest j d a lt o e
      | inr ge ↦
          let is : get_or (us ++ u ∷ []) j d ≡ u = last_of us u d j (omega (arith, length_push us u)) in
          absurd (ne (ap (is_open r) (sym is) ∙ o) (ap (λ v. rank_of (class r v)) (sym is) ∙ e))
    ];
    each = λ k d w o e. elim (cases_lt k (length us)) [
      | inl lt ↦ old_each rank us u most next es h k d lt o e
      | inr ge ↦
          let is : get_or (us ++ u ∷ []) k d ≡ u = last_of us u d k (omega (arith, length_push us u)) in
          absurd (ne (ap (is_open r) (sym is) ∙ o) (ap (λ v. rank_of (class r v)) (sym is) ∙ e))
    ];
    only = λ k d w. pushed_entry rank us u (get_or es k d) (h.only k d w);
  }

  rising_old : (rank : ℕ) (us : List (Use K)) (next next' : Option ℕ) (k limit m : ℕ) → MatchOption next (next' ≡ Some m) (λ n. next' ≡ Some n) → Follows r rank us next k limit → Follows r rank us next' k limit
  rising_old rank us None next' k limit m e h = absurd h
  rising_old rank us (Some n) next' k limit m e h = subst (λ o. Follows r rank us o k limit) (sym e) h

  rising_new : (rank : ℕ) (us : List (Use K)) (u : Use K) (most : ℕ) (next next' : Option ℕ) → most ≤ limit_of r u → NoneFarther r rank us 0 (length us) most → IfSome next (λ n. n < length us) → MatchOption next (next' ≡ Some (length us)) (λ n. next' ≡ Some n) → Follows r rank (us ++ u ∷ []) next' (length us) (limit_of r u)
  rising_new rank us u most None next' le h w e = subst (λ o. Follows r rank (us ++ u ∷ []) o (length us) (limit_of r u)) (sym e) (omega arith, λ j d a b o z. absurd (omega arith))
  rising_new rank us u most (Some n) next' le h w e = subst (λ o. Follows r rank (us ++ u ∷ []) o (length us) (limit_of r u)) (sym e) (omega arith, all_farther rank us u n (length us) (limit_of r u) most (omega arith) le (omega arith) (λ j d a b o z. h j d (omega arith) b o z))

  rising_within : (us : List (Use K)) (u : Use K) (next next' : Option ℕ) → IfSome next (λ n. n < length us) → MatchOption next (next' ≡ Some (length us)) (λ n. next' ≡ Some n) → IfSome next' (λ n. n < length (us ++ u ∷ []))
  rising_within us u None next' w e = subst (λ o. IfSome o (λ n. n < length (us ++ u ∷ []))) (sym e) (omega (arith, length_push us u))
  rising_within us u (Some n) next' w e = subst (λ o. IfSome o (λ n. n < length (us ++ u ∷ []))) (sym e) (omega (arith, length_push us u))

  -- a use whose limit is the greatest follows the others
  pub rising_holds : (rank : ℕ) (us : List (Use K)) (u : Use K) (most : ℕ) (next next' : Option ℕ) (es : List (ℕ × ℕ)) → most ≤ limit_of r u → MatchOption next (next' ≡ Some (length us)) (λ n. next' ≡ Some n) → Holds r rank us most next es → Holds r rank (us ++ u ∷ []) (limit_of r u) next' es
  rising_holds rank us u most next next' es le n h = record {
    order = h.order;
    within = rising_within us u next next' h.within n;
    farthest = all_farther rank us u 0 (length (us ++ u ∷ [])) (limit_of r u) most (omega (arith, length_push us u)) le (omega arith) h.farthest;
    each = λ k d w o e. elim (cases_lt k (length us)) [
      | inl lt ↦ elim (old_each rank us u most next es h k d lt o e) [
        | inl f ↦ inl (rising_old rank (us ++ u ∷ []) next next' k _ (length us) n f)
        | inr m ↦ inr m
      ]
      | inr ge ↦
          let here : k ≡ length us = omega (arith, length_push us u) in
          let is : get_or (us ++ u ∷ []) k d ≡ u = last_of us u d k here in
          inl (subst (λ (v : Use K). Follows r rank (us ++ u ∷ []) next' k (limit_of r v)) (sym is) (subst (λ i. Follows r rank (us ++ u ∷ []) next' i (limit_of r u)) (sym here) (rising_new rank us u most next next' le h.farthest h.within n)))
    ];
    only = λ k d w. pushed_entry rank us u (get_or es k d) (h.only k d w);
  }

  -- an open use with a lesser limit is a stray
  pub stray_holds : (rank : ℕ) (us : List (Use K)) (u : Use K) (index most : ℕ) (next : Option ℕ) (es es' : List (ℕ × ℕ)) → index ≡ length us → limit_of r u < 2 ^ 64 → limit_of r u < most → rank_of (class r u) ≡ rank → IsPermutation (entry_of (limit_of r u) index ∷ es) es' → (IsHeap entry_cmp es → IsHeap entry_cmp es') → Holds r rank us most next es → Holds r rank (us ++ u ∷ []) most next es'
  stray_holds rank us u index most next es es' at short less is_rank p heap h = record {
    order = heap h.order;
    within = longer us u next h.within;
    farthest = all_farther rank us u 0 (length (us ++ u ∷ [])) most most (omega (arith, length_push us u)) (omega arith) (omega arith) h.farthest;
    each = λ k d w o e. elim (cases_lt k (length us)) [
      | inl lt ↦ elim (old_each rank us u most next es h k d lt o e) [
        | inl f ↦ inl f
        | inr m ↦ inr (Contains-permutation _ _ _ p (contains_more (entry_of (limit_of r u) index) _ es m))
      ]
      | inr ge ↦
          let here : k ≡ index = omega (arith, length_push us u) in
          let is : get_or (us ++ u ∷ []) k d ≡ u = last_of us u d k (omega arith) in
          inr (Contains-permutation _ _ _ p (subst (λ (v : Use K). Contains (entry_of (limit_of r u) index ∷ es) (entry_of (limit_of r v) k)) (sym is) (subst (λ n. Contains (entry_of (limit_of r u) index ∷ es) (entry_of (limit_of r u) n)) (sym here) (zero, omega arith, refl))))
    ];
    only = All-permutation (IsEntry r rank (us ++ u ∷ [])) _ _ p (All-cons (IsEntry r rank (us ++ u ∷ [])) (entry_of (limit_of r u) index) es
        (record {
          within = omega (arith, length_push us u);
          limit = λ d. omega (arith, ap (limit_of r) (last_of us u d index at));
          rank_is = λ d. ap (λ v. rank_of (class r v)) (last_of us u d index at) ∙ is_rank;
        })
        (λ k d w. pushed_entry rank us u (get_or es k d) (h.only k d w)));
  }

  -- a use was added in one of the two ways
  abbrev Rises : ℕ → ℕ → Queue → Queue → Type 0
  Rises limit index q q' = q.most ≤ limit → (q'.most ≡ limit) × MatchOption q.next (q'.next ≡ Some index) (λ n. q'.next ≡ Some n) × (entries q' ≡ entries q)

  abbrev Strays : ℕ → ℕ → Queue → Queue → Type 0
  Strays limit index q q' = limit < q.most → (q'.most ≡ q.most) × (q'.next ≡ q.next) × IsPermutation (entry_of limit index ∷ entries q) (entries q') × (IsHeap entry_cmp (entries q) → IsHeap entry_cmp (entries q'))

  rises : (rank : ℕ) (us : List (Use K)) (u : Use K) (index : ℕ) (q q' : Queue) → index ≡ length us → q.most ≤ limit_of r u → Rises (limit_of r u) index q q' → HoldsIn r rank us q → HoldsIn r rank (us ++ u ∷ []) q'
  rises rank us u index q q' at le a h =
      let e = a le in
      subst (λ m. Holds r rank (us ++ u ∷ []) m q'.next (entries q')) (sym e.0)
      (subst (Holds r rank (us ++ u ∷ []) (limit_of r u) q'.next) (sym e.2)
      (rising_holds rank us u q.most q.next q'.next (entries q) le (subst (λ i. MatchOption q.next (q'.next ≡ Some i) (λ n. q'.next ≡ Some n)) at e.1) h))

  strays : (rank : ℕ) (us : List (Use K)) (u : Use K) (index : ℕ) (q q' : Queue) → index ≡ length us → limit_of r u < 2 ^ 64 → rank_of (class r u) ≡ rank → limit_of r u < q.most → Strays (limit_of r u) index q q' → HoldsIn r rank us q → HoldsIn r rank (us ++ u ∷ []) q'
  strays rank us u index q q' at short is_rank lt a h =
      let e = a lt in
      subst (λ m. Holds r rank (us ++ u ∷ []) m q'.next (entries q')) (sym e.0)
      (subst (λ n. Holds r rank (us ++ u ∷ []) q.most n (entries q')) (sym e.1)
      (stray_holds rank us u index q.most q.next (entries q) (entries q') at short lt is_rank e.2 e.3 h))

  pub added_holds : (rank : ℕ) (us : List (Use K)) (u : Use K) (index limit : ℕ) (q q' : Queue) → limit ≡ limit_of r u → index ≡ length us → limit < 2 ^ 64 → rank_of (class r u) ≡ rank → Rises limit index q q' → Strays limit index q q' → HoldsIn r rank us q → HoldsIn r rank (us ++ u ∷ []) q'
  added_holds rank us u index limit q q' e =
      subst (λ l. index ≡ length us → l < 2 ^ 64 → rank_of (class r u) ≡ rank → Rises l index q q' → Strays l index q q' → HoldsIn r rank us q → HoldsIn r rank (us ++ u ∷ []) q') (sym e)
      (λ at short is_rank a b h. elim (cases_lt (limit_of r u) q.most) [
        | inl lt ↦ strays rank us u index q q' at short is_rank lt b h
        | inr ge ↦ rises rank us u index q q' at ge a h
      ])

  -- the first stray leaves, whose use is closed
  pub dropped_holds : (rank : ℕ) (us : List (Use K)) (most : ℕ) (next : Option ℕ) (es es' : List (ℕ × ℕ)) → ((d : Use K) → is_open r (get_or us (get_or es 0 (0, 0)).1 d) ≡ false) → IsPermutation es (get_or es 0 (0, 0) ∷ es') → (IsHeap entry_cmp es → IsHeap entry_cmp es') → Holds r rank us most next es → Holds r rank us most next es'
  dropped_holds rank us most next es es' closed p heap h = record {
    order = heap h.order;
    within = h.within;
    farthest = h.farthest;
    each = λ k d w o e. elim (h.each k d w o e) [
      | inl f ↦ inl f
      | inr m ↦ inr (contains_rest (get_or es 0 (0, 0)) _ es' (λ z. let x : false ≡ true = sym (closed d) ∙ (ap (λ (y : ℕ × ℕ). is_open r (get_or us y.1 d)) z ∙ o) in cc) (Contains-permutation _ _ _ p m))
    ];
    only = All-tail (IsEntry r rank us) (get_or es 0 (0, 0)) es' (All-permutation (IsEntry r rank us) _ _ p h.only);
  }

  pub skipped_waits : (rank : ℕ) (us : List (Use K)) (n : ℕ) (next : Option ℕ) → IsNextWaiting r rank us n next → WaitsAt r rank us next
  skipped_waits rank us n None s = record {}
  skipped_waits rank us n (Some i) s = (s.1, s.2, s.3)

  -- ---- limits

  follows_least : (rank : ℕ) (us : List (Use K)) (next : Option ℕ) (a k : ℕ) (d : Use K) → WaitsAt r rank us next → IsLimitAt r us next a → Follows r rank us next k (limit_of r (get_or us k d)) → a ≤ limit_of r (get_or us k d)
  follows_least rank us None a k d w i f = absurd f
  follows_least rank us (Some n) a k d w i f = elim (cases_lt n k) [
    | inl lt ↦ let x : limit_of r (get_or us n d) ≤ limit_of r (get_or us k d) = f.1 n d (omega arith) lt (w.1 d) (w.2 d) in omega (arith, i d)
    | inr ge ↦ let x : n ≤ k = f.0 in let e : n ≡ k = omega arith in let y : a ≡ limit_of r (get_or us k d) = i d ∙ ap (λ m. limit_of r (get_or us m d)) e in omega arith
  ]

  stray_least : (rank : ℕ) (us : List (Use K)) (es : List (ℕ × ℕ)) (s : Option ℕ) (b k : ℕ) (d : Use K) → All (IsEntry r rank us) es → IsFirstStray es s → IfSome s (λ i. All (λ e. e.0 ≤ (get_or es 0 (0, 0)).0) es) → IsLimitAt r us s b → Contains es (entry_of (limit_of r (get_or us k d)) k) → b ≤ limit_of r (get_or us k d)
  stray_least rank us es None b k d only front most i c = absurd (contains_none _ (subst (λ xs. Contains xs (entry_of (limit_of r (get_or us k d)) k)) front c))
  stray_least rank us es (Some s) b k d only front most i c =
      let entry : IsEntry r rank us (get_or es 0 (0, 0)) = only 0 (0, 0) front.0 in
      let le : (get_or es c.0 (entry_of (limit_of r (get_or us k d)) k)).0 ≤ (get_or es 0 (0, 0)).0 = most c.0 (entry_of (limit_of r (get_or us k d)) k) c.1 in
      let same : (get_or es c.0 (entry_of (limit_of r (get_or us k d)) k)).0 ≡ 2 ^ 64 - 1 - limit_of r (get_or us k d) = ap (λ (y : ℕ × ℕ). y.0) c.2 in
      let is : b ≡ limit_of r (get_or us (get_or es 0 (0, 0)).1 d) = i d ∙ ap (λ n. limit_of r (get_or us n d)) (sym front.1) in
      omega (arith, entry.limit d, le, same, is)

  -- ---- the first of a rank

  pub at_index : (us : List (Use K)) (i : ℕ) (u : Use K) → i < length us → u ≡ get_or us i u → (d : Use K) → limit_of r u ≡ limit_of r (get_or us i d)
  at_index us i u w is d = ap (limit_of r) (is ∙ get_or_default us i u d w)

  -- without strays it is the next
  pub first_next : (rank : ℕ) (us : List (Use K)) (most : ℕ) (next : Option ℕ) (es : List (ℕ × ℕ)) → es ≡ [] → Holds r rank us most next es → WaitsAt r rank us next → IsFirstOf r rank us next
  first_next rank us most None es none h w = λ j d a b o e. elim (h.each j d b o e) [
    | inl f ↦ f
    | inr m ↦ contains_none _ (subst (λ xs. Contains xs (entry_of (limit_of r (get_or us j d)) j)) none m)
  ]
  first_next rank us most (Some n) es none h w = (
    w.0,
    w.1,
    w.2,
    λ c k d b o e. elim (h.each k d b o e) [
      | inl f ↦ follows_least rank us (Some n) (limit_of r (get_or us n c)) k d w (λ x. ap (limit_of r) (get_or_default us n c x w.0)) f
      | inr m ↦ absurd (contains_none _ (subst (λ xs. Contains xs (entry_of (limit_of r (get_or us k d)) k)) none m))
    ],
  )

  -- without a next it is the first stray
  pub first_stray : (rank : ℕ) (us : List (Use K)) (most : ℕ) (next : Option ℕ) (es : List (ℕ × ℕ)) (s : ℕ) → next ≡ None → Holds r rank us most next es → WaitsAt r rank us (Some s) → IsFirstStray es (Some s) → All (λ e. e.0 ≤ (get_or es 0 (0, 0)).0) es → IsFirstOf r rank us (Some s)
  first_stray rank us most next es s none h w front greatest = (
    w.0,
    w.1,
    w.2,
    λ c k d b o e. elim (h.each k d b o e) [
      | inl f ↦ absurd (subst (λ n. Follows r rank us n k (limit_of r (get_or us k d))) none f)
      | inr m ↦ stray_least rank us es (Some s) (limit_of r (get_or us s c)) k d h.only front greatest (λ x. ap (limit_of r) (get_or_default us s c x w.0)) m
    ],
  )

  -- and else that of the two which has the lesser limit
  pub first_of_two : (rank : ℕ) (us : List (Use K)) (most n s i : ℕ) (next : Option ℕ) (es : List (ℕ × ℕ)) → next ≡ Some n → Holds r rank us most next es → WaitsAt r rank us (Some n) → WaitsAt r rank us (Some s) → IsFirstStray es (Some s) → All (λ e. e.0 ≤ (get_or es 0 (0, 0)).0) es → WaitsAt r rank us (Some i) → ((d : Use K) → limit_of r (get_or us i d) ≤ limit_of r (get_or us n d)) → ((d : Use K) → limit_of r (get_or us i d) ≤ limit_of r (get_or us s d)) → IsFirstOf r rank us (Some i)
  first_of_two rank us most n s i next es e h wn ws front greatest w ln ls = (
    w.0,
    w.1,
    w.2,
    λ c k d b o z. elim (h.each k d b o z) [
      | inl f ↦ let x : limit_of r (get_or us n c) ≤ limit_of r (get_or us k d) = follows_least rank us (Some n) (limit_of r (get_or us n c)) k d wn (λ x. ap (limit_of r) (get_or_default us n c x wn.0)) (subst (λ o. Follows r rank us o k (limit_of r (get_or us k d))) e f) in omega (arith, x, ln c)
      | inr m ↦ let x : limit_of r (get_or us s c) ≤ limit_of r (get_or us k d) = stray_least rank us es (Some s) (limit_of r (get_or us s c)) k d h.only front greatest (λ x. ap (limit_of r) (get_or_default us s c x ws.0)) m in omega (arith, x, ls c)
    ],
  )

  pub limit_of_first : (rank : ℕ) (us : List (Use K)) (result : Option ℕ) (limit index : ℕ) → index ≡ unwrap_or result 0 → IsFirstOf r rank us result → IsLimitAt r us result limit → IsLimit r rank us limit index
  limit_of_first rank us None limit index e f i = record { least = λ k d w o z. absurd (f k d (omega arith) w o z); some = inl i }
  limit_of_first rank us (Some n) limit index e f i = record {
    least = λ k d w o z. let x : limit_of r (get_or us n d) ≤ limit_of r (get_or us k d) = f.3 d k d w o z in omega (arith, x, i d);
    some = inr (subst (IsLimitOf r rank us limit) (sym e) (record { within = f.0; open' = f.1; rank_is = f.2; is = i }));
  }

  pub stray_waits : (rank : ℕ) (us : List (Use K)) (es : List (ℕ × ℕ)) (s : Option ℕ) → IsFirstStray es s → ((i : ℕ) → IsFirstStray es (Some i) → WaitsAt r rank us (Some i)) → WaitsAt r rank us s
  stray_waits rank us es None f h = record {}
  stray_waits rank us es (Some i) f h = h i f

  pub heap_greatest : (es : List (ℕ × ℕ)) (s : Option ℕ) → IsHeap entry_cmp es → IfSome s (λ i. IsHeap entry_cmp es → All (λ e. e.0 ≤ (get_or es 0 (0, 0)).0) es) → IfSome s (λ i. All (λ e. e.0 ≤ (get_or es 0 (0, 0)).0) es)
  heap_greatest es None h f = f
  heap_greatest es (Some i) h f = f h

  pub stopped_closed : (v : Use K) → is_none v.stop ≡ false → is_open r v ≡ false
  stopped_closed v e = go (wants (class r v)) (is_none v.stop) e
    where
      go : (a b : Bool) → b ≡ false → (a && b) ≡ false
      go true b e = e
      go false b e = refl

  -- a use was closed
  pub set_closes : (us : List (Use K)) (i : ℕ) (v : Use K) → i < length us → ((d : Use K) → limit_of r v ≡ limit_of r (get_or us i d)) → ((d : Use K) → class r v ≡ class r (get_or us i d)) → is_open r v ≡ false → Closes us (set us i v)
  set_closes us i v l same_limit same_class closed = record {
    same_length = length-set us i v;
    limit = λ k d w. elim (cases_eq k i) [
      | inl z ↦ ap (limit_of r) (ap (λ n. get_or (set us i v) n d) z ∙ get_or-set_same us i v d l) ∙ (same_limit d ∙ ap (λ n. limit_of r (get_or us n d)) (sym z))
      | inr n ↦ ap (limit_of r) (get_or-set_other us i k v d n)
    ];
    class_is = λ k d w. elim (cases_eq k i) [
      | inl z ↦ ap (class r) (ap (λ n. get_or (set us i v) n d) z ∙ get_or-set_same us i v d l) ∙ (same_class d ∙ ap (λ n. class r (get_or us n d)) (sym z))
      | inr n ↦ ap (class r) (get_or-set_other us i k v d n)
    ];
    opens = λ k d w o. elim (cases_eq k i) [
      | inl z ↦ let x : false ≡ true = sym closed ∙ (ap (is_open r) (sym (ap (λ n. get_or (set us i v) n d) z ∙ get_or-set_same us i v d l)) ∙ o) in absurd (let y : false ≡ true = x in cc)
      | inr n ↦ ap (is_open r) (sym (get_or-set_other us i k v d n)) ∙ o
    ];
  }

  pushed_limit_of : (rank : ℕ) (us : List (Use K)) (u : Use K) (limit index : ℕ) → (limit ≡ 2 ^ 64 - 1) ⊎ IsLimitOf r rank us limit index → (limit ≡ 2 ^ 64 - 1) ⊎ IsLimitOf r rank (us ++ u ∷ []) limit index
  pushed_limit_of rank us u limit index (inl e) = inl e
  pushed_limit_of rank us u limit index (inr h) =
      let same : (d : Use K) → get_or (us ++ u ∷ []) index d ≡ get_or us index d = λ d. get_or_append_left us (u ∷ []) d index h.within in
      inr (record {
        within = omega (arith, h.within, length_push us u);
        open' = λ d. ap (is_open r) (same d) ∙ h.open' d;
        rank_is = λ d. ap (λ v. rank_of (class r v)) (same d) ∙ h.rank_is d;
        is = λ d. h.is d ∙ ap (limit_of r) (sym (same d));
      })

  pub other_limit : (rank : ℕ) (us : List (Use K)) (u : Use K) (limit index : ℕ) → (is_open r u ≡ true → rank_of (class r u) ≡ rank → limit ≤ limit_of r u) → IsLimit r rank us limit index → IsLimit r rank (us ++ u ∷ []) limit index
  other_limit rank us u limit index le h = record {
    least = All-push (λ v. is_open r v ≡ true → rank_of (class r v) ≡ rank → limit ≤ limit_of r v) us u h.least le;
    some = pushed_limit_of rank us u limit index h.some;
  }

  pub lesser_limit : (rank : ℕ) (us : List (Use K)) (u : Use K) (limit index : ℕ) → limit_of r u < limit → is_open r u ≡ true → rank_of (class r u) ≡ rank → IsLimit r rank us limit index → IsLimit r rank (us ++ u ∷ []) (limit_of r u) (length us)
  lesser_limit rank us u limit index lt o e h = record {
    least = All-push (λ v. is_open r v ≡ true → rank_of (class r v) ≡ rank → limit_of r u ≤ limit_of r v) us u (λ k d w p z. let x = h.least k d w p z in omega arith) (λ p z. omega arith);
    some = inr (record {
      within = omega (arith, length_push us u);
      open' = λ d. ap (is_open r) (last_of us u d (length us) refl) ∙ o;
      rank_is = λ d. ap (λ v. rank_of (class r v)) (last_of us u d (length us) refl) ∙ e;
      is = λ d. ap (limit_of r) (sym (last_of us u d (length us) refl));
    });
  }

  -- a use was added, whose limit is the least or not
  pub pushed_limit : (rank : ℕ) (us : List (Use K)) (u : Use K) (index l : ℕ) (q q' : Queue) → l ≡ limit_of r u → index ≡ length us → is_open r u ≡ true → rank_of (class r u) ≡ rank → (l < q.limit → (q'.limit ≡ l) × (q'.first ≡ index)) → (q.limit ≤ l → (q'.limit ≡ q.limit) × (q'.first ≡ q.first)) → IsLimit r rank us q.limit q.first → IsLimit r rank (us ++ u ∷ []) q'.limit q'.first
  pushed_limit rank us u index l q q' e at o z lesser kept h = elim (cases_lt l q.limit) [
    | inl lt ↦
        let x = lesser lt in
        let first_is : q'.first ≡ length us = x.1 ∙ at in
        subst (λ m. IsLimit r rank (us ++ u ∷ []) m q'.first) (sym (x.0 ∙ e)) (subst (IsLimit r rank (us ++ u ∷ []) (limit_of r u)) (sym first_is) (lesser_limit rank us u q.limit q.first (omega arith) o z h))
    | inr ge ↦
        let x = kept ge in
        subst (λ m. IsLimit r rank (us ++ u ∷ []) m q'.first) (sym x.0) (subst (IsLimit r rank (us ++ u ∷ []) q.limit) (sym x.1) (other_limit rank us u q.limit q.first (λ p y. omega arith) h))
  ]

  -- a use at an index was closed, which was not the one of the limit
  pub closed_limit : (rank : ℕ) (us us' : List (Use K)) (i : ℕ) (v : Use K) (limit index : ℕ) → us' ≡ set us i v → i < length us → is_open r v ≡ false → ((d : Use K) → is_open r (get_or us i d) ≡ true → rank_of (class r (get_or us i d)) ≡ rank → limit ≢ limit_of r (get_or us i d)) → IsLimit r rank us limit index → IsLimit r rank us' limit index
  closed_limit rank us us' i v limit index is l closed ne h = subst (λ xs. IsLimit r rank xs limit index) (sym is) (record {
    least = λ k d w o e. elim (cases_eq k i) [
      | inl z ↦ let x : false ≡ true = sym closed ∙ (ap (is_open r) (sym (ap (λ n. get_or (set us i v) n d) z ∙ get_or-set_same us i v d l)) ∙ o) in absurd (let y : false ≡ true = x in cc)
      | inr n ↦
          let same : get_or (set us i v) k d ≡ get_or us k d = get_or-set_other us i k v d n in
          let x : limit ≤ limit_of r (get_or us k d) = h.least k d (omega (arith, length-set us i v)) (ap (is_open r) (sym same) ∙ o) (ap (λ u. rank_of (class r u)) (sym same) ∙ e) in
          omega (arith, ap (limit_of r) same)
    ];
    some = go h.some;
  })
    where
      go : (limit ≡ 2 ^ 64 - 1) ⊎ IsLimitOf r rank us limit index → (limit ≡ 2 ^ 64 - 1) ⊎ IsLimitOf r rank (set us i v) limit index
      go (inl e) = inl e
      go (inr s) = elim (cases_eq index i) [
        | inl z ↦ absurd (ne v (ap (λ n. is_open r (get_or us n v)) (sym z) ∙ s.open' v) (ap (λ n. rank_of (class r (get_or us n v))) (sym z) ∙ s.rank_is v) (s.is v ∙ ap (λ n. limit_of r (get_or us n v)) z))
        | inr n ↦
            let same : (d : Use K) → get_or (set us i v) index d ≡ get_or us index d = λ d. get_or-set_other us i index v d n in
            inr (record {
              within = omega (arith, s.within, length-set us i v);
              open' = λ d. ap (is_open r) (same d) ∙ s.open' d;
              rank_is = λ d. ap (λ u. rank_of (class r u)) (same d) ∙ s.rank_is d;
              is = λ d. s.is d ∙ ap (limit_of r) (sym (same d));
            })
      ]

  -- uses were closed, but not the one of the limit
  pub kept_limit : (rank : ℕ) (us us' : List (Use K)) (limit index : ℕ) → Closes us us' → ((d : Use K) → index < length us → rank_of (class r (get_or us index d)) ≡ rank → get_or us' index d ≡ get_or us index d) → IsLimit r rank us limit index → IsLimit r rank us' limit index
  kept_limit rank us us' limit index c stays h = record {
    least = λ k d w o e.
        let l : k < length us = omega (arith, w, c.same_length) in
        let x : limit ≤ limit_of r (get_or us k d) = h.least k d l (c.opens k d l o) (ap rank_of (sym (c.class_is k d l)) ∙ e) in
        omega (arith, x, c.limit k d l);
    some = go h.some;
  }
    where
      go : (limit ≡ 2 ^ 64 - 1) ⊎ IsLimitOf r rank us limit index → (limit ≡ 2 ^ 64 - 1) ⊎ IsLimitOf r rank us' limit index
      go (inl e) = inl e
      go (inr s) =
          let same : (d : Use K) → get_or us' index d ≡ get_or us index d = λ d. stays d s.within (s.rank_is d) in
          inr (record {
            within = omega (arith, s.within, c.same_length);
            open' = λ d. ap (is_open r) (same d) ∙ s.open' d;
            rank_is = λ d. ap (λ u. rank_of (class r u)) (same d) ∙ s.rank_is d;
            is = λ d. s.is d ∙ ap (limit_of r) (sym (same d));
          })

-- ---- all queues

-- a queue was changed, which lost no room
pub set_room : (start queues : List Queue) (rank : ℕ) (old new : Queue) (count : ℕ) → rank < length queues → LoseRoom count start queues → LosesRoom 0 (get_or queues rank old) new → LoseRoom count start (set queues rank new)
set_room start queues rank old new count w h n k q l = elim (cases_eq k rank) [
  | inl e ↦ subst (λ (v : Queue). LosesRoom count (get_or start k q) v) (sym (ap (λ i. get_or (set queues rank new) i q) e ∙ get_or-set_same queues rank new q w))
      (let x : LosesRoom count (get_or start rank q) (get_or queues rank q) = subst (λ i. LosesRoom count (get_or start i q) (get_or queues i q)) e (h k q l) in
      let y : LosesRoom 0 (get_or queues rank q) new = subst (λ v. LosesRoom 0 v new) (get_or_default queues rank old q w) n in
      subst (λ i. LosesRoom count (get_or start i q) new) (sym e) (omega (arith, x, y)))
  | inr ne ↦ subst (λ (v : Queue). LosesRoom count (get_or start k q) v) (sym (get_or-set_other queues rank k new q ne)) (h k q l)
]

module _ {K : Type 0} (r : Kinds K) where
  -- a queue was changed, so that it still holds
  pub set_hold : (uses : List (Use K)) (queues : List Queue) (rank : ℕ) (new : Queue) → rank < length queues → AllHold r uses queues → HoldsIn r rank uses new → AllHold r uses (set queues rank new)
  set_hold uses queues rank new w h n k q l = elim (cases_eq k rank) [
    | inl e ↦ subst (λ (v : Queue). HoldsIn r k uses v) (sym (ap (λ i. get_or (set queues rank new) i q) e ∙ get_or-set_same queues rank new q w)) (subst (λ i. HoldsIn r i uses new) (sym e) n)
    | inr ne ↦ subst (λ (v : Queue). HoldsIn r k uses v) (sym (get_or-set_other queues rank k new q ne)) (h k q l)
  ]

  pub set_limits : (uses : List (Use K)) (queues : List Queue) (rank to : ℕ) (new : Queue) → rank < length queues → ((k : ℕ) (q : Queue) → k < to → k ≢ rank → IsLimit r k uses (get_or queues k q).limit (get_or queues k q).first) → IsLimit r rank uses new.limit new.first → (k : ℕ) (q : Queue) → k < to → IsLimit r k uses (get_or (set queues rank new) k q).limit (get_or (set queues rank new) k q).first
  set_limits uses queues rank to new w h n k q l = elim (cases_eq k rank) [
    | inl e ↦ subst (λ (v : Queue). IsLimit r k uses v.limit v.first) (sym (ap (λ i. get_or (set queues rank new) i q) e ∙ get_or-set_same queues rank new q w)) (subst (λ i. IsLimit r i uses new.limit new.first) (sym e) n)
    | inr ne ↦ subst (λ (v : Queue). IsLimit r k uses v.limit v.first) (sym (get_or-set_other queues rank k new q ne)) (h k q l ne)
  ]

  pub wanting_rank : (c : Class) → wants c ≡ true → rank_of c < 5
  wanting_rank Near w = omega arith
  wanting_rank Middle w = omega arith
  wanting_rank Load w = omega arith
  wanting_rank Trapping w = omega arith
  wanting_rank Far w = omega arith
  wanting_rank Direct w = absurd (let z : false ≡ true = w in cc)

  -- what is open has a rank
  pub open_rank : (u : Use K) → is_open r u ≡ true → rank_of (class r u) < 5
  open_rank u o = wanting_rank (class r u) (open_wants r u o)

  -- an open use is in the queue of its rank
  pub push_hold : (uses : List (Use K)) (queues : List Queue) (u : Use K) (rank : ℕ) (old new : Queue) → rank < length queues → rank ≡ rank_of (class r u) → (HoldsIn r rank uses (get_or queues rank old) → HoldsIn r rank (uses ++ u ∷ []) new) → AllHold r uses queues → AllHold r (uses ++ u ∷ []) (set queues rank new)
  push_hold uses queues u rank old new w is_rank p h k q l = elim (cases_eq k rank) [
    | inl e ↦ subst (λ (v : Queue). HoldsIn r k (uses ++ u ∷ []) v) (sym (ap (λ i. get_or (set queues rank new) i q) e ∙ get_or-set_same queues rank new q w))
        (subst (λ i. HoldsIn r i (uses ++ u ∷ []) new) (sym e) (p (subst (λ i. HoldsIn r i uses (get_or queues i old)) e (h k old l))))
    | inr ne ↦ subst (λ (v : Queue). HoldsIn r k (uses ++ u ∷ []) v) (sym (get_or-set_other queues rank k new q ne))
        (other_holds r k uses u _ _ _ (λ o e. ne (sym e ∙ sym is_rank)) (h k q l))
  ]

  pub push_limits : (uses : List (Use K)) (queues : List Queue) (u : Use K) (rank : ℕ) (old new : Queue) → rank < length queues → rank ≡ rank_of (class r u) → (IsLimit r rank uses (get_or queues rank old).limit (get_or queues rank old).first → IsLimit r rank (uses ++ u ∷ []) new.limit new.first) → AllLimits r uses queues → AllLimits r (uses ++ u ∷ []) (set queues rank new)
  push_limits uses queues u rank old new w is_rank p h k q l = elim (cases_eq k rank) [
    | inl e ↦ subst (λ (v : Queue). IsLimit r k (uses ++ u ∷ []) v.limit v.first) (sym (ap (λ i. get_or (set queues rank new) i q) e ∙ get_or-set_same queues rank new q w))
        (subst (λ i. IsLimit r i (uses ++ u ∷ []) new.limit new.first) (sym e) (p (subst (λ i. IsLimit r i uses (get_or queues i old).limit (get_or queues i old).first) e (h k old l))))
    | inr ne ↦ subst (λ (v : Queue). IsLimit r k (uses ++ u ∷ []) v.limit v.first) (sym (get_or-set_other queues rank k new q ne))
        (other_limit r k uses u _ _ (λ o e. absurd (ne (sym e ∙ sym is_rank))) (h k q l))
  ]

  -- a use that is not open is in none
  pub skip_hold : (uses : List (Use K)) (queues : List Queue) (u : Use K) → is_open r u ≡ false → AllHold r uses queues → AllHold r (uses ++ u ∷ []) queues
  skip_hold uses queues u e h k q l = other_holds r k uses u _ _ _ (λ o z. let x : false ≡ true = sym e ∙ o in cc) (h k q l)

  pub skip_limits : (uses : List (Use K)) (queues : List Queue) (u : Use K) → is_open r u ≡ false → AllLimits r uses queues → AllLimits r (uses ++ u ∷ []) queues
  skip_limits uses queues u e h k q l = other_limit r k uses u _ _ (λ o z. absurd (let x : false ≡ true = sym e ∙ o in cc)) (h k q l)

  pub all_closed_hold : (us us' : List (Use K)) (queues : List Queue) → Closes r us us' → AllHold r us queues → AllHold r us' queues
  all_closed_hold us us' queues c h k q l = closed_holds r k us us' _ _ _ c (h k q l)

  -- and leave the limits as they are, where what wants anything stays
  pub all_kept_limits : (us us' : List (Use K)) (queues : List Queue) → Closes r us us' → ((k : ℕ) (d : Use K) → k < length us → rank_of (class r (get_or us k d)) < 5 → get_or us' k d ≡ get_or us k d) → AllLimits r us queues → AllLimits r us' queues
  all_kept_limits us us' queues c stays h k q l = kept_limit r k us us' (get_or queues k q).limit (get_or queues k q).first c (λ d w e. stays (get_or queues k q).first d w (omega (arith, l, e))) (h k q l)

  -- a use that gets a stop leaves what the queues hold
  pub stopped_hold : (us : List (Use K)) (queues : List Queue) (i : ℕ) (d : Use K) (stop : Option ℕ) → i < length us → is_none stop ≡ false → AllHold r us queues → AllHold r (set us i (record (get_or us i d) { stop = stop })) queues
  stopped_hold us queues i d stop l some h =
      let v : Use K = record (get_or us i d) { stop = stop } in
      all_closed_hold us (set us i v) queues
      (set_closes r us i v l (λ e. ap (limit_of r) (get_or_default us i d e l)) (λ e. ap (class r) (get_or_default us i d e l)) (stopped_closed r v some))
      h

  -- and it leaves the least limit of a rank, where that is not its own
  pub stopped_limit : (rank : ℕ) (us : List (Use K)) (i : ℕ) (d : Use K) (stop : Option ℕ) (limit index : ℕ) → i < length us → is_none stop ≡ false → ((e : Use K) → is_open r (get_or us i e) ≡ true → rank_of (class r (get_or us i e)) ≡ rank → limit ≢ limit_of r (get_or us i e)) → IsLimit r rank us limit index → IsLimit r rank (set us i (record (get_or us i d) { stop = stop })) limit index
  stopped_limit rank us i d stop limit index l some ne h =
      let v : Use K = record (get_or us i d) { stop = stop } in
      closed_limit r rank us (set us i v) i v limit index refl l (stopped_closed r v some) ne h

  -- queues that differ in their memory at most
  pub same_hold : (us : List (Use K)) (queues queues' : List Queue) → ((rank : ℕ) (q : Queue) → IsSameQueue (get_or queues rank q) (get_or queues' rank q)) → AllHold r us queues → AllHold r us queues'
  same_hold us queues queues' same h k q l =
      let s = same k q in
      subst (λ m. Holds r k us m (get_or queues' k q).next (entries (get_or queues' k q))) (sym s.most)
      (subst (λ n. Holds r k us (get_or queues k q).most n (entries (get_or queues' k q))) (sym s.next)
      (subst (Holds r k us (get_or queues k q).most (get_or queues k q).next) (sym s.entries') (h k q l)))

  pub same_limits : (us : List (Use K)) (queues queues' : List Queue) → ((rank : ℕ) (q : Queue) → IsSameQueue (get_or queues rank q) (get_or queues' rank q)) → AllLimits r us queues → AllLimits r us queues'
  same_limits us queues queues' same h k q l = subst (λ m. IsLimit r k us m (get_or queues' k q).first) (sym (same k q).limit) (subst (IsLimit r k us (get_or queues k q).limit) (sym (same k q).first) (h k q l))

  no_holds : (rank most : ℕ) → IsHeap entry_cmp [] → Holds r rank [] most None []
  no_holds rank most order = record {
    order = order;
    within = record {};
    farthest = λ j d a b o e. absurd (let z : j < 0 = b in omega arith);
    each = λ i d w o e. absurd (let z : i < 0 = w in omega arith);
    only = All-nil (IsEntry r rank []);
  }

  pub none_waits : (uses : List (Use K)) (queues : List Queue) (b : Burdens) → uses ≡ [] → ((rank : ℕ) (q : Queue) → rank < 5 → entries (get_or queues rank q) ≡ []) → ((rank : ℕ) (q : Queue) → rank < 5 → IsHeap entry_cmp (entries (get_or queues rank q))) → ((rank : ℕ) (q : Queue) → rank < 5 → (get_or queues rank q).next ≡ None) → ((rank : ℕ) (q : Queue) → rank < 5 → (get_or queues rank q).limit ≡ 2 ^ 64 - 1) → b ≡ record { first = 0; second = 0; third = 0 } → AreWaiting r uses queues b
  none_waits uses queues b e none order next limit z = record {
    hold = subst (λ us. AllHold r us queues) (sym e) (λ k q l.
        subst (λ n. Holds r k [] (get_or queues k q).most n (entries (get_or queues k q))) (sym (next k q l))
        (subst (Holds r k [] (get_or queues k q).most None) (sym (none k q l)) (no_holds k _ (subst (IsHeap entry_cmp) (none k q l) (order k q l)))));
    limits = subst (λ us. AllLimits r us queues) (sym e) (λ k q l. record {
      least = All-nil (λ u. is_open r u ≡ true → rank_of (class r u) ≡ k → (get_or queues k q).limit ≤ limit_of r u);
      some = inl (limit k q l);
    });
    burdens = record {
      first_is = ap (λ v. v.first) z ∙ ap (burden r first) (sym e);
      second_is = ap (λ v. v.second) z ∙ ap (burden r second) (sym e);
      third_is = ap (λ v. v.third) z ∙ ap (burden r third) (sym e);
    };
  }

  -- some uses stop
  pub stopped_closes : (test : Use K → Bool) (place : ℕ) (us : List (Use K)) → Closes r us (map (stopped test place) us)
  stopped_closes test place us = record {
    same_length = length-map us (stopped test place);
    limit = λ k d w. ap (limit_of r) (get_or-map (stopped test place) us k d d w);
    class_is = λ k d w. ap (class r) (get_or-map (stopped test place) us k d d w);
    opens = λ k d w o. opened (get_or us k d) (ap (is_open r) (sym (get_or-map (stopped test place) us k d d w)) ∙ o);
  }
    where
      opened : (u : Use K) → is_open r (stopped test place u) ≡ true → is_open r u ≡ true
      opened u o = go (wants (class r u)) (test u) u.stop o
        where
          go : (w t : Bool) (s : Option ℕ) → (w && is_none (cond t (Some place) s)) ≡ true → (w && is_none s) ≡ true
          go true true s o = absurd (let z : false ≡ true = o in cc)
          go false true s o = absurd (let z : false ≡ true = o in cc)
          go w false s o = o

  -- later uses: those that were there, and such as were closed since
  pub later_closes : (b b' : Buffer K) → IsLater b b' → Closes r b.uses (take (length b.uses) b'.uses)
  later_closes b b' later = record {
    same_length = length-take-le (length b.uses) b'.uses later.count;
    limit = λ k d w.
        let is : limit_of r (get_or (take (length b.uses) b'.uses) k d) ≡ limit_of r (get_or b'.uses k d) = ap (limit_of r) (get_or-take (length b.uses) b'.uses k d w) in
        is ∙ (ap (λ o. o + r.forward (get_or b'.uses k d).kind) (later.uses k d w).offset ∙ ap (λ t. (get_or b.uses k d).offset + r.forward t) (later.uses k d w).kind);
    class_is = λ k d w. ap (class r) (get_or-take (length b.uses) b'.uses k d w) ∙ same_class k d w;
    opens = λ k d w o. go (get_or b.uses k d) (get_or b'.uses k d) (later.uses k d w) (same_class k d w) (ap (is_open r) (sym (get_or-take (length b.uses) b'.uses k d w)) ∙ o);
  }
    where
      same_class : (k : ℕ) (d : Use K) → k < length b.uses → class r (get_or b'.uses k d) ≡ class r (get_or b.uses k d)
      same_class k d w = ap (λ t. class_of r t (get_or b'.uses k d).kind) (later.uses k d w).target ∙ ap (class_of r (get_or b.uses k d).target) (later.uses k d w).kind

      go : (u v : Use K) → IsSameUse (end_of b) u v → class r v ≡ class r u → is_open r v ≡ true → is_open r u ≡ true
      go u v s e o = stop u.stop s.kept (open_stop r v o)
        where
          wants_too : wants (class r u) ≡ true
          wants_too = ap wants (sym e) ∙ open_wants r v o

          stop : (p : Option ℕ) → ((t : ℕ) → p ≡ Some t → v.stop ≡ Some t) → v.stop ≡ None → (wants (class r u) && is_none p) ≡ true
          stop None kept none = ap (λ w. w && true) wants_too
          stop (Some t) kept none = absurd (let z : None ≡ Some t = sym none ∙ kept t refl in cc)

  -- uses before an island, once it stands, are in the queues in which they were
  pub island_hold : (b b' : Buffer K) (uses : List (Use K)) (from : ℕ) (queues queues' queues'' : List Queue) → AllHold r b.uses queues → ((rank : ℕ) (q : Queue) → IsSameQueue (get_or queues rank q) (get_or queues' rank q)) → queues'' ≡ queues' → IsLater b b' → uses ≡ b'.uses → from ≡ length b.uses → AllHold r (take from uses) queues''
  island_hold b b' uses from queues queues' queues'' h same is later now at =
      subst (AllHold r (take from uses)) (sym is)
      (subst (λ us. AllHold r us queues') (ap (take (length b.uses)) (sym now) ∙ ap (λ n. take n uses) (sym at))
      (all_closed_hold b.uses (take (length b.uses) b'.uses) queues' (later_closes b b' later) (same_hold b.uses queues queues' same h)))

  -- and each rank whose uses were spared has the limit that it had
  pub island_limit : (b b' : Buffer K) (uses : List (Use K)) (rank from limit index : ℕ) → IsLater b b' → uses ≡ b'.uses → from ≡ length b.uses → ((k : ℕ) (d : Use K) → k < length b.uses → rank_of (class r (get_or b.uses k d)) ≡ rank → get_or b'.uses k d ≡ get_or b.uses k d) → IsLimit r rank b.uses limit index → IsLimit r rank (take from uses) limit index
  island_limit b b' uses rank from limit index later now at spared h =
      subst (λ us. IsLimit r rank us limit index) (ap (take (length b.uses)) (sym now) ∙ ap (λ n. take n uses) (sym at))
      (kept_limit r rank b.uses (take (length b.uses) b'.uses) limit index (later_closes b b' later)
      (λ d w e. get_or-take (length b.uses) b'.uses index d w ∙ spared index d w e)
      h)
