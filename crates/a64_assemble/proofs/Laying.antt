-- One more element stands in order.
use Rattle.std.proofs.Common.{ℕ, ◌≡◌, ◌+◌, ◌<◌, ◌≤◌, true, List, [], ◌∷◌, ◌++◌, All, length, get_or, refl, sym, ap, ◌∙◌, subst, arith, inl, inr}
use Rattle.std.specs.Prelude.{Contains}
use Rattle.std.proofs.lemmas.Bool.{cases_eq}
use Rattle.std.proofs.lemmas.List.{get_or_append_left, get_or_push, length_push, append-nil}
use Rattle.std.proofs.lemmas.List.Elements.{All-push, All-same, Contains-push, Contains-append_left}
use Rattle.a64_buffer.specs.Buffer.{Buffer, end_of}
use Rattle.a64_label_use.specs.declared.label_use.LabelUse.{LabelUse}
use Rattle.a64_assemble.specs.Elements.{Element, size_in, hosts, element_at}
use Rattle.a64_assemble.specs.Stations.{end_of_element, IsIslandBehind, IsFollowedIn, StandsOnceIn, IsLaid}
use Rattle.a64_assemble.proofs.Moving.{Extends}

pub laid_none : (xs : List Element) (b : Buffer LabelUse) → (end_of b) ≡ 0 → b.islands ≡ [] → IsLaid xs 0 [] b.islands (end_of b)
laid_none xs b e is = record {
  each_placed = refl;
  first = e;
  next = λ i h. absurd (omega arith);
  once = All-same (StandsOnceIn xs ((end_of b) ∷ []) 0) b.islands [] is (λ k d h. absurd (omega arith));
  apart = λ i j d h w. absurd (omega (arith, ap length is));
  below = All-same (λ (island : ℕ × ℕ). island.1 ≤ (end_of b)) b.islands [] is (λ k d h. absurd (omega arith));
  rising = λ i h. let z : i ≡ 0 = omega arith in subst (λ i. get_or ((end_of b) ∷ []) i 0 ≤ (end_of b)) (sym z) (omega arith);
}

-- facts of an island after an element depend on two stations alone
pub island_same : (xs : List Element) (s t : List ℕ) (i : ℕ) (island : ℕ × ℕ) → get_or t i 0 ≡ get_or s i 0 → get_or t (i + 1) 0 ≡ get_or s (i + 1) 0 → IsIslandBehind xs s i island → IsIslandBehind xs t i island
island_same xs s t i island e f h = record { begins = omega (arith, h.begins, e); ends = omega (arith, h.ends, f); long = h.long; hosted = h.hosted }

followed_same : (xs : List Element) (s t : List ℕ) (is more : List (ℕ × ℕ)) (i : ℕ) → get_or t i 0 ≡ get_or s i 0 → get_or t (i + 1) 0 ≡ get_or s (i + 1) 0 → IsFollowedIn xs s is i → IsFollowedIn xs t (is ++ more) i
followed_same xs s t is more i e f h = elim h [
  | inl flat ↦ inl (omega (arith, flat, e, f))
  | inr island ↦
      let a : end_of_element xs s i ≡ end_of_element xs t i = omega (arith, e) in
      let p : (end_of_element xs s i, get_or s (i + 1) 0) ≡ (end_of_element xs t i, get_or t (i + 1) 0) = ap (λ x. (x, get_or s (i + 1) 0)) a ∙ ap (λ y. (end_of_element xs t i, y)) (sym f) in
      inr (
        Contains-append_left is more (end_of_element xs t i, get_or t (i + 1) 0) (subst (Contains is) p island.0),
        island_same xs s t i (end_of_element xs t i, get_or t (i + 1) 0) e f (subst (IsIslandBehind xs s i) p island.1),
      )
]

module _ (xs : List Element) (k : ℕ) (places : List ℕ) (b b' : Buffer LabelUse) (h : IsLaid xs k places b.islands (end_of b)) (x : Extends (element_at xs k) b b') where
  many : length (places ++ (end_of b) ∷ []) ≡ k + 1
  many = omega (arith, length_push places (end_of b), h.each_placed)

  pub kept : (i : ℕ) → i ≤ k → get_or (places ++ (end_of b) ∷ [] ++ (end_of b') ∷ []) i 0 ≡ get_or (places ++ (end_of b) ∷ []) i 0
  kept i le = get_or_append_left (places ++ (end_of b) ∷ []) ((end_of b') ∷ []) 0 i (omega (arith, many))

  here : get_or (places ++ (end_of b) ∷ []) k 0 ≡ (end_of b)
  here = get_or_push places (end_of b) 0 k h.each_placed

  last : get_or (places ++ (end_of b) ∷ [] ++ (end_of b') ∷ []) (k + 1) 0 ≡ (end_of b')
  last = get_or_push (places ++ (end_of b) ∷ []) (end_of b') 0 (k + 1) many

  -- the end of element k, in the new stations
  ends : end_of_element xs (places ++ (end_of b) ∷ [] ++ (end_of b') ∷ []) k ≡ (end_of b) + size_in (element_at xs k)
  ends = omega (arith, kept k (omega arith), here)

  grown : (end_of b) + size_in (element_at xs k) ≤ (end_of b')
  grown = elim x.followed [ inl flat ↦ omega (arith, flat.0) | inr island ↦ omega (arith, island.1) ]

  more : (e : List (ℕ × ℕ)) × (b'.islands ≡ b.islands ++ e)
  more = elim x.followed [ inl flat ↦ ([], flat.1 ∙ sym (append-nil b.islands)) | inr island ↦ (((end_of b) + size_in (element_at xs k), (end_of b')) ∷ [], island.2) ]

  -- an island that element k could have begins no sooner than the code ended
  not_here : (island : ℕ × ℕ) → island.1 ≤ (end_of b) → IsIslandBehind xs (places ++ (end_of b) ∷ [] ++ (end_of b') ∷ []) k island → ⊥
  not_here island le z = omega (arith, z.begins, ends, z.long)

  old_once : (island : ℕ × ℕ) → StandsOnceIn xs (places ++ (end_of b) ∷ []) k island → island.1 ≤ (end_of b) → StandsOnceIn xs (places ++ (end_of b) ∷ [] ++ (end_of b') ∷ []) (k + 1) island
  old_once island z le = record {
    after = z.after;
    within = omega (arith, z.within);
    stands = island_same xs (places ++ (end_of b) ∷ []) (places ++ (end_of b) ∷ [] ++ (end_of b') ∷ []) z.after island (kept z.after (omega (arith, z.within))) (kept (z.after + 1) (omega (arith, z.within))) z.stands;
    once = λ i w p. elim (cases_eq i k) [
      | inl e ↦ absurd (not_here island le (subst (λ i. IsIslandBehind xs (places ++ (end_of b) ∷ [] ++ (end_of b') ∷ []) i island) e p))
      | inr ne ↦ let lt : i < k = omega arith in z.once i lt (island_same xs (places ++ (end_of b) ∷ [] ++ (end_of b') ∷ []) (places ++ (end_of b) ∷ []) i island (sym (kept i (omega arith))) (sym (kept (i + 1) (omega arith))) p)
    ];
  }

  pub new_island : hosts (element_at xs k) ≡ true → (end_of b) + size_in (element_at xs k) + 4 ≤ (end_of b') → IsIslandBehind xs (places ++ (end_of b) ∷ [] ++ (end_of b') ∷ []) k ((end_of b) + size_in (element_at xs k), (end_of b'))
  new_island host long = record { begins = sym ends; ends = sym last; long = long; hosted = host }

  new_once : hosts (element_at xs k) ≡ true → (end_of b) + size_in (element_at xs k) + 4 ≤ (end_of b') → StandsOnceIn xs (places ++ (end_of b) ∷ [] ++ (end_of b') ∷ []) (k + 1) ((end_of b) + size_in (element_at xs k), (end_of b'))
  new_once host long = record {
    after = k;
    within = omega arith;
    stands = new_island host long;
    once = λ i w p. elim (cases_eq i k) [
      | inl e ↦ e
      | inr ne ↦ let lt : i + 1 ≤ k = omega arith in absurd (omega (arith, p.ends, kept (i + 1) lt, h.rising (i + 1) lt))
    ];
  }

  next_now : IsFollowedIn xs (places ++ (end_of b) ∷ [] ++ (end_of b') ∷ []) b'.islands k
  next_now = elim x.followed [
    | inl flat ↦ inl (omega (arith, last, ends, flat.0))
    | inr island ↦
        let s : List ℕ = places ++ (end_of b) ∷ [] ++ (end_of b') ∷ [] in
        let p : ((end_of b) + size_in (element_at xs k), (end_of b')) ≡ (end_of_element xs s k, get_or s (k + 1) 0) = ap (λ e. (e, (end_of b'))) (sym ends) ∙ ap (λ e. (end_of_element xs s k, e)) (sym last) in
        inr (
          subst (Contains b'.islands) p (subst (λ is. Contains is ((end_of b) + size_in (element_at xs k), (end_of b'))) (sym island.2) (Contains-push b.islands ((end_of b) + size_in (element_at xs k), (end_of b')))),
          subst (IsIslandBehind xs s k) p (new_island island.0 island.1),
        )
  ]

  pub laid_step : IsLaid xs (k + 1) (places ++ (end_of b) ∷ []) b'.islands (end_of b')
  laid_step = record {
    each_placed = many;
    first = kept 0 (omega arith) ∙ h.first;
    next = λ i w. elim (cases_eq i k) [
      | inl e ↦ subst (IsFollowedIn xs (places ++ (end_of b) ∷ [] ++ (end_of b') ∷ []) b'.islands) (sym e) next_now
      | inr ne ↦
          let lt : i < k = omega arith in
          subst (λ is. IsFollowedIn xs (places ++ (end_of b) ∷ [] ++ (end_of b') ∷ []) is i) (sym more.1) (followed_same xs (places ++ (end_of b) ∷ []) (places ++ (end_of b) ∷ [] ++ (end_of b') ∷ []) b.islands more.0 i (kept i (omega arith)) (kept (i + 1) (omega arith)) (h.next i lt))
    ];
    once = elim x.followed [
      | inl flat ↦ All-same (StandsOnceIn xs (places ++ (end_of b) ∷ [] ++ (end_of b') ∷ []) (k + 1)) b'.islands b.islands flat.1 older
      | inr island ↦ All-same (StandsOnceIn xs (places ++ (end_of b) ∷ [] ++ (end_of b') ∷ []) (k + 1)) b'.islands _ island.2 (All-push (StandsOnceIn xs (places ++ (end_of b) ∷ [] ++ (end_of b') ∷ []) (k + 1)) b.islands _ older (new_once island.0 island.1))
    ];
    apart = elim x.followed [
      | inl flat ↦ λ i j d lt w. subst (λ is. (get_or is i d).1 ≤ (get_or is j d).0) (sym flat.1) (h.apart i j d lt (omega (arith, ap length flat.1)))
      | inr island ↦ λ i j d lt w. subst (λ is. (get_or is i d).1 ≤ (get_or is j d).0) (sym island.2) (apart_more i j d lt (omega (arith, ap length island.2, length_push b.islands ((end_of b) + size_in (element_at xs k), (end_of b')))))
    ];
    below = elim x.followed [
      | inl flat ↦ All-same (λ (island : ℕ × ℕ). island.1 ≤ (end_of b')) b'.islands b.islands flat.1 low
      | inr island ↦ All-same (λ (island : ℕ × ℕ). island.1 ≤ (end_of b')) b'.islands _ island.2 (All-push (λ (island : ℕ × ℕ). island.1 ≤ (end_of b')) b.islands ((end_of b) + size_in (element_at xs k), (end_of b')) low (omega arith))
    ];
    rising = λ i le. elim (cases_eq i (k + 1)) [
      | inl e ↦ omega (arith, ap (λ i. get_or (places ++ (end_of b) ∷ [] ++ (end_of b') ∷ []) i 0) e, last)
      | inr ne ↦ let lt : i ≤ k = omega arith in omega (arith, kept i lt, h.rising i lt, grown)
    ];
  }
    where
      older : All (StandsOnceIn xs (places ++ (end_of b) ∷ [] ++ (end_of b') ∷ []) (k + 1)) b.islands
      older = λ i d w. old_once (get_or b.islands i d) (h.once i d w) (h.below i d w)

      low : All (λ (island : ℕ × ℕ). island.1 ≤ (end_of b')) b.islands
      low = λ i d w. let z = h.below i d w in omega (arith, grown)

      apart_more : (i j : ℕ) (d : ℕ × ℕ) → i < j → j < length b.islands + 1 → (get_or (b.islands ++ ((end_of b) + size_in (element_at xs k), (end_of b')) ∷ []) i d).1 ≤ (get_or (b.islands ++ ((end_of b) + size_in (element_at xs k), (end_of b')) ∷ []) j d).0
      apart_more i j d lt w =
          let n : ℕ × ℕ = ((end_of b) + size_in (element_at xs k), (end_of b')) in
          let at_i : get_or (b.islands ++ n ∷ []) i d ≡ get_or b.islands i d = get_or_append_left b.islands (n ∷ []) d i (omega arith) in
          elim (cases_eq j (length b.islands)) [
            | inl e ↦
                let at_j : get_or (b.islands ++ n ∷ []) j d ≡ n = get_or_push b.islands n d j (sym e) in
                let z = h.below i d (omega arith) in
                omega (arith, ap (λ (p : ℕ × ℕ). p.1) at_i, ap (λ (p : ℕ × ℕ). p.0) at_j)
            | inr ne ↦
                let at_j : get_or (b.islands ++ n ∷ []) j d ≡ get_or b.islands j d = get_or_append_left b.islands (n ∷ []) d j (omega arith) in
                omega (arith, ap (λ (p : ℕ × ℕ). p.1) at_i, ap (λ (p : ℕ × ℕ). p.0) at_j, h.apart i j d lt (omega arith))
          ]

-- an element ends within the code
pub element_ends : (xs : List Element) (k : ℕ) (places : List ℕ) (islands : List (ℕ × ℕ)) (end : ℕ) → IsLaid xs k places islands end → (i : ℕ) → i < k → get_or places i 0 + size_in (element_at xs i) ≤ end
element_ends xs k places islands end h i w =
    let at : get_or (places ++ end ∷ []) i 0 ≡ get_or places i 0 = get_or_append_left places (end ∷ []) 0 i (omega (arith, h.each_placed)) in
    let top : get_or (places ++ end ∷ []) (i + 1) 0 ≤ end = h.rising (i + 1) (omega arith) in
    elim (h.next i w) [
      | inl flat ↦ omega (arith, at, top, flat)
      | inr island ↦ let z = island.1.long in omega (arith, at, top, z)
    ]
