-- How chains grow, and how one is left empty.
use Rattle.std.proofs.Common.{ℕ, ◌≡◌, ◌≢◌, ◌⊎◌, ◌+◌, ◌-◌, ◌<◌, ◌≤◌, List, [], ◌∷◌, ◌++◌, length, map, get_or, nat_eq, cond, Bool, true, false, refl, Option, None, Some, sym, ◌∙◌, ap, subst, arith, inl, inr, nat_cmp}
use Rattle.std.specs.Option.{MatchOption, unwrap_or, is_some}
use Rattle.std.specs.FinMap.{FinMap, get, insert, empty, get-empty, contains_key}
use Rattle.std.proofs.lemmas.Bool.{cases_eq, cases_lt, false≢true, eq-eqb, ne_eqb}
use Rattle.std.proofs.lemmas.List.{length_push, length-map, get_or-map, get_or_push, get_or_append_left}
use Rattle.a64_buffer.specs.Chain.{emptied, IsLast, IsChained}
use Rattle.a64_buffer.proofs.Labels.{get_here, get_other}

-- what the heads know of a label
abbrev pub HasLast : List (Option ℕ) → ℕ → Option ℕ → Type 0
HasLast labels label head = MatchOption head (IsLast labels label (length labels) 0) (λ h. IsLast labels label (length labels) h)

pub chained_empty : (labels : List (Option ℕ)) (earlier : List ℕ) (heads : FinMap nat_cmp ℕ) → labels ≡ [] → earlier ≡ [] → heads ≡ empty → IsChained labels earlier heads
chained_empty labels earlier heads l e h = record {
  same_length = omega (arith, ap length l, ap length e);
  links = λ k label lt e. absurd (omega (arith, ap length l));
  last = λ label. subst (HasLast labels label) (sym (ap (λ m. get m label) h ∙ get-empty nat_cmp label)) (record { within = omega arith; none = λ j a b. absurd (omega (arith, ap length l)); here = λ p. absurd (omega arith) });
}

pub last_of : (labels : List (Option ℕ)) (label : ℕ) (head : Option ℕ) → HasLast labels label head → IsLast labels label (length labels) (unwrap_or head 0)
last_of labels label None h = h
last_of labels label (Some x) h = h

-- labels so far know nothing of one more
last_before : (labels : List (Option ℕ)) (more : Option ℕ) (label to last : ℕ) → to ≤ length labels → IsLast labels label to last → IsLast (labels ++ more ∷ []) label to last
last_before labels more label to last le l = record {
  within = l.within;
  none = λ j a b e. l.none j a b (sym (get_or_append_left labels (more ∷ []) None j (omega arith)) ∙ e);
  here = λ p. get_or_append_left labels (more ∷ []) None (last - 1) (let w : last ≤ to = l.within in omega arith) ∙ l.here p;
}

-- a label that differs from the one more
last_other : (labels : List (Option ℕ)) (more : Option ℕ) (label last : ℕ) → more ≢ Some label → IsLast labels label (length labels) last → IsLast (labels ++ more ∷ []) label (length (labels ++ more ∷ [])) last
last_other labels more label last ne l =
    let b : IsLast (labels ++ more ∷ []) label (length labels) last = last_before labels more label (length labels) last (omega arith) l in
    record {
      within = omega (arith, b.within, length_push labels more);
      none = λ j low high e. elim (cases_lt j (length labels)) as (λ _. ⊥) [
        | inl lt ↦ b.none j low lt e
        | inr ge ↦ ne (sym (get_or_push labels more None j (omega (arith, length_push labels more))) ∙ e)
      ];
      here = b.here;
    }

last_here : (labels : List (Option ℕ)) (label : ℕ) → IsLast (labels ++ Some label ∷ []) label (length (labels ++ Some label ∷ [])) (length labels + 1)
last_here labels label = record {
  within = omega (arith, length_push labels (Some label));
  none = λ j low high. absurd (omega (arith, length_push labels (Some label)));
  here = λ p. get_or_push labels (Some label) None (length labels + 1 - 1) (omega arith);
}

-- one more use
pub chained_push : (labels : List (Option ℕ)) (earlier : List ℕ) (heads : FinMap nat_cmp ℕ) (label : ℕ) → IsChained labels earlier heads → IsChained (labels ++ Some label ∷ []) (earlier ++ unwrap_or (get heads label) 0 ∷ []) (insert heads label (length labels + 1))
chained_push labels earlier heads label c =
    let last : ℕ = unwrap_or (get heads label) 0 in
    record {
      same_length = omega (arith, c.same_length, length_push labels (Some label), length_push earlier (unwrap_or (get heads label) 0));
      links = λ k l lt e. elim (cases_lt k (length labels)) [
        | inl below ↦
            let there : k < length earlier = omega (arith, c.same_length) in
            let is : get_or labels k None ≡ Some l = sym (get_or_append_left labels (Some label ∷ []) None k below) ∙ e in
            subst (IsLast (labels ++ Some label ∷ []) l k) (sym (get_or_append_left earlier (unwrap_or (get heads label) 0 ∷ []) 0 k there))
            (last_before labels (Some label) l k (get_or earlier k 0) (omega arith) (c.links k l below is))
        | inr past ↦
            let here : length labels ≡ k = omega (arith, length_push labels (Some label)) in
            let there : length earlier ≡ k = omega (arith, c.same_length) in
            let same : label ≡ l = cc (sym (get_or_push labels (Some label) None k here) ∙ e) in
            subst (λ m. IsLast (labels ++ Some label ∷ []) m k (get_or (earlier ++ unwrap_or (get heads label) 0 ∷ []) k 0)) same
            (subst (IsLast (labels ++ Some label ∷ []) label k) (sym (get_or_push earlier (unwrap_or (get heads label) 0) 0 k there))
            (subst (λ n. IsLast (labels ++ Some label ∷ []) label n (unwrap_or (get heads label) 0)) here
            (last_before labels (Some label) label (length labels) (unwrap_or (get heads label) 0) (omega arith) (last_of labels label (get heads label) (c.last label)))))
      ];
      last = λ q. elim (cases_eq q label) [
        | inl e ↦ subst (λ n. HasLast (labels ++ Some label ∷ []) n (get (insert heads label (length labels + 1)) n)) (sym e) (subst (HasLast (labels ++ Some label ∷ []) label) (sym (get_here heads label (length labels + 1))) (last_here labels label))
        | inr ne ↦
            let differ : Some label ≢ Some q = λ e. ne (cc e) in
            subst (HasLast (labels ++ Some label ∷ []) q) (sym (get_other heads label (length labels + 1) q ne)) (elim (get heads q) as (λ o. HasLast labels q o → HasLast (labels ++ Some label ∷ []) q o) [
              | None ↦ λ h. last_other labels (Some label) q 0 differ h
              | Some x ↦ λ h. last_other labels (Some label) q x differ h
            ] (c.last q))
      ];
    }

-- one more use, of no label
pub chained_none : (labels : List (Option ℕ)) (earlier : List ℕ) (heads : FinMap nat_cmp ℕ) (any : ℕ) → IsChained labels earlier heads → IsChained (labels ++ None ∷ []) (earlier ++ any ∷ []) heads
chained_none labels earlier heads any c = record {
  same_length = omega (arith, c.same_length, length_push labels None, length_push earlier any);
  links = λ k l lt e. elim (cases_lt k (length labels)) [
    | inl below ↦
        let there : k < length earlier = omega (arith, c.same_length) in
        let is : get_or labels k None ≡ Some l = sym (get_or_append_left labels (None ∷ []) None k below) ∙ e in
        subst (IsLast (labels ++ None ∷ []) l k) (sym (get_or_append_left earlier (any ∷ []) 0 k there))
        (last_before labels None l k (get_or earlier k 0) (omega arith) (c.links k l below is))
    | inr past ↦
        let here : length labels ≡ k = omega (arith, length_push labels None) in
        absurd (let z : None ≡ Some l = sym (get_or_push labels None None k here) ∙ e in cc)
  ];
  last = λ q. elim (get heads q) as (λ o. HasLast labels q o → HasLast (labels ++ None ∷ []) q o) [
    | None ↦ λ h. last_other labels None q 0 (λ e. cc) h
    | Some x ↦ λ h. last_other labels None q x (λ e. cc) h
  ] (c.last q);
}

-- the same, of chains that are known to be those
pub chained_made : (labels : List (Option ℕ)) (earlier : List ℕ) (heads : FinMap nat_cmp ℕ) (label : ℕ) → IsChained labels earlier heads → (labels' : List (Option ℕ)) (earlier' : List ℕ) (heads' : FinMap nat_cmp ℕ) → labels' ≡ labels ++ Some label ∷ [] → earlier' ≡ earlier ++ unwrap_or (get heads label) 0 ∷ [] → heads' ≡ insert heads label (length labels + 1) → IsChained labels' earlier' heads'
chained_made labels earlier heads label c labels' earlier' heads' l e h =
    subst (λ ls. IsChained ls earlier' heads') (sym l)
    (subst (λ es. IsChained (labels ++ Some label ∷ []) es heads') (sym e)
    (subst (IsChained (labels ++ Some label ∷ []) (earlier ++ unwrap_or (get heads label) 0 ∷ [])) (sym h) (chained_push labels earlier heads label c)))

-- ---- all uses of a number leave their chain

-- a number, unless it is this one
abbrev pub without : ℕ → Option ℕ → Option ℕ
without gone None = None
without gone (Some q) = cond (nat_eq q gone) None (Some q)

module _ (gone : ℕ) where
  left : (q : ℕ) (o : Option ℕ) → without gone o ≡ Some q → (o ≡ Some q) × (q ≢ gone)
  left q None e = absurd (let z : None ≡ Some q = e in cc)
  left q (Some x) e = go (nat_eq x gone) refl e
    where
      go : (b : Bool) → nat_eq x gone ≡ b → cond b None (Some x) ≡ Some q → (Some x ≡ Some q) × (q ≢ gone)
      go true w e = absurd (let z : None ≡ Some q = e in cc)
      go false w e = (e, λ h. false≢true (sym w ∙ eq-eqb x gone (let z : x ≡ q = cc e in z ∙ h)))

  kept : (q : ℕ) (o : Option ℕ) → q ≢ gone → o ≡ Some q → without gone o ≡ Some q
  kept q o ne e = ap (without gone) e ∙ ap (λ b. cond b None (Some q)) (ne_eqb q gone ne)

  last_kept : (numbers : List (Option ℕ)) (q to last : ℕ) → q ≢ gone → to ≤ length numbers → IsLast numbers q to last → IsLast (map (without gone) numbers) q to last
  last_kept numbers q to last ne le l = record {
    within = l.within;
    none = λ j a b e. l.none j a b (left q (get_or numbers j None) (sym (get_or-map (without gone) numbers j None None (omega arith)) ∙ e)).0;
    here = λ p. get_or-map (without gone) numbers (last - 1) None None (let w : last ≤ to = l.within in omega arith) ∙ kept q (get_or numbers (last - 1) None) ne (l.here p);
  }

  last_gone : (numbers : List (Option ℕ)) (to : ℕ) → to ≤ length numbers → IsLast (map (without gone) numbers) gone to 0
  last_gone numbers to le = record {
    within = omega arith;
    none = λ j a b e. (left gone (get_or numbers j None) (sym (get_or-map (without gone) numbers j None None (omega arith)) ∙ e)).1 refl;
    here = λ p. absurd (omega arith);
  }

  head_gone : (heads : FinMap nat_cmp ℕ) → (get (emptied gone heads) gone ≡ None) ⊎ (get (emptied gone heads) gone ≡ Some 0)
  head_gone heads = go (contains_key heads gone) refl
    where
      go : (b : Bool) → contains_key heads gone ≡ b → (get (cond b (insert heads gone 0) heads) gone ≡ None) ⊎ (get (cond b (insert heads gone 0) heads) gone ≡ Some 0)
      go true e = inr (get_here heads gone 0)
      go false e = inl (none (get heads gone) e)
        where
          none : (o : Option ℕ) → is_some o ≡ false → o ≡ None
          none None e = refl
          none (Some x) e = absurd (false≢true (sym e))

  head_kept : (heads : FinMap nat_cmp ℕ) (q : ℕ) → q ≢ gone → get (emptied gone heads) q ≡ get heads q
  head_kept heads q ne = go (contains_key heads gone)
    where
      go : (b : Bool) → get (cond b (insert heads gone 0) heads) q ≡ get heads q
      go true = get_other heads gone 0 q ne
      go false = refl

  pub chained_without : (numbers : List (Option ℕ)) (earlier : List ℕ) (heads : FinMap nat_cmp ℕ) → IsChained numbers earlier heads → IsChained (map (without gone) numbers) earlier (emptied gone heads)
  chained_without numbers earlier heads c =
      let same : length (map (without gone) numbers) ≡ length numbers = length-map numbers (without gone) in
      record {
        same_length = c.same_length ∙ sym same;
        links = λ k q lt e.
            let below : k < length numbers = omega (arith, same) in
            let was = left q (get_or numbers k None) (sym (get_or-map (without gone) numbers k None None below) ∙ e) in
            last_kept numbers q k (get_or earlier k 0) was.1 (omega arith) (c.links k q below was.0);
        last = λ q. elim (cases_eq q gone) [
          | inl e ↦
              let zero : IsLast (map (without gone) numbers) gone (length (map (without gone) numbers)) 0 = last_gone numbers (length (map (without gone) numbers)) (omega (arith, same)) in
              subst (λ n. HasLast (map (without gone) numbers) n (get (emptied gone heads) n)) (sym e)
              (elim (head_gone heads) [
                | inl none ↦ subst (HasLast (map (without gone) numbers) gone) (sym none) zero
                | inr some ↦ subst (HasLast (map (without gone) numbers) gone) (sym some) zero
              ])
          | inr ne ↦
              subst (HasLast (map (without gone) numbers) q) (sym (head_kept heads q ne))
              (elim (get heads q) as (λ o. HasLast numbers q o → HasLast (map (without gone) numbers) q o) [
                | None ↦ λ h. subst (λ n. IsLast (map (without gone) numbers) q n 0) (sym same) (last_kept numbers q (length numbers) 0 ne (omega arith) h)
                | Some x ↦ λ h. subst (λ n. IsLast (map (without gone) numbers) q n x) (sym same) (last_kept numbers q (length numbers) x ne (omega arith) h)
              ] (c.last q))
        ];
      }
