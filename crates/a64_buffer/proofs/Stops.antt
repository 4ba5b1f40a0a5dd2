-- One use that stops, and uses that are added behind the others.
use Rattle.std.proofs.Common.{ℕ, ◌≡◌, ◌≢◌, ◌+◌, ◌<◌, cond, List, [], ◌∷◌, ◌++◌, length, get_or, set, map, Option, None, Some, IfSome, IsSome, refl, sym, ◌∙◌, ap, subst, arith, inl, inr, nat_cmp}
use Rattle.std.specs.Option.{MatchOption, unwrap_or}
use Rattle.std.specs.FinMap.{FinMap, get, insert}
use Rattle.std.proofs.lemmas.Bool.{cases_eq, cases_lt, eq-eqb, ne_eqb}
use Rattle.std.proofs.lemmas.List.{length-map, map-append, length-set, get_or-map, get_or_default, get_or-set_same, get_or-set_other, same_lists}
use Rattle.a64_base.specs.declared.entity.MachLabel.{MachLabel}
use Rattle.a64_buffer.specs.declared.site.Use.{Use}
use Rattle.a64_buffer.specs.declared.site.Target.{Target}
use Rattle.a64_buffer.specs.declared.site.Target.TheVariants.{Label}
use Rattle.a64_buffer.specs.Kinds.{Kinds}
use Rattle.a64_buffer.specs.Buffer.{label_of, stop_of, made_use}
use Rattle.a64_buffer.specs.Chain.{constant_of, load_of, labels_of, loads_of, emptied, IsLast, IsChained, AreChained}
use Rattle.a64_buffer.specs.Sound.{AreApart}
use Rattle.a64_buffer.specs.Steps.{stopped, stands_at, waits_for}
use Rattle.a64_buffer.proofs.Chains.{chained_push, chained_none, without, chained_without}
use Rattle.a64_buffer.proofs.Loads.{no_load, stopped_loads}
use Rattle.a64_buffer.proofs.Uses.{stopped_labels}

-- heads once a use of a number, or of none, is the last
abbrev pub with_head : Option ℕ → FinMap nat_cmp ℕ → ℕ → FinMap nat_cmp ℕ
with_head number heads last = elim number [ None ↦ heads | Some n ↦ insert heads n last ]

module _ {K : Type 0} where
  -- a use by its index is the only one at its place
  pub set_is_map : (uses : List (Use K)) (index place : ℕ) (u d : Use K) → AreApart uses → index < length uses → u ≡ get_or uses index u → set uses index (record u { stop = Some place }) ≡ map (stopped (stands_at (get_or uses index d).offset) place) uses
  set_is_map uses index place u d apart h is =
      let v : Use K = record u { stop = Some place } in
      let here : get_or uses index d ≡ u = sym (is ∙ get_or_default uses index u d h) in
      same_lists (set uses index v) (map (stopped (stands_at (get_or uses index d).offset) place) uses)
      (length-set uses index v ∙ sym (length-map uses (stopped (stands_at (get_or uses index d).offset) place)))
      (λ k e l.
      let below : k < length uses = omega (arith, length-set uses index v) in
      let mapped : get_or (map (stopped (stands_at (get_or uses index d).offset) place) uses) k e ≡ stopped (stands_at (get_or uses index d).offset) place (get_or uses k e) = get_or-map (stopped (stands_at (get_or uses index d).offset) place) uses k e e below in
      elim (cases_eq k index) [
        | inl same ↦
            let at : get_or uses k e ≡ u = ap (λ n. get_or uses n e) same ∙ (get_or_default uses index e d h ∙ here) in
            ap (λ n. get_or (set uses index v) n e) same ∙ (get_or-set_same uses index v e h
            ∙ sym (mapped ∙ (ap (stopped (stands_at (get_or uses index d).offset) place) at
            ∙ ap (λ t. record u { stop = cond t (Some place) u.stop }) (eq-eqb u.offset (get_or uses index d).offset (ap (λ w. w.offset) (sym here))))))
        | inr ne ↦
            let other : (get_or uses k e).offset ≢ (get_or uses index d).offset = elim (cases_lt k index) [
              | inl lt ↦ λ q. apart k index e lt h (q ∙ ap (λ w. w.offset) (get_or_default uses index d e h))
              | inr ge ↦ λ q. apart index k e (omega arith) below (ap (λ w. w.offset) (get_or_default uses index e d h) ∙ sym q)
            ] in
            get_or-set_other uses index k v e ne
            ∙ sym (mapped ∙ ap (λ t. record (get_or uses k e) { stop = cond t (Some place) (get_or uses k e).stop }) (ne_eqb (get_or uses k e).offset (get_or uses index d).offset other))
      ])

  -- a use in place of one that has the same number
  set_same : (f : Use K → Option ℕ) (uses : List (Use K)) (index : ℕ) (u v : Use K) → index < length uses → u ≡ get_or uses index u → f v ≡ f u → map f (set uses index v) ≡ map f uses
  set_same f uses index u v h is e =
      same_lists (map f (set uses index v)) (map f uses) (omega (arith, length-map (set uses index v) f, length-map uses f, length-set uses index v))
      (λ k d l.
      let below : k < length uses = omega (arith, length-map (set uses index v) f, length-set uses index v) in
      let inside : k < length (set uses index v) = omega (arith, length-set uses index v) in
      get_or-map f (set uses index v) k u d inside ∙ (elim (cases_eq k index) [
        | inl same ↦ ap (λ n. f (get_or (set uses index v) n u)) same ∙ (ap f (get_or-set_same uses index v u h) ∙ (e ∙ ap f is ∙ ap (λ n. f (get_or uses n u)) (sym same)))
        | inr ne ↦ ap f (get_or-set_other uses index k v u ne)
      ] ∙ sym (get_or-map f uses k u d below)))

  -- uses of the same labels, that wait for the same constants
  pub chained_same : (uses uses' : List (Use K)) (earlier : List ℕ) (heads loads : FinMap nat_cmp ℕ) → labels_of uses' ≡ labels_of uses → loads_of uses' ≡ loads_of uses → AreChained uses earlier heads loads → AreChained uses' earlier heads loads
  chained_same uses uses' earlier heads loads l c h = record {
    labels = subst (λ ns. IsChained ns earlier heads) (sym l) h.labels;
    constants = subst (λ ns. IsChained ns earlier loads) (sym c) h.constants;
  }

  -- one that is of no constant stops
  pub chained_set : (uses : List (Use K)) (earlier : List ℕ) (heads loads : FinMap nat_cmp ℕ) (index place : ℕ) (u : Use K) → index < length uses → u ≡ get_or uses index u → constant_of u.target ≡ None → AreChained uses earlier heads loads → AreChained (set uses index (record u { stop = Some place })) earlier heads loads
  chained_set uses earlier heads loads index place u h is none c =
      let v : Use K = record u { stop = Some place } in
      chained_same uses (set uses index v) earlier heads loads
      (set_same (λ w. label_of w.target) uses index u v h is refl)
      (set_same (λ w. load_of w) uses index u v h is (sym (no_load u none)))
      c

  -- a label that a use has is one of the heads
  pub has_head : (uses : List (Use K)) (earlier : List ℕ) (heads : FinMap nat_cmp ℕ) (index : ℕ) (u : Use K) → IsChained (labels_of uses) earlier heads → index < length uses → u ≡ get_or uses index u → IfSome (label_of u.target) (λ label. IsSome (get heads label))
  has_head uses earlier heads index u c h is = go (label_of u.target) (get_or-map (λ (w : Use K). label_of w.target) uses index u None h ∙ ap (λ w. label_of w.target) (sym is))
    where
      go : (o : Option ℕ) → get_or (labels_of uses) index None ≡ o → IfSome o (λ label. IsSome (get heads label))
      go None e = tt
      go (Some label) e = elim (get heads label) as (λ o. MatchOption o (IsLast (labels_of uses) label (length (labels_of uses)) 0) (λ l. IsLast (labels_of uses) label (length (labels_of uses)) l) → IsSome o) [
        | None ↦ λ l. absurd (l.none index (omega arith) (omega (arith, length-map uses (λ (w : Use K). label_of w.target))) e)
        | Some x ↦ λ l. refl
      ] (c.last label)

  pub head_of_label : (uses : List (Use K)) (earlier : List ℕ) (heads : FinMap nat_cmp ℕ) (index : ℕ) (label : MachLabel) (kind : K) → IsChained (labels_of uses) earlier heads → index < length uses → ((d : Use K) → (get_or uses index d).target ≡ Label label) → IsSome (get heads label.0)
  head_of_label uses earlier heads index label kind c h is =
      let d : Use K = record { offset = 0; target = Label label; kind = kind; stop = None } in
      let u : Use K = get_or uses index d in
      subst (λ t. IfSome (label_of t) (λ l. IsSome (get heads l))) (is d) (has_head uses earlier heads index u c h (get_or_default uses index d u h))

  -- one more use, of a number of the heads, or of none
  chain_more : (f : Use K → Option ℕ) (uses uses' : List (Use K)) (earlier earlier' : List ℕ) (heads heads' : FinMap nat_cmp ℕ) (u : Use K) (last : ℕ) → IsChained (map f uses) earlier heads → uses' ≡ uses ++ u ∷ [] → earlier' ≡ earlier ++ last ∷ [] → IfSome (f u) (λ n. last ≡ unwrap_or (get heads n) 0) → heads' ≡ with_head (f u) heads (length uses + 1) → IsChained (map f uses') earlier' heads'
  chain_more f uses uses' earlier earlier' heads heads' u last c us es l hs =
      subst (λ ns. IsChained ns earlier' heads') (sym (ap (map f) us ∙ map-append f uses (u ∷ [])))
      (subst (λ e. IsChained (map f uses ++ f u ∷ []) e heads') (sym es) (go (f u) l hs))
    where
      go : (o : Option ℕ) → IfSome o (λ n. last ≡ unwrap_or (get heads n) 0) → heads' ≡ with_head o heads (length uses + 1) → IsChained (map f uses ++ o ∷ []) (earlier ++ last ∷ []) heads'
      go None l h = subst (IsChained (map f uses ++ None ∷ []) (earlier ++ last ∷ [])) (sym h) (chained_none (map f uses) earlier heads last c)
      go (Some number) l h =
          let n : length (map f uses) + 1 ≡ length uses + 1 = omega (arith, length-map uses f) in
          subst (IsChained (map f uses ++ Some number ∷ []) (earlier ++ last ∷ [])) (ap (insert heads number) n ∙ sym h)
          (subst (λ x. IsChained (map f uses ++ Some number ∷ []) (earlier ++ x ∷ []) (insert heads number (length (map f uses) + 1))) (sym l) (chained_push (map f uses) earlier heads number c))

  -- one more use, which waits for its constant, if it is of one
  pub chained_more : (uses uses' : List (Use K)) (earlier earlier' : List ℕ) (heads heads' loads loads' : FinMap nat_cmp ℕ) (u : Use K) (last : ℕ) → AreChained uses earlier heads loads → uses' ≡ uses ++ u ∷ [] → earlier' ≡ earlier ++ last ∷ [] → load_of u ≡ constant_of u.target → IfSome (label_of u.target) (λ label. last ≡ unwrap_or (get heads label) 0) → heads' ≡ with_head (label_of u.target) heads (length uses + 1) → IfSome (constant_of u.target) (λ constant. last ≡ unwrap_or (get loads constant) 0) → loads' ≡ with_head (constant_of u.target) loads (length uses + 1) → AreChained uses' earlier' heads' loads'
  chained_more uses uses' earlier earlier' heads heads' loads loads' u last c us es waits l hs k ls = record {
    labels = chain_more (λ w. label_of w.target) uses uses' earlier earlier' heads heads' u last c.labels us es l hs;
    constants =
        chain_more (λ w. load_of w) uses uses' earlier earlier' loads loads' u last c.constants us es
        (subst (λ o. IfSome o (λ constant. last ≡ unwrap_or (get loads constant) 0)) (sym waits) k)
        (subst (λ o. loads' ≡ with_head o loads (length uses + 1)) (sym waits) ls);
  }

  -- the same of one of no constant
  pub chained_other : (uses uses' : List (Use K)) (earlier earlier' : List ℕ) (heads heads' loads loads' : FinMap nat_cmp ℕ) (u : Use K) (last : ℕ) → AreChained uses earlier heads loads → uses' ≡ uses ++ u ∷ [] → earlier' ≡ earlier ++ last ∷ [] → constant_of u.target ≡ None → IfSome (label_of u.target) (λ label. last ≡ unwrap_or (get heads label) 0) → heads' ≡ with_head (label_of u.target) heads (length uses + 1) → loads' ≡ loads → AreChained uses' earlier' heads' loads'
  chained_other uses uses' earlier earlier' heads heads' loads loads' u last c us es none l hs ls =
      chained_more uses uses' earlier earlier' heads heads' loads loads' u last c us es (no_load u none ∙ sym none) l hs
      (subst (λ o. IfSome o (λ constant. last ≡ unwrap_or (get loads constant) 0)) (sym none) tt)
      (subst (λ o. loads' ≡ with_head o loads (length uses + 1)) (sym none) ls)

  -- all uses that wait for a constant stop at a copy of it
  pub chained_copied : (uses uses' : List (Use K)) (earlier : List ℕ) (heads loads loads' : FinMap nat_cmp ℕ) (constant place : ℕ) → AreChained uses earlier heads loads → uses' ≡ map (stopped (waits_for constant) place) uses → loads' ≡ emptied constant loads → AreChained uses' earlier heads loads'
  chained_copied uses uses' earlier heads loads loads' constant place c us ls = record {
    labels = subst (λ ns. IsChained ns earlier heads) (sym (ap labels_of us ∙ stopped_labels (waits_for constant) place uses)) c.labels;
    constants =
        subst (λ ns. IsChained ns earlier loads') (sym (ap loads_of us ∙ stopped_loads constant place uses))
        (subst (IsChained (map (without constant) (loads_of uses)) earlier) (sym ls) (chained_without constant (loads_of uses) earlier loads c.constants));
  }

-- a use that is made now, by its parts
pub made_is : {K : Type 0} (r : Kinds K) (labels : FinMap nat_cmp ℕ) (offset offset' : ℕ) (target target' : Target) (kind kind' : K) (stop : Option ℕ) → offset ≡ offset' → target ≡ target' → kind ≡ kind' → stop ≡ stop_of r labels kind' offset target → record { offset = offset; target = target; kind = kind; stop = stop } ≡ made_use r labels offset' target' kind'
made_is r labels offset offset' target target' kind kind' stop o t k s = rw (s, o, t, k) refl
