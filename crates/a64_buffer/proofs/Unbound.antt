-- How the first unbound label is found, one use after another.
use Rattle.std.proofs.Common.{ℕ, ◌≡◌, ◌+◌, ◌<◌, ◌≤◌, List, [], ◌∷◌, ◌++◌, length, get_or, take, min, All, Option, None, Some, IfSome, IsSome, is_some, false, refl, sym, ◌∙◌, ap, subst, arith, inl, inr, nat_cmp}
use Rattle.std.specs.Option.{MatchOption}
use Rattle.std.specs.List.{Any}
use Rattle.std.specs.FinMap.{FinMap, get}
use Rattle.std.proofs.lemmas.Bool.{cases_lt, false≢true}
use Rattle.std.proofs.lemmas.List.{take_more, length_push, get_or_append_left}
use Rattle.std.proofs.lemmas.List.Elements.{All-push, All-weaker}
use Rattle.std.proofs.lemmas.List.Quantifiers.{Any-push}
use Rattle.a64_base.specs.declared.entity.MachLabel.{MachLabel}
use Rattle.a64_buffer.specs.declared.site.Use.{Use}
use Rattle.a64_buffer.specs.Buffer.{Buffer, label_of, IsBound, IsBoundOrFrom, IsFirstUnbound}
use Rattle.a64_buffer.proofs.Labels.{some_weaker}

pub none_from_is_some : (o : Option ℕ) → is_some o ≡ false → o ≡ None
none_from_is_some None e = refl
none_from_is_some (Some x) e = absurd (false≢true (sym e))

-- a use of a label that is bound
pub bound_of : {K : Type 0} (labels : FinMap nat_cmp ℕ) (u : Use K) (label : ℕ) → label_of u.target ≡ Some label → IsSome (get labels label) → IsBound labels u
bound_of labels u label is bound = subst (λ o. IfSome o (λ l. IsSome (get labels l))) (sym is) bound

any_more : {X : Type 0} (P : X → Type 0) (xs : List X) (y : X) → Any P xs → Any P (xs ++ y ∷ [])
any_more P xs y (k, x, h, e, p) = (k, x, omega (arith, length_push xs y), get_or_append_left xs (y ∷ []) x k h ∙ e, p)

module _ {K : Type 0} (b : Buffer K) where
  -- the first unbound label among the first uses
  abbrev pub IsFirstOf : List (Use K) → Option MachLabel → Type 0
  IsFirstOf uses first = IsFirstUnbound (record b { uses = uses }) first

  -- a bound label is no lesser one that is not
  bound_from : (least : ℕ) (u : Use K) → IsBound b.labels u → IsBoundOrFrom b.labels least u
  bound_from least u = some_weaker (label_of u.target) (λ l s e. absurd (false≢true (subst (λ o. IsSome o) e s)))

  lower_from : (low high : ℕ) (u : Use K) → low ≤ high → IsBoundOrFrom b.labels high u → IsBoundOrFrom b.labels low u
  lower_from low high u le = some_weaker (label_of u.target) (λ l h e. let above : high ≤ l = h e in omega arith)

  here_from : (low label : ℕ) (u : Use K) → label_of u.target ≡ Some label → low ≤ label → IsBoundOrFrom b.labels low u
  here_from low label u is le = subst (λ o. IfSome o (λ l. get b.labels l ≡ None → low ≤ l)) (sym is) (λ e. le)

  -- one more use of a bound label, or of none
  pub first_bound : (uses : List (Use K)) (first : Option MachLabel) (u : Use K) → IsBound b.labels u → IsFirstOf uses first → IsFirstOf (uses ++ u ∷ []) first
  first_bound uses None u s a = All-push (IsBound b.labels) uses u a s
  first_bound uses (Some l) u s a = (
    a.0,
    any_more (λ v. label_of v.target ≡ Some l.0) uses u a.1,
    All-push (IsBoundOrFrom b.labels l.0) uses u a.2 (bound_from l.0 u s),
  )

  -- one more use of a label that is not bound
  pub first_open : (uses : List (Use K)) (first : Option MachLabel) (u : Use K) (label now : MachLabel) → label_of u.target ≡ Some label.0 → get b.labels label.0 ≡ None → MatchOption first (now ≡ label) (λ f. now.0 ≡ min f.0 label.0) → IsFirstOf uses first → IsFirstOf (uses ++ u ∷ []) (Some now)
  first_open uses None u label now t n e a =
      let same : now.0 ≡ label.0 = ap (λ l. l.0) e in (
        ap (get b.labels) same ∙ n,
        Any-push (λ v. label_of v.target ≡ Some now.0) uses u (t ∙ ap Some (sym same)),
        All-push (IsBoundOrFrom b.labels now.0) uses u (All-weaker (IsBound b.labels) (IsBoundOrFrom b.labels now.0) (bound_from now.0) uses a) (here_from now.0 label.0 u t (omega arith)),
      )
  first_open uses (Some f) u label now t n e a =
      let low : now.0 ≤ f.0 = omega arith in
      let below : now.0 ≤ label.0 = omega arith in
      let least : All (IsBoundOrFrom b.labels now.0) (uses ++ u ∷ []) = All-push (IsBoundOrFrom b.labels now.0) uses u (All-weaker (IsBoundOrFrom b.labels f.0) (IsBoundOrFrom b.labels now.0) (λ v. lower_from now.0 f.0 v low) uses a.2) (here_from now.0 label.0 u t below) in
      elim (cases_lt f.0 label.0) [
        | inl lt ↦
            let same : now.0 ≡ f.0 = omega arith in
            (ap (get b.labels) same ∙ a.0, any_more (λ v. label_of v.target ≡ Some now.0) uses u (subst (λ x. Any (λ v. label_of v.target ≡ Some x) uses) (sym same) a.1), least)
        | inr ge ↦
            let same : now.0 ≡ label.0 = omega arith in
            (ap (get b.labels) same ∙ n, Any-push (λ v. label_of v.target ≡ Some now.0) uses u (t ∙ ap Some (sym same)), least)
      ]

  -- the same, of the use as the loop reads it
  pub first_bound_next : (uses : List (Use K)) (n : ℕ) (d : Use K) → n < length uses → (u : Use K) → u ≡ get_or uses n d → (first : Option MachLabel) → IsBound b.labels u → IsFirstOf (take n uses) first → IsFirstOf (take (n + 1) uses) first
  first_bound_next uses n d h u is first s a = subst (λ us. IsFirstOf us first) (sym (take_more uses n d h ∙ ap (λ v. take n uses ++ v ∷ []) (sym is))) (first_bound (take n uses) first u s a)

  pub first_open_next : (uses : List (Use K)) (n : ℕ) (d : Use K) → n < length uses → (u : Use K) → u ≡ get_or uses n d → (first : Option MachLabel) (label now : MachLabel) → label_of u.target ≡ Some label.0 → get b.labels label.0 ≡ None → MatchOption first (now ≡ label) (λ f. now.0 ≡ min f.0 label.0) → IsFirstOf (take n uses) first → IsFirstOf (take (n + 1) uses) (Some now)
  first_open_next uses n d h u is first label now t none e a =
      subst (λ us. IsFirstOf us (Some now)) (sym (take_more uses n d h ∙ ap (λ v. take n uses ++ v ∷ []) (sym is))) (first_open (take n uses) first u label now t none e a)
