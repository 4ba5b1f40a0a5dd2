-- What open uses may add to islands.
use Rattle.std.proofs.Common.{ℕ, suc, ◌≡◌, ◌⊎◌, ◌+◌, ◌*◌, ◌<◌, ◌≤◌, true, false, cond, List, [], ◌∷◌, ◌++◌, All, length, get_or, refl, ap, arith, inl, inr}
use Rattle.std.specs.Prelude.{sum_by}
use Rattle.std.proofs.lemmas.List.Sums.{sum_by-cons, sum_by-append, sum_by-le-sum_by}
use Rattle.std.proofs.lemmas.List.Elements.{All-cons, All-head, All-tail}
use Rattle.a64_buffer.specs.declared.site.Use.{Use}
use Rattle.a64_buffer.specs.Kinds.{Kinds}
use Rattle.a64_buffer.specs.declared.class.Class.{Class}
use Rattle.a64_buffer.specs.declared.class.Class.TheVariants.{Near, Middle, Load, Trapping, Far, Direct}
use Rattle.a64_buffer.specs.Classes.{Level, first, second, third, level_of, cost, class, is_open, weigh, weight_of, burden}

-- ---- costs of one use

pub cost_third : (l : Level) (c : Class) → cost l c ≤ cost third c
cost_third first Near = omega arith
cost_third first Middle = omega arith
cost_third first Load = omega arith
cost_third first Trapping = omega arith
cost_third first Far = omega arith
cost_third first Direct = omega arith
cost_third second Near = omega arith
cost_third second Middle = omega arith
cost_third second Load = omega arith
cost_third second Trapping = omega arith
cost_third second Far = omega arith
cost_third second Direct = omega arith
cost_third third c = omega arith

pub most_cost : (c : Class) → cost third c ≤ 28
most_cost Near = omega arith
most_cost Middle = omega arith
most_cost Load = omega arith
most_cost Trapping = omega arith
most_cost Far = omega arith
most_cost Direct = omega arith

not_first : (c : Class) → (level_of c ≡ first → ⊥) → cost first c ≡ 0
not_first Near h = absurd (h refl)
not_first Middle h = refl
not_first Load h = refl
not_first Trapping h = refl
not_first Far h = refl
not_first Direct h = refl

not_second : (c : Class) → (level_of c ≡ second → ⊥) → cost second c ≤ cost first c
not_second Near h = omega arith
not_second Middle h = absurd (h refl)
not_second Load h = absurd (h refl)
not_second Trapping h = absurd (h refl)
not_second Far h = omega arith
not_second Direct h = omega arith

not_third : (c : Class) → (level_of c ≡ third → ⊥) → cost third c ≤ 6 * cost second c
not_third Near h = omega arith
not_third Middle h = omega arith
not_third Load h = omega arith
not_third Trapping h = omega arith
not_third Far h = absurd (h refl)
not_third Direct h = absurd (h refl)

pub level_cases : (a b : Level) → (a ≡ b) ⊎ (a ≡ b → ⊥)
level_cases first first = inl refl
level_cases first second = inr (λ e. cc)
level_cases first third = inr (λ e. cc)
level_cases second first = inr (λ e. cc)
level_cases second second = inl refl
level_cases second third = inr (λ e. cc)
level_cases third first = inr (λ e. cc)
level_cases third second = inr (λ e. cc)
level_cases third third = inl refl

-- ---- sums over uses

module _ {K : Type 0} (r : Kinds K) where
  pub weight-append : (w : Class → ℕ) (xs ys : List (Use K)) → weight_of r w (xs ++ ys) ≡ weight_of r w xs + weight_of r w ys
  weight-append w xs ys = sum_by-append (weigh r w) xs ys

  pub weight-cons : (w : Class → ℕ) (u : Use K) (us : List (Use K)) → weight_of r w (u ∷ us) ≡ weigh r w u + weight_of r w us
  weight-cons w u us = sum_by-cons (weigh r w) u us

  -- the weight of a use that is open, and of one that is not
  pub open_weight : (w : Class → ℕ) (u : Use K) → is_open r u ≡ true → weigh r w u ≡ w (class r u)
  open_weight w u = elim (is_open r u) as (λ b. b ≡ true → cond b (w (class r u)) 0 ≡ w (class r u)) [ true ↦ λ e. refl | false ↦ λ e. absurd (let z : false ≡ true = e in cc) ]

  pub closed_weight : (w : Class → ℕ) (u : Use K) → is_open r u ≡ false → weigh r w u ≡ 0
  closed_weight w u = elim (is_open r u) as (λ b. b ≡ false → cond b (w (class r u)) 0 ≡ 0) [ true ↦ λ e. absurd (let z : true ≡ false = e in cc) | false ↦ λ e. refl ]

  weigh_third : (l : Level) (u : Use K) → weigh r (cost l) u ≤ weigh r (cost third) u
  weigh_third l u = elim (is_open r u) as (λ b. cond b (cost l (class r u)) 0 ≤ cond b (cost third (class r u)) 0) [ true ↦ cost_third l (class r u) | false ↦ omega arith ]

  pub burden_third : (l : Level) (uses : List (Use K)) → burden r l uses ≤ burden r third uses
  burden_third l uses = sum_by-le-sum_by (weigh r (cost l)) (weigh r (cost third)) uses (weigh_third l)

  -- a use of an urgency is open, or none is
  pub record SomeOpen (l : Level) (uses : List (Use K)) : Type 0 where
    pub index : ℕ
    pub within : index < length uses
    pub here : (d : Use K) → (is_open r (get_or uses index d) ≡ true) × (level_of (class r (get_or uses index d)) ≡ l)

  abbrev pub NoneOpen : Level → List (Use K) → Type 0
  NoneOpen l uses = All (λ u. is_open r u ≡ true → level_of (class r u) ≡ l → ⊥) uses

  pub some_or_none : (l : Level) (uses : List (Use K)) → SomeOpen l uses ⊎ NoneOpen l uses
  some_or_none l [] = inr (λ k d h. absurd (omega arith))
  some_or_none l (u ∷ us) = elim (some_or_none l us) [
    | inl s ↦ inl (record { index = suc s.index; within = let x = s.within in omega arith; here = s.here })
    | inr none ↦ elim (is_open r u) as (λ b. is_open r u ≡ b → SomeOpen l (u ∷ us) ⊎ NoneOpen l (u ∷ us)) [
      | true ↦ λ o. elim (level_cases (level_of (class r u)) l) [
        | inl e ↦ inl (record { index = 0; within = omega arith; here = λ d. (o, e) })
        | inr ne ↦ inr (All-cons (λ (u : Use K). is_open r u ≡ true → level_of (class r u) ≡ l → ⊥) u us (λ _ e. ne e) none)
      ]
      | false ↦ λ o. inr (All-cons (λ (u : Use K). is_open r u ≡ true → level_of (class r u) ≡ l → ⊥) u us (λ p e. cc) none)
    ] refl
  ]

  -- sums of weights that are related one by one
  pub sums_le : (m : ℕ) (f g : Use K → ℕ) (uses : List (Use K)) → All (λ u. f u ≤ m * g u) uses → sum_by f uses ≤ m * sum_by g uses
  sums_le m f g [] h = omega arith
  sums_le m f g (u ∷ us) h = omega (arith, sum_by-cons f u us, ap (λ n. m * n) (sum_by-cons g u us), All-head (λ (u : Use K). f u ≤ m * g u) u us h, sums_le m f g us (All-tail (λ (u : Use K). f u ≤ m * g u) u us h))

  weigh_less : (m : ℕ) (f g : Class → ℕ) (l : Level) → ((c : Class) → (level_of c ≡ l → ⊥) → f c ≤ m * g c) → (u : Use K) → (is_open r u ≡ true → level_of (class r u) ≡ l → ⊥) → weigh r f u ≤ m * weigh r g u
  weigh_less m f g l h u n = elim (is_open r u) as (λ b. (b ≡ true → level_of (class r u) ≡ l → ⊥) → cond b (f (class r u)) 0 ≤ m * cond b (g (class r u)) 0) [ true ↦ λ n. h (class r u) (n refl) | false ↦ λ n. omega arith ] n

  pub none_first : (uses : List (Use K)) → NoneOpen first uses → burden r first uses ≡ 0
  none_first uses h =
      let z : burden r first uses ≤ 0 * burden r third uses = sums_le 0 (weigh r (cost first)) (weigh r (cost third)) uses (λ k d w. weigh_less 0 (cost first) (cost third) first (λ c n. omega (arith, not_first c n)) (get_or uses k d) (h k d w)) in
      omega arith

  pub none_second : (uses : List (Use K)) → NoneOpen second uses → burden r second uses ≤ burden r first uses
  none_second uses h =
      let z : burden r second uses ≤ 1 * burden r first uses = sums_le 1 (weigh r (cost second)) (weigh r (cost first)) uses (λ k d w. weigh_less 1 (cost second) (cost first) second (λ c n. omega (arith, not_second c n)) (get_or uses k d) (h k d w)) in
      omega arith

  pub none_third : (uses : List (Use K)) → NoneOpen third uses → burden r third uses ≤ 6 * burden r second uses
  none_third uses h = sums_le 6 (weigh r (cost third)) (weigh r (cost second)) uses (λ k d w. weigh_less 6 (cost third) (cost second) third not_third (get_or uses k d) (h k d w))

  -- what is not open weighs nothing
  pub none_open : (w : Class → ℕ) (uses : List (Use K)) → All (λ u. is_open r u ≡ false) uses → weight_of r w uses ≡ 0
  none_open w [] h = refl
  none_open w (u ∷ us) h = omega (arith, weight-cons w u us, closed_weight w u (All-head (λ (u : Use K). is_open r u ≡ false) u us h), none_open w us (All-tail (λ (u : Use K). is_open r u ≡ false) u us h))
