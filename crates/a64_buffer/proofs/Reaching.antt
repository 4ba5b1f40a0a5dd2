-- The limits of queues decide whether open uses have room.
use Rattle.std.proofs.Common.{ℕ, zero, suc, ◌≡◌, ◌≢◌, ◌-◌, ◌+◌, ◌^◌, ◌<◌, ◌≤◌, true, false, List, [], ◌∷◌, All, length, get_or, Option, None, Some, refl, ◌∙◌, ap, subst, arith, inl, inr}
use Rattle.a64_buffer.specs.declared.site.Use.{Use}
use Rattle.a64_buffer.specs.declared.queue.Queue.{Queue}
use Rattle.a64_buffer.specs.Kinds.{Kinds, IsLawful}
use Rattle.a64_buffer.specs.Sound.{IsPlaced, IsKinded, IsSound}
use Rattle.a64_buffer.specs.Buffer.{Buffer}
use Rattle.std.proofs.lemmas.Bool.{cases_eq, cases_lt}
use Rattle.a64_buffer.specs.declared.class.Class.{Class}
use Rattle.a64_buffer.specs.declared.class.Class.TheVariants.{Near, Middle, Load, Trapping, Far, Direct}
use Rattle.a64_buffer.specs.Classes.{first, second, third, Level, level_of, range_of, cost_in, wants, class, rank_of, is_open}
use Rattle.a64_buffer.specs.Queues.{ReachLimits, IsFoundAt, IsFoundBelow, limit_of, AllLimits}
use Rattle.a64_buffer.specs.Steps.{UseHasRoom, IsNextOpen}
use Rattle.a64_buffer.proofs.Rooms.{open_wants, wanting_range, widest}
use Rattle.a64_buffer.proofs.Queued.{open_rank}

reached : (queues : List Queue) (from a b d : ℕ) (q : Queue) (c : Class) → wants c ≡ true → ReachLimits from a b d queues → from + cost_in (level_of c) a b d ≤ (get_or queues (rank_of c) q).limit
reached queues from a b d q Near w h = h.near q
reached queues from a b d q Load w h = h.load q
reached queues from a b d q Trapping w h = h.trapping q
reached queues from a b d q Middle w h = h.middle q
reached queues from a b d q Far w h = h.far q
reached queues from a b d q Direct w h = absurd (let z : false ≡ true = w in cc)

-- an item of a list that has some
pub some_item : {X : Type 0} (xs : List X) → 0 < length xs → X
some_item [] p = absurd (omega arith)
some_item (x ∷ xs) p = x

-- the urgency of each rank
level_0 : (c : Class) → rank_of c ≡ 0 → level_of c ≡ first
level_0 Near e = refl
level_0 Load e = absurd (omega arith)
level_0 Trapping e = absurd (omega arith)
level_0 Middle e = absurd (omega arith)
level_0 Far e = absurd (omega arith)
level_0 Direct e = absurd (omega arith)

level_between : (c : Class) → 1 ≤ rank_of c → rank_of c ≤ 3 → level_of c ≡ second
level_between Near p q = absurd (omega arith)
level_between Load p q = refl
level_between Trapping p q = refl
level_between Middle p q = refl
level_between Far p q = absurd (omega arith)
level_between Direct p q = absurd (omega arith)

level_4 : (c : Class) → rank_of c ≡ 4 → level_of c ≡ third
level_4 Near e = absurd (omega arith)
level_4 Load e = absurd (omega arith)
level_4 Trapping e = absurd (omega arith)
level_4 Middle e = absurd (omega arith)
level_4 Far e = refl
level_4 Direct e = absurd (omega arith)

module _ {K : Type 0} (r : Kinds K) (uses : List (Use K)) (queues : List Queue) (from a b d : ℕ) where
  pub reached_rooms : (q : Queue) → AllLimits r uses queues → ReachLimits from a b d queues → All (UseHasRoom r from a b d) uses
  reached_rooms q limits h k u w o =
      let x : from + cost_in (level_of (class r (get_or uses k u))) a b d ≤ (get_or queues (rank_of (class r (get_or uses k u))) q).limit = reached queues from a b d q (class r (get_or uses k u)) (open_wants r (get_or uses k u) o) h in
      let y : (get_or queues (rank_of (class r (get_or uses k u))) q).limit ≤ limit_of r (get_or uses k u) = (limits (rank_of (class r (get_or uses k u))) q (open_rank r (get_or uses k u) o)).least k u w o refl in
      omega arith

  of_limit : (u : Use K) (rank : ℕ) (level : Level) (q : Queue) → rank < 5 → ((c : Class) → rank_of c ≡ rank → level_of c ≡ level) → from + cost_in level a b d < 2 ^ 64 → AllLimits r uses queues → All (UseHasRoom r from a b d) uses → from + cost_in level a b d ≤ (get_or queues rank q).limit
  of_limit u rank level q l is low limits h = elim (limits rank q l).some [
    | inl e ↦ omega arith
    | inr s ↦
        let x : from + cost_in (level_of (class r (get_or uses (get_or queues rank q).first u))) a b d ≤ limit_of r (get_or uses (get_or queues rank q).first u) = h (get_or queues rank q).first u s.within (s.open' u) in
        let y : cost_in (level_of (class r (get_or uses (get_or queues rank q).first u))) a b d ≡ cost_in level a b d = ap (λ l. cost_in l a b d) (is (class r (get_or uses (get_or queues rank q).first u)) (s.rank_is u)) in
        omega (arith, x, y, s.is u)
  ]

  pub rooms_reach : (u : Use K) → from < 2 ^ 41 → a < 2 ^ 40 → b < 2 ^ 40 → d < 2 ^ 40 → AllLimits r uses queues → All (UseHasRoom r from a b d) uses → ReachLimits from a b d queues
  rooms_reach u lf la lb ld limits h = record {
    near = λ q. of_limit u 0 first q (omega arith) (λ c e. level_0 c e) (omega arith) limits h;
    load = λ q. of_limit u 1 second q (omega arith) (λ c e. level_between c (omega arith) (omega arith)) (omega arith) limits h;
    trapping = λ q. of_limit u 2 second q (omega arith) (λ c e. level_between c (omega arith) (omega arith)) (omega arith) limits h;
    middle = λ q. of_limit u 3 second q (omega arith) (λ c e. level_between c (omega arith) (omega arith)) (omega arith) limits h;
    far = λ q. of_limit u 4 third q (omega arith) (λ c e. level_4 c e) (omega arith) limits h;
  }

-- ---- the open use that comes first

level_in : ℕ → Level
level_in zero = first
level_in (suc zero) = second
level_in (suc (suc zero)) = second
level_in (suc (suc (suc zero))) = second
level_in (suc (suc (suc (suc k)))) = third

level_is : (c : Class) → wants c ≡ true → level_of c ≡ level_in (rank_of c)
unfolding level_in
level_is Near w = refl
level_is Load w = refl
level_is Trapping w = refl
level_is Middle w = refl
level_is Far w = refl
level_is Direct w = absurd (let z : false ≡ true = w in cc)

module _ {K : Type 0} (r : Kinds K) (law : IsLawful r) (uses : List (Use K)) (queues : List Queue) (limit : ℕ) (kinded : All (λ u. IsKinded r u.target u.kind) uses) (low : All (IsPlaced (2 ^ 31)) uses) (limits : AllLimits r uses queues) (five : limit ≤ 5) where
  range_is : (k : ℕ) (d : Use K) → k < length uses → is_open r (get_or uses k d) ≡ true → r.forward (get_or uses k d).kind ≡ range_of r (level_in (rank_of (class r (get_or uses k d))))
  range_is k d w o = wanting_range r law (get_or uses k d).target (get_or uses k d).kind (kinded k d w) (open_wants r (get_or uses k d) o) ∙ ap (range_of r) (level_is (class r (get_or uses k d)) (open_wants r (get_or uses k d) o))

  short : (k : ℕ) (d : Use K) → k < length uses → is_open r (get_or uses k d) ≡ true → limit_of r (get_or uses k d) < 2 ^ 64 - 1
  short k d w o = omega (arith, (low k d w).inside, range_is k d w o, widest r law (level_in (rank_of (class r (get_or uses k d)))), law.third_short)

  not_below : (k : ℕ) (d : Use K) (q : Queue) → k < length uses → is_open r (get_or uses k d) ≡ true → (get_or queues (rank_of (class r (get_or uses k d))) q).limit ≢ 2 ^ 64 - 1
  not_below k d q w o e =
      let x : (get_or queues (rank_of (class r (get_or uses k d))) q).limit ≤ limit_of r (get_or uses k d) = (limits (rank_of (class r (get_or uses k d))) q (open_rank r (get_or uses k d) o)).least k d w o refl in
      let y : limit_of r (get_or uses k d) < 2 ^ 64 - 1 = short k d w o in
      omega arith

  none_open : (q : Queue) → IsFoundBelow limit queues None → IsNextOpen r limit uses None
  none_open q none k d w o = elim (cases_lt (rank_of (class r (get_or uses k d))) limit) [
    | inl lt ↦ absurd (not_below k d q w o (none (rank_of (class r (get_or uses k d))) q lt))
    | inr ge ↦ omega arith
  ]

  some_open : (q : Queue) (i rank : ℕ) → IsFoundAt limit queues i rank → IsNextOpen r limit uses (Some i)
  some_open q i rank f = elim (limits rank q (let x : rank < limit = f.below in omega arith)).some [
    | inl e ↦ absurd (f.some q e)
    | inr s ↦ subst (λ n. IsNextOpen r limit uses (Some n)) (f.index_is q) (
      s.within,
      λ d. (
        s.open' d,
        omega (arith, s.rank_is d, f.below, (low (get_or queues rank q).first d s.within).inside),
        λ k e w o. elim (cases_lt (rank_of (class r (get_or uses k e))) rank) [
          | inl lt ↦ absurd (not_below k e q w o (f.none (rank_of (class r (get_or uses k e))) q lt))
          | inr ge ↦ elim (cases_eq (rank_of (class r (get_or uses k e))) rank) [
            | inl same ↦
                let x : (get_or queues rank q).limit ≤ limit_of r (get_or uses k e) = (limits rank q (let x : rank < limit = f.below in omega arith)).least k e w o same in
                let y : r.forward (get_or uses k e).kind ≡ range_of r (level_in rank) = range_is k e w o ∙ ap (λ n. range_of r (level_in n)) same in
                let z : r.forward (get_or uses (get_or queues rank q).first d).kind ≡ range_of r (level_in rank) = range_is (get_or queues rank q).first d s.within (s.open' d) ∙ ap (λ n. range_of r (level_in n)) (s.rank_is d) in
                omega (arith, x, y, z, s.is d, s.rank_is d, same)
            | inr ne ↦ omega (arith, s.rank_is d, (low (get_or queues rank q).first d s.within).inside)
          ]
        ],
      ),
    )
  ]

  pub next_is : (q : Queue) (result : Option ℕ) → IsFoundBelow limit queues result → IsNextOpen r limit uses result
  next_is q None f = none_open q f
  next_is q (Some i) f = some_open q i f.0 f.1

-- what stands below the end of code that is short
pub placed_low : {K : Type 0} (r : Kinds K) (b : Buffer K) (areas : List (ℕ × ℕ)) → IsSound r b areas → All (IsPlaced (2 ^ 31)) b.uses
placed_low r b areas h = λ k d w. record { aligned = (h.placed k d w).aligned; inside = omega (arith, (h.placed k d w).inside, h.short) }
