-- Ranks of which no use is open.
use Rattle.std.proofs.Common.{ℕ, zero, suc, ◌≡◌, ◌-◌, ◌+◌, ◌^◌, ◌<◌, ◌≤◌, true, false, cond, nat_eq, List, [], ◌∷◌, length, get_or, take, Option, None, refl, sym, ap, ◌∙◌, arith, inl}
use Rattle.std.proofs.lemmas.List.{get_or-take, length-take-le}
use Rattle.a64_buffer.specs.declared.site.Use.{Use}
use Rattle.a64_buffer.specs.declared.class.Class.{Class}
use Rattle.a64_buffer.specs.declared.class.Class.TheVariants.{Near, Middle, Load, Trapping, Far, Direct}
use Rattle.a64_buffer.specs.declared.room.Burdens.{Burdens}
use Rattle.a64_buffer.specs.Kinds.{Kinds}
use Rattle.a64_buffer.specs.Classes.{first, second, third, cost, wants, rank_of, class, is_open, weigh, weight_of, burden}
use Rattle.a64_buffer.specs.Queues.{Holds, NoneWaits, IsLimit, AreBurdens, ShowNone}
use Rattle.a64_buffer.proofs.Costs.{weight-cons, open_weight}

-- the class of a rank
of_rank : ℕ → Class
of_rank n = cond (nat_eq n 0) Near (cond (nat_eq n 1) Load (cond (nat_eq n 2) Trapping (cond (nat_eq n 3) Middle (cond (nat_eq n 4) Far Direct))))

of_rank_of : (c : Class) → of_rank (rank_of c) ≡ c
unfolding of_rank
of_rank_of Near = refl
of_rank_of Middle = refl
of_rank_of Load = refl
of_rank_of Trapping = refl
of_rank_of Far = refl
of_rank_of Direct = refl

-- what a class puts before uses of urgency 3 more than before those of urgency 2
abbrev more : Class → ℕ
more Near = 20
more Middle = 20
more Load = 0
more Trapping = 0
more Far = 20
more Direct = 0

cost_more : (c : Class) → cost third c ≡ cost second c + more c
cost_more Near = refl
cost_more Middle = refl
cost_more Load = refl
cost_more Trapping = refl
cost_more Far = refl
cost_more Direct = refl

module _ {K : Type 0} (r : Kinds K) where
  -- each use is part of a sum
  weight_has : (w : Class → ℕ) (us : List (Use K)) (k : ℕ) (d : Use K) → k < length us → weigh r w (get_or us k d) ≤ weight_of r w us
  weight_has w [] k d h = absurd (omega arith)
  weight_has w (u ∷ us) zero d h = omega (arith, weight-cons r w u us)
  weight_has w (u ∷ us) (suc k) d h = omega (arith, weight-cons r w u us, weight_has w us k d (omega arith))

  -- where a weight of all open uses is zero, no use of a class is open that has some of it
  none_by : (w : Class → ℕ) (c : Class) (us : List (Use K)) → 1 ≤ w c → weight_of r w us ≡ 0 → NoneWaits r (rank_of c) us 0 (length us)
  none_by w c us least z j d from to o e =
      let same : class r (get_or us j d) ≡ c = sym (of_rank_of (class r (get_or us j d))) ∙ (ap of_rank e ∙ of_rank_of c) in
      omega (arith, weight_has w us j d to, open_weight r w (get_or us j d) o, ap w same, least, z)

  weigh_more : (u : Use K) → weigh r (cost third) u ≡ weigh r (cost second) u + weigh r more u
  weigh_more u = elim (is_open r u) as (λ b. cond b (cost third (class r u)) 0 ≡ cond b (cost second (class r u)) 0 + cond b (more (class r u)) 0) [ true ↦ cost_more (class r u) | false ↦ refl ]

  burden_more : (us : List (Use K)) → burden r third us ≡ burden r second us + weight_of r more us
  burden_more [] = refl
  burden_more (u ∷ us) = omega (arith, weight-cons r (cost third) u us, weight-cons r (cost second) u us, weight-cons r more u us, weigh_more u, burden_more us)

  -- what the sums show
  pub none_waits : (c : Class) (us : List (Use K)) (b : Burdens) → wants c ≡ true → AreBurdens r us b → ShowNone c b → NoneWaits r (rank_of c) us 0 (length us)
  none_waits Near us b w a z = none_by (cost first) Near us (omega arith) (sym a.first_is ∙ z)
  none_waits Load us b w a z = none_by (cost second) Load us (omega arith) (sym a.second_is ∙ z)
  none_waits Trapping us b w a z = none_by (cost second) Trapping us (omega arith) (sym a.second_is ∙ z)
  none_waits Middle us b w a z = none_by (cost second) Middle us (omega arith) (sym a.second_is ∙ z)
  none_waits Far us b w a z = none_by more Far us (omega arith) (omega (arith, burden_more us, a.second_is, a.third_is, z))
  none_waits Direct us b w a z = absurd (let x : false ≡ true = w in cc)

  pub none_before : (rank : ℕ) (us : List (Use K)) (from : ℕ) → from ≤ length us → NoneWaits r rank us 0 (length us) → NoneWaits r rank (take from us) 0 (length (take from us))
  none_before rank us from h none j d a b o e =
      let w : j < from = omega (arith, length-take-le from us h) in
      let same : get_or (take from us) j d ≡ get_or us j d = get_or-take from us j d w in
      none j d (omega arith) (omega arith) (ap (is_open r) (sym same) ∙ o) (ap (λ v. rank_of (class r v)) (sym same) ∙ e)

  -- such uses may be left behind
  pub left_holds : (rank : ℕ) (us : List (Use K)) (most : ℕ) (next : Option ℕ) (es : List (ℕ × ℕ)) → NoneWaits r rank us 0 (length us) → Holds r rank us most next es → Holds r rank us most None es
  left_holds rank us most next es none h = record {
    order = h.order;
    within = record {};
    farthest = h.farthest;
    each = λ k d w o e. absurd (none k d (omega arith) w o e);
    only = h.only;
  }

  pub left_limit : (rank : ℕ) (us : List (Use K)) (index : ℕ) → NoneWaits r rank us 0 (length us) → IsLimit r rank us (2 ^ 64 - 1) index
  left_limit rank us index none = record {
    least = λ k d w o e. absurd (none k d (omega arith) w o e);
    some = inl refl;
  }
