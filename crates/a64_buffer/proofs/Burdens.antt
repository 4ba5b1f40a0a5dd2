-- Sums over open uses, as uses stop and are added.
use Rattle.std.proofs.Common.{ℕ, ◌≡◌, ◌+◌, ◌<◌, true, false, List, [], ◌∷◌, ◌++◌, length, get_or, set, refl, sym, ap, ◌∙◌, arith}
use Rattle.std.proofs.lemmas.List.Sums.{sum_by-set}
use Rattle.a64_buffer.specs.declared.site.Use.{Use}
use Rattle.a64_buffer.specs.declared.class.Class.{Class}
use Rattle.a64_buffer.specs.declared.class.Class.TheVariants.{Near, Middle, Load, Trapping, Far, Direct}
use Rattle.a64_buffer.specs.declared.room.Burdens.{Burdens}
use Rattle.a64_buffer.specs.Kinds.{Kinds}
use Rattle.a64_buffer.specs.Classes.{Level, first, second, third, wants, cost, is_open, weigh, burden}
use Rattle.a64_buffer.specs.Queues.{IsWaitingClass, AreBurdens}
use Rattle.a64_buffer.proofs.Costs.{weight-append, weight-cons, open_weight, closed_weight}

cost_none : (l : Level) (c : Class) → wants c ≡ false → cost l c ≡ 0
cost_none l Near w = absurd (let z : true ≡ false = w in cc)
cost_none l Load w = absurd (let z : true ≡ false = w in cc)
cost_none l Trapping w = absurd (let z : true ≡ false = w in cc)
cost_none l Middle w = absurd (let z : true ≡ false = w in cc)
cost_none l Far w = absurd (let z : true ≡ false = w in cc)
cost_none l Direct w = refl

module _ {K : Type 0} (r : Kinds K) where
  waiting_weight : (l : Level) (u : Use K) (c : Class) → IsWaitingClass r u c → weigh r (cost l) u ≡ cost l c
  waiting_weight l u c h = elim (wants c) as (λ w. wants c ≡ w → weigh r (cost l) u ≡ cost l c) [
    | true ↦ λ e. open_weight r (cost l) u (h.open' ∙ e) ∙ ap (cost l) (h.is e)
    | false ↦ λ e. closed_weight r (cost l) u (h.open' ∙ e) ∙ sym (cost_none l c e)
  ] refl

  -- a use stops
  pub stop_burden : (l : Level) (us : List (Use K)) (i : ℕ) (u v : Use K) (c : Class) → i < length us → u ≡ get_or us i u → IsWaitingClass r u c → is_open r v ≡ false → burden r l (set us i v) + cost l c ≡ burden r l us
  stop_burden l us i u v c w is h closed = omega (arith, sum_by-set (weigh r (cost l)) us i v u w, closed_weight r (cost l) v closed, ap (weigh r (cost l)) is, waiting_weight l u c h)

  pub stopped_burdens : (us : List (Use K)) (i : ℕ) (u v : Use K) (c : Class) (b b' : Burdens) → i < length us → u ≡ get_or us i u → IsWaitingClass r u c → is_open r v ≡ false → AreBurdens r us b → b'.first + cost first c ≡ b.first → b'.second + cost second c ≡ b.second → b'.third + cost third c ≡ b.third → AreBurdens r (set us i v) b'
  stopped_burdens us i u v c b b' w is h closed a x y z = record {
    first_is = omega (arith, a.first_is, x, stop_burden first us i u v c w is h closed);
    second_is = omega (arith, a.second_is, y, stop_burden second us i u v c w is h closed);
    third_is = omega (arith, a.third_is, z, stop_burden third us i u v c w is h closed);
  }

  -- a use is added
  push_burden : (l : Level) (us : List (Use K)) (u : Use K) (c : Class) → IsWaitingClass r u c → burden r l (us ++ u ∷ []) ≡ burden r l us + cost l c
  push_burden l us u c h = omega (arith, weight-append r (cost l) us (u ∷ []), weight-cons r (cost l) u [], waiting_weight l u c h)

  pub pushed_burdens : (us : List (Use K)) (u : Use K) (c : Class) (b b' : Burdens) → IsWaitingClass r u c → AreBurdens r us b → b'.first ≡ b.first + cost first c → b'.second ≡ b.second + cost second c → b'.third ≡ b.third + cost third c → AreBurdens r (us ++ u ∷ []) b'
  pushed_burdens us u c b b' h a x y z = record {
    first_is = omega (arith, a.first_is, x, push_burden first us u c h);
    second_is = omega (arith, a.second_is, y, push_burden second us u c h);
    third_is = omega (arith, a.third_is, z, push_burden third us u c h);
  }
