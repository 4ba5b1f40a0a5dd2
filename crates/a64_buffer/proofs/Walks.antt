-- A walk along the chain of a number, from the last use.
use Rattle.std.proofs.Common.{ℕ, ◌≡◌, ◌≢◌, ◌-◌, ◌<◌, ◌≤◌, ◌&&◌, List, length, get_or, set, map, Option, None, Some, cond, is_none, refl, sym, ◌∙◌, ap, arith, inl, inr}
use Rattle.std.proofs.lemmas.Bool.{cases_eq, cases_lt}
use Rattle.std.proofs.lemmas.List.{length-map, get_or-set_same, get_or-set_other, get_or-map, same_lists}
use Rattle.a64_buffer.specs.declared.site.Use.{Use}
use Rattle.a64_buffer.specs.Kinds.{Kinds}
use Rattle.a64_buffer.specs.Buffer.{label_of, reached, closed_at}
use Rattle.a64_buffer.specs.Chain.{with_stop, IsLast}
use Rattle.a64_buffer.proofs.Uses.{leads_same, leads_other}

-- what a walk makes of the uses: those in the chain of a number take a step, and the others stay
pub record IsStep {K : Type 0} (key : Use K → Option ℕ) (number : ℕ) (walked step : Use K → Use K) : Type 0 where
  pub other : (u : Use K) → key u ≢ Some number → walked u ≡ u
  pub same : (u : Use K) → key u ≡ Some number → walked u ≡ step u

module _ {K : Type 0} (key : Use K → Option ℕ) (number : ℕ) (walked step : Use K → Use K) where
  -- the uses from an index on are walked, those before it are as they were, and it follows one in the chain
  pub record IsWalked (before now : List (Use K)) (at : ℕ) : Type 0 where
    pub same_length : length now ≡ length before
    pub done : (k : ℕ) (d : Use K) → at ≤ k → k < length before → get_or now k d ≡ walked (get_or before k d)
    pub same : (k : ℕ) (d : Use K) → k < at → get_or now k d ≡ get_or before k d
    pub within : at ≤ length before
    pub here : 0 < at → get_or (map key before) (at - 1) None ≡ Some number

  module _ (is_step : IsStep key number walked step) where
    pub walked_none : (last : ℕ) (uses : List (Use K)) → IsLast (map key uses) number (length (map key uses)) last → IsWalked uses uses last
    walked_none last uses l = record {
      same_length = refl;
      done = λ k d a b. sym (is_step.other (get_or uses k d) (λ e. l.none k a (omega (arith, length-map uses key)) (get_or-map key uses k d None b ∙ e)));
      same = λ k d h. refl;
      within = omega (arith, l.within, length-map uses key);
      here = l.here;
    }

    pub walked_all : (before now : List (Use K)) → IsWalked before now 0 → now ≡ map walked before
    walked_all before now w = same_lists now (map walked before) (w.same_length ∙ sym (length-map before walked)) (λ k d h. let l : k < length before = omega (arith, w.same_length) in w.done k d (omega arith) l ∙ sym (get_or-map walked before k d d l))

    -- the use before the one that it follows, as it is now
    pub walked_here : (at : ℕ) (before now : List (Use K)) → 0 < at → IsWalked before now at → (d : Use K) → key (get_or now (at - 1) d) ≡ Some number
    walked_here at before now p w d =
        let i : at - 1 < length before = omega (arith, w.within) in
        ap key (w.same (at - 1) d (omega arith)) ∙ (sym (get_or-map key before (at - 1) d None i) ∙ w.here p)

    pub walked_more : (at next : ℕ) (before now now' : List (Use K)) → 0 < at → IsWalked before now at → IsLast (map key before) number (at - 1) next → ((d : Use K) → now' ≡ set now (at - 1) (step (get_or now (at - 1) d))) → length now' ≡ length now → IsWalked before now' next
    walked_more at next before now now' p w l e len =
        let i : at - 1 < length before = omega (arith, w.within) in
        let j : at - 1 < length now = omega (arith, w.same_length) in
        let is_number : (d : Use K) → key (get_or before (at - 1) d) ≡ Some number = λ d. sym (get_or-map key before (at - 1) d None i) ∙ w.here p in
        record {
          same_length = len ∙ w.same_length;
          done = λ k d a b. elim (cases_eq k (at - 1)) [
            | inl q ↦ ap (λ us. get_or us k d) (e d) ∙ (ap (λ n. get_or (set now (at - 1) (step (get_or now (at - 1) d))) n d) q ∙ (get_or-set_same now (at - 1) _ d j ∙ (ap step (w.same (at - 1) d (omega arith)) ∙ (sym (is_step.same (get_or before (at - 1) d) (is_number d)) ∙ ap (λ n. walked (get_or before n d)) (sym q)))))
            | inr ne ↦ ap (λ us. get_or us k d) (e d) ∙ (get_or-set_other now (at - 1) k _ d ne ∙ elim (cases_lt k (at - 1)) [
              | inl lt ↦ w.same k d (omega arith) ∙ sym (is_step.other (get_or before k d) (λ z. l.none k a lt (get_or-map key before k d None b ∙ z)))
              | inr ge ↦ w.done k d (omega arith) b
            ])
          ];
          same = λ k d h. ap (λ us. get_or us k d) (e d) ∙ (get_or-set_other now (at - 1) k _ d (let lw : next ≤ at - 1 = l.within in omega arith) ∙ w.same k d (let lw : next ≤ at - 1 = l.within in omega arith));
          within = omega (arith, l.within);
          here = l.here;
        }

-- the uses of a label stop where they reach it
pub closes : {K : Type 0} (r : Kinds K) (label place : ℕ) → IsStep (λ (u : Use K). label_of u.target) label (closed_at r label place) (with_stop r place)
closes {K} r label place = record {
  other = λ u ne. ap (λ t. record u { stop = cond (t && is_none u.stop) (reached r u.kind u.offset place) u.stop }) (leads_other label u.target ne);
  same = λ u e. ap (λ t. record u { stop = cond (t && is_none u.stop) (reached r u.kind u.offset place) u.stop }) (leads_same label u.target e);
}
