-- One unit more.
use Rattle.std.proofs.Common.{ℕ, suc, ◌≡◌, ◌+◌, ◌*◌, ◌/◌, ◌<◌, ◌≤◌, cond, inl, inr, List, [], length, get_or, sym, ap, subst, ◌∙◌, arith, Bool, true, false, nat_cmp}
use Rattle.std.specs.FinMap.{FinMap}
use Rattle.std.proofs.lemmas.Bool.{cases_lt}
use Rattle.a64_link.specs.declared.unit.Unit.{Unit}
use Rattle.a64_link.specs.declared.unit.Symbol.{Symbol}
use Rattle.a64_link.specs.Units.{is_call}
use Rattle.a64_link.specs.Layout.{end_before, IsUnit, start_of, thunk_of}
use Rattle.a64_link.specs.Linking.{IsPlan, StandsSoFar, IsUnitPut, AreLinked}
use Rattle.a64_link.proofs.Places.{unit_end}
use Rattle.a64_link.proofs.Geometry.{unit_there}
use Rattle.a64_link.proofs.Ready.{here}
use Rattle.a64_link.proofs.Stands.{site_stays}
use Rattle.a64_link.proofs.UnitPuts.{thunk_before}

same_unit : (units : List Unit) (i : ℕ) (a b : Unit) → IsUnit units i a → IsUnit units i b → a ≡ b
same_unit units i a b x y = sym (x.is a) ∙ y.is a

module _ (units : List Unit) (base : ℕ) (sums : List ℕ) (symbols : FinMap nat_cmp Symbol) (starts : List ℕ) (p : IsPlan units sums symbols starts) where
  -- a unit stays where words are put behind it
  stands_on : (i : ℕ) (unit : Unit) (u : IsUnit units i unit) (words new : List ℕ) → ((x : ℕ) → x < length words → get_or new x 0 ≡ get_or words x 0)
      → thunk_of units starts i unit (length unit.relocs.items) ≤ 4 * length words
      → StandsSoFar units base starts words i unit (length unit.relocs.items) → StandsSoFar units base starts new i unit (length unit.relocs.items)
  stands_on i unit u words new same within h = record {
    plain = λ x lt plain. same ((start_of starts i + 4 * x) / 4) (omega arith) ∙ h.plain x lt plain;
    sites = λ k r s lt q e.
        let at = here units base sums symbols starts p i unit u k r q in
        site_stays units base starts i unit words new k r s (is_call r.1)
        (same ((start_of starts i + r.0) / 4) (omega (arith, at.within, one_size (is_call r.1))))
        (λ no. same ((start_of starts i + r.0 + 4) / 4) (omega (arith, at.within, ap {B = ℕ} (λ (b : Bool). cond b 4 8) no)))
        (λ far place low high. same (place / 4) (omega (arith, thunk_before units base sums symbols starts p i unit u k (length unit.relocs.items) r lt (omega arith) q far)))
        (h.sites k r s lt q e);
  }
    where
      one_size : (b : Bool) → 4 ≤ cond b 4 8
      one_size true = omega arith
      one_size false = omega arith

  pub none_linked : (words : List ℕ) → words ≡ [] → AreLinked units base starts words 0
  none_linked words is = record {
    long = omega (arith, ap length is);
    within = λ i unit lt. absurd (omega arith);
    gaps = λ i lt. absurd (omega arith);
    stands = λ i unit lt. absurd (omega arith);
  }

  pub one_linked : (n : ℕ) (unit : Unit) (words new : List ℕ) → IsUnit units n unit → AreLinked units base starts words n
      → IsUnitPut units base starts n unit words new (length unit.relocs.items) → AreLinked units base starts new (n + 1)
  one_linked n unit words new u h put = record {
    long = ends;
    within = λ i v lt is. elim (cases_lt i n) [
      | inl less ↦ omega (arith, h.within i v less is, longer)
      | inr more ↦
          let e : n ≡ i = omega arith in
          let same : unit ≡ v = same_unit units i unit v (subst (λ k. IsUnit units k unit) e u) is in
          let here_ : thunk_of units starts n unit (length unit.relocs.items) ≤ 4 * length new = omega (arith, put.long) in
          subst (λ k. thunk_of units starts k v (length v.relocs.items) ≤ 4 * length new) e (subst (λ (w : Unit). thunk_of units starts n w (length w.relocs.items) ≤ 4 * length new) same here_)
    ];
    gaps = λ i lt x low high. elim (cases_lt i n) [
      | inl less ↦
          let w = unit_there units i (omega (arith, u.within)) in
          put.front x (omega (arith, h.within i w.0 less w.1)) ∙ h.gaps i less x low high
      | inr more ↦
          let e : i ≡ n = omega arith in
          put.gap x (omega (arith, h.long, ap (end_before units starts) e)) (omega (arith, ap (λ k. get_or starts k 0) e))
    ];
    stands = λ i v lt is. elim (cases_lt i n) [
      | inl less ↦ stands_on i v is words new put.front (h.within i v less is) (h.stands i v less is)
      | inr more ↦
          let e : n ≡ i = omega arith in
          let same : unit ≡ v = same_unit units i unit v (subst (λ k. IsUnit units k unit) e u) is in
          subst (λ k. StandsSoFar units base starts new k v (length v.relocs.items)) e (subst (λ (w : Unit). StandsSoFar units base starts new n w (length w.relocs.items)) same put.stands)
    ];
  }
    where
      longer : length words ≤ length new
      longer = omega (arith, put.behind, put.long)

      ends : 4 * length new ≡ end_before units starts (n + 1)
      ends =
          let e : suc n ≡ n + 1 = omega arith in
          let sum : 4 * length new ≡ end_before units starts (suc n) = omega (arith, put.long, unit_end units starts n unit u) in
          sum ∙ ap (end_before units starts) e
