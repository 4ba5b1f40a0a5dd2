-- A symbol that units define once is looked up where they define it.
use Rattle.std.proofs.Common.{ℕ, zero, suc, ◌≡◌, ◌+◌, nat_eq, cond, Bool, true, false, List, [], ◌∷◌, ◌++◌, Option, Some, None, inl, inr, refl, sym, ap, subst, ◌∙◌, arith}
use Rattle.std.specs.Prelude.{◌||◌, ◌↔◌}
use Rattle.std.specs.Cmp.{nat_eq_equiv}
use Rattle.std.specs.List.{list_any, Contains, IsDistinct, AllByRecursion}
use Rattle.std.specs.Map.{keys_of}
use Rattle.std.proofs.lemmas.Bool.{false≢true, eqb-true, eq-eqb}
use Rattle.std.proofs.lemmas.Bool.Decides.{eqb_tells}
use Rattle.std.proofs.lemmas.List.Elements.{Contains-append_left, Contains-append_right, Contains-append_cases}
use Rattle.std.proofs.lemmas.Map.Views.{Contains-from_lookup, lookup-from_Contains}
use Rattle.a64_base.specs.declared.entity.ExternalName.{ExternalName}
use Rattle.a64_link.specs.declared.error.LinkError.{LinkError}
use Rattle.a64_link.specs.declared.unit.Unit.{Unit}
use Rattle.a64_link.specs.declared.unit.Symbol.{Symbol}
use Rattle.a64_link.specs.Units.{Definition, defined_in, defined_from, defined, symbol_of}
use Rattle.a64_link.specs.Layout.{Defines}
use Rattle.a64_link.specs.Faults.{repeated_in, definitions}

-- ---- numbers that are not repeated

abbrev pub numbers : List Definition → List ℕ
numbers [] = []
numbers (d ∷ ds) = d.0.0 ∷ numbers ds

no_fault : (b : Bool) (fault : LinkError) (rest : Option LinkError) → cond b (Some fault) rest ≡ None → (b ≡ false) × (rest ≡ None)
no_fault true fault rest h = absurd cc
no_fault false fault rest h = (refl, h)

or_later : (a b : Bool) → b ≡ true → (a || b) ≡ true
or_later true b h = refl
or_later false b h = h

or_first : (a b : Bool) → a ≡ true → (a || b) ≡ true
or_first true b h = refl
or_first false b h = absurd cc

-- a number that was before is that of no definition
fresh : (x : ℕ) (before : List ℕ) (ds : List Definition) → list_any (nat_eq x) before ≡ true → repeated_in before ds ≡ None → AllByRecursion (λ y. nat_eq x y ≡ false) (numbers ds)
fresh x before [] seen none = tt
fresh x before (d ∷ ds) seen none =
    let s = no_fault (list_any (nat_eq d.0.0) before) _ _ none in
    let other : nat_eq x d.0.0 ≡ false = elim (eqb_tells x d.0.0) [
      | inl t ↦ absurd (false≢true (sym s.0 ∙ (ap (λ y. list_any (nat_eq y) before) (sym t.1) ∙ seen)))
      | inr f ↦ f.0
    ] in
    (other, fresh x (d.0.0 ∷ before) ds (or_later (nat_eq x d.0.0) (list_any (nat_eq x) before) seen) s.1)

differ : (before : List ℕ) (ds : List Definition) → repeated_in before ds ≡ None → IsDistinct nat_eq (numbers ds)
unfolding IsDistinct
differ before [] none = tt
differ before (d ∷ ds) none =
    let s = no_fault (list_any (nat_eq d.0.0) before) _ _ none in
    (fresh d.0.0 (d.0.0 ∷ before) ds (or_first (nat_eq d.0.0 d.0.0) (list_any (nat_eq d.0.0) before) (eq-eqb d.0.0 d.0.0 refl)) s.1, differ (d.0.0 ∷ before) ds s.1)

keys_in : (i : ℕ) (ds : List Definition) (more : List (ℕ × Symbol)) (rest : List Definition) → keys_of more ≡ numbers rest → keys_of (defined_in i ds ++ more) ≡ numbers (ds ++ rest)
keys_in i [] more rest e = e
keys_in i (d ∷ ds) more rest e = ap (λ ks. d.0.0 ∷ ks) (keys_in i ds more rest e)

keys_from : (i : ℕ) (units : List Unit) → keys_of (defined_from i units) ≡ numbers (definitions units)
keys_from i [] = refl
keys_from i (unit ∷ units) = keys_in i unit.defines.items (defined_from (suc i) units) (definitions units) (keys_from (suc i) units)

-- ---- from what is looked up to what is defined

out_of_unit : (i : ℕ) (ds : List Definition) (n : ℕ) (s : Symbol) → Contains (defined_in i ds) (n, s) → (s.unit ≡ i) × Contains ds (record { 0 = n }, s.place)
out_of_unit i [] n s (k, lt, at) = absurd (omega arith)
out_of_unit i (d ∷ ds) n s (zero, lt, at) = (sym (ap (λ (e : ℕ × Symbol). e.1.unit) at), (zero, omega arith, ap (λ (e : ℕ × Symbol). (record { 0 = e.0 }, e.1.place)) at))
out_of_unit i (d ∷ ds) n s (suc k, lt, at) =
    let r = out_of_unit i ds n s (k, omega arith, at) in
    (r.0, (suc r.1.0, omega (arith, r.1.1), r.1.2))

out_of_units : (i : ℕ) (units : List Unit) (n : ℕ) (s : Symbol) → Contains (defined_from i units) (n, s) → (k : ℕ) × (s.unit ≡ i + k) × Defines units k (record { 0 = n }) s.place
out_of_units i [] n s (k, lt, at) = absurd (omega arith)
out_of_units i (unit ∷ units) n s h = elim (Contains-append_cases (defined_in i unit.defines.items) (defined_from (suc i) units) (n, s) h) [
  | inl here ↦
      let r = out_of_unit i unit.defines.items n s here in
      (zero, omega (arith, r.0), record { unit = unit; is = record { within = omega arith; is = λ d. refl }; defines = r.1 })
  | inr later ↦
      let r = out_of_units (suc i) units n s later in
      (suc r.0, omega (arith, r.1), record { unit = r.2.unit; is = record { within = omega (arith, r.2.is.within); is = r.2.is.is }; defines = r.2.defines })
]

-- ---- and back

into_unit : (i : ℕ) (ds : List Definition) (name : ExternalName) (place : ℕ) → Contains ds (name, place) → Contains (defined_in i ds) (name.0, record { unit = i; place = place })
into_unit i [] name place (k, lt, at) = absurd (omega arith)
into_unit i (d ∷ ds) name place (zero, lt, at) = (zero, omega arith, ap (λ (e : Definition). (e.0.0, record { unit = i; place = e.1 })) at)
into_unit i (d ∷ ds) name place (suc k, lt, at) =
    let r = into_unit i ds name place (k, omega arith, at) in
    (suc r.0, omega (arith, r.1), r.2)

into_units : (i k : ℕ) (units : List Unit) (name : ExternalName) (place : ℕ) → Defines units k name place → Contains (defined_from i units) (name.0, record { unit = i + k; place = place })
into_units i k [] name place h = absurd (let w = h.is.within in omega arith)
into_units i zero (unit ∷ units) name place h =
    let e : i ≡ i + 0 = omega arith in
    let same : h.unit ≡ unit = sym (h.is.is unit) in
    let here = subst (λ (v : Unit). Contains v.defines.items (name, place)) same h.defines in
    Contains-append_left (defined_in i unit.defines.items) (defined_from (suc i) units) (name.0, record { unit = i + 0; place = place })
    (subst (λ n. Contains (defined_in i unit.defines.items) (name.0, record { unit = n; place = place })) e (into_unit i unit.defines.items name place here))
into_units i (suc k) (unit ∷ units) name place h =
    let e : suc i + k ≡ i + suc k = omega arith in
    let later : Defines units k name place = record { unit = h.unit; is = record { within = omega (arith, h.is.within); is = h.is.is }; defines = h.defines } in
    Contains-append_right (defined_in i unit.defines.items) (defined_from (suc i) units) (name.0, record { unit = i + suc k; place = place })
    (subst (λ n. Contains (defined_from (suc i) units) (name.0, record { unit = n; place = place })) e (into_units (suc i) k units name place later))

pub defined_once : (units : List Unit) → repeated_in [] (definitions units) ≡ None → (name : ExternalName) (s : Symbol) → (symbol_of units name ≡ Some s) ↔ Defines units s.unit name s.place
defined_once units none name s = (
  λ e.
      let r = out_of_units 0 units name.0 s (Contains-from_lookup {eq = nat_eq} eqb-true name.0 s (defined units) e) in
      let same : r.0 ≡ s.unit = omega (arith, r.1) in
      subst (λ k. Defines units k name s.place) same r.2,
  λ d.
      let same : 0 + s.unit ≡ s.unit = omega arith in
      lookup-from_Contains nat_eq_equiv name.0 s (defined units) (subst (IsDistinct nat_eq) (sym (keys_from 0 units)) (differ [] (definitions units) none))
      (subst (λ k. Contains (defined units) (name.0, record { unit = k; place = s.place })) same (into_units 0 s.unit units name s.place d)),
)
