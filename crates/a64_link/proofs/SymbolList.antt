-- The symbols of units, as a list.
use Rattle.std.proofs.Common.{ℕ, zero, suc, ◌≡◌, List, [], ◌∷◌, get_or, map, Some, refl, sym, ◌∙◌, ap, subst, arith, nat_cmp}
use Rattle.std.specs.Prelude.{◌↔◌}
use Rattle.std.specs.FinMap.{FinMap, entries}
use Rattle.std.specs.List.{All, Contains}
use Rattle.std.specs.List.Sorted.{IsStrictlyIncreasing}
use Rattle.std.specs.Map.{keys_of}
use Rattle.std.proofs.lemmas.List.{get_or_default}
use Rattle.a64_base.specs.declared.entity.ExternalName.{ExternalName}
use Rattle.a64_link.specs.declared.unit.Unit.{Unit}
use Rattle.a64_link.specs.declared.unit.Symbol.{Symbol}
use Rattle.a64_link.specs.Units.{symbol_of}
use Rattle.a64_link.specs.Layout.{AreSymbols, Defines, goal_of}
use Rattle.a64_link.specs.Linking.{IsPlan}
use Rattle.a64_link.specs.Linked.{IsSymbolAt}
use Rattle.a64_link.specs.Lists.{MayStand, placed_by}
use Rattle.a64_link.proofs.Places.{symbol_in}
use Rattle.a64_link.proofs.Ready.{goal}
use Rattle.a64_link.proofs.Listed.{entries_rise, entry_there}

numbers_kept : (starts : List ℕ) (es : List (ℕ × Symbol)) → map (λ (e : ExternalName × ℕ). e.0.0) (map (placed_by starts) es) ≡ keys_of es
numbers_kept starts [] = refl
numbers_kept starts (e ∷ es) = ap (λ ns. e.0 ∷ ns) (numbers_kept starts es)

-- what is listed comes of an entry
from_entry : (starts : List ℕ) (es : List (ℕ × Symbol)) (name : ExternalName) (place : ℕ) → Contains (map (placed_by starts) es) (name, place)
    → (s : Symbol) × (place ≡ goal_of starts s) × Contains es (name.0, s)
from_entry starts [] name place (k, lt, at) = absurd (omega arith)
from_entry starts (e ∷ es) name place (zero, lt, at) = (e.1, sym (ap (λ (p : ExternalName × ℕ). p.1) at), (zero, omega arith, ap (λ (p : ExternalName × ℕ). (p.0.0, e.1)) at))
from_entry starts (e ∷ es) name place (suc k, lt, at) =
    let r = from_entry starts es name place (k, omega arith, at) in
    (r.0, r.1, (suc r.2.0, omega (arith, r.2.1), r.2.2))

to_entry : (starts : List ℕ) (es : List (ℕ × Symbol)) (name : ExternalName) (s : Symbol) → Contains es (name.0, s) → Contains (map (placed_by starts) es) (name, goal_of starts s)
to_entry starts [] name s (k, lt, at) = absurd (omega arith)
to_entry starts (e ∷ es) name s (zero, lt, at) = (zero, omega arith, ap (placed_by starts) at)
to_entry starts (e ∷ es) name s (suc k, lt, at) =
    let r = to_entry starts es name s (k, omega arith, at) in
    (suc r.0, omega (arith, r.1), r.2)

-- the list is in order of the numbers
pub symbols_ordered : (symbols : FinMap nat_cmp Symbol) (starts : List ℕ) (list : List (ExternalName × ℕ)) → list ≡ map (placed_by starts) (entries symbols)
    → IsStrictlyIncreasing (map (λ (e : ExternalName × ℕ). e.0.0) list)
symbols_ordered symbols starts list is =
    subst IsStrictlyIncreasing (sym (ap (map (λ (e : ExternalName × ℕ). e.0.0)) is ∙ numbers_kept starts (entries symbols))) (entries_rise symbols)

module _ (units : List Unit) (symbols : FinMap nat_cmp Symbol) (starts : List ℕ) where
  module _ (known : AreSymbols units symbols) (once : (name : ExternalName) (s : Symbol) → (symbol_of units name ≡ Some s) ↔ Defines units s.unit name s.place) where
    listed_at : (name : ExternalName) (place : ℕ) → Contains (map (placed_by starts) (entries symbols)) (name, place) ↔ IsSymbolAt units starts name place
    listed_at name place = (
      λ c.
          let r = from_entry starts (entries symbols) name place c in
          let found = sym (known name) ∙ (entry_there symbols name.0 r.0).0 r.2 in
          record { unit = r.0.unit; own = r.0.place; defined = (once name r.0).0 found; is = r.1 },
      λ h.
          let s : Symbol = record { unit = h.unit; place = h.own } in
          let found = known name ∙ (once name s).1 h.defined in
          subst (λ p. Contains (map (placed_by starts) (entries symbols)) (name, p)) (sym h.is) (to_entry starts (entries symbols) name s ((entry_there symbols name.0 s).1 found)),
    )

    -- it has each symbol that is defined, at its place
    pub symbols_listed : (list : List (ExternalName × ℕ)) → list ≡ map (placed_by starts) (entries symbols) → (name : ExternalName) (place : ℕ) → Contains list (name, place) ↔ IsSymbolAt units starts name place
    symbols_listed list is name place =
        subst (λ (l : List (ExternalName × ℕ)). Contains l (name, place) ↔ IsSymbolAt units starts name place) (sym is) (listed_at name place)

  -- each entry's symbol has a place that fits
  pub entries_stand : (base : ℕ) (sums : List ℕ) → IsPlan units sums symbols starts → All (λ e. MayStand starts e.1) (entries symbols)
  entries_stand base sums p = λ k d lt.
      let e : ℕ × Symbol = get_or (entries symbols) k d in
      let name : ExternalName = record { 0 = e.0 } in
      let there : Contains (entries symbols) e = (k, lt, get_or_default (entries symbols) k e d lt) in
      let found : symbol_of units name ≡ Some e.1 = sym (p.symbols_are name) ∙ (entry_there symbols e.0 e.1).0 there in
      let g = goal units base sums symbols starts p name e.1 found in
      record { within = omega (arith, symbol_in units name e.1 found, p.starts_are.count); small = g.small }
