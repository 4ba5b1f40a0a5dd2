-- What units define, added to a map unit by unit.
use Rattle.std.proofs.Common.{ℕ, suc, ◌≡◌, ◌⊎◌, ◌+◌, ◌≤◌, Bool, true, false, cond, List, [], ◌∷◌, ◌++◌, length, take, drop, Option, Some, None, inl, inr, refl, sym, ap, subst, ◌∙◌, arith, nat_cmp}
use Rattle.std.specs.Prelude.{nat_eq, is_some}
use Rattle.std.specs.FinMap.{FinMap, get, empty, get-empty}
use Rattle.std.specs.List.{list_any}
use Rattle.std.specs.Map.{lookup}
use Rattle.std.specs.Option.{option_or}
use Rattle.std.proofs.lemmas.List.{append_assoc, append-nil, take-append-drop, take_more, take_all, length-take-le}
use Rattle.a64_link.specs.declared.error.LinkError.{LinkError}
use Rattle.a64_link.specs.declared.error.LinkError.TheVariants as errors
use Rattle.a64_link.specs.declared.unit.Unit.{Unit}
use Rattle.a64_link.specs.declared.unit.Symbol.{Symbol}
use Rattle.a64_link.specs.Units.{Definition, defined_in, defined_from}
use Rattle.a64_link.specs.Layout.{IsUnit, AreSymbols}
use Rattle.a64_link.specs.Faults.{or_else, repeated_in, definitions}
use Rattle.a64_link.specs.Symbols.{HasNames, names_onto, HasAdded, Repeats}

-- ---- definitions behind others

repeated_behind : (before : List ℕ) (xs ys : List Definition) → repeated_in before (xs ++ ys) ≡ or_else (repeated_in before xs) (repeated_in (names_onto before xs) ys)
repeated_behind before [] ys = refl
repeated_behind before (x ∷ xs) ys = at (list_any (nat_eq x.0.0) before) (repeated_behind (x.0.0 ∷ before) xs ys)
  where
    at : (b : Bool) → repeated_in (x.0.0 ∷ before) (xs ++ ys) ≡ or_else (repeated_in (x.0.0 ∷ before) xs) (repeated_in (names_onto (x.0.0 ∷ before) xs) ys)
        → cond b (Some (errors.DefinedTwice x.0)) (repeated_in (x.0.0 ∷ before) (xs ++ ys))
        ≡ or_else (cond b (Some (errors.DefinedTwice x.0)) (repeated_in (x.0.0 ∷ before) xs)) (repeated_in (names_onto (x.0.0 ∷ before) xs) ys)
    at true e = refl
    at false e = e

names_behind : (before : List ℕ) (xs ys : List Definition) → names_onto before (xs ++ ys) ≡ names_onto (names_onto before xs) ys
names_behind before [] ys = refl
names_behind before (x ∷ xs) ys = names_behind (x.0.0 ∷ before) xs ys

definitions_behind : (xs ys : List Unit) → definitions (xs ++ ys) ≡ definitions xs ++ definitions ys
definitions_behind [] ys = refl
definitions_behind (x ∷ xs) ys = ap (λ (l : List Definition). x.defines.items ++ l) (definitions_behind xs ys) ∙ sym (append_assoc x.defines.items (definitions xs) (definitions ys))

defined_behind : (i : ℕ) (xs : List Unit) (unit : Unit) → defined_from i (xs ++ unit ∷ []) ≡ defined_from i xs ++ defined_in (i + length xs) unit.defines.items
defined_behind i [] unit = append-nil (defined_in i unit.defines.items) ∙ (let e : i ≡ i + 0 = omega arith in ap (λ j. defined_in j unit.defines.items) e)
defined_behind i (x ∷ xs) unit =
    let e : suc i + length xs ≡ i + suc (length xs) = omega arith in
    ap (λ (l : List (ℕ × Symbol)). defined_in i x.defines.items ++ l) (defined_behind (suc i) xs unit ∙ ap (λ j. defined_from (suc i) xs ++ defined_in j unit.defines.items) e)
    ∙ sym (append_assoc (defined_in i x.defines.items) (defined_from (suc i) xs) (defined_in (i + suc (length xs)) unit.defines.items))

found_behind : (test : ℕ → Bool) (xs ys : List (ℕ × Symbol)) → lookup test (xs ++ ys) ≡ option_or (lookup test xs) (lookup test ys)
found_behind test [] ys = refl
found_behind test (x ∷ xs) ys = at (test x.0) (found_behind test xs ys)
  where
    at : (b : Bool) → lookup test (xs ++ ys) ≡ option_or (lookup test xs) (lookup test ys) → cond b (Some x.1) (lookup test (xs ++ ys)) ≡ option_or (cond b (Some x.1) (lookup test xs)) (lookup test ys)
    at true e = refl
    at false e = e

-- ---- units that were added

-- what the first so many units define was added
pub record UnitsAdded (units : List Unit) (n : ℕ) (map : FinMap nat_cmp Symbol) : Type 0 where
  pub gets : (m : ℕ) → get map m ≡ lookup (nat_eq m) (defined_from 0 (take n units))
  pub names : HasNames map (names_onto [] (definitions (take n units)))
  pub once : repeated_in [] (definitions (take n units)) ≡ None

pub no_units : (units : List Unit) → UnitsAdded units 0 empty
no_units units = record { gets = λ m. get-empty nat_cmp m; names = λ m. ap is_some (get-empty nat_cmp m); once = refl }

module _ (units : List Unit) (n : ℕ) (unit : Unit) (u : IsUnit units n unit) (old : FinMap nat_cmp Symbol) (h : UnitsAdded units n old) where
  taken : take (n + 1) units ≡ take n units ++ unit ∷ []
  taken = take_more units n unit u.within ∙ ap (λ (v : Unit). take n units ++ v ∷ []) (u.is unit)

  defs : definitions (take (n + 1) units) ≡ definitions (take n units) ++ unit.defines.items
  defs = ap definitions taken ∙ definitions_behind (take n units) (unit ∷ []) ∙ ap (λ (l : List Definition). definitions (take n units) ++ l) (append-nil unit.defines.items)

  repeated_more : repeated_in [] (definitions (take (n + 1) units)) ≡ repeated_in (names_onto [] (definitions (take n units))) unit.defines.items
  repeated_more =
      ap (repeated_in []) defs ∙ repeated_behind [] (definitions (take n units)) unit.defines.items
      ∙ ap (λ (o : Option LinkError). or_else o (repeated_in (names_onto [] (definitions (take n units))) unit.defines.items)) h.once

  pub unit_added : (new : FinMap nat_cmp Symbol) → HasAdded n unit.defines.items old new → UnitsAdded units (n + 1) new
  unit_added new a = record {
    gets = λ m.
        a.gets m ∙ ap (λ (o : Option Symbol). option_or o (lookup (nat_eq m) (defined_in n unit.defines.items))) (h.gets m)
        ∙ sym (found_behind (nat_eq m) (defined_from 0 (take n units)) (defined_in n unit.defines.items))
        ∙ ap (lookup (nat_eq m)) (sym from);
    names = subst (HasNames new) (sym (names_behind [] (definitions (take n units)) unit.defines.items) ∙ ap (names_onto []) (sym defs)) (a.names (names_onto [] (definitions (take n units))) h.names);
    once = repeated_more ∙ a.once (names_onto [] (definitions (take n units))) h.names;
  }
    where
      from : defined_from 0 (take (n + 1) units) ≡ defined_from 0 (take n units) ++ defined_in n unit.defines.items
      from =
          let e : 0 + length (take n units) ≡ n = omega (arith, length-take-le n units (omega (arith, u.within))) in
          ap (defined_from 0) taken ∙ defined_behind 0 (take n units) unit ∙ ap (λ j. defined_from 0 (take n units) ++ defined_in j unit.defines.items) e

  pub unit_repeats : (e : LinkError) → (e ≡ errors.OutOfMemory) ⊎ Repeats old unit.defines.items e → (e ≡ errors.OutOfMemory) ⊎ (repeated_in [] (definitions units) ≡ Some e)
  unit_repeats e (inl m) = inl m
  unit_repeats e (inr f) = inr (whole ∙ ap (λ (o : Option LinkError). or_else o (repeated_in (names_onto [] front) (definitions (drop (n + 1) units)))) first)
    where
      front : List Definition
      front = definitions (take (n + 1) units)

      whole : repeated_in [] (definitions units) ≡ or_else (repeated_in [] front) (repeated_in (names_onto [] front) (definitions (drop (n + 1) units)))
      whole =
          ap (λ (l : List Unit). repeated_in [] (definitions l)) (sym (take-append-drop (n + 1) units))
          ∙ ap (repeated_in []) (definitions_behind (take (n + 1) units) (drop (n + 1) units))
          ∙ repeated_behind [] front (definitions (drop (n + 1) units))

      first : repeated_in [] (definitions (take (n + 1) units)) ≡ Some e
      first = repeated_more ∙ f (names_onto [] (definitions (take n units))) h.names

pub all_units : (units : List Unit) (n : ℕ) (map : FinMap nat_cmp Symbol) → length units ≤ n → UnitsAdded units n map → AreSymbols units map
all_units units n map le h name = h.gets name.0 ∙ ap (λ (l : List Unit). lookup (nat_eq name.0) (defined_from 0 l)) (take_all n units le)

pub all_once : (units : List Unit) (n : ℕ) (map : FinMap nat_cmp Symbol) → length units ≤ n → UnitsAdded units n map → repeated_in [] (definitions units) ≡ None
all_once units n map le h = ap (λ (l : List Unit). repeated_in [] (definitions l)) (sym (take_all n units le)) ∙ h.once
