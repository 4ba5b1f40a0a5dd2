-- How many numbers a map has that has none from a bound on.
use Rattle.std.proofs.Common.{ℕ, ◌≡◌, ◌+◌, ◌^◌, ◌<◌, ◌≤◌, Bool, true, false, cond, T, ◌&&◌, List, [], ◌∷◌, length, Option, None, Some, refl, sym, ◌∙◌, ap, arith, inl, inr, nat_cmp}
use Rattle.std.specs.Cmp.{ranked}
use Rattle.std.specs.Ordering.{is_lt}
use Rattle.std.specs.declared.cmp.Ordering.TheVariants.{Less, Equal, Greater}
use Rattle.std.specs.BTreeMap.{BTreeMap}
use Rattle.std.specs.FinMap.{FinMap, get, len, find, entries, entries_sorted, is_sorted, get-entries, len-entries}
use Rattle.std.specs.FinMap.Entries.{below_all}
use Rattle.std.proofs.lemmas.Bool.{cases_lt}
use Rattle.std.proofs.lemmas.Option.{none-some}
use Rattle.a64_label_map.specs.Shared.{whole, IsBalanced}
use Rattle.a64_label_map.proofs.Numbered.{equal_by_cmp, apart_by_cmp}

first : (a b : Bool) → T (a && b) → T a
first true b h = tt
first false b h = h

second : (a b : Bool) → T (a && b) → T b
second true b h = h
second false b h = absurd h

below : (x y : ℕ) → T (is_lt (nat_cmp x y)) → x < y
below x y h = elim (nat_cmp x y) as (λ o. o ≡ nat_cmp x y → T (is_lt o) → x < y) [ Less ↦ λ e t. ranked x y Less e | Equal ↦ λ e t. absurd t | Greater ↦ λ e t. absurd t ] refl h

module _ {X : Type 0} (bound : ℕ) where
  -- the first of the entries is below the bound, and so are the others
  first_within : (e : ℕ × X) (es : List (ℕ × X)) → ((q : ℕ) → bound ≤ q → find nat_cmp q (e ∷ es) ≡ None) → e.0 < bound
  first_within e es none = elim (cases_lt e.0 bound) [
    | inl lt ↦ lt
    | inr ge ↦ absurd (none-some e.1 (sym (none e.0 ge) ∙ ap (λ t. cond t (Some e.1) (find nat_cmp e.0 es)) (equal_by_cmp e.0)))
  ]

  others_within : (e : ℕ × X) (es : List (ℕ × X)) → ((q : ℕ) → bound ≤ q → find nat_cmp q (e ∷ es) ≡ None) → (q : ℕ) → bound ≤ q → find nat_cmp q es ≡ None
  others_within e es none q ge =
      let lt : e.0 < bound = first_within e es none in
      sym (ap (λ t. cond t (Some e.1) (find nat_cmp q es)) (apart_by_cmp q e.0 (λ same. omega arith))) ∙ none q ge

  -- entries in order behind a number are at most as many as there are numbers from it up to the bound
  length_behind : (x : ℕ) (es : List (ℕ × X)) → x < bound → T (below_all nat_cmp x es) → T (is_sorted nat_cmp es) → ((q : ℕ) → bound ≤ q → find nat_cmp q es ≡ None) → x + length es < bound
  length_behind x [] lt behind sorted none = omega arith
  length_behind x (e ∷ es) lt behind sorted none =
      let more : x < e.0 = below x e.0 (first (is_lt (nat_cmp x e.0)) (below_all nat_cmp x es) behind) in
      let rest : e.0 + length es < bound = length_behind e.0 es (first_within e es none) (first (below_all nat_cmp e.0 es) (is_sorted nat_cmp es) sorted) (second (below_all nat_cmp e.0 es) (is_sorted nat_cmp es) sorted) (others_within e es none) in
      omega arith

  length_within : (es : List (ℕ × X)) → T (is_sorted nat_cmp es) → ((q : ℕ) → bound ≤ q → find nat_cmp q es ≡ None) → length es ≤ bound
  length_within [] sorted none = omega arith
  length_within (e ∷ es) sorted none =
      let rest : e.0 + length es < bound = length_behind e.0 es (first_within e es none) (first (below_all nat_cmp e.0 es) (is_sorted nat_cmp es) sorted) (second (below_all nat_cmp e.0 es) (is_sorted nat_cmp es) sorted) (others_within e es none) in
      omega arith

  pub len_within : (m : FinMap nat_cmp X) → ((q : ℕ) → bound ≤ q → get m q ≡ None) → len m ≤ bound
  len_within m none =
      let few : length (entries m) ≤ bound = length_within (entries m) (entries_sorted m) (λ q ge. sym (get-entries m q) ∙ none q ge) in
      omega (arith, len-entries m)

-- the count of a map's numbers is far below what 64 bits hold
pub count_within : {X : Type 0} (table : List (Option X)) (others : BTreeMap ℕ X) (count expected : ℕ) → IsBalanced table others count expected → count ≤ 2 ^ 32
count_within table others count expected b =
    let few : len (whole table others) ≤ 2 ^ 32 = len_within (2 ^ 32) (whole table others) b.within in
    omega (arith, b.counted)
