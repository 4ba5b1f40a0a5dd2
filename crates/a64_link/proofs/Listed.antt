-- The entries of a map in order, as a list.
use Rattle.std.proofs.Common.{ℕ, ◌≡◌, Bool, true, false, cond, T, ◌&&◌, List, [], ◌∷◌, Some, refl, sym, ◌∙◌, ap, nat_cmp}
use Rattle.std.specs.Prelude.{◌↔◌}
use Rattle.std.specs.Cmp.{nat_cmp_total, eq_by_cmp_equiv}
use Rattle.std.specs.Ordering.{eq_by_cmp, is_lt, is_eq}
use Rattle.std.specs.declared.cmp.Ordering.{Ordering}
use Rattle.std.specs.declared.cmp.Ordering.TheVariants.{Less, Equal, Greater}
use Rattle.std.specs.List.{AllByRecursion, Contains}
use Rattle.std.specs.List.Sorted.{IsStrictlyIncreasing, IsStrictlySortedBy}
use Rattle.std.specs.Map.{lookup, keys_of}
use Rattle.std.specs.FinMap.{FinMap, entries, entries_sorted, get, get-entries, find, is_sorted, nat_cmp-IsAntisymmetric}
use Rattle.std.specs.FinMap.Entries.{below_all}
use Rattle.std.proofs.lemmas.Bool.{false≢true}
use Rattle.std.proofs.lemmas.Map.Keys.{IsStrictlyIncreasing-from_sorted, IsDistinct-from_sorted}
use Rattle.std.proofs.lemmas.Map.Views.{Contains-from_lookup, lookup-from_Contains}

first : (a b : Bool) → T (a && b) → T a
first true b p = tt
first false b p = p

second : (a b : Bool) → T (a && b) → T b
second true b p = p
second false b p = absurd p

less : (o : Ordering) → T (is_lt o) → o ≡ Less
less Less p = refl
less Equal p = absurd p
less Greater p = absurd p

-- numbers that compare equal are the same
same_by_cmp : (a b : ℕ) → eq_by_cmp nat_cmp a b ≡ true → a ≡ b
same_by_cmp a b e =
    elim (nat_cmp a b) as (λ o. nat_cmp a b ≡ o → is_eq o ≡ true → a ≡ b) [
      | Less ↦ λ p q. absurd (false≢true q)
      | Equal ↦ λ p q. nat_cmp-IsAntisymmetric a b p
      | Greater ↦ λ p q. absurd (false≢true q)
    ] refl e

module _ {X : Type 0} where
  all_below : (x : ℕ) (es : List (ℕ × X)) → T (below_all nat_cmp x es) → AllByRecursion (λ y. nat_cmp x y ≡ Less) (keys_of es)
  all_below x [] h = tt
  all_below x (e ∷ es) h = (less (nat_cmp x e.0) (first (is_lt (nat_cmp x e.0)) (below_all nat_cmp x es) h), all_below x es (second (is_lt (nat_cmp x e.0)) (below_all nat_cmp x es) h))

  strictly_sorted : (es : List (ℕ × X)) → T (is_sorted nat_cmp es) → IsStrictlySortedBy nat_cmp (keys_of es)
  unfolding IsStrictlySortedBy
  strictly_sorted [] h = tt
  strictly_sorted (e ∷ es) h = (all_below e.0 es (first (below_all nat_cmp e.0 es) (is_sorted nat_cmp es) h), strictly_sorted es (second (below_all nat_cmp e.0 es) (is_sorted nat_cmp es) h))

  found : (q : ℕ) (es : List (ℕ × X)) → find nat_cmp q es ≡ lookup (eq_by_cmp nat_cmp q) es
  found q [] = refl
  found q (e ∷ es) = ap (cond (eq_by_cmp nat_cmp q e.0) (Some e.1)) (found q es)

  sorted_keys : (m : FinMap nat_cmp X) → IsStrictlySortedBy nat_cmp (keys_of (entries m))
  sorted_keys m = strictly_sorted (entries m) (entries_sorted m)

  -- the numbers rise
  pub entries_rise : (m : FinMap nat_cmp X) → IsStrictlyIncreasing (keys_of (entries m))
  entries_rise m = IsStrictlyIncreasing-from_sorted (keys_of (entries m)) (sorted_keys m)

  -- a number with its value is an entry
  pub entry_there : (m : FinMap nat_cmp X) (q : ℕ) (x : X) → Contains (entries m) (q, x) ↔ (get m q ≡ Some x)
  entry_there m q x = (
    λ c. get-entries m q ∙ (found q (entries m) ∙ lookup-from_Contains (eq_by_cmp_equiv nat_cmp_total) q x (entries m) (IsDistinct-from_sorted nat_cmp (keys_of (entries m)) (sorted_keys m)) c),
    λ g. Contains-from_lookup {eq = eq_by_cmp nat_cmp} same_by_cmp q x (entries m) (sym (found q (entries m)) ∙ (sym (get-entries m q) ∙ g)),
  )
