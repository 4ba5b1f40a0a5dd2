-- The entries of a table and a tree stand in order.
use Rattle.std.proofs.Common.{ℕ, suc, ◌≡◌, ◌+◌, ◌<◌, ◌≤◌, Bool, true, false, cond, T, ◌&&◌, ◌==◌, List, [], ◌∷◌, ◌++◌, length, get_or, map, Option, None, Some, sym, ◌∙◌, ap, subst, arith, inl, inr, nat_cmp}
use Rattle.std.specs.Cmp.{nat_cmp_total}
use Rattle.std.specs.Ordering.{is_lt}
use Rattle.std.specs.declared.cmp.Ordering.TheVariants.{Less, Equal, Greater}
use Rattle.std.specs.BTreeMap as tree
use Rattle.std.specs.BTreeMap.{BTreeMap, IsOrdered}
use Rattle.std.specs.List.{AllByRecursion}
use Rattle.std.specs.List.Sorted.{IsStrictlySortedBy}
use Rattle.std.specs.FinMap.{entries, from_sorted, is_sorted, get-from_entries, get-from_sorted, entries-from_sorted, same_map, nat_cmp-IsAntisymmetric}
use Rattle.std.specs.FinMap.Entries.{below_all}
use Rattle.std.proofs.lemmas.Bool.{cases_lt, lt-ltb}
use Rattle.std.proofs.lemmas.Option.{none-some}
use Rattle.std.proofs.lemmas.Map.Keys.{sorted_head, sorted_tail}
use Rattle.std.proofs.lemmas.Map.Views.{All-found}
use Rattle.a64_label_map.specs.Shared.{numbered, whole, AreShared}

both : (a b : Bool) → T a → T b → T (a && b)
both true b p q = q
both false b p q = p

less : (x y : ℕ) → x < y → T (is_lt (nat_cmp x y))
less x y h = subst (λ b. T (is_lt (cond b Less (cond (x == y) Equal Greater)))) (sym (lt-ltb x y h)) tt

module _ {X : Type 0} where
  below_each : (x : ℕ) (es : List (ℕ × X)) → ((k : ℕ) (d : ℕ × X) → k < length es → x < (get_or es k d).0) → T (below_all nat_cmp x es)
  below_each x [] h = tt
  below_each x (e ∷ es) h = both (is_lt (nat_cmp x e.0)) (below_all nat_cmp x es) (less x e.0 (h 0 e (omega arith))) (below_each x es (λ k d l. h (suc k) d (omega arith)))

  -- a table has no number before its first
  below_numbered : (x first : ℕ) (values : List (Option X)) (es : List (ℕ × X)) → x < first → T (below_all nat_cmp x es) → T (below_all nat_cmp x (numbered first values ++ es))
  below_numbered x first [] es h b = b
  below_numbered x first (None ∷ values) es h b = below_numbered x (suc first) values es (omega arith) b
  below_numbered x first (Some v ∷ values) es h b =
      both (is_lt (nat_cmp x first)) (below_all nat_cmp x (numbered (suc first) values ++ es)) (less x first h) (below_numbered x (suc first) values es (omega arith) b)

  sorted_numbered : (first : ℕ) (values : List (Option X)) (es : List (ℕ × X)) → T (is_sorted nat_cmp es) → ((x : ℕ) → x < first + length values → T (below_all nat_cmp x es)) → T (is_sorted nat_cmp (numbered first values ++ es))
  sorted_numbered first [] es s b = s
  sorted_numbered first (None ∷ values) es s b = sorted_numbered (suc first) values es s (λ x h. b x (omega arith))
  sorted_numbered first (Some v ∷ values) es s b =
      both (below_all nat_cmp first (numbered (suc first) values ++ es)) (is_sorted nat_cmp (numbered (suc first) values ++ es))
      (below_numbered first (suc first) values es (omega arith) (b first (omega arith)))
      (sorted_numbered (suc first) values es s (λ x h. b x (omega arith)))

  -- what a tree's order says of its entries
  below_from : (x : ℕ) (es : List (ℕ × X)) → AllByRecursion (λ y. nat_cmp x y ≡ Less) (map (λ e. e.0) es) → T (below_all nat_cmp x es)
  below_from x [] h = tt
  below_from x (e ∷ es) h = both (is_lt (nat_cmp x e.0)) (below_all nat_cmp x es) (subst (λ o. T (is_lt o)) (sym h.0) tt) (below_from x es h.1)

  sorted_from : (es : List (ℕ × X)) → IsStrictlySortedBy nat_cmp (map (λ e. e.0) es) → T (is_sorted nat_cmp es)
  sorted_from [] h = tt
  sorted_from (e ∷ es) h =
      both (below_all nat_cmp e.0 es) (is_sorted nat_cmp es)
      (below_from e.0 es (sorted_head nat_cmp e.0 (map (λ e. e.0) es) h))
      (sorted_from es (sorted_tail nat_cmp e.0 (map (λ e. e.0) es) h))

  -- a number of the tree is none of the table
  past_table : (table : List (Option X)) (others : BTreeMap ℕ X) → AreShared table others → IsOrdered nat_cmp others → (k : ℕ) (d : ℕ × X) → k < length others.entries → length table ≤ (get_or others.entries k d).0
  past_table table others s o k d h =
      let found : tree.get nat_cmp others (get_or others.entries k d).0 ≡ Some (get_or others.entries k d).1 = All-found nat_cmp_total others o k d h in
      elim (cases_lt (get_or others.entries k d).0 (length table)) [
        | inl lt ↦ absurd (none-some (get_or others.entries k d).1 (sym (s.apart (get_or others.entries k d).0 lt) ∙ found))
        | inr ge ↦ ge
      ]

  pub entries_whole : (table : List (Option X)) (others : BTreeMap ℕ X) → AreShared table others → IsOrdered nat_cmp others → entries (whole table others) ≡ numbered 0 table ++ others.entries
  entries_whole table others s o =
      let es : List (ℕ × X) = numbered 0 table ++ others.entries in
      let sorted : T (is_sorted nat_cmp es) = sorted_numbered 0 table others.entries (sorted_from others.entries o) (λ x h. below_each x others.entries (λ k d l. let past : length table ≤ (get_or others.entries k d).0 = past_table table others s o k d l in omega arith)) in
      let same : whole table others ≡ from_sorted es = same_map nat_cmp_total nat_cmp-IsAntisymmetric (whole table others) (from_sorted es) (λ q. get-from_entries nat_cmp_total es q ∙ sym (get-from_sorted nat_cmp es q sorted)) in
      ap entries same ∙ entries-from_sorted nat_cmp es sorted
