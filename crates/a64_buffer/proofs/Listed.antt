-- The labels of a map, as a list.
use Rattle.std.proofs.Common.{ℕ, zero, suc, ◌≡◌, ◌<◌, Bool, true, false, cond, T, ◌&&◌, List, [], ◌∷◌, ◌++◌, ◌+◌, length, get_or, take, map, Some, refl, sym, ◌∙◌, ap, subst, arith, nat_cmp}
use Rattle.std.specs.Cmp.{nat_cmp_total, eq_by_cmp_equiv, ranked}
use Rattle.std.specs.Ordering.{eq_by_cmp, is_lt}
use Rattle.std.specs.declared.cmp.Ordering.{Ordering}
use Rattle.std.specs.declared.cmp.Ordering.TheVariants.{Less, Equal, Greater}
use Rattle.std.specs.List.{AllByRecursion}
use Rattle.std.specs.List.Sorted.{IsStrictlyIncreasing, IsStrictlySortedBy}
use Rattle.std.specs.FinMap.{FinMap, entries, entries_sorted, get-entries, find, is_sorted}
use Rattle.std.specs.FinMap.Entries.{below_all}
use Rattle.std.proofs.lemmas.Simd.{map-map}
use Rattle.std.proofs.lemmas.List.{length-map, get_or-map, map-append, take_more}
use Rattle.std.proofs.lemmas.Map.Keys.{IsStrictlyIncreasing-from_sorted}
use Rattle.std.proofs.lemmas.Map.Views.{Contains-from_lookup}
use Rattle.a64_base.specs.declared.entity.MachLabel.{MachLabel}
use Rattle.a64_buffer.specs.Settled.{Lists}
use Rattle.a64_buffer.proofs.Labels.{find_tree, same_by_cmp}

first : (a b : Bool) → T (a && b) → T a
first true b p = tt
first false b p = p

second : (a b : Bool) → T (a && b) → T b
second true b p = p
second false b p = absurd p

less : (o : Ordering) → T (is_lt o) → o ≡ Less
less Less p = refl
less Equal p = absurd p
less Greater p = absurd p

-- ---- entries in order
all_below : (x : ℕ) (es : List (ℕ × ℕ)) → T (below_all nat_cmp x es) → AllByRecursion (λ y. nat_cmp x y ≡ Less) (map (λ (e : ℕ × ℕ). e.0) es)
all_below x [] h = tt
all_below x (e ∷ es) h = (less (nat_cmp x e.0) (first (is_lt (nat_cmp x e.0)) (below_all nat_cmp x es) h), all_below x es (second (is_lt (nat_cmp x e.0)) (below_all nat_cmp x es) h))

strictly_sorted : (es : List (ℕ × ℕ)) → T (is_sorted nat_cmp es) → IsStrictlySortedBy nat_cmp (map (λ (e : ℕ × ℕ). e.0) es)
unfolding IsStrictlySortedBy
strictly_sorted [] h = tt
strictly_sorted (e ∷ es) h = (all_below e.0 es (first (below_all nat_cmp e.0 es) (is_sorted nat_cmp es) h), strictly_sorted es (second (below_all nat_cmp e.0 es) (is_sorted nat_cmp es) h))

-- an entry behind one that is below all of them is of another number
other_at : (x : ℕ) (es : List (ℕ × ℕ)) (k : ℕ) (e : ℕ × ℕ) → T (below_all nat_cmp x es) → k < length es → get_or es k e ≡ e → eq_by_cmp nat_cmp e.0 x ≡ false
other_at x [] k e h l at = absurd (omega arith)
other_at x (f ∷ es) zero e h l at =
    let above : x < f.0 = ranked x f.0 Less (sym (less (nat_cmp x f.0) (first (is_lt (nat_cmp x f.0)) (below_all nat_cmp x es) h))) in
    let same : f.0 ≡ e.0 = ap (λ p. p.0) at in
    elim (eq_by_cmp nat_cmp e.0 x) as (λ t. eq_by_cmp nat_cmp e.0 x ≡ t → t ≡ false) [ true ↦ λ q. let equal : e.0 ≡ x = same_by_cmp e.0 x q in absurd (omega arith) | false ↦ λ q. refl ] refl
other_at x (f ∷ es) (suc k) e h l at = other_at x es k e (second (is_lt (nat_cmp x f.0)) (below_all nat_cmp x es) h) (omega arith) at

found_at : (es : List (ℕ × ℕ)) (k : ℕ) (e : ℕ × ℕ) → T (is_sorted nat_cmp es) → k < length es → get_or es k e ≡ e → find nat_cmp e.0 es ≡ Some e.1
found_at [] k e s l at = absurd (omega arith)
found_at (f ∷ es) zero e s l at =
    ap (λ p. cond (eq_by_cmp nat_cmp e.0 p.0) (Some p.1) (find nat_cmp e.0 es)) at
    ∙ ap (λ t. cond t (Some e.1) (find nat_cmp e.0 es)) ((eq_by_cmp_equiv nat_cmp_total).refl e.0)
found_at (f ∷ es) (suc k) e s l at =
    let inside : k < length es = omega arith in
    ap (λ t. cond t (Some f.1) (find nat_cmp e.0 es)) (other_at f.0 es k e (first (below_all nat_cmp f.0 es) (is_sorted nat_cmp es) s) inside at)
    ∙ found_at es k e (second (below_all nat_cmp f.0 es) (is_sorted nat_cmp es) s) inside at

-- a label with its place, as an entry
abbrev pub entry_of : MachLabel × ℕ → ℕ × ℕ
entry_of e = (e.0.0, e.1)

-- and back
abbrev pub label_entry : ℕ × ℕ → MachLabel × ℕ
label_entry p = (record { 0 = p.0 }, p.1)

-- one more entry, as a label
pub labels_more : (es : List (ℕ × ℕ)) (list list' : List (MachLabel × ℕ)) (n : ℕ) (d : ℕ × ℕ) → n < length es → map entry_of list ≡ take n es → list' ≡ list ++ label_entry (get_or es n d) ∷ [] → map entry_of list' ≡ take (n + 1) es
labels_more es list list' n d h before push =
    ap (map entry_of) push
    ∙ (map-append entry_of list (label_entry (get_or es n d) ∷ [])
    ∙ (ap (λ xs. xs ++ get_or es n d ∷ []) before ∙ sym (take_more es n d h)))

pub lists_labels : (m : FinMap nat_cmp ℕ) (list : List (MachLabel × ℕ)) → map entry_of list ≡ entries m → Lists m list
lists_labels m list e =
    let as_keys : map (λ (p : MachLabel × ℕ). p.0.0) list ≡ map (λ (p : ℕ × ℕ). p.0) (entries m) = sym (map-map (λ (p : ℕ × ℕ). p.0) entry_of list) ∙ ap (map (λ (p : ℕ × ℕ). p.0)) e in
    let same_length : length (entries m) ≡ length list = ap length (sym e) ∙ length-map list entry_of in
    record {
      ordered = subst IsStrictlyIncreasing (sym as_keys) (IsStrictlyIncreasing-from_sorted (map (λ (p : ℕ × ℕ). p.0) (entries m)) (strictly_sorted (entries m) (entries_sorted m)));
      listed = λ label place. (
        λ (k, h, at).
            let here : get_or (entries m) k (label.0, place) ≡ (label.0, place) = ap (λ es. get_or es k (label.0, place)) (sym e) ∙ (get_or-map entry_of list k (label, place) (label.0, place) h ∙ ap entry_of at) in
            get-entries m label.0 ∙ found_at (entries m) k (label.0, place) (entries_sorted m) (omega arith) here,
        λ g.
            let (k, h, at) = Contains-from_lookup {eq = eq_by_cmp nat_cmp} same_by_cmp label.0 place (entries m) (sym (find_tree (entries m) label.0) ∙ (sym (get-entries m label.0) ∙ g)) in
            let inside : k < length list = omega arith in
            (k, inside, ap label_entry (sym (get_or-map entry_of list k (label, place) (label.0, place) inside) ∙ (ap (λ es. get_or es k (label.0, place)) e ∙ at))),
      );
    }
