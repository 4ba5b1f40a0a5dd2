-- The labels that elements bind, one element after another.
use Rattle.std.proofs.Common.{ℕ, ◌≡◌, ◌≢◌, ◌+◌, ◌<◌, true, false, Bool, List, [], ◌∷◌, ◌++◌, length, take, Option, None, Some, refl, sym, ap, ◌∙◌, subst, arith, inl, inr, ◌⊎◌, zero, suc, ◌≤◌, get_or}
use Rattle.std.specs.Prelude.{slice_index, ◌||◌, IsSome}
use Rattle.std.specs.Ordering.{nat_cmp}
use Rattle.std.specs.FinMap.{FinMap, get, insert}
use Rattle.std.proofs.lemmas.Bool.{cases_eq, eq-eqb, eqb-true, false≢true}
use Rattle.std.proofs.lemmas.List.{get_or_append_left, get_or_push, length-take-le, get_or-take}
use Rattle.a64_buffer.specs.declared.force.ForceVeneers.{ForceVeneers}
use Rattle.a64_buffer.specs.Buffer.{Buffer, end_of}
use Rattle.a64_buffer.proofs.Labels.{get_here, get_other}
use Rattle.a64_label_use.specs.declared.label_use.LabelUse.{LabelUse}
use Rattle.a64_assemble.specs.Elements.{Element, Binding, Words, Asking, element_at, is_bound_by, binds_number, AreBoundOnce}
use Rattle.a64_assemble.specs.Asks.{Moves, IsFreeToBind}
use Rattle.a64_assemble.specs.Stations.{HasLabels}
use Rattle.a64_assemble.proofs.Moving.{move_labels}

bind_same : (k l : ℕ) → Binding k ≡ Binding l → k ≡ l
bind_same k l e = cc

none_is : (o : Option ℕ) (p : ℕ) → o ≡ None → o ≡ Some p → ⊥
none_is o p e f = cc

some_same : (s t : ℕ) → ◌≡◌ {A = Option ℕ} (Some s) (Some t) → s ≡ t
some_same s t e = cc

pub labels_none : (xs : List Element) (labels : FinMap nat_cmp ℕ) → ((l : ℕ) → get labels l ≡ None) → HasLabels xs 0 [] labels
labels_none xs labels h = record { bound = λ i l w e. absurd (omega arith); only = λ l p e. absurd (none_is (get labels l) p (h l) e) }

module _ (xs : List Element) (k : ℕ) (places : List ℕ) (end : ℕ) (count : length places ≡ k) where
  older_place : (i : ℕ) → i < k → slice_index (places ++ end ∷ []) i ≡ slice_index places i
  older_place i w = get_or_append_left places (end ∷ []) 0 i (omega (arith, count))

  this_place : slice_index (places ++ end ∷ []) k ≡ end
  this_place = get_or_push places end 0 k count

  labels_other : (labels : FinMap nat_cmp ℕ) → HasLabels xs k places labels → ((l : ℕ) → element_at xs k ≡ Binding l → ⊥) → HasLabels xs (k + 1) (places ++ end ∷ []) labels
  labels_other labels h never = record {
    bound = λ i l w e. elim (cases_eq i k) [
      | inl same ↦ absurd (never l (ap (element_at xs) (sym same) ∙ e))
      | inr ne ↦ let lt : i < k = omega arith in h.bound i l lt e ∙ ap (λ n. Some n) (sym (older_place i lt))
    ];
    only = λ l p e. let z = h.only l p e in (z.0, omega (arith, z.1), z.2, older_place z.0 z.1 ∙ z.3);
  }

  labels_bind : (labels : FinMap nat_cmp ℕ) (l : ℕ) → AreBoundOnce xs → k < length xs → HasLabels xs k places labels → element_at xs k ≡ Binding l → HasLabels xs (k + 1) (places ++ end ∷ []) (insert labels l end)
  labels_bind labels l once within h is = record {
    bound = λ i m w e. elim (cases_eq i k) [
      | inl same ↦
          let eq : m ≡ l = bind_same m l (sym e ∙ ap (element_at xs) same ∙ is) in
          ap (get (insert labels l end)) eq ∙ get_here labels l end ∙ ap (λ n. Some n) (sym (ap (slice_index (places ++ end ∷ [])) same ∙ this_place))
      | inr ne ↦
          let lt : i < k = omega arith in
          let other : m ≢ l = λ eq. ne (once i k l (omega arith) within (e ∙ ap (λ n. Binding n) eq) is) in
          get_other labels l end m other ∙ h.bound i m lt e ∙ ap (λ n. Some n) (sym (older_place i lt))
    ];
    only = λ m p e. elim (cases_eq m l) [
      | inl eq ↦ (k, omega arith, is ∙ ap (λ n. Binding n) (sym eq), this_place ∙ some_same end p (sym (get_here labels l end) ∙ ap (get (insert labels l end)) (sym eq) ∙ e))
      | inr ne ↦ let z = h.only m p (sym (get_other labels l end m ne) ∙ e) in (z.0, omega (arith, z.1), z.2, older_place z.0 z.1 ∙ z.3)
    ];
  }

-- the label that the next element binds is not bound yet
pub unbound_yet : (xs : List Element) (k : ℕ) (places : List ℕ) (b : Buffer LabelUse) → AreBoundOnce xs → k < length xs → HasLabels xs k places b.labels → (x : Element) → element_at xs k ≡ x → IsFreeToBind b x
unbound_yet xs k places b once within h (Binding l) is = none (get b.labels l) refl
  where
    none : (o : Option ℕ) → get b.labels l ≡ o → o ≡ None
    none None e = refl
    none (Some p) e = let z = h.only l p e in absurd (omega (arith, z.1, once z.0 k l (omega (arith, z.1)) within z.2 is))
unbound_yet xs k places b once within h (Words goes_on cells) is = tt
unbound_yet xs k places b once within h (Asking space) is = tt

pub labels_step : (force : ForceVeneers) (xs : List Element) (k : ℕ) (places : List ℕ) (b b' : Buffer LabelUse) → length places ≡ k → AreBoundOnce xs → k < length xs → HasLabels xs k places b.labels → (x : Element) (rest : List Element) → element_at xs k ≡ x → Moves force x rest b b' → HasLabels xs (k + 1) (places ++ end_of b ∷ []) b'.labels
labels_step force xs k places b b' count once within h (Binding l) rest is p = subst (HasLabels xs (k + 1) (places ++ end_of b ∷ [])) (sym (move_labels force (Binding l) rest b b' p)) (labels_bind xs k places (end_of b) count b.labels l once within h is)
labels_step force xs k places b b' count once within h (Words goes_on cells) rest is p = subst (HasLabels xs (k + 1) (places ++ end_of b ∷ [])) (sym (move_labels force (Words goes_on cells) rest b b' p)) (labels_other xs k places (end_of b) count b.labels h (λ l e. let z : Words goes_on cells ≡ Binding l = sym is ∙ e in cc))
labels_step force xs k places b b' count once within h (Asking space) rest is p = subst (HasLabels xs (k + 1) (places ++ end_of b ∷ [])) (sym (move_labels force (Asking space) rest b b' p)) (labels_other xs k places (end_of b) count b.labels h (λ l e. let z : Asking space ≡ Binding l = sym is ∙ e in cc))

-- ---- labels that some of the elements bind

or_cases : (a b : Bool) → (a || b) ≡ true → (a ≡ true) ⊎ (b ≡ true)
or_cases true b e = inl refl
or_cases false b e = inr e

binds_is : (x : Element) (n : ℕ) → binds_number n x ≡ true → x ≡ Binding n
binds_is (Binding l) n e = ap (λ n. Binding n) (eqb-true l n e)
binds_is (Words goes_on cells) n e = absurd (false≢true e)
binds_is (Asking space) n e = absurd (false≢true e)

pub bound_by_is : (xs : List Element) (n : ℕ) → is_bound_by xs n ≡ true → (i : ℕ) × (i < length xs) × (element_at xs i ≡ Binding n)
bound_by_is [] n e = absurd (false≢true e)
bound_by_is (x ∷ xs) n e = elim (or_cases (binds_number n x) (is_bound_by xs n) e) [
  | inl h ↦ (0, omega arith, binds_is x n h)
  | inr h ↦ let z = bound_by_is xs n h in (suc z.0, omega (arith, z.1), z.2)
]

some_is : (o : Option ℕ) (p : ℕ) → o ≡ Some p → IsSome o
some_is o p e = subst IsSome (sym e) refl

pub bound_in_labels : (xs : List Element) (k : ℕ) (places : List ℕ) (labels : FinMap nat_cmp ℕ) → HasLabels xs k places labels → k ≤ length xs → (n : ℕ) → is_bound_by (take k xs) n ≡ true → IsSome (get labels n)
bound_in_labels xs k places labels h le n e =
    let z = bound_by_is (take k xs) n e in
    let w : z.0 < k = omega (arith, z.1, length-take-le k xs le) in
    some_is (get labels n) (get_or places z.0 0) (h.bound z.0 n w (sym (get_or-take k xs z.0 (Asking 0) w) ∙ z.2))

or_true : (b : Bool) → (b || true) ≡ true
or_true true = refl
or_true false = refl

pub bound_at : (xs : List Element) (i l : ℕ) → i < length xs → element_at xs i ≡ Binding l → is_bound_by xs l ≡ true
bound_at [] i l w e = absurd (omega arith)
bound_at (x ∷ xs) zero l w e = ap (λ (y : Element). binds_number l y || is_bound_by xs l) e ∙ ap (λ b. b || is_bound_by xs l) (eq-eqb l l refl)
bound_at (x ∷ xs) (suc i) l w e = ap (λ b. binds_number l x || b) (bound_at xs i l (omega arith) e) ∙ or_true (binds_number l x)

pub bound_by_labels : (xs : List Element) (count k : ℕ) (places : List ℕ) (labels : FinMap nat_cmp ℕ) → HasLabels xs count places labels → count ≤ k + 1 → k < length xs → (label place : ℕ) → get labels label ≡ Some place → is_bound_by (take (k + 1) xs) label ≡ true
bound_by_labels xs count k places labels h le within l p e =
    let z = h.only l p e in
    bound_at (take (k + 1) xs) z.0 l (omega (arith, z.1, length-take-le (k + 1) xs (omega arith))) (get_or-take (k + 1) xs z.0 (Asking 0) (omega (arith, z.1)) ∙ z.2)
