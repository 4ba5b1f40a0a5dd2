-- Ranges that are good stand one behind another.
use Rattle.std.proofs.Common.{Bor, Bool, List, sym, subst, ◌≡◌, ℕ, zero, suc, ◌<◌, ◌≤◌, true, false, inl, inr, length, get_or, ap, ◌∙◌, arith}
use Rattle.std.specs.Prelude.{nat_le}
use Rattle.std.specs.List.Sorted.{IsPartitionPoint, IsPartitionedBy}
use Rattle.std.proofs.lemmas.Bool.{cases_lt, leb-true, leb-false}
use Rattle.std.proofs.lemmas.List.{get_or_default}
use Rattle.std.proofs.lemmas.List.Elements.{Contains-get_or}
use Rattle.std.proofs.lemmas.List.Sorted.{IsNonDecreasingBy-from_default, IsPartitionedBy-leb, IsPartitionPoint-from_clause}
use Rattle.std.specs.Fn.{Called, ComputesKey, Mut}
use Rattle.a64_audit.specs.Entries.{Contents}
use Rattle.a64_audit.specs.Verdicts.{AreGoodBefore, InData}

module _ (file : Contents) where
  abbrev pub begin_at : ℕ → ℕ
  begin_at i = (get_or file.ranges i (0, 0)).0

  abbrev pub end_at : ℕ → ℕ
  end_at i = (get_or file.ranges i (0, 0)).1

  module _ (good : AreGoodBefore file (length file.ranges)) where
    ends_rise : (i j : ℕ) → i ≤ j → j < length file.ranges → end_at i ≤ end_at j
    ends_rise i zero le lt = let e : i ≡ zero = omega arith in omega (arith, ap (λ k. end_at k) e)
    ends_rise i (suc j) le lt = elim (cases_lt i (suc j)) [
      | inl less ↦ omega (arith, ends_rise i j (omega arith) (omega arith), (good (suc j) lt).behind, (good (suc j) lt).some)
      | inr more ↦ (let e : i ≡ suc j = omega arith in omega (arith, ap (λ k. end_at k) e))
    ]

    begins_rise : (i j : ℕ) → i ≤ j → j < length file.ranges → begin_at i ≤ begin_at j
    begins_rise i zero le lt = let e : i ≡ zero = omega arith in omega (arith, ap (λ k. begin_at k) e)
    begins_rise i (suc j) le lt = elim (cases_lt i (suc j)) [
      | inl less ↦ omega (arith, begins_rise i j (omega arith) (omega arith), (good (suc j) lt).behind, (good j (omega arith)).some)
      | inr more ↦ (let e : i ≡ suc j = omega arith in omega (arith, ap (λ k. begin_at k) e))
    ]

    -- ends up to a place stand before ends behind it
    parted : (place : ℕ) → IsPartitionedBy (λ r. nat_le r.1 place) file.ranges
    parted place = IsPartitionedBy-leb (λ r. r.1) file.ranges place (IsNonDecreasingBy-from_default (λ r. r.1) file.ranges (0, 0) ends_rise)

    -- where `partition_point` parts the ranges by their ends
    pub ends_parted : {F : Type 0} {g : Mut F (Bor (ℕ × ℕ) × Unit {0}) Bool} {f : F} (place index : ℕ) (items : List (ℕ × ℕ)) → items ≡ file.ranges
        → ((q : ℕ × ℕ → Bool) → ComputesKey g q f → IsPartitionedBy q items → IsPartitionPoint (λ r. q r ≡ true) (λ r. q r ≡ false) items index)
        → ((a : Bor (ℕ × ℕ) × Unit {0}) (r : Bool) (f' : F) → Called g f a r f' → (r ≡ nat_le a.0.now.1 place) × (f' ≡ f))
        → IsPartitionPoint (λ r. nat_le r.1 place ≡ true) (λ r. nat_le r.1 place ≡ false) file.ranges index
    ends_parted place index items same clause calls =
        let parts = subst (λ (rs : List (ℕ × ℕ)). IsPartitionedBy (λ r. nat_le r.1 place) rs) (sym same) (parted place) in
        let point = IsPartitionPoint-from_clause (λ r. nat_le r.1 place) items index clause parts calls in
        subst (λ (rs : List (ℕ × ℕ)). IsPartitionPoint (λ r. nat_le r.1 place ≡ true) (λ r. nat_le r.1 place ≡ false) rs index) same point

    module _ (place index : ℕ) (point : IsPartitionPoint (λ r. nat_le r.1 place ≡ true) (λ r. nat_le r.1 place ≡ false) file.ranges index) where
      -- the first range that ends behind the place has it
      pub in_data : index < length file.ranges → begin_at index ≤ place → InData file place
      in_data lt le =
          let behind : place < end_at index = leb-false (end_at index) place (point.1 index (0, 0) (omega arith) lt) in
          (get_or file.ranges index (0, 0), Contains-get_or file.ranges index (0, 0) lt, (le, behind))

      -- or no range has it
      pub not_in_data : (index < length file.ranges → place < begin_at index) → InData file place → ⊥
      not_in_data before lies =
          let k = lies.1.0 in
          let lt : k < length file.ranges = lies.1.1 in
          let is : get_or file.ranges k (0, 0) ≡ lies.0 = get_or_default file.ranges k (0, 0) lies.0 lt ∙ lies.1.2 in
          let begins : begin_at k ≤ place = (let e = ap (λ r. r.0) is in omega (arith, e, lies.2.0)) in
          let ends : place < end_at k = (let e = ap (λ r. r.1) is in omega (arith, e, lies.2.1)) in
          elim (cases_lt k index) [
            | inl less ↦ absurd (omega (arith, leb-true (end_at k) place (point.0 k (0, 0) (omega arith) less)))
            | inr more ↦ absurd (omega (arith, begins_rise index k more lt, before (omega arith)))
          ]
