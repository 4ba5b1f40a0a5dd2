-- The faults of items by themselves, one item after another.
use Rattle.std.proofs.Common.{ℕ, ◌≡◌, ◌+◌, ◌<◌, suc, zero, List, [], ◌∷◌, length, get_or, drop, option_map, Option, None, Some, refl, sym, ap, ◌∙◌, subst, arith, inl, inr}
use Rattle.std.specs.Ordering.{nat_cmp}
use Rattle.std.specs.FinMap.{FinMap}
use Rattle.std.proofs.lemmas.Bool.{cases_lt}
use Rattle.std.proofs.lemmas.List.{drop_more, get_or_default}
use Rattle.a64_inst.specs.declared.emission.EmitFlags.{EmitFlags}
use Rattle.a64_inst.specs.declared.frame.FrameLayout.{FrameLayout}
use Rattle.a64_inst.specs.declared.fault.OwnFault.{OwnFault}
use Rattle.a64_inst.specs.declared.item.Item.{Item}
use Rattle.a64_emit.specs.declared.error.EmitError.{EmitError}
use Rattle.a64_emit.specs.Faults.{or_else, item_fault, own_error, own_fault_from}

-- items without a fault, one by one
first_none : (n : ℕ) (o : Option OwnFault) (later : Option EmitError) → or_else (option_map (own_error n) o) later ≡ None → o ≡ None
first_none n None later e = refl
first_none n (Some fault) later e = absurd cc

second_none : (earlier later : Option EmitError) → or_else earlier later ≡ None → later ≡ None
second_none None later e = e
second_none (Some error) later e = absurd cc

pub earlier_none : (earlier later : Option EmitError) → or_else earlier later ≡ None → earlier ≡ None
earlier_none None later e = refl
earlier_none (Some error) later e = absurd cc

module _ (frame : FrameLayout) (flags : EmitFlags) (constants : FinMap nat_cmp (List ℕ)) where
  pub none_at : (n : ℕ) (items : List Item) (i : ℕ) (d : Item) → own_fault_from frame flags constants n items ≡ None → i < length items → item_fault frame flags constants (get_or items i d) ≡ None
  none_at n [] i d e within = absurd (omega arith)
  none_at n (x ∷ xs) zero d e within = first_none n (item_fault frame flags constants x) (own_fault_from frame flags constants (n + 1) xs) e
  none_at n (x ∷ xs) (suc i) d e within =
      none_at (n + 1) xs i d (second_none (option_map (own_error n) (item_fault frame flags constants x)) (own_fault_from frame flags constants (n + 1) xs) e) (let k : suc i < suc (length xs) = within in omega arith)

  -- where an item has no fault, the first fault is one of the items behind it
  pub fault_behind : (items : List Item) (i : ℕ) (x : Item) → i < length items → x ≡ get_or items i x → item_fault frame flags constants x ≡ None → own_fault_from frame flags constants i (drop i items) ≡ own_fault_from frame flags constants (i + 1) (drop (i + 1) items)
  fault_behind items i x within is none =
      let behind : Option EmitError = own_fault_from frame flags constants (i + 1) (drop (i + 1) items) in
      ap (own_fault_from frame flags constants i) (drop_more items i x within)
      ∙ ap (λ y. or_else (option_map (own_error i) (item_fault frame flags constants y)) behind) (sym is)
      ∙ ap (λ o. or_else (option_map (own_error i) o) behind) none

-- what holds of the first elements and of the next one
pub one_more_holds : {X : Type 0} (P : X → Type 0) (xs : List X) (i : ℕ) (x : X) → i < length xs → x ≡ get_or xs i x → P x → ((j : ℕ) (d : X) → j < i → P (get_or xs j d)) → (j : ℕ) (d : X) → j < i + 1 → P (get_or xs j d)
one_more_holds P xs i x within is one before j d h = elim (cases_lt j i) [
  | inl less ↦ before j d less
  | inr more ↦
      let same : i ≡ j = omega arith in
      subst P (is ∙ get_or_default xs i x d within ∙ ap (λ k. get_or xs k d) same) one
]
