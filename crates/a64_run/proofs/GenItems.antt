-- The items and constants that `gen` makes have no fault.
use Rattle.std.proofs.Common.{◌≡◌, ℕ, zero, suc, ◌+◌, ◌*◌, ◌%◌, ◌^◌, ◌<◌, ◌≤◌, ◌&&◌, ◌||◌, min, Bool, true, false, cond, not, eqb, List, [], ◌∷◌, ◌++◌, map, length, option_map, None, Some, refl, sym, ap, ◌∙◌, arith, is_some, add-one}
use Rattle.std.specs.List.{flat_map, range_with_len}
use Rattle.std.specs.Ordering.{nat_cmp}
use Rattle.std.specs.Cmp.{nat_cmp_total, unsigned_tied}
use Rattle.std.specs.FinMap.{FinMap, get, insert, get-insert, get-empty}
use Rattle.std.proofs.lemmas.Bool.{eqb-true, eqb-false, eq-eqb, ne_eqb, lt-ltb}
use Rattle.std.proofs.lemmas.List.FromFn.{length-range_with_len, map-range_with_len_more}
use Rattle.std.proofs.lemmas.List.Folds.{list_any-append}
use Rattle.std.proofs.lemmas.List.Sums.{sum_by-cons}
use Rattle.a64_base.specs.declared.entity.MachLabel.{MachLabel}
use Rattle.a64_inst.specs.declared.emission.EmitFlags.{EmitFlags}
use Rattle.a64_inst.specs.declared.fault.OwnFault.TheVariants as own
use Rattle.a64_inst.specs.declared.frame.FrameLayout.{FrameLayout}
use Rattle.a64_inst.specs.declared.inst.Inst.TheVariants as insts
use Rattle.a64_inst.specs.declared.item.Item.{Item}
use Rattle.a64_inst.specs.declared.item.Item.TheVariants.{Bind, Emit}
use Rattle.a64_operand.specs.declared.virtuals.VirtualRegisters.TheVariants.{Refused}
use Rattle.a64_inst.specs.ControlOperands.{are_jump_operands, are_test_bit_operands}
use Rattle.a64_inst.specs.Faults.{first_of, fault_with, inst_fault}
use Rattle.a64_inst.specs.MemoryOperands.{are_access_operands, are_mode_operands, has_access_scratch}
use Rattle.a64_buffer.specs.declared.force.ForceVeneers.{ForceVeneers}
use Rattle.a64_buffer.specs.Constants.{inserted}
use Rattle.a64_emit.specs.declared.error.EmitError.TheVariants.{LabelBoundTwice, UnboundLabel}
use Rattle.a64_emit.specs.Bounds.{growth_of, whole}
use Rattle.a64_emit.specs.Faults.{or_else, own_error, own_fault_from, own_fault, bindings, is_among, first_repeat, first_missing, second_binding, used_labels, unbound_use}
use Rattle.a64_emit.specs.Reach.{first_far_from, out_of_reach}
use Rattle.a64_run.specs.Commands.{IsCount}
use Rattle.a64_run.specs.Gen.{label_at, gen_branch, gen_load, gen_turn, gen_items, gen_bytes, constants_below, gen_constants}

-- ---- constants

-- each constant below a number is there, and no other
pub constant_there : (n k : ℕ) → k < n → get (constants_below n) k ≡ Some (gen_bytes k)
constant_there zero k h = absurd (omega arith)
constant_there (suc n) k h =
    get-insert nat_cmp_total (constants_below n) n (gen_bytes n) k
    ∙ ap (λ b. cond b (Some (gen_bytes n)) (get (constants_below n) k)) (unsigned_tied k n)
    ∙ case (constant_there n k) (eqb k n) refl
  where
    case : (k < n → get (constants_below n) k ≡ Some (gen_bytes k)) → (b : Bool) → eqb k n ≡ b → cond b (Some (gen_bytes n)) (get (constants_below n) k) ≡ Some (gen_bytes k)
    case below true e = ap (λ m. Some (gen_bytes m)) (sym (eqb-true k n e))
    case below false e = below (let ne = eqb-false k n e in omega arith)

pub constant_free : (n k : ℕ) → n ≤ k → get (constants_below n) k ≡ None
constant_free zero k h = get-empty nat_cmp k
constant_free (suc n) k h =
    get-insert nat_cmp_total (constants_below n) n (gen_bytes n) k
    ∙ ap (λ b. cond b (Some (gen_bytes n)) (get (constants_below n) k)) (unsigned_tied k n ∙ ne_eqb k n (λ e. omega arith))
    ∙ constant_free n k (omega arith)

-- the items from one turn on, of which there are so many left
abbrev turns_from : ℕ → ℕ → ℕ → List Item
turns_from count first left = flat_map (gen_turn count) (range_with_len first left) ++ Bind (label_at count) ∷ Emit insts.Ret None ∷ []

length_from : (count left first : ℕ) → length (turns_from count first left) ≡ 3 * left + 2
length_from count zero first = refl
length_from count (suc left) first = omega (arith, length_from count left (first + 1))

pub gen_length : (count : ℕ) → length (gen_items count) ≡ 3 * count + 2
gen_length count = length_from count count 0

-- one more turn, and one more constant
pub turns_more : (number : ℕ) → range_with_len 0 (number + 1) ≡ range_with_len 0 number ++ number ∷ []
turns_more number = sym (map_id (range_with_len 0 (number + 1))) ∙ map-range_with_len_more (λ x. x) 0 number number (omega arith) ∙ ap (λ xs. xs ++ number ∷ []) (map_id (range_with_len 0 number))
  where
    map_id : (xs : List ℕ) → map (λ x. x) xs ≡ xs
    map_id [] = refl
    map_id (x ∷ xs) = ap (λ ys. x ∷ ys) (map_id xs)

pub constants_more : (number : ℕ) → inserted (constants_below number) number (gen_bytes number) ≡ constants_below (number + 1)
constants_more number =
    ap (λ o. cond (is_some o) (constants_below number) (insert (constants_below number) number (gen_bytes number))) (constant_free number number (omega arith))
    ∙ ap constants_below (sym (add-one number))

module _ (frame : FrameLayout) (flags : EmitFlags) where
  -- ---- each item by itself

  branch_good : (constants : FinMap nat_cmp (List ℕ)) (count number : ℕ) → inst_fault frame flags constants Refused (gen_branch count number) ≡ None
  unfolding are_test_bit_operands are_jump_operands
  branch_good constants count number =
      ap (λ b. first_of ((b && true, own.BadOperand) ∷ (true, own.BadMode) ∷ (true, own.ScratchConflict) ∷ (true, own.UnknownConstant) ∷ []))
      (lt-ltb (number % 64) 64 (omega arith))

  sized_load_good : (number : ℕ) → fault_with frame flags (Some 8) Refused (gen_load number) ≡ None
  unfolding are_access_operands are_mode_operands has_access_scratch
  sized_load_good number =
      ap (λ b. first_of (((b && true) && true, own.BadOperand) ∷ (true, own.BadMode) ∷ (true, own.ScratchConflict) ∷ (true, own.UnknownConstant) ∷ []))
      (lt-ltb (number % 32) 32 (omega arith))

  load_good : (count number : ℕ) → number < count → inst_fault frame flags (gen_constants count) Refused (gen_load number) ≡ None
  load_good count number h =
      ap (λ size. fault_with frame flags size Refused (gen_load number))
      (ap (option_map length) (constant_there (min count 4) (number % 4) (omega arith)) ∙ ap (λ n. Some n) (length-range_with_len (8 * (number % 4) + 1) 8))
      ∙ sized_load_good number

  own_free_from : (count left first n : ℕ) → first + left ≤ count → own_fault_from frame flags (gen_constants count) n (turns_from count first left) ≡ None
  own_free_from count zero first n h = refl
  own_free_from count (suc left) first n h =
      let constants = gen_constants count in
      let later = turns_from count (first + 1) left in
      ap (λ o. or_else (option_map (own_error n) o) (own_fault_from frame flags constants (n + 1) (Bind (label_at first) ∷ Emit (gen_load first) None ∷ later))) (branch_good constants count first)
      ∙ ap (λ o. or_else (option_map (own_error (n + 1 + 1)) o) (own_fault_from frame flags constants (n + 1 + 1 + 1) later)) (load_good count first (omega arith))
      ∙ own_free_from count left (first + 1) (n + 1 + 1 + 1) (omega arith)

  pub own_free : (count : ℕ) → own_fault frame flags (gen_constants count) (gen_items count) ≡ None
  own_free count = own_free_from count count 0 0 (omega arith)

  -- ---- sizes

  whole_from : (count left first : ℕ) → whole frame flags (turns_from count first left) ≡ 104 * left + 8
  whole_from count zero first = refl
  whole_from count (suc left) first =
      let grown = growth_of frame flags in
      let later = turns_from count (first + 1) left in
      let load = Emit (gen_load first) None in
      let bound = Bind (label_at first) in
      let turn : whole frame flags (turns_from count first (suc left)) ≡ 68 + (0 + (36 + whole frame flags later)) =
      sum_by-cons grown (Emit (gen_branch count first) None) (bound ∷ load ∷ later)
      ∙ ap (λ n. 68 + n) (sum_by-cons grown bound (load ∷ later) ∙ ap (λ n. 0 + n) (sum_by-cons grown load later)) in
      omega (arith, turn, whole_from count left (first + 1))

  -- a turn adds at most 104 bytes
  pub whole_small : (count : ℕ) → IsCount count → whole frame flags (gen_items count) < 2 ^ 31
  whole_small count h = omega (arith, whole_from count count 0, h.1)

  -- ---- no use needs its label near

  near_from : (force : ForceVeneers) (all : List Item) (count left first n : ℕ) → first_far_from frame flags force all n (turns_from count first left) ≡ None
  near_from force all count zero first n = refl
  near_from force all count (suc left) first n = near_from force all count left (first + 1) (n + 1 + 1 + 1)

  pub reach_free : (force : ForceVeneers) (count : ℕ) → out_of_reach frame flags force (gen_items count) ≡ None
  reach_free force count = ap (option_map _) (near_from force (gen_items count) count count 0 0)

-- ---- labels

bindings_from : (count left first : ℕ) → bindings (turns_from count first left) ≡ map label_at (range_with_len first left) ++ label_at count ∷ []
bindings_from count zero first = refl
bindings_from count (suc left) first = ap (λ labels. label_at first ∷ labels) (bindings_from count left (first + 1))

-- no label from one on is among these
abbrev AreBelow : ℕ → List MachLabel → Type 0
AreBelow first labels = (number : ℕ) → first ≤ number → is_among labels (label_at number) ≡ false

below_more : (first : ℕ) (labels : List MachLabel) → AreBelow first labels → AreBelow (first + 1) (labels ++ label_at first ∷ [])
below_more first labels below number h =
    list_any-append (λ (l : MachLabel). eqb l.0 number) labels (label_at first ∷ [])
    ∙ ap (λ b. b || (eqb first number || false)) (below number (omega arith))
    ∙ ap (λ b. b || false) (ne_eqb first number (λ e. omega arith))

no_repeat_from : (count left first : ℕ) (before : List MachLabel) → first + left ≤ count → AreBelow first before
    → first_repeat before (map label_at (range_with_len first left) ++ label_at count ∷ []) ≡ None
no_repeat_from count zero first before h below = ap (λ b. cond b (Some (label_at count)) None) (below count (omega arith))
no_repeat_from count (suc left) first before h below =
    ap (λ b. cond b (Some (label_at first)) (first_repeat (before ++ label_at first ∷ []) (map label_at (range_with_len (first + 1) left) ++ label_at count ∷ []))) (below first (omega arith))
    ∙ no_repeat_from count left (first + 1) (before ++ label_at first ∷ []) (omega arith) (below_more first before below)

pub once_bound : (count : ℕ) → second_binding (gen_items count) ≡ None
once_bound count =
    ap (λ labels. option_map LabelBoundTwice (first_repeat [] labels)) (bindings_from count count 0)
    ∙ ap (option_map LabelBoundTwice) (no_repeat_from count count 0 [] (omega arith) (λ number h. refl))

bound_from : (count left first number : ℕ) → first + left ≡ count → first ≤ number → number ≤ count
    → is_among (map label_at (range_with_len first left) ++ label_at count ∷ []) (label_at number) ≡ true
bound_from count zero first number e low high = ap (λ b. b || false) (eq-eqb count number (omega arith))
bound_from count (suc left) first number e low high = case (bound_from count left (first + 1) number) (eqb first number) refl
  where
    later : Bool
    later = is_among (map label_at (range_with_len (first + 1) left) ++ label_at count ∷ []) (label_at number)

    case : (first + 1 + left ≡ count → first + 1 ≤ number → number ≤ count → later ≡ true) → (b : Bool) → eqb first number ≡ b → (eqb first number || later) ≡ true
    case more true t = ap (λ b. b || later) t
    case more false t = let ne = eqb-false first number t in ap (λ b. b || later) t ∙ more (omega arith) (omega arith) high

all_bound : (count number : ℕ) → number ≤ count → is_among (bindings (gen_items count)) (label_at number) ≡ true
all_bound count number h = ap (λ labels. is_among labels (label_at number)) (bindings_from count count 0) ∙ bound_from count count 0 number (omega arith) (omega arith) h

module _ (frame : FrameLayout) (flags : EmitFlags) where
  none_missing_from : (bound : List MachLabel) (count left first : ℕ) → ((number : ℕ) → number ≤ count → is_among bound (label_at number) ≡ true) → first + left ≤ count
      → first_missing bound (used_labels frame flags (turns_from count first left)) ≡ None
  none_missing_from bound count zero first all h = refl
  none_missing_from bound count (suc left) first all h =
      let later = used_labels frame flags (turns_from count (first + 1) left) in
      ap (λ b. cond (not b) (Some (label_at count)) (first_missing bound (label_at first ∷ later))) (all count (omega arith))
      ∙ ap (λ b. cond (not b) (Some (label_at first)) (first_missing bound later)) (all first (omega arith))
      ∙ none_missing_from bound count left (first + 1) all (omega arith)

  pub uses_free : (count : ℕ) → unbound_use frame flags (gen_items count) ≡ None
  uses_free count = ap (option_map UnboundLabel) (none_missing_from (bindings (gen_items count)) count count 0 (all_bound count) (omega arith))
