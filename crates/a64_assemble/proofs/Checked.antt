-- What the checks before emission leave to be relied on.
use Rattle.std.proofs.Common.{ℕ, ◌≡◌, ◌+◌, ◌<◌, suc, zero, Bool, true, false, cond, not, List, [], ◌∷◌, ◌++◌, length, get_or, take, drop, option_map, Option, None, Some, refl, sym, ap, ◌∙◌, arith, eqb, append_assoc}
use Rattle.std.specs.Prelude.{◌||◌}
use Rattle.std.specs.List.{slice_get}
use Rattle.std.specs.Ordering.{nat_cmp}
use Rattle.std.specs.FinMap.{FinMap}
use Rattle.std.proofs.lemmas.Bool.{eqb-true, eq-eqb, false≢true}
use Rattle.std.proofs.lemmas.List.{take-append-drop, drop_more, append-nil}
use Rattle.std.proofs.lemmas.List.Elements.{filter_map-append}
use Rattle.a64_base.specs.declared.entity.MachLabel.{MachLabel}
use Rattle.a64_inst.specs.declared.emission.EmitFlags.{EmitFlags}
use Rattle.a64_inst.specs.declared.frame.FrameLayout.{FrameLayout}
use Rattle.a64_inst.specs.declared.item.Item.{Item}
use Rattle.a64_inst.specs.declared.item.Item.TheVariants.{Bind, Emit}
use Rattle.a64_buffer.specs.declared.force.ForceVeneers.{ForceVeneers}
use Rattle.a64_emit.specs.declared.error.EmitError.{EmitError}
use Rattle.a64_emit.specs.declared.error.EmitError.TheVariants.{LabelBoundTwice, UnboundLabel}
use Rattle.a64_emit.specs.Faults.{own_fault, binding_of, bindings, is_among, first_repeat, first_missing, second_binding, unbound_use, used_labels, too_large, or_else, fault_of}
use Rattle.a64_emit.specs.Reach.{out_of_reach}

-- ---- no label is bound twice

pub mapped_none : {A B : Type 0} (f : A → B) (o : Option A) → option_map f o ≡ None → o ≡ None
mapped_none f None e = refl
mapped_none f (Some x) e = absurd cc

repeat_split : (before xs : List MachLabel) (l : MachLabel) (ys : List MachLabel) → first_repeat before (xs ++ l ∷ ys) ≡ None → is_among (before ++ xs) l ≡ false
repeat_split before [] l ys e = ap (λ (ls : List MachLabel). is_among ls l) (append-nil before) ∙ case (is_among before l) e
  where
    case : (b : Bool) → cond b (Some l) (first_repeat (before ++ l ∷ []) ys) ≡ None → b ≡ false
    case true f = absurd cc
    case false f = refl
repeat_split before (x ∷ xs) l ys e =
    ap (λ (ls : List MachLabel). is_among ls l) (sym (append_assoc before (x ∷ []) xs)) ∙ repeat_split (before ++ x ∷ []) xs l ys (case (is_among before x) e)
  where
    case : (b : Bool) → cond b (Some x) (first_repeat (before ++ x ∷ []) (xs ++ l ∷ ys)) ≡ None → first_repeat (before ++ x ∷ []) (xs ++ l ∷ ys) ≡ None
    case true f = absurd cc
    case false f = f

-- an item that binds a label is found among the bindings
pub among_bindings : (items : List Item) (i : ℕ) (a q : MachLabel) → slice_get items i ≡ Some (Bind a) → a.0 ≡ q.0 → is_among (bindings items) q ≡ true
among_bindings [] i a q e same = absurd cc
among_bindings (Bind l ∷ items) zero a q e same =
    let l_is : l ≡ a = cc in
    ap (λ b. b || is_among (bindings items) q) (eq-eqb l.0 q.0 (ap (λ (t : MachLabel). t.0) l_is ∙ same))
among_bindings (Emit inst kept ∷ items) zero a q e same = absurd cc
among_bindings (Bind l ∷ items) (suc i) a q e same = ap (λ b. eqb l.0 q.0 || b) (among_bindings items i a q e same) ∙ or_true (eqb l.0 q.0)
  where
    or_true : (b : Bool) → (b || true) ≡ true
    or_true true = refl
    or_true false = refl
among_bindings (Emit inst kept ∷ items) (suc i) a q e same = among_bindings items i a q e same

-- the next item binds a label that no item before it binds
pub not_bound_before : (items : List Item) (n : ℕ) (d : Item) (label : MachLabel) → second_binding items ≡ None → n < length items → get_or items n d ≡ Bind label → is_among (bindings (take n items)) label ≡ false
not_bound_before items n d label none within is =
    let parts : items ≡ take n items ++ (Bind label ∷ drop (n + 1) items) = sym (take-append-drop n items) ∙ ap (λ (t : List Item). take n items ++ t) (drop_more items n d within ∙ ap (λ (x : Item). x ∷ drop (n + 1) items) is) in
    let split : bindings items ≡ bindings (take n items) ++ (label ∷ bindings (drop (n + 1) items)) = ap bindings parts ∙ filter_map-append binding_of (take n items) (Bind label ∷ drop (n + 1) items) in
    repeat_split [] (bindings (take n items)) label (bindings (drop (n + 1) items)) (sym (ap (first_repeat []) split) ∙ mapped_none LabelBoundTwice (first_repeat [] (bindings items)) none)

-- ---- each used label is bound

-- an item that binds a label that is among the bindings
pub record IsBinding (items : List Item) (q : MachLabel) : Type 0 where
  pub index : ℕ
  pub label : MachLabel
  pub binds : slice_get items index ≡ Some (Bind label)
  pub same : label.0 ≡ q.0

pub binding_among : (items : List Item) (q : MachLabel) → is_among (bindings items) q ≡ true → IsBinding items q
binding_among [] q e = absurd (false≢true e)
binding_among (Bind l ∷ items) q e = case (binding_among items q) (eqb l.0 q.0) refl
  where
    case : (is_among (bindings items) q ≡ true → IsBinding items q) → (b : Bool) → eqb l.0 q.0 ≡ b → IsBinding (Bind l ∷ items) q
    case later true t = record { index = 0; label = l; binds = refl; same = eqb-true l.0 q.0 t }
    case later false t =
        let r = later (sym (ap (λ b. b || is_among (bindings items) q) t) ∙ e) in
        record { index = suc r.index; label = r.label; binds = r.binds; same = r.same }
binding_among (Emit inst kept ∷ items) q e =
    let r = binding_among items q e in
    record { index = suc r.index; label = r.label; binds = r.binds; same = r.same }

missing_none : (bound ls : List MachLabel) (k : ℕ) (d : MachLabel) → first_missing bound ls ≡ None → k < length ls → is_among bound (get_or ls k d) ≡ true
missing_none bound [] k d e h = absurd (omega arith)
missing_none bound (l ∷ ls) zero d e h = case (is_among bound l) e
  where
    case : (b : Bool) → cond (not b) (Some l) (first_missing bound ls) ≡ None → b ≡ true
    case true f = refl
    case false f = absurd cc
missing_none bound (l ∷ ls) (suc k) d e h = missing_none bound ls k d (case (is_among bound l) e) (omega arith)
  where
    case : (b : Bool) → cond (not b) (Some l) (first_missing bound ls) ≡ None → first_missing bound ls ≡ None
    case true f = f
    case false f = absurd cc

-- ---- each use is bound

pub neither : (a b : Bool) → (a || b) ≡ false → (a ≡ false) × (b ≡ false)
neither true b h = absurd cc
neither false b h = (refl, h)

module _ (frame : FrameLayout) (flags : EmitFlags) (items : List Item) where
  pub uses_bound : unbound_use frame flags items ≡ None → (k : ℕ) (d : MachLabel) → k < length (used_labels frame flags items) → IsBinding items (get_or (used_labels frame flags items) k d)
  uses_bound none k d h = binding_among items (get_or (used_labels frame flags items) k d) (missing_none (bindings items) (used_labels frame flags items) k d (mapped_none UnboundLabel (first_missing (bindings items) (used_labels frame flags items)) none) h)

-- ---- the first fault, by the five checks

module _ (frame : FrameLayout) (flags : EmitFlags) (constants : FinMap nat_cmp (List ℕ)) (force : ForceVeneers) (items : List Item) where
  -- the first fault of items whose uses are bound, whose labels are bound once, and without a fault of their own
  abbrev of_size : Option EmitError
  of_size = or_else (too_large frame flags items) (out_of_reach frame flags force items)

  abbrev of_uses : Option EmitError
  of_uses = or_else (unbound_use frame flags items) of_size

  abbrev of_bindings : Option EmitError
  of_bindings = or_else (second_binding items) of_uses

  after_item : own_fault frame flags constants items ≡ None → fault_of frame flags constants force items ≡ of_bindings
  after_item own = ap (λ o. or_else o of_bindings) own

  after_binding : own_fault frame flags constants items ≡ None → second_binding items ≡ None → fault_of frame flags constants force items ≡ of_uses
  after_binding own a = after_item own ∙ ap (λ o. or_else o of_uses) a

  after_use : own_fault frame flags constants items ≡ None → second_binding items ≡ None → unbound_use frame flags items ≡ None → fault_of frame flags constants force items ≡ of_size
  after_use own a b = after_binding own a ∙ ap (λ o. or_else o of_size) b

  pub fault_at_item : (error : EmitError) → own_fault frame flags constants items ≡ Some error → fault_of frame flags constants force items ≡ Some error
  fault_at_item error own = ap (λ o. or_else o of_bindings) own

  pub fault_at_binding : (error : EmitError) → own_fault frame flags constants items ≡ None → second_binding items ≡ Some error → fault_of frame flags constants force items ≡ Some error
  fault_at_binding error own a = after_item own ∙ ap (λ o. or_else o of_uses) a

  -- the first of three faults is the first of two, where one of these is there
  or_else_first : (a b c : Option EmitError) (error : EmitError) → or_else a b ≡ Some error → or_else a (or_else b c) ≡ Some error
  or_else_first None b c error is = ap (λ o. or_else o c) is
  or_else_first (Some fault) b c error is = is

  pub fault_at_code : (error : EmitError) → own_fault frame flags constants items ≡ None → second_binding items ≡ None → or_else (unbound_use frame flags items) (too_large frame flags items) ≡ Some error → fault_of frame flags constants force items ≡ Some error
  fault_at_code error own a found =
      after_binding own a ∙ or_else_first (unbound_use frame flags items) (too_large frame flags items) (out_of_reach frame flags force items) error found

  -- the last check decides where the others find nothing
  pub fault_at_reach : own_fault frame flags constants items ≡ None → second_binding items ≡ None → unbound_use frame flags items ≡ None → too_large frame flags items ≡ None → fault_of frame flags constants force items ≡ out_of_reach frame flags force items
  fault_at_reach own a b c = after_use own a b ∙ ap (λ o. or_else o (out_of_reach frame flags force items)) c
