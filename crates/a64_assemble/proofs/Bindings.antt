-- The labels that items bind and use, one item after another.
use Rattle.std.proofs.Common.{ℕ, ◌≡◌, ◌+◌, ◌<◌, ◌≤◌, Bool, true, false, cond, not, List, [], ◌∷◌, ◌++◌, length, get_or, take, drop, suc, zero, option_map, Option, None, Some, refl, sym, ap, ◌∙◌, arith, eqb, nat_cmp}
use Rattle.std.specs.Prelude.{◌||◌, is_some}
use Rattle.std.specs.Cmp.{nat_cmp_total, unsigned_tied}
use Rattle.std.specs.FinMap.{FinMap, get, contains_key, insert, empty, get-insert, get-empty}
use Rattle.std.specs.List.{filter_map}
use Rattle.std.specs.Option.{option_or}
use Rattle.std.proofs.lemmas.Bool.{eqb-true, eq-eqb}
use Rattle.std.proofs.lemmas.List.{take_more, drop_more, take_all, append-nil}
use Rattle.std.proofs.lemmas.List.Elements.{filter_map-append}
use Rattle.std.proofs.lemmas.List.Folds.{list_any-append, find-append}
use Rattle.a64_base.specs.declared.entity.MachLabel.{MachLabel}
use Rattle.a64_inst.specs.declared.emission.EmitFlags.{EmitFlags}
use Rattle.a64_inst.specs.declared.frame.FrameLayout.{FrameLayout}
use Rattle.a64_inst.specs.declared.item.Item.{Item}
use Rattle.a64_inst.specs.declared.item.Item.TheVariants.{Bind}
use Rattle.a64_emit.specs.declared.error.EmitError.TheVariants.{LabelBoundTwice}
use Rattle.a64_cells.specs.Shapes.{Cell}
use Rattle.a64_cells.specs.Cells.{sites_of, cells_of, all_cells, two_uses, uses_of}
use Rattle.a64_emit.specs.Faults.{binding_of, bindings, used_label, is_among, first_repeat, HasLabels, first_missing, second_binding, used_labels}
use Rattle.a64_assemble.proofs.MissingLabels.{missing_pair, or_none}

-- ---- lists of items, by one more

-- the bindings of one more item
pub bindings_more : (items : List Item) (i : ℕ) (d x : Item) → i < length items → get_or items i d ≡ x → bindings (take (i + 1) items) ≡ bindings (take i items) ++ bindings (x ∷ [])
bindings_more items i d x within is =
    ap bindings (take_more items i d within) ∙ filter_map-append binding_of (take i items) (get_or items i d ∷ [])
    ∙ ap (λ (y : Item). bindings (take i items) ++ bindings (y ∷ [])) is

pub drop_item : (items : List Item) (i : ℕ) (d x : Item) → i < length items → get_or items i d ≡ x → drop i items ≡ x ∷ drop (i + 1) items
drop_item items i d x within is = drop_more items i d within ∙ ap (λ (y : Item). y ∷ drop (i + 1) items) is

pub drop_all : (items : List Item) (i : ℕ) → length items ≤ i → drop i items ≡ []
drop_all [] zero h = refl
drop_all [] (suc i) h = refl
drop_all (x ∷ items) zero h = absurd (omega arith)
drop_all (x ∷ items) (suc i) h = drop_all items i (omega arith)

-- ---- second bindings

-- the map has the labels so far, and the first second binding of all is that of what is left
pub record IsScanned {X : Type 0} (items : List Item) (i : ℕ) (bound : FinMap nat_cmp X) : Type 0 where
  pub same : HasLabels bound (bindings (take i items))
  pub rest : first_repeat (bindings (take i items)) (bindings (drop i items)) ≡ first_repeat [] (bindings items)

pub scanned_none : {X : Type 0} (items : List Item) (bound : FinMap nat_cmp X) → bound ≡ empty → IsScanned items 0 bound
scanned_none items bound none = record { same = λ label. ap (λ m. contains_key m label.0) none ∙ ap is_some (get-empty nat_cmp label.0); rest = refl }

-- an item that binds nothing
pub scanned_other : {X : Type 0} (items : List Item) (i : ℕ) (bound : FinMap nat_cmp X) (d x : Item) → i < length items → get_or items i d ≡ x → bindings (x ∷ []) ≡ [] → IsScanned items i bound → IsScanned items (i + 1) bound
scanned_other items i bound d x within is none s =
    let more : bindings (take (i + 1) items) ≡ bindings (take i items) = bindings_more items i d x within is ∙ ap (λ ls. bindings (take i items) ++ ls) none ∙ append-nil (bindings (take i items)) in
    let left : bindings (drop i items) ≡ bindings (drop (i + 1) items) =
    ap bindings (drop_item items i d x within is) ∙ filter_map-append binding_of (x ∷ []) (drop (i + 1) items) ∙ ap (λ ls. ls ++ bindings (drop (i + 1) items)) none in
    record {
      same = λ label. s.same label ∙ ap (λ ls. is_among ls label) (sym more);
      rest = ap (λ ls. first_repeat ls (bindings (drop (i + 1) items))) more ∙ ap (first_repeat (bindings (take i items))) (sym left) ∙ s.rest;
    }

eqb_swap : (a b : ℕ) → eqb a b ≡ eqb b a
eqb_swap a b = case (eqb a b) (eqb b a) refl refl
  where
    case : (x y : Bool) → eqb a b ≡ x → eqb b a ≡ y → x ≡ y
    case true true e f = refl
    case false false e f = refl
    case true false e f = sym (eq-eqb b a (sym (eqb-true a b e))) ∙ f
    case false true e f = sym e ∙ eq-eqb a b (sym (eqb-true b a f))

-- what a new number makes of the map
among_push : {X : Type 0} (before : List MachLabel) (bound : FinMap nat_cmp X) (label q : MachLabel) (value : X) → contains_key bound q.0 ≡ is_among before q → contains_key (insert bound label.0 value) q.0 ≡ is_among (before ++ label ∷ []) q
among_push {X = X} before bound label q value e =
    ap is_some (get-insert nat_cmp_total bound label.0 value q.0 ∙ ap (λ t. cond t (Some value) (get bound q.0)) (unsigned_tied q.0 label.0))
    ∙ (either (eqb q.0 label.0) (get bound q.0) ∙ (ap (λ t. t || contains_key bound q.0) (eqb_swap q.0 label.0) ∙ (ap (λ t. eqb label.0 q.0 || t) e ∙ (swap (eqb label.0 q.0) (is_among before q) ∙ sym (list_any-append (λ (l : MachLabel). eqb l.0 q.0) before (label ∷ []))))))
  where
    either : (b : Bool) (o : Option X) → is_some (cond b (Some value) o) ≡ (b || is_some o)
    either true o = refl
    either false o = refl

    swap : (a b : Bool) → (a || b) ≡ (b || (a || false))
    swap true true = refl
    swap true false = refl
    swap false true = refl
    swap false false = refl

-- an item that binds a label for the first time
pub scanned_bind : {X : Type 0} (items : List Item) (i : ℕ) (bound : FinMap nat_cmp X) (d x : Item) (label : MachLabel) → i < length items → get_or items i d ≡ x → x ≡ Bind label → contains_key bound label.0 ≡ false → (value : X) → IsScanned items i bound → IsScanned items (i + 1) (insert bound label.0 value)
scanned_bind items i bound d x label within is binds fresh value s =
    let more : bindings (take (i + 1) items) ≡ bindings (take i items) ++ label ∷ [] = bindings_more items i d x within is ∙ ap (λ y. bindings (take i items) ++ bindings (y ∷ [])) binds in
    let left : bindings (drop i items) ≡ label ∷ bindings (drop (i + 1) items) = ap bindings (drop_item items i d x within is) ∙ ap (λ y. bindings (y ∷ drop (i + 1) items)) binds in
    let not_yet : is_among (bindings (take i items)) label ≡ false = sym (s.same label) ∙ fresh in
    record {
      same = λ q. among_push (bindings (take i items)) bound label q value (s.same q) ∙ ap (λ ls. is_among ls q) (sym more);
      rest = ap (λ ls. first_repeat ls (bindings (drop (i + 1) items))) more
          ∙ sym (ap (λ b. cond b (Some label) (first_repeat (bindings (take i items) ++ label ∷ []) (bindings (drop (i + 1) items)))) not_yet)
          ∙ ap (first_repeat (bindings (take i items))) (sym left) ∙ s.rest;
    }

-- an item that binds a label again
pub scanned_twice : {X : Type 0} (items : List Item) (i : ℕ) (bound : FinMap nat_cmp X) (d x : Item) (label : MachLabel) → i < length items → get_or items i d ≡ x → x ≡ Bind label → contains_key bound label.0 ≡ true → IsScanned items i bound → second_binding items ≡ Some (LabelBoundTwice label)
scanned_twice items i bound d x label within is binds again s =
    let left : bindings (drop i items) ≡ label ∷ bindings (drop (i + 1) items) = ap bindings (drop_item items i d x within is) ∙ ap (λ y. bindings (y ∷ drop (i + 1) items)) binds in
    let already : is_among (bindings (take i items)) label ≡ true = sym (s.same label) ∙ again in
    ap (option_map LabelBoundTwice) (sym s.rest ∙ ap (first_repeat (bindings (take i items))) left
    ∙ ap (λ b. cond b (Some label) (first_repeat (bindings (take i items) ++ label ∷ []) (bindings (drop (i + 1) items)))) already)

pub scanned_all : {X : Type 0} (items : List Item) (i : ℕ) (bound : FinMap nat_cmp X) → length items ≤ i → IsScanned items i bound → (second_binding items ≡ None) × HasLabels bound (bindings items)
scanned_all items i bound all s = (
  ap (option_map LabelBoundTwice) (sym s.rest ∙ ap (λ xs. first_repeat (bindings (take i items)) (bindings xs)) (drop_all items i all)),
  λ label. s.same label ∙ ap (λ xs. is_among (bindings xs) label) (take_all i items all),
)

-- ---- uses of labels that are not bound

-- the labels that cells use
abbrev pub labels_in : List Cell → List MachLabel
labels_in cells = filter_map used_label (sites_of cells)

labels_in-append : (xs ys : List Cell) → labels_in (xs ++ ys) ≡ labels_in xs ++ labels_in ys
labels_in-append xs ys = ap (filter_map used_label) (filter_map-append (λ cell. cell.site) xs ys) ∙ filter_map-append used_label (sites_of xs) (sites_of ys)

or_or : {X : Type 0} (a b c : Option X) → option_or (option_or a b) c ≡ option_or a (option_or b c)
or_or None b c = refl
or_or (Some x) b c = refl

module _ (frame : FrameLayout) (flags : EmitFlags) (bound : List MachLabel) where
  -- the first label that the cells of these items use and that is not bound
  abbrev pub missing_of : List Item → Option MachLabel
  missing_of items = first_missing bound (used_labels frame flags items)

  pub missing_cons : (x : Item) (items : List Item) → missing_of (x ∷ items) ≡ option_or (first_missing bound (labels_in (cells_of frame flags x))) (missing_of items)
  missing_cons x items =
      ap (first_missing bound) (labels_in-append (cells_of frame flags x) (all_cells frame flags items))
      ∙ find-append (λ label. not (is_among bound label)) (labels_in (cells_of frame flags x)) (used_labels frame flags items)

  -- the first of the items so far, or else of those that are left, with one item more
  pub missing_more : (items : List Item) (i : ℕ) (d x : Item) (before now : Option MachLabel) → i < length items → get_or items i d ≡ x → now ≡ option_or before (first_missing bound (labels_in (cells_of frame flags x)))
      → option_or now (missing_of (drop (i + 1) items)) ≡ option_or before (missing_of (drop i items))
  missing_more items i d x before now within is e =
      ap (λ o. option_or o (missing_of (drop (i + 1) items))) e
      ∙ or_or before (first_missing bound (labels_in (cells_of frame flags x))) (missing_of (drop (i + 1) items))
      ∙ ap (option_or before) (sym (ap missing_of (drop_item items i d x within is) ∙ missing_cons x (drop (i + 1) items)))

  -- an item without a use
  pub missing_same : (items : List Item) (i : ℕ) (d x : Item) (before : Option MachLabel) → i < length items → get_or items i d ≡ x → uses_of 0 (cells_of frame flags x) ≡ two_uses None None
      → option_or before (missing_of (drop (i + 1) items)) ≡ option_or before (missing_of (drop i items))
  missing_same items i d x before within is none =
      missing_more items i d x before before within is (sym (ap (option_or before) (sym (missing_pair bound (cells_of frame flags x) None None None None none refl refl)) ∙ or_none before))

  pub missing_end : (items : List Item) (i : ℕ) (before : Option MachLabel) → length items ≤ i → option_or before (missing_of (drop i items)) ≡ before
  missing_end items i before all = ap (λ xs. option_or before (missing_of xs)) (drop_all items i all) ∙ or_none before
