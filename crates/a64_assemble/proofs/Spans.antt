-- Sums over the items between a use and its label, and which label is bound where.
use Rattle.std.proofs.Common.{ℕ, ◌≡◌, ◌+◌, ◌-◌, ◌<◌, ◌≤◌, suc, zero, Bool, true, false, cond, List, [], ◌∷◌, ◌++◌, length, get_or, take, None, Some, refl, ap, ◌∙◌, arith}
use Rattle.std.specs.Prelude.{sum_by}
use Rattle.std.specs.Option.{option_or}
use Rattle.std.specs.List.{slice_get, position_from}
use Rattle.std.proofs.lemmas.Bool.{eq-eqb, eqb-true}
use Rattle.std.proofs.lemmas.Iterator.Adapters.{position_from-zero}
use Rattle.std.proofs.lemmas.List.Quantifiers.{position-Some}
use Rattle.std.proofs.lemmas.List.Sums.{sum_by-take-drop, sum_by-take-le, sum_by_more, sum_by_more_le, sum_by-le-sum_by}
use Rattle.a64_base.specs.declared.entity.MachLabel.{MachLabel}
use Rattle.a64_inst.specs.declared.emission.EmitFlags.{EmitFlags}
use Rattle.a64_inst.specs.declared.frame.FrameLayout.{FrameLayout}
use Rattle.a64_inst.specs.declared.item.Item.{Item}
use Rattle.a64_inst.specs.declared.item.Item.TheVariants.{Bind, Emit}
use Rattle.a64_emit.specs.Bounds.{item_size, growth_of, whole}
use Rattle.a64_emit.specs.Reach.{binds, binding_index, span, sizes}

-- ---- first parts of lists

pub take_within : {X : Type 0} (n m : ℕ) (xs : List X) → n ≤ m → take n (take m xs) ≡ take n xs
take_within zero zero [] h = refl
take_within zero zero (x ∷ xs) h = refl
take_within zero (suc m) [] h = refl
take_within zero (suc m) (x ∷ xs) h = refl
take_within (suc n) zero xs h = absurd (omega arith)
take_within (suc n) (suc m) [] h = refl
take_within (suc n) (suc m) (x ∷ xs) h = ap (λ ys. x ∷ ys) (take_within n m xs (omega arith))

-- ---- sums over first parts

-- such sums rise
pub sums_rise : {X : Type 0} (f : X → ℕ) (xs : List X) (i j : ℕ) → i ≤ j → sum_by f (take i xs) ≤ sum_by f (take j xs)
sums_rise f xs i j le =
    let part = sum_by-take-le f (take j xs) i in
    let same = ap (sum_by f) (take_within i j xs le) in
    omega (arith, part, same)

-- what stands behind the first so many, up to an element
pub span_sums : (f : Item → ℕ) (items : List Item) (i j : ℕ) → i ≤ j + 1 → sum_by f (span items i j) ≡ sum_by f (take (j + 1) items) - sum_by f (take i items)
span_sums f items i j le =
    let parts = sum_by-take-drop f (take (j + 1) items) i in
    let same = ap (sum_by f) (take_within i (j + 1) items le) in
    omega (arith, parts, same)

-- ---- the item that binds a label

-- an item binds the label, and none before it does
pub record IsFirstBinding (items : List Item) (label : MachLabel) (j : ℕ) : Type 0 where
  pub bound : MachLabel
  pub within : j < length items
  pub is : (d : Item) → get_or items j d ≡ Bind bound
  pub same : bound.0 ≡ label.0

binder : (label : MachLabel) (x : Item) → binds label x ≡ true → (bound : MachLabel) × (x ≡ Bind bound) × (bound.0 ≡ label.0)
binder label (Bind bound) e = (bound, refl, eqb-true bound.0 label.0 e)
binder label (Emit inst map) e = absurd (let z : false ≡ true = e in cc)

pub first_binding : (items : List Item) (label : MachLabel) (j : ℕ) → binding_index items label ≡ Some j → IsFirstBinding items label j
first_binding [] label j e = absurd cc
first_binding (x ∷ items) label j e =
    let at = position-Some (binds label) (x ∷ items) j x (position_from-zero (binds label) (x ∷ items) ∙ e) in
    let bind = binder label (get_or (x ∷ items) j x) at.1 in
    record { bound = bind.0; within = at.0; is = λ d. get_or_same (x ∷ items) j d x at.0 ∙ bind.1; same = bind.2 }
  where
    get_or_same : (xs : List Item) (i : ℕ) (d e : Item) → i < length xs → get_or xs i d ≡ get_or xs i e
    get_or_same [] i d e h = absurd (omega arith)
    get_or_same (y ∷ ys) zero d e h = refl
    get_or_same (y ∷ ys) (suc i) d e h = get_or_same ys i d e (omega arith)

-- where some item binds a label, there is a first one
pub has_binding : (items : List Item) (n i : ℕ) (bound label : MachLabel) → slice_get items i ≡ Some (Bind bound) → bound.0 ≡ label.0 → (j : ℕ) × (position_from (binds label) n items ≡ Some j)
has_binding [] n i bound label e same = absurd cc
has_binding (x ∷ items) n zero bound label e same =
    let is : x ≡ Bind bound = cc in
    (n, ap (λ (y : Item). cond (binds label y) (Some n) (position_from (binds label) (n + 1) items)) is ∙ ap (λ b. cond b (Some n) (position_from (binds label) (n + 1) items)) (eq-eqb bound.0 label.0 same))
has_binding (x ∷ items) n (suc i) bound label e same =
    let later = has_binding items (n + 1) i bound label e same in
    go (binds label x) refl later
  where
    go : (b : Bool) → binds label x ≡ b → (j : ℕ) × (position_from (binds label) (n + 1) items ≡ Some j) → (j : ℕ) × (cond (binds label x) (Some n) (position_from (binds label) (n + 1) items) ≡ Some j)
    go true e l = (n, ap (λ b. cond b (Some n) (position_from (binds label) (n + 1) items)) e)
    go false e l = (l.0, ap (λ b. cond b (Some n) (position_from (binds label) (n + 1) items)) e ∙ l.1)

-- the index with one more item
pub index_push : (items : List Item) (n : ℕ) (x : Item) (label : MachLabel) → position_from (binds label) n (items ++ x ∷ []) ≡ option_or (position_from (binds label) n items) (cond (binds label x) (Some (n + length items)) None)
index_push [] n x label = ap (λ m. cond (binds label x) (Some m) None) (omega arith)
index_push (y ∷ items) n x label = go (binds label y) (index_push items (n + 1) x label)
  where
    go : (b : Bool) → position_from (binds label) (n + 1) (items ++ x ∷ []) ≡ option_or (position_from (binds label) (n + 1) items) (cond (binds label x) (Some (n + 1 + length items)) None) → cond b (Some n) (position_from (binds label) (n + 1) (items ++ x ∷ [])) ≡ option_or (cond b (Some n) (position_from (binds label) (n + 1) items)) (cond (binds label x) (Some (n + length (y ∷ items))) None)
    go true e = refl
    go false e = e ∙ ap (λ m. option_or (position_from (binds label) (n + 1) items) (cond (binds label x) (Some m) None)) (omega arith)

module _ (frame : FrameLayout) (flags : EmitFlags) (items : List Item) where
  -- ---- sums of sizes

  -- sums of first parts rise
  pub sizes_rise : (i j : ℕ) → i ≤ j → sizes frame flags (take i items) ≤ sizes frame flags (take j items)
  sizes_rise i j le = sums_rise (item_size frame flags) items i j le

  -- no sum is more than the whole
  pub sizes_within : (i : ℕ) (d x : Item) → i < length items → get_or items i d ≡ x → sizes frame flags (take i items) + item_size frame flags x ≤ whole frame flags items
  sizes_within i d x within is =
      let part = sum_by_more_le (item_size frame flags) items i d within in
      let grows = sum_by-le-sum_by (item_size frame flags) (growth_of frame flags) items (λ y. omega arith) in
      let same = ap (item_size frame flags) is in
      omega (arith, part, grows, same)

  pub sizes_more : (i : ℕ) (d x : Item) → i < length items → get_or items i d ≡ x → sizes frame flags (take (i + 1) items) ≡ sizes frame flags (take i items) + item_size frame flags x
  sizes_more i d x within is = sum_by_more (item_size frame flags) items i d within ∙ ap (λ (y : Item). sizes frame flags (take i items) + item_size frame flags y) is

  -- a span has what the items up to its end have behind those before its start
  pub span_sizes : (i j : ℕ) → i ≤ j + 1 → sizes frame flags (span items i j) ≡ sizes frame flags (take (j + 1) items) - sizes frame flags (take i items)
  span_sizes i j le = span_sums (item_size frame flags) items i j le

  -- the sum with an item that binds a label is that without
  pub bind_sizes : (j : ℕ) (d : Item) (bound : MachLabel) → j < length items → get_or items j d ≡ Bind bound → sizes frame flags (take (j + 1) items) ≡ sizes frame flags (take j items)
  bind_sizes j d bound within is =
      let more = sum_by_more (item_size frame flags) items j d within in
      let none : item_size frame flags (get_or items j d) ≡ 0 = ap (item_size frame flags) is in
      omega (arith, more, none)
