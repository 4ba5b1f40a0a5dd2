-- The walk to the next item with words.
use Rattle.std.proofs.Common.{ℕ, ◌≡◌, ◌≢◌, ◌+◌, ◌-◌, ◌^◌, ◌<◌, ◌≤◌, List, [], ◌∷◌, length, get_or, drop, Option, None, Some, refl, sym, ap, ◌∙◌, arith}
use Rattle.std.specs.Option.{unwrap_or}
use Rattle.std.proofs.lemmas.List.{drop_more, drop_all}
use Rattle.std.proofs.lemmas.List.Sums.{sum_by-cons}
use Rattle.a64_inst.specs.declared.emission.EmitFlags.{EmitFlags}
use Rattle.a64_inst.specs.declared.frame.FrameLayout.{FrameLayout}
use Rattle.a64_inst.specs.declared.inst.Inst.TheVariants as insts
use Rattle.a64_inst.specs.declared.item.Item.{Item}
use Rattle.a64_inst.specs.declared.item.Item.TheVariants.{Bind, Emit}
use Rattle.a64_emit.specs.declared.extent.Light.{Light}
use Rattle.a64_emit.specs.Bounds.{IsExtent, item_charge, charge_of, growth_of, asked}
use Rattle.a64_cells.specs.Shapes.{Cell}
use Rattle.a64_cells.specs.Cells.{cells_of, kept_cells}
use Rattle.a64_emit.specs.Lights.{IsLight}
use Rattle.a64_assemble.specs.Elements.{Element, Binding, Words, Asking, size_in, charge_in, space_in, growth_in, add_more, element_of, elements_of, whole_in, next_room}
use Rattle.a64_assemble.proofs.Itemized.{cells_same}
use Rattle.a64_emit.specs.Falls.{inst_falls}

-- ---- one element

-- one without words that asks for no island is passed over
passed_by : (x : Element) (rest : List Element) → size_in x ≡ 0 → charge_in x + space_in x ≡ 0 → next_room (x ∷ rest) ≡ next_room rest
passed_by (Binding label) rest s e = refl
passed_by (Words goes_on []) rest s e = refl
passed_by (Words goes_on (c ∷ cs)) rest s e = absurd (omega (arith, s))
passed_by (Asking space) rest s e = absurd (omega (arith, e))

-- a place for an island counts
counted : (x : Element) (rest : List Element) → size_in x ≡ 0 → charge_in x + space_in x ≢ 0 → next_room (x ∷ rest) ≡ add_more 4 (next_room rest)
counted (Binding label) rest s ne = absurd (ne refl)
counted (Words goes_on []) rest s ne = absurd (ne refl)
counted (Words goes_on (c ∷ cs)) rest s ne = absurd (omega (arith, s))
counted (Asking space) rest s ne = refl

-- and words end the walk
found : (x : Element) (rest : List Element) → size_in x ≢ 0 → next_room (x ∷ rest) ≡ Some (size_in x + (charge_in x + space_in x) - 4)
found (Binding label) rest ne = absurd (ne refl)
found (Words goes_on []) rest ne = absurd (ne refl)
found (Words goes_on (c ∷ cs)) rest ne = ap (λ n. Some n) (omega arith)
found (Asking space) rest ne = absurd (ne refl)

charged : (x : Element) → size_in x ≢ 0 → 4 ≤ charge_in x + space_in x
charged (Binding label) ne = absurd (ne refl)
charged (Words goes_on []) ne = absurd (ne refl)
charged (Words goes_on (c ∷ cs)) ne = omega arith
charged (Asking space) ne = absurd (ne refl)

more_again : (o : Option ℕ) (m n : ℕ) → add_more m (add_more n o) ≡ add_more (m + n) o
more_again None m n = refl
more_again (Some k) m n = ap (λ n. Some n) (omega arith)

none_more : (o : Option ℕ) → o ≡ add_more 0 o
none_more None = refl
none_more (Some k) = ap (λ n. Some n) (omega arith)

module _ (frame : FrameLayout) (flags : EmitFlags) where
  pub charge_same : (x : Item) → charge_in (element_of frame flags x) + space_in (element_of frame flags x) ≡ item_charge frame flags x + unwrap_or (asked x) 0
  charge_same (Bind label) = refl
  charge_same (Emit (insts.EmitIsland space) kept) = refl
  charge_same (Emit _ kept) = refl

  -- an item without words that is no place for an island is charged for nothing
  sized : (x : Item) → asked x ≡ None → size_in (element_of frame flags x) ≡ 0 → charge_in (element_of frame flags x) + space_in (element_of frame flags x) ≡ 0
  sized (Bind label) none s = refl
  sized (Emit inst kept) none s =
      let is : element_of frame flags (Emit inst kept) ≡ Words (inst_falls inst) (kept_cells frame flags inst kept) = ap (λ o. elim o [ None ↦ Words (inst_falls inst) (kept_cells frame flags inst kept) | Some space ↦ Asking space ]) none in
      ap (λ x. charge_in x + space_in x) is ∙ empty (kept_cells frame flags inst kept) (sym (ap size_in is) ∙ s)
    where
      empty : (cells : List Cell) → size_in (Words (inst_falls inst) cells) ≡ 0 → charge_of cells + 0 ≡ 0
      empty [] s = refl
      empty (c ∷ cs) s = absurd (omega (arith, s))

  abbrev xs_from : List Item → ℕ → List Element
  xs_from items i = elements_of frame flags (drop i items)

  -- what was found on the way to an item, and what may yet come
  pub record HasPassed (items : List Item) (i places : ℕ) : Type 0 where
    pub room : next_room (elements_of frame flags items) ≡ add_more places (next_room (xs_from items i))
    pub short : places + whole_in (xs_from items i) ≤ whole_in (elements_of frame flags items)

  pub passed_none : (items : List Item) → HasPassed items 0 0
  passed_none items = record { room = none_more (next_room (elements_of frame flags items)); short = omega arith }

  pub passed_all : (items : List Item) (i places : ℕ) → length items ≤ i → HasPassed items i places → next_room (elements_of frame flags items) ≡ None
  passed_all items i places le h = h.room ∙ ap (λ ys. add_more places (next_room (elements_of frame flags ys))) (drop_all i items le)

  module _ (items : List Item) (i places : ℕ) (x : Item) (within : i < length items) (is : x ≡ get_or items i x) (whole : whole_in (elements_of frame flags items) < 2 ^ 31) (h : HasPassed items i places) (size charge : ℕ) (size_is : size ≡ size_in (element_of frame flags x)) (charge_is : charge ≡ charge_in (element_of frame flags x) + space_in (element_of frame flags x)) where
    here : xs_from items i ≡ element_of frame flags x ∷ xs_from items (i + 1)
    here = ap (elements_of frame flags) (drop_more items i x within ∙ ap (λ (y : Item). y ∷ drop (i + 1) items) (sym is))

    split : whole_in (xs_from items i) ≡ size + charge + whole_in (xs_from items (i + 1))
    split = omega (arith, ap whole_in here, sum_by-cons (λ x. growth_in x + space_in x) (element_of frame flags x) (xs_from items (i + 1)), size_is, charge_is)

    pub short_here : places + size + charge < 2 ^ 31
    short_here = omega (arith, split, whole, h.short)

    pub charged_here : size ≢ 0 → 4 ≤ charge
    charged_here ne = omega (arith, charge_is, charged (element_of frame flags x) (λ e. ne (size_is ∙ e)))

    pub found_here : size ≢ 0 → next_room (elements_of frame flags items) ≡ Some (size + charge - 4 + places)
    found_here ne =
        h.room ∙ ap (λ ys. add_more places (next_room ys)) here ∙ ap (add_more places) (found (element_of frame flags x) (xs_from items (i + 1)) (λ e. ne (size_is ∙ e)))
        ∙ ap (λ n. Some n) (omega (arith, size_is, charge_is))

    pub pass_by : size ≡ 0 → charge ≡ 0 → HasPassed items (i + 1) places
    pass_by s e = record {
      room = h.room ∙ ap (λ ys. add_more places (next_room ys)) here ∙ ap (add_more places) (passed_by (element_of frame flags x) (xs_from items (i + 1)) (sym size_is ∙ s) (sym charge_is ∙ e));
      short = omega (arith, split, h.short);
    }

    pub pass_place : size ≡ 0 → charge ≢ 0 → HasPassed items (i + 1) (places + 4)
    pass_place s ne = record {
      room = h.room ∙ ap (λ ys. add_more places (next_room ys)) here ∙ ap (add_more places) (counted (element_of frame flags x) (xs_from items (i + 1)) (sym size_is ∙ s) (λ e. ne (charge_is ∙ e))) ∙ more_again (next_room (xs_from items (i + 1))) places 4;
      short = omega (arith, split, h.short, four (element_of frame flags x) (sym size_is ∙ s) (λ e. ne (charge_is ∙ e)), charge_is);
    }
      where
        four : (x : Element) → size_in x ≡ 0 → charge_in x + space_in x ≢ 0 → 4 ≤ charge_in x + space_in x
        four (Binding label) s ne = absurd (ne refl)
        four (Words goes_on []) s ne = absurd (ne refl)
        four (Words goes_on (c ∷ cs)) s ne = omega arith
        four (Asking space) s ne = omega arith

  -- the numbers of an item that is not too large
  module _ (items : List Item) (i places : ℕ) (x : Item) (within : i < length items) (is : x ≡ get_or items i x) (whole : whole_in (elements_of frame flags items) < 2 ^ 31) (h : HasPassed items i places) (size charge : ℕ) (range : Option ℕ) (e : IsExtent frame flags x size charge range) where
    small : size_in (element_of frame flags x) + (charge_in (element_of frame flags x) + space_in (element_of frame flags x)) < 2 ^ 31
    small = let z = short_here items i places x within is whole h (size_in (element_of frame flags x)) (charge_in (element_of frame flags x) + space_in (element_of frame flags x)) refl refl in omega (arith, z)

    pub size_exact : size ≡ size_in (element_of frame flags x)
    size_exact = omega (arith, e.size_is, small, ap length (cells_same frame flags x))

    pub charge_exact : charge ≡ charge_in (element_of frame flags x) + space_in (element_of frame flags x)
    charge_exact = omega (arith, e.charge_is, small, charge_same x)

  -- the same of one of which a look says what it adds
  module _ (items : List Item) (i places : ℕ) (x : Item) (within : i < length items) (is : x ≡ get_or items i x) (whole : whole_in (elements_of frame flags items) < 2 ^ 31) (h : HasPassed items i places) (light : Light) (e : IsLight (cells_of frame flags x) (growth_of frame flags x) light) (place : asked x ≡ None) where
    growth_split : light.growth ≡ size_in (element_of frame flags x) + (charge_in (element_of frame flags x) + space_in (element_of frame flags x))
    growth_split = omega (arith, e.growth_is, ap length (cells_same frame flags x), charge_same x)

    some : light.growth ≢ 0 → size_in (element_of frame flags x) ≢ 0
    some ne = λ s. ne (omega (arith, growth_split, s, sized x place s))

    pub light_short : places + light.growth < 2 ^ 31
    light_short = let z = short_here items i places x within is whole h (size_in (element_of frame flags x)) (charge_in (element_of frame flags x) + space_in (element_of frame flags x)) refl refl in omega (arith, z, growth_split)

    pub light_four : light.growth ≢ 0 → 4 ≤ light.growth
    light_four ne = let z = charged_here items i places x within is whole h (size_in (element_of frame flags x)) (charge_in (element_of frame flags x) + space_in (element_of frame flags x)) refl refl (some ne) in omega (arith, z, growth_split)

    pub light_found : light.growth ≢ 0 → next_room (elements_of frame flags items) ≡ Some (light.growth - 4 + places)
    light_found ne =
        found_here items i places x within is whole h (size_in (element_of frame flags x)) (charge_in (element_of frame flags x) + space_in (element_of frame flags x)) refl refl (some ne)
        ∙ ap (λ n. Some n) (omega (arith, growth_split))

    pub light_pass : light.growth ≡ 0 → HasPassed items (i + 1) places
    light_pass z = pass_by items i places x within is whole h (size_in (element_of frame flags x)) (charge_in (element_of frame flags x) + space_in (element_of frame flags x)) refl refl (omega (arith, growth_split, z)) (omega (arith, growth_split, z))
