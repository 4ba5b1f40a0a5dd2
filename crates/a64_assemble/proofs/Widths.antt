-- A bound on what the next words need behind any item.
use Rattle.std.proofs.Common.{ℕ, ◌≡◌, ◌≢◌, ◌+◌, ◌-◌, ◌^◌, ◌<◌, ◌≤◌, List, [], ◌∷◌, All, false, length, get_or, take, drop, Option, None, refl, sym, ap, subst, arith}
use Rattle.std.specs.Prelude.{min}
use Rattle.std.specs.Option.{unwrap_or}
use Rattle.std.proofs.lemmas.Bool.{false≢true}
use Rattle.std.proofs.lemmas.List.Elements.{All-drop, All-map, All-more, All-tail}
use Rattle.std.proofs.lemmas.List.Sums.{sum_by-cons, sum_by-take-drop}
use Rattle.a64_inst.specs.declared.emission.EmitFlags.{EmitFlags}
use Rattle.a64_inst.specs.declared.frame.FrameLayout.{FrameLayout}
use Rattle.a64_inst.specs.declared.item.Item.{Item}
use Rattle.a64_inst.specs.declared.item.Item.TheVariants.{Bind, Emit}
use Rattle.a64_emit.specs.Bounds.{IsExtent, asked, charge_of, growth_of, saturated, size_of, whole}
use Rattle.a64_cells.specs.Shapes.{Cell}
use Rattle.a64_assemble.specs.Elements.{Element, Binding, Words, Asking, BoundsRooms, charge_in, element_of, elements_of, growth_in, is_asking, next_room, room_of, size_in, space_in, whole_in, words_room}
use Rattle.a64_assemble.proofs.Itemized.{cells_same, grows_same, whole_same}
use Rattle.a64_assemble.proofs.NextRooms.{charge_same}
use Rattle.a64_assemble.proofs.Quiet.{room_le}
use Rattle.a64_assemble.proofs.Stepped.{words_element}

-- what an element may need in front of what follows, and a jump more; a place for an island adds to what
-- follows, and is as wide as can be
abbrev pub width_in : Element → ℕ
width_in (Binding label) = 0
width_in (Words goes_on cells) = min (growth_in (Words goes_on cells)) (2 ^ 32 - 1)
width_in (Asking space) = 2 ^ 32 - 1

abbrev pub IsWithin : ℕ → Element → Type 0
IsWithin widest x = width_in x ≤ widest

-- ---- elements

words_within : (cells : List Cell) (o : Option ℕ) (n : ℕ) → unwrap_or o 0 ≤ n → size_of cells + charge_of cells ≤ n → unwrap_or (words_room cells o) 0 ≤ n
words_within [] o n h e = h
words_within (c ∷ cs) o n h e = omega (arith, e)

room_within : (widest : ℕ) (xs : List Element) → All (IsWithin widest) xs → whole_in xs < 2 ^ 31 → room_of xs ≤ widest
room_within widest [] all short = omega arith
room_within widest (Binding label ∷ xs) all short =
    room_within widest xs (All-tail (IsWithin widest) (Binding label) xs all) (omega (arith, short, sum_by-cons (λ x. growth_in x + space_in x) (Binding label) xs))
room_within widest (Words goes_on cells ∷ xs) all short =
    let more = sum_by-cons (λ x. growth_in x + space_in x) (Words goes_on cells) xs in
    let here = all 0 (Words goes_on cells) (omega arith) in
    words_within cells (next_room xs) widest (room_within widest xs (All-tail (IsWithin widest) (Words goes_on cells) xs all) (omega (arith, short, more))) (omega (arith, short, more, here))
room_within widest (Asking space ∷ xs) all short =
    let here = all 0 (Asking space) (omega arith) in
    omega (arith, short, here, room_le (Asking space ∷ xs))

pub bounds_rooms : (widest : ℕ) (xs : List Element) → All (IsWithin widest) xs → whole_in xs < 2 ^ 31 → BoundsRooms (min widest (2 ^ 32 - 1)) xs
bounds_rooms widest xs all short k =
    let rest = sum_by-take-drop (λ x. growth_in x + space_in x) xs k in
    let within = room_within widest (drop k xs) (All-drop (IsWithin widest) k xs all) (omega (arith, short, rest)) in
    omega (arith, short, rest, within, room_le (drop k xs))

-- ---- one element

light_within : (x : Element) → is_asking x ≡ false → width_in x ≤ growth_in x + space_in x
light_within (Binding label) e = omega arith
light_within (Words goes_on cells) e = omega arith
light_within (Asking space) e = absurd (false≢true (sym e))

extent_within : (x : Element) (size charge width : ℕ) → size ≡ saturated (size_in x) → charge ≡ saturated (charge_in x + space_in x) → (size ≡ 0 → charge ≢ 0 → width ≡ 2 ^ 32 - 1) → ((size ≡ 0 → charge ≡ 0) → width ≡ saturated (size + charge)) → width_in x ≤ width
extent_within (Binding label) size charge width s g place words = omega arith
extent_within (Words goes_on []) size charge width s g place words = omega arith
extent_within (Words goes_on (c ∷ cs)) size charge width s g place words =
    let is = words (λ z. absurd (let e : ⊥ = omega (arith, s, z) in e)) in
    omega (arith, s, g, is)
extent_within (Asking space) size charge width s g place words =
    let is = place (omega (arith, s)) (λ z. omega (arith, g, z)) in
    omega (arith, is)

-- ---- items

module _ (frame : FrameLayout) (flags : EmitFlags) where
  abbrev pub IsItemWithin : ℕ → Item → Type 0
  IsItemWithin widest x = IsWithin widest (element_of frame flags x)

  not_asking : (x : Item) → asked x ≡ None → is_asking (element_of frame flags x) ≡ false
  not_asking (Bind label) none = refl
  not_asking (Emit inst kept) none = ap is_asking (words_element frame flags inst kept none)

  -- an item of which a look says what it adds
  pub light_width : (x : Item) (growth : ℕ) → asked x ≡ None → growth ≡ growth_of frame flags x → IsItemWithin growth x
  light_width x growth none is = omega (arith, is, grows_same frame flags x, light_within (element_of frame flags x) (not_asking x none))

  -- any item
  pub extent_width : (x : Item) (size charge : ℕ) (range : Option ℕ) (width : ℕ) → IsExtent frame flags x size charge range → (size ≡ 0 → charge ≢ 0 → width ≡ 2 ^ 32 - 1) → ((size ≡ 0 → charge ≡ 0) → width ≡ saturated (size + charge)) → IsItemWithin width x
  extent_width x size charge range width e place words =
      extent_within (element_of frame flags x) size charge width
      (omega (arith, e.size_is, ap length (cells_same frame flags x)))
      (omega (arith, e.charge_is, charge_same frame flags x))
      place words

  -- the items so far, and one more
  pub within_more : (items : List Item) (i : ℕ) (d x : Item) (widest width more : ℕ) → i < length items → get_or items i d ≡ x → All (IsItemWithin widest) (take i items) → IsItemWithin width x → widest ≤ more → width ≤ more → All (IsItemWithin more) (take (i + 1) items)
  within_more items i d x widest width more within is all here le wide =
      All-more (IsItemWithin more) items i d within
      (λ k e w. let z = all k e w in omega (arith, z, le))
      (subst (IsItemWithin more) (sym is) (omega (arith, here, wide)))

  -- all of them
  pub found_wide : (items : List Item) (widest : ℕ) → All (IsItemWithin widest) items → whole frame flags items < 2 ^ 31 → BoundsRooms (min widest (2 ^ 32 - 1)) (elements_of frame flags items)
  found_wide items widest all short =
      bounds_rooms widest (elements_of frame flags items) (All-map (IsWithin widest) (element_of frame flags) items all)
      (omega (arith, short, whole_same frame flags items))
