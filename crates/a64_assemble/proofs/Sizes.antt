-- Sums and least numbers over items, one item after another.
use Rattle.std.proofs.Common.{ℕ, ◌≡◌, ◌+◌, ◌<◌, ◌≤◌, List, [], ◌∷◌, ◌++◌, length, get_or, take, ◌^◌, cond, Option, None, Some, refl, sym, ap, ◌∙◌, arith}
use Rattle.std.specs.List.{filter_map}
use Rattle.std.proofs.lemmas.Bool.{le-leb, lt-leb}
use Rattle.std.proofs.lemmas.List.{take_more, append-nil, take_all}
use Rattle.std.proofs.lemmas.List.Elements.{filter_map-append}
use Rattle.std.proofs.lemmas.List.Concat.{flat_map-append}
use Rattle.std.proofs.lemmas.List.Sums.{sum_by_more}
use Rattle.a64_inst.specs.declared.emission.EmitFlags.{EmitFlags}
use Rattle.a64_inst.specs.declared.frame.FrameLayout.{FrameLayout}
use Rattle.a64_inst.specs.declared.item.Item.{Item}
use Rattle.a64_cells.specs.Shapes.{Cell}
use Rattle.a64_cells.specs.Cells.{sites_of, cells_of, all_cells}
use Rattle.a64_emit.specs.declared.error.EmitError.TheVariants.{TooLarge}
use Rattle.a64_emit.specs.Faults.{too_large}
use Rattle.a64_emit.specs.Bounds.{veneer_range, ranges_in, lesser, least, growth_of, whole, shortest, saturated}

lesser_assoc : (a b c : Option ℕ) → lesser (lesser a b) c ≡ lesser a (lesser b c)
lesser_assoc None b c = refl
lesser_assoc (Some a) None c = refl
lesser_assoc (Some a) (Some b) None = refl
lesser_assoc (Some a) (Some b) (Some c) = ap (λ n. Some n) (omega arith)

pub least-append : (xs ys : List ℕ) → least (xs ++ ys) ≡ lesser (least xs) (least ys)
least-append [] ys = refl
least-append (x ∷ xs) ys = ap (lesser (Some x)) (least-append xs ys) ∙ sym (lesser_assoc (Some x) (least xs) (least ys))

pub ranges_in-append : (xs ys : List Cell) → ranges_in (xs ++ ys) ≡ ranges_in xs ++ ranges_in ys
ranges_in-append xs ys = ap (filter_map veneer_range) (filter_map-append (λ cell. cell.site) xs ys) ∙ filter_map-append veneer_range (sites_of xs) (sites_of ys)

module _ (frame : FrameLayout) (flags : EmitFlags) where
  -- the cells of one more item
  pub cells_more : (items : List Item) (i : ℕ) (d x : Item) → i < length items → get_or items i d ≡ x → all_cells frame flags (take (i + 1) items) ≡ all_cells frame flags (take i items) ++ cells_of frame flags x
  cells_more items i d x within is =
      ap (all_cells frame flags) (take_more items i d within) ∙ flat_map-append (cells_of frame flags) (take i items) (get_or items i d ∷ [])
      ∙ ap (λ (y : Item). all_cells frame flags (take i items) ++ all_cells frame flags (y ∷ [])) is
      ∙ ap (λ cs. all_cells frame flags (take i items) ++ cs) (append-nil (cells_of frame flags x))

  pub shortest_more : (items : List Item) (i : ℕ) (d x : Item) (range : Option ℕ) → i < length items → get_or items i d ≡ x → range ≡ least (ranges_in (cells_of frame flags x)) → shortest frame flags (take (i + 1) items) ≡ lesser (shortest frame flags (take i items)) range
  shortest_more items i d x range within is e =
      ap (λ cs. least (ranges_in cs)) (cells_more items i d x within is)
      ∙ ap least (ranges_in-append (all_cells frame flags (take i items)) (cells_of frame flags x))
      ∙ least-append (ranges_in (all_cells frame flags (take i items))) (ranges_in (cells_of frame flags x))
      ∙ ap (lesser (shortest frame flags (take i items))) (sym e)

  pub whole_more : (items : List Item) (i : ℕ) (d x : Item) → i < length items → get_or items i d ≡ x → whole frame flags (take (i + 1) items) ≡ whole frame flags (take i items) + growth_of frame flags x
  whole_more items i d x within is = sum_by_more (growth_of frame flags) items i d within ∙ ap (λ y. whole frame flags (take i items) + growth_of frame flags y) is

  -- at the end of the items, the sums are those of all
  pub whole_all : (items : List Item) (i n : ℕ) → length items ≤ i → n ≡ saturated (whole frame flags (take i items)) → n ≡ saturated (whole frame flags items)
  whole_all items i n all w = w ∙ ap (λ xs. saturated (whole frame flags xs)) (take_all i items all)

  pub too_large_at : (items : List Item) (n : ℕ) → n ≡ saturated (whole frame flags items) → 2 ^ 31 ≤ n → too_large frame flags items ≡ Some TooLarge
  too_large_at items n is large = ap (λ b. cond b (Some TooLarge) None) (le-leb (2 ^ 31) (whole frame flags items) (omega (arith, is, large)))

  pub short_at : (items : List Item) (n : ℕ) → n ≡ saturated (whole frame flags items) → n < 2 ^ 31 → whole frame flags items < 2 ^ 31
  short_at items n is small = omega (arith, is, small)

  pub not_large : (items : List Item) → whole frame flags items < 2 ^ 31 → too_large frame flags items ≡ None
  not_large items small = ap (λ b. cond b (Some TooLarge) None) (lt-leb (2 ^ 31) (whole frame flags items) small)

-- sums that stand at the greatest number, by one more
pub saturated_more : (w size charge : ℕ) → saturated (saturated (saturated w + saturated size) + saturated charge) ≡ saturated (w + (size + charge))
saturated_more w size charge = omega arith

pub saturated_once : (w growth : ℕ) → saturated (saturated w + growth) ≡ saturated (w + growth)
saturated_once w growth = omega arith

-- nothing more leaves a sum that stops at the greatest number as it was
pub saturated_none : (size w : ℕ) → size ≡ saturated w → size ≡ saturated (size + 0)
saturated_none size w e = omega (arith, e)
