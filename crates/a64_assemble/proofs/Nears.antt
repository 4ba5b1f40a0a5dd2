-- Whether some use of items needs its label near, one item after another.
use Rattle.std.proofs.Common.{ℕ, ◌≡◌, ◌<◌, ◌≤◌, ◌+◌, Bool, true, false, List, ◌∷◌, ◌++◌, length, get_or, take, refl, ap, ◌∙◌}
use Rattle.std.specs.Prelude.{◌||◌}
use Rattle.std.specs.List.{list_any}
use Rattle.std.proofs.lemmas.List.{take_all}
use Rattle.std.proofs.lemmas.List.Elements.{filter_map-append}
use Rattle.std.proofs.lemmas.List.Folds.{list_any-append}
use Rattle.a64_inst.specs.declared.emission.EmitFlags.{EmitFlags}
use Rattle.a64_inst.specs.declared.frame.FrameLayout.{FrameLayout}
use Rattle.a64_inst.specs.declared.item.Item.{Item}
use Rattle.a64_cells.specs.Shapes.{Cell}
use Rattle.a64_cells.specs.Cells.{cells_of, all_cells, sites_of}
use Rattle.a64_emit.specs.Reach.{is_near, has_near}
use Rattle.a64_assemble.proofs.Sizes.{cells_more}

near_append : (xs ys : List Cell) → list_any is_near (sites_of (xs ++ ys)) ≡ (list_any is_near (sites_of xs) || list_any is_near (sites_of ys))
near_append xs ys = ap (list_any is_near) (filter_map-append (λ cell. cell.site) xs ys) ∙ list_any-append is_near (sites_of xs) (sites_of ys)

pub near_cons : (frame : FrameLayout) (flags : EmitFlags) (x : Item) (items : List Item) → has_near frame flags (x ∷ items) ≡ (list_any is_near (sites_of (cells_of frame flags x)) || has_near frame flags items)
near_cons frame flags x items = near_append (cells_of frame flags x) (all_cells frame flags items)

pub near_more : (frame : FrameLayout) (flags : EmitFlags) (items : List Item) (i : ℕ) (d x : Item) → i < length items → get_or items i d ≡ x → has_near frame flags (take (i + 1) items) ≡ (has_near frame flags (take i items) || list_any is_near (sites_of (cells_of frame flags x)))
near_more frame flags items i d x within is = ap (λ cs. list_any is_near (sites_of cs)) (cells_more frame flags items i d x within is) ∙ near_append (all_cells frame flags (take i items)) (cells_of frame flags x)

-- an item without such a use
pub near_skip : (frame : FrameLayout) (flags : EmitFlags) (items : List Item) (i : ℕ) (d x : Item) → i < length items → get_or items i d ≡ x → list_any is_near (sites_of (cells_of frame flags x)) ≡ false → has_near frame flags (take (i + 1) items) ≡ has_near frame flags (take i items)
near_skip frame flags items i d x within is none = near_more frame flags items i d x within is ∙ ap (λ b. has_near frame flags (take i items) || b) none ∙ or_false (has_near frame flags (take i items))
  where
    or_false : (b : Bool) → (b || false) ≡ b
    or_false true = refl
    or_false false = refl

pub near_all_items : (frame : FrameLayout) (flags : EmitFlags) (items : List Item) (i : ℕ) → length items ≤ i → has_near frame flags (take i items) ≡ has_near frame flags items
near_all_items frame flags items i all = ap (has_near frame flags) (take_all i items all)
