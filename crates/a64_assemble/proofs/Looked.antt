-- What is found of items by a look at each, one item after another.
use Rattle.std.proofs.Common.{ℕ, ◌≡◌, ◌⊎◌, ◌+◌, ◌-◌, ◌^◌, ◌<◌, ◌≤◌, List, All, length, get_or, take, drop, option_map, Option, None, Some, Result, Ok, Err, inl, inr, max, refl, sym, ap, subst, ◌∙◌, arith}
use Rattle.std.specs.Prelude.{◌||◌, min, IfSome, IfOk, IfErr, MatchResult}
use Rattle.std.specs.List.{list_any}
use Rattle.std.specs.Option.{option_or, unwrap_or}
use Rattle.std.proofs.lemmas.List.{take_all}
use Rattle.a64_inst.specs.declared.emission.EmitFlags.{EmitFlags}
use Rattle.a64_inst.specs.declared.frame.FrameLayout.{FrameLayout}
use Rattle.a64_inst.specs.declared.item.Item.{Item}
use Rattle.a64_emit.specs.declared.extent.Extent.{Extent}
use Rattle.a64_emit.specs.declared.extent.Light.{Light}
use Rattle.a64_emit.specs.declared.error.EmitError.{EmitError}
use Rattle.a64_emit.specs.declared.error.EmitError.TheVariants.{TooLarge, UnboundLabel}
use Rattle.a64_emit.specs.Bounds.{IsExtent, asked, growth_of, item_charge, item_size, lesser, saturated, shortest, whole}
use Rattle.a64_cells.specs.Cells.{cells_of, sites_of}
use Rattle.a64_emit.specs.Faults.{bindings, or_else, too_large, unbound_use}
use Rattle.a64_emit.specs.Lights.{IsLight}
use Rattle.a64_emit.specs.Reach.{has_near, is_near}
use Rattle.a64_assemble.specs.declared.checks.Totals.{Totals}
use Rattle.a64_assemble.specs.declared.checks.Found.{Found}
use Rattle.a64_assemble.specs.Elements.{BoundsRooms, elements_of}
use Rattle.a64_assemble.specs.Found.{IsFound, IsWidth}
use Rattle.a64_assemble.proofs.Bindings.{missing_end, missing_of}
use Rattle.a64_assemble.proofs.Nears.{near_all_items, near_more, near_skip}
use Rattle.a64_assemble.proofs.Sizes.{not_large, saturated_more, saturated_once, short_at, shortest_more, too_large_at, whole_all, whole_more}
use Rattle.a64_assemble.proofs.Widths.{IsItemWithin, extent_width, found_wide, light_width, within_more}

pub lesser_none : (o : Option ℕ) → lesser o None ≡ o
lesser_none None = refl
lesser_none (Some a) = refl

-- what follows from three facts on what is there
pub from_three : {X : Type 0} {P Q R S : X → Type 0} (o : Option X) → IfSome o P → IfSome o Q → IfSome o R → ((x : X) → P x → Q x → R x → S x) → IfSome o S
from_three None p q r f = p
from_three (Some x) p q r f = f x p q r

module _ (frame : FrameLayout) (flags : EmitFlags) (items : List Item) where
  -- of the first so many items, the sum up to the greatest number, whether a use needs its label near, the shortest
  -- range, and a bound on what each may need
  pub record AreTotals (n size : ℕ) (totals : Totals) : Type 0 where
    pub size_is : size ≡ saturated (whole frame flags (take n items))
    pub near_is : totals.near ≡ has_near frame flags (take n items)
    pub shortest_is : totals.shortest ≡ shortest frame flags (take n items)
    pub usual : 68 ≤ totals.widest
    pub wide : All (IsItemWithin frame flags totals.widest) (take n items)

  module _ (i : ℕ) (x : Item) (within : i < length items) (is : get_or items i x ≡ x) (size now : ℕ) (totals new : Totals) (are : AreTotals i size totals) where
    -- an item that is light
    pub light_more : (light : Light) → IsLight (cells_of frame flags x) (growth_of frame flags x) light → asked x ≡ None → now ≡ saturated (size + light.growth) → new.near ≡ totals.near → new.shortest ≡ lesser totals.shortest light.range → new.widest ≡ max totals.widest light.growth
        → AreTotals (i + 1) now new
    light_more light adds place more near range widest = record {
      size_is =
          more ∙ ap (λ n. saturated (n + light.growth)) are.size_is
          ∙ saturated_once (whole frame flags (take i items)) light.growth
          ∙ ap (λ g. saturated (whole frame flags (take i items) + g)) adds.growth_is
          ∙ ap saturated (sym (whole_more frame flags items i x x within is));
      near_is = near ∙ are.near_is ∙ sym (near_skip frame flags items i x x within is adds.far);
      shortest_is =
          range ∙ ap (λ o. lesser o light.range) are.shortest_is
          ∙ sym (shortest_more frame flags items i x x light.range within is adds.range_is);
      usual = omega (arith, widest, are.usual);
      wide =
          within_more frame flags items i x x totals.widest light.growth new.widest within is are.wide
          (light_width frame flags x light.growth place adds.growth_is)
          (omega (arith, widest)) (omega (arith, widest));
    }

    -- any item
    pub burden_more : (extent : Extent) (width : ℕ) → IsExtent frame flags x extent.size extent.charge extent.range → IsWidth extent width → now ≡ saturated (saturated (size + extent.size) + extent.charge)
        → new.near ≡ (totals.near || list_any is_near (sites_of (cells_of frame flags x))) → new.shortest ≡ lesser totals.shortest extent.range → new.widest ≡ max totals.widest width
        → AreTotals (i + 1) now new
    burden_more extent width e wide more near range widest = record {
      size_is =
          more
          ∙ ap (λ n. saturated (saturated (size + n) + extent.charge)) e.size_is
          ∙ ap (λ n. saturated (saturated (size + saturated (item_size frame flags x)) + n)) e.charge_is
          ∙ ap (λ n. saturated (saturated (n + saturated (item_size frame flags x)) + saturated (item_charge frame flags x + unwrap_or (asked x) 0))) are.size_is
          ∙ saturated_more (whole frame flags (take i items)) (item_size frame flags x) (item_charge frame flags x + unwrap_or (asked x) 0)
          ∙ ap saturated (sym (whole_more frame flags items i x x within is));
      near_is = near ∙ ap (λ b. b || list_any is_near (sites_of (cells_of frame flags x))) are.near_is ∙ sym (near_more frame flags items i x x within is);
      shortest_is =
          range ∙ ap (λ o. lesser o extent.range) are.shortest_is
          ∙ sym (shortest_more frame flags items i x x extent.range within is e.range_is);
      usual = omega (arith, widest, are.usual);
      wide =
          within_more frame flags items i x x totals.widest width new.widest within is are.wide
          (extent_width frame flags x extent.size extent.charge extent.range width e wide.place wide.words)
          (omega (arith, widest)) (omega (arith, widest));
    }

  -- what is found of all items
  pub found_is : (i size : ℕ) (totals : Totals) (result : Result Found EmitError) → length items ≤ i → AreTotals i size totals → option_or totals.missing (missing_of frame flags (bindings items) (drop i items)) ≡ missing_of frame flags (bindings items) items
      → IfOk result (λ found. (totals.missing ≡ None) × (size < 2 ^ 31) × (found.size ≡ size) × (found.shortest ≡ totals.shortest) × (found.near ≡ totals.near) × (found.widest ≡ min totals.widest (2 ^ 32 - 1)))
      → IfErr result (λ error. (option_map UnboundLabel totals.missing ≡ Some error) ⊎ ((totals.missing ≡ None) × (2 ^ 31 ≤ size) × (error ≡ TooLarge)))
      → MatchResult result (IsFound frame flags items) (λ error. or_else (unbound_use frame flags items) (too_large frame flags items) ≡ Some error)
  found_is i size totals (Ok found) all are e ok err =
      let m = sym (missing_end frame flags (bindings items) items i totals.missing all) ∙ e in
      let whole_is = whole_all frame flags items i size all are.size_is in
      let short = short_at frame flags items size whole_is ok.1 in
      record {
        all_bound = ap (option_map UnboundLabel) (sym m ∙ ok.0);
        addressed = not_large frame flags items short;
        short = short;
        size_is = omega (arith, ok.2, whole_is, short);
        shortest_is = ok.3 ∙ are.shortest_is ∙ ap (shortest frame flags) (take_all i items all);
        near_is = ok.4 ∙ are.near_is ∙ near_all_items frame flags items i all;
        wide =
            subst (λ (n : ℕ). BoundsRooms n (elements_of frame flags items)) (sym ok.5)
            (found_wide frame flags items totals.widest (subst (All (IsItemWithin frame flags totals.widest)) (take_all i items all) are.wide) short);
      }
  found_is i size totals (Err error) all are e ok err =
      let m = sym (missing_end frame flags (bindings items) items i totals.missing all) ∙ e in
      elim err [
        | inl missing ↦ ap (λ o. or_else o (too_large frame flags items)) (ap (option_map UnboundLabel) (sym m) ∙ missing)
        | inr large ↦
            ap (λ o. or_else o (too_large frame flags items)) (ap (option_map UnboundLabel) (sym m ∙ large.0))
            ∙ too_large_at frame flags items size (whole_all frame flags items i size all are.size_is) large.1
            ∙ ap (λ (f : EmitError). Some f) (sym large.2)
      ]
