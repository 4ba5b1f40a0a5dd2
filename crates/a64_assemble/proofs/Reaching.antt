-- No use reaches farther than the whole, and none wants more of islands than its item is charged for.
use Rattle.std.proofs.Common.{ℕ, ◌+◌, ◌*◌, ◌≤◌, Bool, true, false, cond, not, List, [], ◌∷◌, length, take, None, Some, ap, arith}
use Rattle.std.specs.Prelude.{◌&&◌, min, max, count_by, nat_lt, ◌^◌}
use Rattle.std.specs.List.{filter_map, cons_option, list_any}
use Rattle.std.proofs.lemmas.List.Sums.{sum_by-cons, sum_by-take-drop, sum_by-take-le}
use Rattle.a64_inst.specs.declared.emission.EmitFlags.{EmitFlags}
use Rattle.a64_inst.specs.declared.frame.FrameLayout.{FrameLayout}
use Rattle.a64_inst.specs.declared.item.Item.{Item}
use Rattle.a64_buffer.specs.declared.force.ForceVeneers.{ForceVeneers}
use Rattle.a64_buffer.specs.declared.site.Target.{Target}
use Rattle.a64_buffer.specs.declared.site.Target.TheVariants.{Label, Constant, Trap, IslandEnd}
use Rattle.a64_label_use.specs.declared.label_use.LabelUse.{LabelUse}
use Rattle.a64_cells.specs.declared.site.Site.{Site}
use Rattle.a64_label_use.specs.LabelUses.{forward_range, has_veneer}
use Rattle.a64_cells.specs.Cells.{cells_of, sites_of}
use Rattle.a64_emit.specs.Bounds.{veneer_range, item_size, item_charge, growth_of, whole}
use Rattle.a64_emit.specs.Reach.{binds, span, sizes, charges, is_quiet, is_loose, loose, reach}
use Rattle.a64_emit.proofs.Asked.{item_least}
use Rattle.a64_assemble.proofs.Spans.{take_within}

module _ (frame : FrameLayout) (flags : EmitFlags) where
  -- ---- loose uses

  counted : (b : Bool) (n : ℕ) (rest : List ℕ) → cond b 1 0 + length rest ≤ length (n ∷ rest)
  counted true n rest = omega arith
  counted false n rest = omega arith

  -- a use that may still want something has a range that counts
  loose_one : (between : List Item) (t : Target) (kind : LabelUse) (rest : List ℕ) → cond (is_loose frame flags between (record { kind = kind; target = t })) 1 0 + length rest ≤ length (cons_option (veneer_range (record { kind = kind; target = t })) rest)
  loose_one between (Label l) kind rest = go (has_veneer kind) (not (list_any (binds l) between))
    where
      go : (b n : Bool) → cond (b && n) 1 0 + length rest ≤ length (cons_option (cond b (Some (forward_range kind)) None) rest)
      go true n = counted n (forward_range kind) rest
      go false n = omega arith
  loose_one between (Constant n) kind rest = counted (nat_lt (sizes frame flags between) (2 ^ 20)) (forward_range kind) rest
  loose_one between (Trap code) kind rest = counted (nat_lt (sizes frame flags between) (2 ^ 20)) (forward_range kind) rest
  loose_one between IslandEnd kind rest = omega arith

  loose_sites : (between : List Item) (sites : List Site) → count_by (is_loose frame flags between) sites ≤ length (filter_map veneer_range sites)
  loose_sites between [] = omega arith
  loose_sites between (s ∷ ss) = omega (arith, sum_by-cons (λ s. cond (is_loose frame flags between s) 1 0) s ss, loose_one between s.target s.kind (filter_map veneer_range ss), loose_sites between ss)

  -- items are charged for each loose use
  loose_least : (items : List Item) → 28 * loose frame flags items ≤ charges frame flags items
  loose_least [] = omega arith
  loose_least (x ∷ later) = omega (arith, sum_by-cons (item_charge frame flags) x later, loose_sites later (sites_of (cells_of frame flags x)), item_least frame flags x, loose_least later)

  -- ---- the whole

  -- sizes and charges are of it
  charges_within : (items : List Item) → sizes frame flags items + charges frame flags items ≤ whole frame flags items
  charges_within [] = omega arith
  charges_within (x ∷ later) = omega (arith, sum_by-cons (item_size frame flags) x later, sum_by-cons (item_charge frame flags) x later, sum_by-cons (growth_of frame flags) x later, charges_within later)

  half : (b : Bool) (n : ℕ) → cond b 0 n ≤ n
  half true n = omega arith
  half false n = omega arith

  -- no use is farther from its label
  pub reach_within : (force : ForceVeneers) (items : List Item) (i j : ℕ) → reach frame flags force items i j ≤ whole frame flags items
  reach_within force items i j =
      let from = min i j in
      let to = max i j in
      let same = take_within from (to + 1) items (omega arith) in
      omega (
        arith,
        half (is_quiet frame flags force items) (charges frame flags (span items from to) + 28 * loose frame flags (take from items)),
        sum_by-take-drop (item_size frame flags) (take (to + 1) items) from,
        sum_by-take-drop (item_charge frame flags) (take (to + 1) items) from,
        ap (charges frame flags) same,
        sum_by-take-le (item_size frame flags) items (to + 1),
        sum_by-take-le (item_charge frame flags) items (to + 1),
        loose_least (take from items),
        charges_within items,
      )
