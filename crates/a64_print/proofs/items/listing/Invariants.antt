use Rattle.std.proofs.Common.{◌≡◌, ◌++◌, drop}
use Rattle.std.specs.String.{string_bytes}
use Rattle.std.specs.List.{flat_map}
use Rattle.a64_print.specs.InstTexts.{item_line, listing_of}
use Rattle.a64_print.proofs.items.listing.Given as goal

-- the items that are left make the text whole
abbrev pub invariant-loop-item : goal.invariant-loop-item
invariant-loop-item l = string_bytes l.text ++ flat_map (item_line l.frame) (drop l.item-index l.items) ≡ listing_of l.frame l.items
