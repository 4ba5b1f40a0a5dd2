use Rattle.std.proofs.Common.{◌≡◌, ◌++◌, drop}
use Rattle.std.specs.List.{enumerate_from, flat_map}
use Rattle.std.specs.String.{string_bytes}
use Rattle.a64_role_lines.specs.RoleLines.{item_line, role_listing_of}
use Rattle.a64_role_lines.proofs.listing.role_listing.Given as goal

-- the items that are left make the text whole
abbrev pub invariant-loop-number : goal.invariant-loop-number
invariant-loop-number l =
    string_bytes l.text ++ flat_map item_line (enumerate_from l.number (drop l.number l.items)) ≡ role_listing_of l.items
