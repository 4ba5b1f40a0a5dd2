use Rattle.std.proofs.Common.{◌≡◌, ◌++◌, ◌≤◌, ◌-◌, length, take}
use Rattle.a64_report.specs.Kept.{item_lines}
use Rattle.a64_report.proofs.piece.fill_items.Given as goal

-- the lines of those before the next stand in the text
abbrev pub invariant-loop-index : goal.invariant-loop-index
invariant-loop-index l =
    (length l.text ≡ 65536)
    × (l.at ≤ 65536)
    × (l.from ≤ l.index)
    × (l.index ≤ length l.places)
    × (l.index ≡ l.from → l.at ≡ l.len)
    × (take l.at l.text ++ item_lines l.places l.index ≡ take l.len l.fn.text ++ item_lines l.places l.from)

abbrev pub decreases-loop-index : goal.decreases-loop-index
decreases-loop-index l = length l.places - l.index
