use Rattle.std.proofs.Common.{◌≡◌, ◌≤◌, ◌*◌, length, take}
use Rattle.std.specs.List.{flat_map}
use Rattle.a64_cells.specs.Cells.{result_cells}
use Rattle.a64_emit.proofs.call_extent.result_counts.Given as goal

-- the words of the results so far
abbrev pub invariant-loop-pair : goal.invariant-loop-pair
invariant-loop-pair l = (l.count ≡ length (flat_map (result_cells l.frame) (take l.pair-index l.defs))) × (l.count ≤ 5 * l.pair-index)
