use Rattle.std.proofs.Common.{◌≡◌, take, map}
use Rattle.std.specs.List.{flat_map}
use Rattle.a64_cells.specs.Cells.{result_cells}
use Rattle.a64_emit.specs.Emission.{appended}
use Rattle.a64_cells.specs.Words.{as_put}
use Rattle.a64_emit.proofs.call.emit_results.Given as goal

-- the loads so far stand at the end
abbrev pub invariant-loop-pair : goal.invariant-loop-pair
invariant-loop-pair l = l.sink ≡ appended l.fn.sink (map as_put (flat_map (result_cells l.frame) (take l.pair-index l.defs)))
