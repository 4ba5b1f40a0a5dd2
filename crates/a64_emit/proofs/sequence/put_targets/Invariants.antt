use Rattle.std.proofs.Common.{◌≡◌, ◌*◌, take}
use Rattle.a64_cells.specs.Shapes.{table_cells}
use Rattle.a64_emit.specs.Emission.{appended}
use Rattle.a64_emit.proofs.sequence.put_targets.Given as goal

-- the entries so far stand at the end, and the distance is that of the next
abbrev pub invariant-loop-label : goal.invariant-loop-label
invariant-loop-label l = (l.sink ≡ appended l.fn.sink (table_cells 0 (take l.label-index l.targets))) × (l.distance ≡ 4 * l.label-index)
