use Rattle.std.proofs.Common.{◌≡◌, take, map}
use Rattle.a64_cells.specs.Cells.{restored_cell}
use Rattle.a64_emit.specs.Emission.{appended}
use Rattle.a64_cells.specs.Words.{as_put}
use Rattle.a64_emit.proofs.call.emit_restored.Given as goal

-- the words so far stand at the end
abbrev pub invariant-loop-inst : goal.invariant-loop-inst
invariant-loop-inst l = l.sink ≡ appended l.fn.sink (map as_put (map (restored_cell l.frame l.info) (take l.inst-index l.restore)))
