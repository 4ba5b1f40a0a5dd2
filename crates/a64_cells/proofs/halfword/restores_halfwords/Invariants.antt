use Rattle.std.proofs.Common.{take}
use Rattle.std.specs.Prelude.{All}
use Rattle.a64_cells.specs.FormCells.{HasHalfword}
use Rattle.a64_cells.proofs.halfword.restores_halfwords.Given as goal

-- those before this one
abbrev pub invariant-loop-inst : goal.invariant-loop-inst
invariant-loop-inst l = All HasHalfword (take l.inst-index l.inst-items)
