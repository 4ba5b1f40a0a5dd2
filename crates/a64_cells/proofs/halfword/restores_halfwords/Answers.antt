use Rattle.std.proofs.Common.{List, ◌∙◌, subst, arith}
use Rattle.std.specs.Prelude.{All}
use Rattle.std.proofs.lemmas.List.{take_all}
use Rattle.std.proofs.lemmas.List.Elements.{All-more}
use Rattle.a64_inst.specs.declared.inst.Inst.{Inst}
use Rattle.a64_cells.specs.FormCells.{HasHalfword}
use Rattle.a64_cells.proofs.halfword.restores_halfwords.Goals as goal

pub loop-inst-preserved : goal.loop-inst-preserved
loop-inst-preserved c =
    All-more HasHalfword c.as_slice-inst-items.result.now c.loop-inst.inst-index c.inst-item.result c.loop-inst-test.true c.loop-inst.invariant (subst HasHalfword c.inst-item.is c.has_halfword.ensures)

pub returns : goal.returns
returns c =
    subst (λ (insts : List Inst). All HasHalfword insts) (take_all c.loop-inst.inst-index c.as_slice-inst-items.result.now (omega arith) ∙ c.as_slice-inst-items.ensures) c.loop-inst.invariant
