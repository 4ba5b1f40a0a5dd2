use Rattle.std.proofs.Common.{sym, subst}
use Rattle.std.specs.Prelude.{IfSome}
use Rattle.std.proofs.lemmas.Option.{IfSome_then}
use Rattle.a64_inst.specs.declared.item.Item.{Item}
use Rattle.a64_emit.specs.Bounds.{growth_of}
use Rattle.a64_cells.specs.Cells.{cells_of}
use Rattle.a64_emit.specs.Lights.{IsLight}
use Rattle.a64_emit.proofs.extent.light_of.Goals as goal

pub returns-in-Emit-clause-light : goal.returns-in-Emit-clause-light
returns-in-Emit-clause-light c =
    let frame = c.args.frame.now in
    let flags = c.args.info.now in
    subst (λ (item : Item). IfSome c.inst_light.result (IsLight (cells_of frame flags item) (growth_of frame flags item))) (sym c.in-Emit.is)
    (IfSome_then c.inst_light.result c.inst_light.ensures.light (λ light is. is c.in-Emit.map))
