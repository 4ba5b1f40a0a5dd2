use Rattle.std.proofs.Common.{◌∙◌, sym, subst}
use Rattle.std.proofs.lemmas.Option.{IfSome_then}
use Rattle.a64_inst.specs.declared.item.Item.TheVariants.{Emit}
use Rattle.a64_emit.specs.declared.extent.Light.{Light}
use Rattle.a64_emit.specs.Bounds.{growth_of}
use Rattle.a64_cells.specs.Cells.{cells_of}
use Rattle.a64_emit.specs.Lights.{IsLight}
use Rattle.a64_emit.proofs.Asked.{kept_light}
use Rattle.a64_emit.proofs.OneLights.{one_light, one_unasked}
use Rattle.a64_emit.proofs.extent.inst_light.Goals as goal

pub returns-in-Plain-clause-light : goal.returns-in-Plain-clause-light
returns-in-Plain-clause-light c = λ map.
    let frame = c.args.frame.now in
    let flags = c.args.info.now in
    let inst = c.args.inst.now in
    subst (λ (light : Light). IsLight (cells_of frame flags (Emit inst map)) (growth_of frame flags (Emit inst map)) light) (sym c.without_use.ensures)
    (one_light frame flags inst map _ (sym c.requires ∙ c.in-Plain.is))

pub returns-in-Plain-clause-place : goal.returns-in-Plain-clause-place
returns-in-Plain-clause-place c = one_unasked c.args.inst.now _ (sym c.requires ∙ c.in-Plain.is)

pub returns-in-Control-clause-light : goal.returns-in-Control-clause-light
returns-in-Control-clause-light c =
    IfSome_then c.control_light.result c.control_light.ensures (λ light is map. kept_light c.args.frame.now c.args.info.now c.args.inst.now map light is.0 is.1)

pub returns-in-Memory-clause-light : goal.returns-in-Memory-clause-light
returns-in-Memory-clause-light c =
    IfSome_then c.memory_light.result c.memory_light.ensures (λ light is map. kept_light c.args.frame.now c.args.info.now c.args.inst.now map light is.0 is.1)
