use Rattle.std.proofs.Common.{◌≡◌, ◌+◌, Some, sym, ap, subst, ◌∙◌}
use Rattle.std.proofs.lemmas.Option.{IfSome_then}
use Rattle.a64_inst.specs.declared.access.Access.{Access}
use Rattle.a64_inst.specs.Accesses.{access_of}
use Rattle.a64_emit.specs.Bounds.{charge_of, size_of}
use Rattle.a64_cells.specs.Shapes.{FormOf}
use Rattle.a64_emit.specs.Lights.{IsLight}
use Rattle.a64_cells.specs.MemoryForms.{access_form}
use Rattle.a64_cells.proofs.HeldModes.{held_cells}
use Rattle.a64_emit.proofs.Lights.{access_unasked}
use Rattle.a64_emit.proofs.extent.memory_light.Goals as goal

pub returns-in-Some : goal.returns-in-Some
returns-in-Some c =
    let frame = c.args._frame.now in
    let access : Access = record { op = c.access.inside.op; reg = c.access.inside.reg; mem = c.access.inside.mem.now; flags = c.access.inside.flags } in
    let is : access_of c.args.inst.now ≡ Some access = sym c.access_ref.ensures ∙ (c.in-Some.is ∙ ap (λ (a : Access). Some a) (sym c.access.view_is)) in
    IfSome_then c.mode_light.result c.mode_light.ensures (λ light mode. (
      access_unasked c.args.inst.now access is,
      subst (λ cells. IsLight cells (size_of cells + charge_of cells) light) (sym (held_cells frame access (mode.held frame) c.args._info.now c.args.inst.now is)) (mode.word (FormOf (access_form frame access)) access.flags),
    ))
