use Rattle.std.proofs.Common.{◌≡◌, sym, subst, ◌∙◌}
use Rattle.a64_inst.specs.declared.item.Item.{Item}
use Rattle.a64_emit.specs.Bounds.{IsExtent}
use Rattle.a64_cells.specs.Cells.{cells_of, inst_cells, kept_by, listed_uses, uses_of}
use Rattle.a64_emit.proofs.Keeping.{keep_uses}
use Rattle.a64_emit.proofs.extent.burden_of.Goals as goal

pub returns-in-Emit-clause-extent : goal.returns-in-Emit-clause-extent
returns-in-Emit-clause-extent c =
    subst (λ (item : Item). IsExtent c.args.frame.now c.args.info.now item c.inst_burden.result.extent.size c.inst_burden.result.extent.charge c.inst_burden.result.extent.range) (sym c.in-Emit.is)
    (c.inst_burden.ensures.extent c.in-Emit.map)

pub returns-in-Emit-clause-uses : goal.returns-in-Emit-clause-uses
returns-in-Emit-clause-uses c =
    let frame = c.args.frame.now in
    let flags = c.args.info.now in
    subst (λ (item : Item). uses_of 0 (cells_of frame flags item) ≡ listed_uses c.inst_burden.result.uses) (sym c.in-Emit.is)
    (keep_uses (kept_by c.in-Emit.inst c.in-Emit.map) 0 (inst_cells frame flags c.in-Emit.inst) ∙ c.inst_burden.ensures.uses)
