use Rattle.std.proofs.Common.{◌∙◌, length, sym, ap}
use Rattle.a64_inst.specs.declared.inst.Inst.{Inst}
use Rattle.a64_cells.specs.Shapes.{table_forms, table_labels}
use Rattle.a64_cells.specs.Cells.{inst_uses, table_uses}
use Rattle.a64_emit.proofs.TableUses.{table_jump_uses}
use Rattle.a64_emit.proofs.uses.sequence_uses.Goals as goal

pub returns-in-JTSequence : goal.returns-in-JTSequence
returns-in-JTSequence c =
    let jump = c.in-JTSequence in
    let labels = table_labels jump.default jump.targets in
    ap (λ (inst : Inst). inst_uses c.args._frame.now c.args.info.now inst) jump.is
    ∙ table_jump_uses c.args.info.now jump.default jump.targets jump.ridx jump.rtmp1 jump.rtmp2
    ∙ ap (λ n. table_uses (length (table_forms c.args.info.now n jump.ridx jump.rtmp1 jump.rtmp2)) labels) (sym c.len.ensures)
    ∙ ap (λ n. table_uses n labels) (sym (c.table_start.ensures.start jump.ridx jump.rtmp1 jump.rtmp2))
    ∙ ap (λ ls. table_uses c.table_start.result (table_labels jump.default ls)) (sym c.as_slice.ensures)
