use Rattle.std.proofs.Common.{◌+◌, List, length, sym, ap, ◌∙◌}
use Rattle.a64_base.specs.declared.entity.MachLabel.{MachLabel}
use Rattle.a64_inst.specs.declared.inst.Inst.{Inst}
use Rattle.a64_cells.specs.Shapes.{table_forms}
use Rattle.a64_cells.specs.Cells.{inst_cells}
use Rattle.a64_emit.proofs.TableUses.{table_jump_length}
use Rattle.a64_emit.proofs.extent.sequence_count.Goals as goal

pub returns-in-JTSequence : goal.returns-in-JTSequence
returns-in-JTSequence c =
    let jump = c.in-JTSequence in
    ap (λ n. n + length c.as_slice-targets.result.now + 1) (c.table_start.ensures.start jump.ridx jump.rtmp1 jump.rtmp2)
    ∙ ap (λ (ts : List MachLabel). length (table_forms c.args.info.now (length ts) jump.ridx jump.rtmp1 jump.rtmp2) + length ts + 1) c.as_slice-targets.ensures
    ∙ sym (table_jump_length c.args.info.now jump.default jump.targets jump.ridx jump.rtmp1 jump.rtmp2)
    ∙ ap (λ (inst : Inst). length (inst_cells c.args._frame.now c.args.info.now inst)) (sym jump.is)
