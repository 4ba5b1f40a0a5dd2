use Rattle.std.proofs.Common.{◌≡◌, List, map, ap, sym, ◌∙◌, subst}
use Rattle.a64_base.specs.declared.entity.MachLabel.{MachLabel}
use Rattle.a64_cells.specs.Shapes.{table_jump}
use Rattle.a64_cells.specs.Words.{as_put, put_for}
use Rattle.a64_emit.specs.Emission.{PutsCells}
use Rattle.a64_emit.proofs.sequence.emit_sequence.Goals as goal

pub returns-in-JTSequence : goal.returns-in-JTSequence
returns-in-JTSequence c =
    let a = c.args in
    let j = c.in-JTSequence in
    let same : map as_put (table_jump a.info.now j.default c.as_slice.result.now j.ridx j.rtmp1 j.rtmp2) ≡ put_for a._frame.now a.info.now a.inst.now =
    ap (λ (ts : List MachLabel). map as_put (table_jump a.info.now j.default ts j.ridx j.rtmp1 j.rtmp2)) c.as_slice.ensures ∙ ap (put_for a._frame.now a.info.now) (sym j.is) in
    subst (PutsCells c.emit_table.result a.sink.now c.emit_table.new.sink) same c.emit_table.ensures
