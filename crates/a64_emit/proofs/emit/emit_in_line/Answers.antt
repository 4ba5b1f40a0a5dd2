use Rattle.std.proofs.Common.{[], ◌∷◌, None, sym, ◌∙◌}
use Rattle.a64_cells.specs.Cells.{inst_cells}
use Rattle.a64_cells.specs.Words.{put_cell, put_for}
use Rattle.a64_emit.proofs.Emitted.{can_these, all_emitted, part_emitted, one_put, memory_put, sequence_put}
use Rattle.a64_emit.proofs.emit.emit_in_line.Goals as goal

-- ---- one plain word

pub emit_plain-requires : goal.emit_plain-requires
emit_plain-requires g c =
    let a = c.args in
    let word = c.plain_word.result in
    let are = one_put a.frame.now a.info.now a.inst.now word c.plain_word.ensures in
    can_these a.inst.now (inst_cells a.frame.now a.info.now a.inst.now) (put_cell word None None ∷ []) are a.sink.now c.requires.can

pub returns-in-Plain : goal.returns-in-Plain
returns-in-Plain g c =
    let a = c.args in
    let word = c.plain_word.result in
    let own = inst_cells a.frame.now a.info.now a.inst.now in
    let are = one_put a.frame.now a.info.now a.inst.now word c.plain_word.ensures in
    record {
      ok = all_emitted a.inst.now own (put_cell word None None ∷ []) are a.sink.now c.emit_plain.result c.emit_plain.new.sink c.emit_plain.ensures;
      err = part_emitted a.inst.now own (put_cell word None None ∷ []) are a.sink.now c.emit_plain.result c.emit_plain.new.sink c.emit_plain.ensures;
    }

-- ---- a load, a store or an address

pub emit_memory-requires-clause-can : goal.emit_memory-requires-clause-can
emit_memory-requires-clause-can g c =
    let a = c.args in
    let are = memory_put a.frame.now a.info.now a.inst.now (sym c.requires.group ∙ c.in-Memory.is) in
    can_these a.inst.now (inst_cells a.frame.now a.info.now a.inst.now) (put_for a.frame.now a.info.now a.inst.now) are a.sink.now c.requires.can

pub returns-in-Memory : goal.returns-in-Memory
returns-in-Memory g c =
    let a = c.args in
    let own = inst_cells a.frame.now a.info.now a.inst.now in
    let cells = put_for a.frame.now a.info.now a.inst.now in
    let are = memory_put a.frame.now a.info.now a.inst.now (sym c.requires.group ∙ c.in-Memory.is) in
    record {
      ok = all_emitted a.inst.now own cells are a.sink.now c.emit_memory.result c.emit_memory.new.sink c.emit_memory.ensures;
      err = part_emitted a.inst.now own cells are a.sink.now c.emit_memory.result c.emit_memory.new.sink c.emit_memory.ensures;
    }

-- ---- a sequence

pub emit_sequence-requires-clause-can : goal.emit_sequence-requires-clause-can
emit_sequence-requires-clause-can g c =
    let a = c.args in
    let are = sequence_put a.frame.now a.info.now a.inst.now (sym c.requires.group ∙ c.in-Sequence.is) in
    can_these a.inst.now (inst_cells a.frame.now a.info.now a.inst.now) (put_for a.frame.now a.info.now a.inst.now) are a.sink.now c.requires.can

pub returns-in-Sequence : goal.returns-in-Sequence
returns-in-Sequence g c =
    let a = c.args in
    let own = inst_cells a.frame.now a.info.now a.inst.now in
    let cells = put_for a.frame.now a.info.now a.inst.now in
    let are = sequence_put a.frame.now a.info.now a.inst.now (sym c.requires.group ∙ c.in-Sequence.is) in
    record {
      ok = all_emitted a.inst.now own cells are a.sink.now c.emit_sequence.result c.emit_sequence.new.sink c.emit_sequence.ensures;
      err = part_emitted a.inst.now own cells are a.sink.now c.emit_sequence.result c.emit_sequence.new.sink c.emit_sequence.ensures;
    }
