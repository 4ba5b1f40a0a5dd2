use Rattle.std.proofs.Common.{ℕ, [], ◌∷◌, map, Option, None, OnOk, sym, subst, ◌∙◌}
use Rattle.std.proofs.lemmas.Result.{on_err_weaker}
use Rattle.a64_cells.specs.Cells.{inst_cells}
use Rattle.a64_emit.specs.Emission.{Puts}
use Rattle.a64_cells.specs.Words.{as_put, put_cell, put_for}
use Rattle.a64_emit.proofs.Emitted.{can_these, all_emitted, part_emitted, one_put, control_put}
use Rattle.a64_emit.proofs.Holding.{none_put}
use Rattle.a64_emit.proofs.emit.emit_control_inst.Goals as goal

-- ---- one word

pub emit_plain-requires : goal.emit_plain-requires
emit_plain-requires c =
    let a = c.args in
    let word = c.in-Some.word in
    let are = one_put a.frame.now a.info.now a.inst.now word (sym c.in-Some.is ∙ c.only_control_word.ensures) in
    can_these a.inst.now (inst_cells a.frame.now a.info.now a.inst.now) (put_cell word None None ∷ []) are a.sink.now c.requires.can

pub returns-in-Some : goal.returns-in-Some
returns-in-Some c =
    let a = c.args in
    let word = c.in-Some.word in
    let own = inst_cells a.frame.now a.info.now a.inst.now in
    let are = one_put a.frame.now a.info.now a.inst.now word (sym c.in-Some.is ∙ c.only_control_word.ensures) in
    record {
      ok = all_emitted a.inst.now own (put_cell word None None ∷ []) are a.sink.now c.emit_plain.result c.emit_plain.new.sink c.emit_plain.ensures;
      err = part_emitted a.inst.now own (put_cell word None None ∷ []) are a.sink.now c.emit_plain.result c.emit_plain.new.sink c.emit_plain.ensures;
    }

-- ---- a place for an island

pub returns-in-Some-asked_space : goal.returns-in-Some-asked_space
returns-in-Some-asked_space c =
    let a = c.args in
    let cells = map as_put (inst_cells a.frame.now a.info.now a.inst.now) in
    record {
      ok = subst (λ (space : Option ℕ). OnOk c.emit_asked.result (Puts space cells a.sink.now c.emit_asked.new.sink)) (sym c.in-Some-asked_space.is ∙ c.asked_space.ensures) c.emit_asked.ensures.ok;
      err = on_err_weaker c.emit_asked.result (none_put a.sink.now c.emit_asked.new.sink cells) c.emit_asked.ensures.err;
    }

-- ---- other words

pub emit_control-requires-clause-can : goal.emit_control-requires-clause-can
emit_control-requires-clause-can c =
    let a = c.args in
    let are = control_put a.frame.now a.info.now a.inst.now (sym c.in-None.is ∙ c.only_control_word.ensures) (sym c.in-None-asked_space.is ∙ c.asked_space.ensures) in
    can_these a.inst.now (inst_cells a.frame.now a.info.now a.inst.now) (put_for a.frame.now a.info.now a.inst.now) are a.sink.now c.requires.can

pub returns-in-None-asked_space : goal.returns-in-None-asked_space
returns-in-None-asked_space c =
    let a = c.args in
    let own = inst_cells a.frame.now a.info.now a.inst.now in
    let cells = put_for a.frame.now a.info.now a.inst.now in
    let are = control_put a.frame.now a.info.now a.inst.now (sym c.in-None.is ∙ c.only_control_word.ensures) (sym c.in-None-asked_space.is ∙ c.asked_space.ensures) in
    record {
      ok = all_emitted a.inst.now own cells are a.sink.now c.emit_control.result c.emit_control.new.sink c.emit_control.ensures;
      err = part_emitted a.inst.now own cells are a.sink.now c.emit_control.result c.emit_control.new.sink c.emit_control.ensures;
    }
