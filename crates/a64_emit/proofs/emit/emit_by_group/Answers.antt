use Rattle.std.proofs.Common.{sym, ◌∙◌}
use Rattle.std.proofs.lemmas.Result.{on_ok_weaker, on_err_weaker}
use Rattle.a64_operand.specs.declared.virtuals.VirtualRegisters.TheVariants.{Refused}
use Rattle.a64_inst.proofs.Good.{operands_good}
use Rattle.a64_cells.specs.Cells.{kept_cells}
use Rattle.a64_cells.proofs.Accesses.{mode_good, constant_there}
use Rattle.a64_emit.proofs.AsPut.{put_part}
use Rattle.a64_emit.proofs.Emitted.{can_own, can_kept, call_emitted, other_emitted, other_in_part}
use Rattle.a64_emit.proofs.emit.emit_by_group.Goals as goal

-- ---- a call

pub emit_calling-requires : goal.emit_calling-requires
emit_calling-requires c =
    let a = c.args in
    record {
      group = sym c.group.ensures ∙ c.in-Call.is;
      good = operands_good a.frame.now a.info.now a.sink.now.constants Refused a.inst.now c.requires.good;
      can = can_kept a.frame.now a.info.now a.inst.now a.kept a.sink.now c.requires;
    }

pub returns-in-Call : goal.returns-in-Call
returns-in-Call c =
    let a = c.args in
    record {
      ok =
          on_ok_weaker c.emit_calling.result
          (call_emitted a.frame.now a.info.now a.inst.now a.kept a.sink.now c.emit_calling.new.sink (sym c.group.ensures ∙ c.in-Call.is))
          c.emit_calling.ensures.ok;
      err = on_err_weaker c.emit_calling.result (put_part a.sink.now (kept_cells a.frame.now a.info.now a.inst.now a.kept) c.emit_calling.new.sink) c.emit_calling.ensures.err;
    }

-- ---- another instruction

pub emit_in_line-requires : goal.emit_in_line-requires
emit_in_line-requires c =
    let a = c.args in
    record {
      group = c.group.ensures;
      other = λ is. c.in_default.not-Call (c.group.ensures ∙ is);
      can = can_own a.frame.now a.info.now a.inst.now a.kept a.sink.now c.requires;
      island = c.requires.island;
      good = operands_good a.frame.now a.info.now a.sink.now.constants Refused a.inst.now c.requires.good;
      mode = mode_good a.frame.now a.info.now a.sink.now.constants a.inst.now c.requires.good;
      there = constant_there a.frame.now a.info.now a.sink.now.constants a.inst.now c.requires.good;
    }

pub returns-in_default : goal.returns-in_default
returns-in_default c =
    let a = c.args in
    record {
      ok =
          on_ok_weaker c.emit_in_line.result
          (other_emitted a.frame.now a.info.now a.inst.now a.kept a.sink.now c.emit_in_line.new.sink (λ is. c.in_default.not-Call (c.group.ensures ∙ is)))
          c.emit_in_line.ensures.ok;
      err =
          on_err_weaker c.emit_in_line.result
          (other_in_part a.frame.now a.info.now a.inst.now a.kept a.sink.now c.emit_in_line.new.sink (λ is. c.in_default.not-Call (c.group.ensures ∙ is)))
          c.emit_in_line.ensures.err;
    }
