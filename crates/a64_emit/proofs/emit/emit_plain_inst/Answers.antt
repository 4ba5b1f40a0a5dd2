use Rattle.std.proofs.Common.{ℕ, map, Option, OnOk, subst}
use Rattle.std.specs.Prelude.{IsSome}
use Rattle.a64_cells.specs.Cells.{inst_cells}
use Rattle.a64_emit.specs.Emission.{Puts}
use Rattle.a64_cells.specs.Words.{as_put}
use Rattle.a64_emit.proofs.emit.emit_plain_inst.Goals as goal

pub emit_in_line-requires-clause-island : goal.emit_in_line-requires-clause-island
emit_in_line-requires-clause-island c = λ some. let none = subst (λ (space : Option ℕ). IsSome space) c.requires.asked some in absurd cc

pub returns : goal.returns
returns c =
    let a = c.args in
    record {
      ok = subst (λ (space : Option ℕ). OnOk c.emit_in_line.result (Puts space (map as_put (inst_cells a.frame.now a.info.now a.inst.now)) a.sink.now c.emit_in_line.new.sink)) c.requires.asked c.emit_in_line.ensures.ok;
      err = c.emit_in_line.ensures.err;
    }
