use Rattle.std.proofs.Common.{map, ap, sym, subst, ◌∙◌}
use Rattle.a64_emit.specs.Emission.{appended, CanPut, PutsCells}
use Rattle.a64_cells.specs.Words.{as_put}
use Rattle.a64_emit.proofs.Holding.{none_appended}
use Rattle.a64_emit.proofs.Results.{result_known, result_words, result_there, no_result}
use Rattle.a64_emit.proofs.call.emit_result.Goals as goal

pub emit_plain_inst-requires : goal.emit_plain_inst-requires
emit_plain_inst-requires c =
    let a = c.args in
    let load = c.in-Some.load in
    let is = sym c.in-Some.is ∙ c.load_of_result.ensures in
    let known = result_known a.frame.now a.info.now a.pair.now load is c.requires.good c.has_offset.ensures in
    let cells = ap (map as_put) (result_words a.frame.now a.info.now a.pair.now load is known) in
    record {
      other = known.other;
      asked = known.asked;
      can = subst (CanPut a.sink.now) cells c.requires.can;
      good = known.good;
      mode = known.mode;
      there = result_there a.frame.now a.info.now load known a.sink.now.constants;
    }

pub returns-in-Some : goal.returns-in-Some
returns-in-Some c =
    let a = c.args in
    let load = c.in-Some.load in
    let is = sym c.in-Some.is ∙ c.load_of_result.ensures in
    let known = result_known a.frame.now a.info.now a.pair.now load is c.requires.good c.has_offset.ensures in
    let cells = ap (map as_put) (result_words a.frame.now a.info.now a.pair.now load is known) in
    subst (PutsCells c.emit_plain_inst.result a.sink.now c.emit_plain_inst.new.sink) (sym cells) c.emit_plain_inst.ensures

pub returns-in-None : goal.returns-in-None
returns-in-None c =
    let a = c.args in
    record {
      ok = none_appended a.sink.now ∙ ap (λ cells. appended a.sink.now (map as_put cells)) (sym (no_result a.frame.now a.info.now a.pair.now (sym c.in-None.is ∙ c.load_of_result.ensures)));
      err = tt;
    }
