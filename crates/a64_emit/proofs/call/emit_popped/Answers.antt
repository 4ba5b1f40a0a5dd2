use Rattle.std.proofs.Common.{◌++◌, map, ◌∙◌}
use Rattle.std.specs.List.{flat_map}
use Rattle.a64_cells.specs.Shapes.{plain}
use Rattle.a64_cells.specs.Cells.{pop_forms, result_cells}
use Rattle.a64_cells.specs.Words.{as_put}
use Rattle.a64_emit.proofs.Behind.{words_put, words_short, words_fit, words_begun, can_rest, puts_rest}
use Rattle.a64_emit.proofs.call.emit_popped.Goals as goal

pub put_words-requires : goal.put_words-requires
put_words-requires c =
    let results = flat_map (result_cells c.args.frame.now) c.args.defs.now in
    let cells = map as_put (map plain (pop_forms c.args.pop) ++ results) in
    let is = words_put c.as_slice.result.now (pop_forms c.args.pop) results (c.as_slice.ensures.value ∙ c.pop_words.ensures.words) in
    record {
      short = words_short c.args.sink.now c.as_slice.result.now (map as_put results) cells is c.requires.can;
      fits = words_fit c.args.sink.now c.as_slice.result.now (map as_put results) cells is c.requires.can;
    }

pub returns-in_err-put_words : goal.returns-in_err-put_words
returns-in_err-put_words c =
    let results = flat_map (result_cells c.args.frame.now) c.args.defs.now in
    let cells = map as_put (map plain (pop_forms c.args.pop) ++ results) in
    let is = words_put c.as_slice.result.now (pop_forms c.args.pop) results (c.as_slice.ensures.value ∙ c.pop_words.ensures.words) in
    words_begun c.args.sink.now c.as_slice.result.now (map as_put results) cells is c.from_residual.result _ c.put_words.new.sink c.from_residual.ensures.1 c.in_err-put_words.ensures.err

pub emit_results-requires : goal.emit_results-requires
emit_results-requires c =
    let results = flat_map (result_cells c.args.frame.now) c.args.defs.now in
    let cells = map as_put (map plain (pop_forms c.args.pop) ++ results) in
    let is = words_put c.as_slice.result.now (pop_forms c.args.pop) results (c.as_slice.ensures.value ∙ c.pop_words.ensures.words) in
    record {
      good = c.requires.good;
      can = can_rest c.args.sink.now c.as_slice.result.now (map as_put results) cells is c.put_words.new.sink c.in_ok-put_words.ensures.ok c.requires.can;
    }

pub returns : goal.returns
returns c =
    let results = flat_map (result_cells c.args.frame.now) c.args.defs.now in
    let cells = map as_put (map plain (pop_forms c.args.pop) ++ results) in
    let is = words_put c.as_slice.result.now (pop_forms c.args.pop) results (c.as_slice.ensures.value ∙ c.pop_words.ensures.words) in
    puts_rest c.args.sink.now c.as_slice.result.now (map as_put results) cells is c.put_words.new.sink c.in_ok-put_words.ensures.ok c.emit_results.result c.emit_results.new.sink c.emit_results.ensures
