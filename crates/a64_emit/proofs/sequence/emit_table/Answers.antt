use Rattle.std.proofs.Common.{map, ◌∙◌}
use Rattle.a64_cells.specs.Shapes.{table_labels, table_cells, table_jump}
use Rattle.a64_cells.specs.Words.{as_put}
use Rattle.a64_emit.proofs.Behind.{words_short, words_fit, words_begun, can_rest, puts_rest}
use Rattle.a64_emit.proofs.Tables.{table_split}
use Rattle.a64_emit.proofs.sequence.emit_table.Goals as goal

pub put_words-requires : goal.put_words-requires
put_words-requires c =
    let a = c.args in
    let cells = map as_put (table_jump a.info.now a.default a.targets.now a.ridx a.rtmp1 a.rtmp2) in
    let rest = table_cells 0 (table_labels a.default a.targets.now) in
    let is = table_split a.info.now a.default a.targets.now a.ridx a.rtmp1 a.rtmp2 c.as_slice.result.now (c.as_slice.ensures.value ∙ c.table_words-words.ensures) in
    record {
      short = words_short a.sink.now c.as_slice.result.now rest cells is c.requires.can;
      fits = words_fit a.sink.now c.as_slice.result.now rest cells is c.requires.can;
    }

pub returns-in_err-put_words : goal.returns-in_err-put_words
returns-in_err-put_words c =
    let a = c.args in
    let cells = map as_put (table_jump a.info.now a.default a.targets.now a.ridx a.rtmp1 a.rtmp2) in
    let rest = table_cells 0 (table_labels a.default a.targets.now) in
    let is = table_split a.info.now a.default a.targets.now a.ridx a.rtmp1 a.rtmp2 c.as_slice.result.now (c.as_slice.ensures.value ∙ c.table_words-words.ensures) in
    words_begun a.sink.now c.as_slice.result.now rest cells is c.from_residual.result _ c.put_words.new.sink c.from_residual.ensures.1 c.in_err-put_words.ensures.err

pub put_table-requires : goal.put_table-requires
put_table-requires c =
    let a = c.args in
    let cells = map as_put (table_jump a.info.now a.default a.targets.now a.ridx a.rtmp1 a.rtmp2) in
    let rest = table_cells 0 (table_labels a.default a.targets.now) in
    let is = table_split a.info.now a.default a.targets.now a.ridx a.rtmp1 a.rtmp2 c.as_slice.result.now (c.as_slice.ensures.value ∙ c.table_words-words.ensures) in
    can_rest a.sink.now c.as_slice.result.now rest cells is c.put_words.new.sink c.in_ok-put_words.ensures.ok c.requires.can

pub returns : goal.returns
returns c =
    let a = c.args in
    let cells = map as_put (table_jump a.info.now a.default a.targets.now a.ridx a.rtmp1 a.rtmp2) in
    let rest = table_cells 0 (table_labels a.default a.targets.now) in
    let is = table_split a.info.now a.default a.targets.now a.ridx a.rtmp1 a.rtmp2 c.as_slice.result.now (c.as_slice.ensures.value ∙ c.table_words-words.ensures) in
    puts_rest a.sink.now c.as_slice.result.now rest cells is c.put_words.new.sink c.in_ok-put_words.ensures.ok c.put_table.result c.put_table.new.sink c.put_table.ensures
