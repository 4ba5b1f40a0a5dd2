use Rattle.std.proofs.Common.{◌∙◌}
use Rattle.a64_cells.specs.Shapes.{vector_select_forms}
use Rattle.a64_emit.proofs.Quiet.{quiet_short, quiet_fits, quiet_puts}
use Rattle.a64_emit.proofs.sequence.emit_vector_select.Goals as goal

pub put_words-requires : goal.put_words-requires
put_words-requires c =
    let are = c.as_slice.ensures ∙ c.vector_select_words.ensures in
    let forms = vector_select_forms c.args.rd c.args.rn c.args.rm c.args.cond in
    record {
      short = quiet_short c.args.sink.now c.as_slice.result.now forms are c.requires.can;
      fits = quiet_fits c.args.sink.now c.as_slice.result.now forms are c.requires.can;
    }

pub returns : goal.returns
returns c =
    quiet_puts c.args.sink.now c.as_slice.result.now (vector_select_forms c.args.rd c.args.rn c.args.rm c.args.cond) (c.as_slice.ensures ∙ c.vector_select_words.ensures)
    c.put_words.result c.put_words.new.sink c.put_words.ensures.ok c.put_words.ensures.err
