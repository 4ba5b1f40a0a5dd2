use Rattle.std.proofs.Common.{◌∙◌}
use Rattle.a64_cells.specs.Shapes.{probe_forms}
use Rattle.a64_emit.proofs.Quiet.{quiet_short, quiet_fits, quiet_puts}
use Rattle.a64_emit.proofs.sequence.emit_probe.Goals as goal

pub put_words-requires : goal.put_words-requires
put_words-requires c =
    let are = c.as_slice.ensures ∙ c.probe_words.ensures in
    let forms = probe_forms c.args.start c.args.end c.args.step in
    record {
      short = quiet_short c.args.sink.now c.as_slice.result.now forms are c.requires.can;
      fits = quiet_fits c.args.sink.now c.as_slice.result.now forms are c.requires.can;
    }

pub returns : goal.returns
returns c =
    quiet_puts c.args.sink.now c.as_slice.result.now (probe_forms c.args.start c.args.end c.args.step) (c.as_slice.ensures ∙ c.probe_words.ensures)
    c.put_words.result c.put_words.new.sink c.put_words.ensures.ok c.put_words.ensures.err
