use Rattle.std.proofs.Common.{◌∙◌}
use Rattle.a64_cells.specs.ControlForms.{authenticated_ret_forms}
use Rattle.a64_emit.proofs.Quiet.{quiet_short, quiet_fits, quiet_puts}
use Rattle.a64_emit.proofs.emit.emit_authenticated_ret.Goals as goal

pub put_words-requires : goal.put_words-requires
put_words-requires c =
    let are = c.as_slice.ensures.value ∙ c.authenticated_ret_words.ensures in
    let forms = authenticated_ret_forms c.args.key c.args.is_hint in
    record {
      short = quiet_short c.args.sink.now c.as_slice.result.now forms are c.requires;
      fits = quiet_fits c.args.sink.now c.as_slice.result.now forms are c.requires;
    }

pub returns : goal.returns
returns c =
    quiet_puts c.args.sink.now c.as_slice.result.now (authenticated_ret_forms c.args.key c.args.is_hint) (c.as_slice.ensures.value ∙ c.authenticated_ret_words.ensures)
    c.put_words.result c.put_words.new.sink c.put_words.ensures.ok c.put_words.ensures.err
