use Rattle.std.proofs.Common.{[], ◌∷◌, Some, sym, subst}
use Rattle.std.specs.Prelude.{IsSomeAnd}
use Rattle.std.specs.FinMap.{get}
use Rattle.std.proofs.lemmas.Result.{on_ok_weaker, on_err_weaker}
use Rattle.a64_buffer.specs.declared.site.Target.{Target}
use Rattle.a64_buffer.specs.declared.site.Target.TheVariants.{Label, Constant, Trap}
use Rattle.a64_buffer.specs.Constants.{IsConstant}
use Rattle.a64_buffer.proofs.Known.{known_of}
use Rattle.a64_cells.specs.Words.{MayBePut, put_cell}
use Rattle.a64_emit.proofs.Fitting.{before_word, failed}
use Rattle.a64_emit.proofs.Lasts.{word_begun, word_put, word_used, use_fits, same_constants}
use Rattle.a64_emit.proofs.emit.put_using.Goals as goal

pub put_trapping-requires : goal.put_trapping-requires
put_trapping-requires c = record { short = c.requires.can.room; fits = before_word c.args.sink.now (put_cell c.args.word (Some c.args.site) c.args.trap) c.requires.can.fits }

pub returns-in_err-put_trapping : goal.returns-in_err-put_trapping
returns-in_err-put_trapping c =
    failed c.from_residual.result _ c.args.sink.now c.put_trapping.new.sink (put_cell c.args.word (Some c.args.site) c.args.trap ∷ []) c.from_residual.ensures.1
    (word_begun c.args.sink.now c.args.word c.args.trap c.put_trapping.new.sink (Some c.args.site) c.in_err-put_trapping.ensures.err)

-- ---- a label

pub use_label_at_offset-requires-clause-fits : goal.use_label_at_offset-requires-clause-fits
use_label_at_offset-requires-clause-fits c =
    use_fits c.args.sink.now c.args.word c.args.trap c.put_trapping.new.sink c.put_trapping.new.sink c.in_ok-put_trapping.ensures.ok c.args.site c.cur_offset-offset.result (Label c.in-Label.label) c.cur_offset-offset.ensures.value c.in-Label.is c.requires.can.fits

pub returns-in-Label : goal.returns-in-Label
returns-in-Label c = record {
  ok =
      on_ok_weaker c.use_label_at_offset.result
      (word_used c.args.sink.now c.args.word c.args.trap c.put_trapping.new.sink c.use_label_at_offset.new.self c.in_ok-put_trapping.ensures.ok c.args.site c.cur_offset-offset.result (Label c.in-Label.label) c.cur_offset-offset.ensures.value c.in-Label.is)
      c.use_label_at_offset.ensures.ok;
  err =
      on_err_weaker c.use_label_at_offset.result
      (word_put c.args.sink.now c.args.word c.args.trap c.put_trapping.new.sink c.use_label_at_offset.new.self c.in_ok-put_trapping.ensures.ok c.args.site)
      c.use_label_at_offset.ensures.err;
}

-- ---- a constant

pub use_constant-requires-clause-urgency : goal.use_constant-requires-clause-urgency
use_constant-requires-clause-urgency c = (subst (λ (t : Target). MayBePut c.args.sink.now.constants (record { kind = c.args.site.kind; target = t })) c.in-Constant.is c.requires.lawful).0

pub use_constant-requires-clause-known : goal.use_constant-requires-clause-known
use_constant-requires-clause-known c =
    let constants = same_constants c.args.sink.now c.args.word c.args.trap c.put_trapping.new.sink c.put_trapping.new.sink c.in_ok-put_trapping.ensures.ok c.args.site in
    let lawful = subst (λ (t : Target). MayBePut c.args.sink.now.constants (record { kind = c.args.site.kind; target = t })) c.in-Constant.is c.requires.lawful in
    subst (λ cs. IsSomeAnd (get cs c.in-Constant.constant.0) IsConstant) (sym constants)
    (known_of (get c.args.sink.now.constants c.in-Constant.constant.0) lawful.1 (c.cur_offset-offset.ensures.constants c.in-Constant.constant.0))

pub use_constant-requires-clause-fits : goal.use_constant-requires-clause-fits
use_constant-requires-clause-fits c =
    use_fits c.args.sink.now c.args.word c.args.trap c.put_trapping.new.sink c.put_trapping.new.sink c.in_ok-put_trapping.ensures.ok c.args.site c.cur_offset-offset.result (Constant c.in-Constant.constant) c.cur_offset-offset.ensures.value c.in-Constant.is c.requires.can.fits

pub returns-in-Constant : goal.returns-in-Constant
returns-in-Constant c = record {
  ok =
      on_ok_weaker c.use_constant.result
      (word_used c.args.sink.now c.args.word c.args.trap c.put_trapping.new.sink c.use_constant.new.self c.in_ok-put_trapping.ensures.ok c.args.site c.cur_offset-offset.result (Constant c.in-Constant.constant) c.cur_offset-offset.ensures.value c.in-Constant.is)
      c.use_constant.ensures.ok;
  err =
      on_err_weaker c.use_constant.result
      (word_put c.args.sink.now c.args.word c.args.trap c.put_trapping.new.sink c.use_constant.new.self c.in_ok-put_trapping.ensures.ok c.args.site)
      c.use_constant.ensures.err;
}

-- ---- a trap

pub defer_trap-requires-clause-urgency : goal.defer_trap-requires-clause-urgency
defer_trap-requires-clause-urgency c = subst (λ (t : Target). MayBePut c.args.sink.now.constants (record { kind = c.args.site.kind; target = t })) c.in-Trap.is c.requires.lawful

pub defer_trap-requires-clause-fits : goal.defer_trap-requires-clause-fits
defer_trap-requires-clause-fits c =
    use_fits c.args.sink.now c.args.word c.args.trap c.put_trapping.new.sink c.put_trapping.new.sink c.in_ok-put_trapping.ensures.ok c.args.site c.cur_offset-offset.result (Trap c.in-Trap.code) c.cur_offset-offset.ensures.value c.in-Trap.is c.requires.can.fits

pub returns-in-Trap : goal.returns-in-Trap
returns-in-Trap c = record {
  ok =
      on_ok_weaker c.defer_trap.result
      (word_used c.args.sink.now c.args.word c.args.trap c.put_trapping.new.sink c.defer_trap.new.self c.in_ok-put_trapping.ensures.ok c.args.site c.cur_offset-offset.result (Trap c.in-Trap.code) c.cur_offset-offset.ensures.value c.in-Trap.is)
      c.defer_trap.ensures.ok;
  err =
      on_err_weaker c.defer_trap.result
      (word_put c.args.sink.now c.args.word c.args.trap c.put_trapping.new.sink c.defer_trap.new.self c.in_ok-put_trapping.ensures.ok c.args.site)
      c.defer_trap.ensures.err;
}
