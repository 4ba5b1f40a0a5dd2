use Rattle.std.proofs.lemmas.Result.{on_ok_weaker, on_err_weaker}
use Rattle.std.proofs.Common.{◌≡◌, [], ◌∷◌, Option, sym, subst}
use Rattle.a64_cells.specs.declared.site.Site.{Site}
use Rattle.a64_emit.specs.Emission.{appended, CanPut, PutsCells}
use Rattle.a64_cells.specs.Words.{MayBePut, put_cell}
use Rattle.std.specs.Prelude.{IfSome}
use Rattle.a64_emit.proofs.Fitting.{before_word}
use Rattle.a64_emit.proofs.Lasts.{word_begun, word_done}
use Rattle.a64_emit.proofs.emit.emit_last.Goals as goal

pub put_using-requires : goal.put_using-requires
put_using-requires c = record {
  lawful = subst (λ (s : Option Site). IfSome s (MayBePut c.args.sink.now.constants)) c.in-Some.is c.requires.lawful;
  can = subst (λ (s : Option Site). CanPut c.args.sink.now (put_cell c.args.word s c.args.trap ∷ [])) c.in-Some.is c.requires.can;
}

pub returns-in-Some : goal.returns-in-Some
returns-in-Some c = subst (λ (s : Option Site). PutsCells c.put_using.result c.args.sink.now c.put_using.new.sink (put_cell c.args.word s c.args.trap ∷ [])) (sym c.in-Some.is) c.put_using.ensures

pub put_trapping-requires : goal.put_trapping-requires
put_trapping-requires c = record { short = c.requires.can.room; fits = before_word c.args.sink.now (put_cell c.args.word c.args.site c.args.trap) c.requires.can.fits }

pub returns-in-None : goal.returns-in-None
returns-in-None c = record {
  ok =
      on_ok_weaker c.put_trapping.result
      (λ e. subst (λ (s : Option Site). c.put_trapping.new.sink ≡ appended c.args.sink.now (put_cell c.args.word s c.args.trap ∷ [])) (sym c.in-None.is) (word_done c.args.sink.now c.args.word c.args.trap c.put_trapping.new.sink e))
      c.put_trapping.ensures.ok;
  err = on_err_weaker c.put_trapping.result (word_begun c.args.sink.now c.args.word c.args.trap c.put_trapping.new.sink c.args.site) c.put_trapping.ensures.err;
}
