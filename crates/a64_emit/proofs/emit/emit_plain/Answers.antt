use Rattle.std.proofs.Common.{[], ◌∷◌, None}
use Rattle.std.proofs.lemmas.Result.{on_ok_weaker, on_err_weaker}
use Rattle.a64_cells.specs.Words.{put_cell}
use Rattle.a64_emit.proofs.Fitting.{before_word}
use Rattle.a64_emit.proofs.Holding.{none_put}
use Rattle.a64_emit.proofs.Lasts.{silent_appended}
use Rattle.a64_emit.proofs.emit.emit_plain.Goals as goal

pub put4-requires : goal.put4-requires
put4-requires c = record { short = c.requires.room; fits = before_word c.args.sink.now (put_cell c.args.word None None) c.requires.fits }

pub returns : goal.returns
returns c = record {
  ok = on_ok_weaker c.put4.result (silent_appended c.args.sink.now c.put4.new.self (c.args.word ∷ [])) c.put4.ensures.ok;
  err = on_err_weaker c.put4.result (none_put c.args.sink.now c.put4.new.self (put_cell c.args.word None None ∷ [])) c.put4.ensures.err;
}
