use Rattle.std.proofs.Common.{◌/◌, ◌%◌, ◌^◌, [], ◌∷◌}
use Rattle.std.proofs.lemmas.Result.{on_ok_weaker, on_err_weaker}
use Rattle.a64_cells.specs.Shapes.{data_cell}
use Rattle.a64_emit.proofs.Holding.{none_put}
use Rattle.a64_emit.proofs.Lasts.{silent_appended, silent_fits}
use Rattle.a64_emit.proofs.emit.emit_word8.Goals as goal

pub put8-requires : goal.put8-requires
put8-requires c = record { short = c.requires.room; fits = silent_fits c.args.sink.now (c.args.value % 2 ^ 32 ∷ c.args.value / 2 ^ 32 ∷ []) c.requires.fits }

pub returns : goal.returns
returns c = record {
  ok = on_ok_weaker c.put8.result (silent_appended c.args.sink.now c.put8.new.self (c.args.value % 2 ^ 32 ∷ c.args.value / 2 ^ 32 ∷ [])) c.put8.ensures.ok;
  err = on_err_weaker c.put8.result (none_put c.args.sink.now c.put8.new.self (data_cell (c.args.value % 2 ^ 32) ∷ data_cell (c.args.value / 2 ^ 32) ∷ [])) c.put8.ensures.err;
}
