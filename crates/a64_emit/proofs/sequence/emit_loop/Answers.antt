use Rattle.std.proofs.Common.{[], ◌∷◌, None, refl}
use Rattle.a64_cells.specs.Words.{put_cell, put_loop, put_rest}
use Rattle.a64_emit.proofs.Behind.{begun_before, can_before, can_behind, puts_behind}
use Rattle.a64_emit.proofs.sequence.emit_loop.Goals as goal

pub emit_last-requires : goal.emit_last-requires
emit_last-requires c =
    let words = c.args.words.now in
    let load = put_cell words.load None words.load_trap ∷ [] in
    record { lawful = tt; can = can_before c.args.sink.now load (put_rest words) (put_loop words) refl c.requires.can }

pub returns-in_err-emit_last : goal.returns-in_err-emit_last
returns-in_err-emit_last c =
    let words = c.args.words.now in
    let load = put_cell words.load None words.load_trap ∷ [] in
    begun_before c.args.sink.now load (put_rest words) (put_loop words) refl c.from_residual.result _ c.emit_last.new.sink c.from_residual.ensures.1 c.in_err-emit_last.ensures.err

pub put_rest-requires : goal.put_rest-requires
put_rest-requires c =
    let words = c.args.words.now in
    let load = put_cell words.load None words.load_trap ∷ [] in
    record { site = c.requires.site; can = can_behind c.args.sink.now load (put_rest words) (put_loop words) refl c.emit_last.new.sink c.in_ok-emit_last.ensures.ok c.requires.can }

pub returns : goal.returns
returns c =
    let words = c.args.words.now in
    let load = put_cell words.load None words.load_trap ∷ [] in
    puts_behind c.args.sink.now load (put_rest words) (put_loop words) refl c.emit_last.new.sink c.in_ok-emit_last.ensures.ok c.put_rest.result c.put_rest.new.sink c.put_rest.ensures
