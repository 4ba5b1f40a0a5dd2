use Rattle.std.proofs.Common.{refl, rules}
use Rattle.std.proofs.lemmas.Result.{err_from_is_err_and}
use Rattle.a64_assembler.proofs.MadeRooms.{emit_cause}
use Rattle.a64_assembler.proofs.emitter.Emitter.emit.Goals as goal

pub returns-in_err-make_room : goal.returns-in_err-make_room
returns-in_err-make_room c =
    let p = err_from_is_err_and c.from_residual-in_err-make_room.result c.from_residual-in_err-make_room.ensures.1 in
    rw (p.1, p.2, ← c.self.view_is) (record {
      ok = tt;
      cause = emit_cause c.args.inst.now _ _ _ (search (rules, c.in_ok-check.ensures.ok, c.constant_size-size.ensures)) c.in_err-make_room.ensures.cause c.in_err-make_room.ensures.made refl;
    })

pub returns-in_err-emit : goal.returns-in_err-emit
returns-in_err-emit c =
    let p = err_from_is_err_and c.from_residual-in_err-emit.result c.from_residual-in_err-emit.ensures.1 in
    rw (p.1, p.2, ← c.self.view_is) (record {
      ok = tt;
      cause = search (rules, c.in_ok-check.ensures.ok, c.constant_size-size.ensures);
    })

pub returns : goal.returns
returns c = rw (← c.self.view_is) (record {
  ok = record {
    between = c.make_room.new.buffer;
    made = c.in_ok-make_room.ensures.made;
    room = c.in_ok-make_room.ensures.room;
    emits = c.in_ok-emit.ensures.ok;
    rest = search (rules, c.in_ok-emit.ensures.state);
  };
  cause = tt;
})
