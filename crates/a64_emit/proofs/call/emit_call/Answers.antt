use Rattle.std.proofs.Common.{◌≡◌, true, [], ◌∷◌, ◌++◌, map, ap, sym, subst, ◌∙◌}
use Rattle.std.specs.List.{flat_map}
use Rattle.a64_operand.specs.declared.virtuals.VirtualRegisters.TheVariants.{Refused}
use Rattle.a64_inst.specs.CallOperands.{are_call_defs}
use Rattle.a64_cells.specs.Shapes.{plain}
use Rattle.a64_cells.specs.Cells.{keep, pop_forms, result_cells, call_cells}
use Rattle.a64_cells.specs.Words.{as_put, put_kept}
use Rattle.a64_emit.proofs.Behind.{can_before, begun_before, can_behind, puts_behind}
use Rattle.a64_emit.proofs.Called.{called_put}
use Rattle.a64_emit.proofs.call.emit_call.Goals as goal

pub put_call-requires : goal.put_call-requires
put_call-requires g c =
    let a = c.args in
    let call = a.call.now in
    let cells = map as_put (keep a.kept (call_cells a.frame.now a.callee.now call.defs call.callee_pop_size)) in
    let word = c.call_word-word.result in
    let results = map plain (pop_forms call.callee_pop_size) ++ flat_map (result_cells a.frame.now) call.defs in
    let is = called_put a.callee.now a.kept word results c.call_word-word.ensures in
    can_before a.sink.now (put_kept word a.callee.now a.kept ∷ []) (map as_put results) cells is c.requires.can

pub returns-in_err-put_call : goal.returns-in_err-put_call
returns-in_err-put_call g c =
    let a = c.args in
    let call = a.call.now in
    let cells = map as_put (keep a.kept (call_cells a.frame.now a.callee.now call.defs call.callee_pop_size)) in
    let word = c.call_word-word.result in
    let results = map plain (pop_forms call.callee_pop_size) ++ flat_map (result_cells a.frame.now) call.defs in
    let is = called_put a.callee.now a.kept word results c.call_word-word.ensures in
    begun_before a.sink.now (put_kept word a.callee.now a.kept ∷ []) (map as_put results) cells is c.from_residual.result _ c.put_call.new.sink c.from_residual.ensures.1 c.in_err-put_call.ensures.err

pub emit_popped-requires : goal.emit_popped-requires
emit_popped-requires g c =
    let a = c.args in
    let call = a.call.now in
    let cells = map as_put (keep a.kept (call_cells a.frame.now a.callee.now call.defs call.callee_pop_size)) in
    let word = c.call_word-word.result in
    let results = map plain (pop_forms call.callee_pop_size) ++ flat_map (result_cells a.frame.now) c.as_slice-defs.result.now in
    let is =
    called_put a.callee.now a.kept word (map plain (pop_forms call.callee_pop_size) ++ flat_map (result_cells a.frame.now) call.defs) c.call_word-word.ensures
    ∙ ap (λ ds. put_kept word a.callee.now a.kept ∷ map as_put (map plain (pop_forms call.callee_pop_size) ++ flat_map (result_cells a.frame.now) ds)) (sym c.as_slice-defs.ensures)
    in
    record {
      good = subst (λ ds. are_call_defs Refused ds ≡ true) (sym c.as_slice-defs.ensures) c.requires.good;
      pop = c.requires.pop;
      can = can_behind a.sink.now (put_kept word a.callee.now a.kept ∷ []) (map as_put results) cells is c.put_call.new.sink c.in_ok-put_call.ensures.ok c.requires.can;
    }

pub returns : goal.returns
returns g c =
    let a = c.args in
    let call = a.call.now in
    let cells = map as_put (keep a.kept (call_cells a.frame.now a.callee.now call.defs call.callee_pop_size)) in
    let word = c.call_word-word.result in
    let results = map plain (pop_forms call.callee_pop_size) ++ flat_map (result_cells a.frame.now) c.as_slice-defs.result.now in
    let is =
    called_put a.callee.now a.kept word (map plain (pop_forms call.callee_pop_size) ++ flat_map (result_cells a.frame.now) call.defs) c.call_word-word.ensures
    ∙ ap (λ ds. put_kept word a.callee.now a.kept ∷ map as_put (map plain (pop_forms call.callee_pop_size) ++ flat_map (result_cells a.frame.now) ds)) (sym c.as_slice-defs.ensures)
    in
    puts_behind a.sink.now (put_kept word a.callee.now a.kept ∷ []) (map as_put results) cells is c.put_call.new.sink c.in_ok-put_call.ensures.ok c.emit_popped.result c.emit_popped.new.sink c.emit_popped.ensures
