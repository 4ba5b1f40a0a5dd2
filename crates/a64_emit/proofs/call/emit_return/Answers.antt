use Rattle.std.proofs.Common.{◌≡◌, true, [], ◌∷◌, ◌++◌, map, ap, sym, subst, ◌∙◌}
use Rattle.std.specs.List.{list_all}
use Rattle.a64_operand.specs.declared.virtuals.VirtualRegisters.TheVariants.{Refused}
use Rattle.a64_inst.specs.Faults.{can_restore}
use Rattle.a64_cells.specs.Shapes.{plain}
use Rattle.a64_cells.specs.Cells.{restored_cell, leave_forms, return_cell, return_cells}
use Rattle.a64_cells.specs.Words.{as_put}
use Rattle.a64_emit.proofs.Behind.{can_before, begun_before, can_behind, puts_behind}
use Rattle.a64_emit.proofs.Callings.{return_split}
use Rattle.a64_emit.proofs.call.emit_return.Goals as goal

pub emit_restored-requires : goal.emit_restored-requires
emit_restored-requires g c =
    let a = c.args in
    let call = a.call.now in
    let cells = map as_put (return_cells a.frame.now a.info.now a.callee.now call.new_stack_arg_size call.key call.sign_return_address_all) in
    let leave = map plain (leave_forms a.frame.now call.new_stack_arg_size call.key call.sign_return_address_all) ++ return_cell a.callee.now ∷ [] in
    let first = map as_put (map (restored_cell a.frame.now a.info.now) c.as_slice.result.now) in
    let is =
    return_split a.frame.now a.info.now a.callee.now call.new_stack_arg_size call.key call.sign_return_address_all
    ∙ ap (λ insts. map as_put (map (restored_cell a.frame.now a.info.now) insts) ++ map as_put leave) (sym c.as_slice.ensures)
    in
    record {
      good = subst (λ insts. list_all (can_restore a.frame.now a.info.now Refused) insts ≡ true) (sym c.as_slice.ensures) c.requires.restorable;
      can = can_before a.sink.now first (map as_put leave) cells is c.requires.can;
    }

pub returns-in_err-emit_restored : goal.returns-in_err-emit_restored
returns-in_err-emit_restored g c =
    let a = c.args in
    let call = a.call.now in
    let cells = map as_put (return_cells a.frame.now a.info.now a.callee.now call.new_stack_arg_size call.key call.sign_return_address_all) in
    let leave = map plain (leave_forms a.frame.now call.new_stack_arg_size call.key call.sign_return_address_all) ++ return_cell a.callee.now ∷ [] in
    let first = map as_put (map (restored_cell a.frame.now a.info.now) c.as_slice.result.now) in
    let is =
    return_split a.frame.now a.info.now a.callee.now call.new_stack_arg_size call.key call.sign_return_address_all
    ∙ ap (λ insts. map as_put (map (restored_cell a.frame.now a.info.now) insts) ++ map as_put leave) (sym c.as_slice.ensures)
    in
    begun_before a.sink.now first (map as_put leave) cells is c.from_residual.result _ c.emit_restored.new.sink c.from_residual.ensures.1 c.in_err-emit_restored.ensures.err

pub emit_leave-requires : goal.emit_leave-requires
emit_leave-requires g c =
    let a = c.args in
    let call = a.call.now in
    let cells = map as_put (return_cells a.frame.now a.info.now a.callee.now call.new_stack_arg_size call.key call.sign_return_address_all) in
    let leave = map plain (leave_forms a.frame.now call.new_stack_arg_size call.key call.sign_return_address_all) ++ return_cell a.callee.now ∷ [] in
    let first = map as_put (map (restored_cell a.frame.now a.info.now) c.as_slice.result.now) in
    let is =
    return_split a.frame.now a.info.now a.callee.now call.new_stack_arg_size call.key call.sign_return_address_all
    ∙ ap (λ insts. map as_put (map (restored_cell a.frame.now a.info.now) insts) ++ map as_put leave) (sym c.as_slice.ensures)
    in
    record {
      callee = c.requires.callee;
      good = c.requires.good;
      can = can_behind a.sink.now first (map as_put leave) cells is c.emit_restored.new.sink c.in_ok-emit_restored.ensures.ok c.requires.can;
    }

pub returns : goal.returns
returns g c =
    let a = c.args in
    let call = a.call.now in
    let cells = map as_put (return_cells a.frame.now a.info.now a.callee.now call.new_stack_arg_size call.key call.sign_return_address_all) in
    let leave = map plain (leave_forms a.frame.now call.new_stack_arg_size call.key call.sign_return_address_all) ++ return_cell a.callee.now ∷ [] in
    let first = map as_put (map (restored_cell a.frame.now a.info.now) c.as_slice.result.now) in
    let is =
    return_split a.frame.now a.info.now a.callee.now call.new_stack_arg_size call.key call.sign_return_address_all
    ∙ ap (λ insts. map as_put (map (restored_cell a.frame.now a.info.now) insts) ++ map as_put leave) (sym c.as_slice.ensures)
    in
    puts_behind a.sink.now first (map as_put leave) cells is c.emit_restored.new.sink c.in_ok-emit_restored.ensures.ok c.emit_leave.result c.emit_leave.new.sink c.emit_leave.ensures
