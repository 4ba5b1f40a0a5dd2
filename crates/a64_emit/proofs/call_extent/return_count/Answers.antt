use Rattle.std.proofs.Common.{List, length, ap, arith}
use Rattle.a64_inst.specs.declared.inst.Inst.{Inst}
use Rattle.a64_cells.proofs.Adjustments.{return_length}
use Rattle.a64_emit.proofs.call_extent.return_count.Goals as goal

pub returns : goal.returns
returns g c = λ callee.
    let call = c.args.call.now in
    omega (arith, return_length c.args.frame.now c.args._info.now callee call.new_stack_arg_size call.key call.sign_return_address_all, c.leave_count-leave.ensures.count, ap (λ (insts : List Inst). length insts) c.as_slice.ensures)
