use Rattle.std.proofs.Common.{pos, ◌-ℤ◌, length, ap, arith}
use Rattle.std.specs.List.{flat_map}
use Rattle.a64_cells.specs.Cells.{result_cells}
use Rattle.a64_cells.proofs.Adjustments.{call_length, lowered}
use Rattle.a64_emit.proofs.call_extent.calling_count.Goals as goal

pub returns : goal.returns
returns g c = λ callee.
    let frame = c.args.frame.now in
    let call = c.args.call.now in
    omega (arith, call_length frame callee call.defs call.callee_pop_size, c.adjust_count.ensures.count (pos 0 -ℤ pos call.callee_pop_size) (lowered call.callee_pop_size), c.result_counts.ensures.count, ap (λ defs. length (flat_map (result_cells frame) defs)) c.as_slice.ensures)
