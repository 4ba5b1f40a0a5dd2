use Rattle.std.proofs.Common.{pos, ◌-ℤ◌, arith}
use Rattle.a64_cells.proofs.Adjustments.{difference, leave_length}
use Rattle.a64_emit.proofs.call_extent.leave_count.Goals as goal

pub returns-clause-count : goal.returns-clause-count
returns-clause-count c =
    let frame = c.args.frame.now in
    let moved = difference frame.tail_args_size c.args.size c.abs_diff.result (λ h. omega (arith, h)) (λ h. omega (arith, h)) in
    omega (arith, leave_length frame c.args.size c.args.key c.args.all, c.frame_count.ensures.count, c.key_count.ensures.count, c.adjust_count.ensures.count (pos frame.tail_args_size -ℤ pos c.args.size) moved)
