use Rattle.std.proofs.Common.{◌<◌, length, arith, length-set}
use Rattle.a64_assembler.proofs.Marks.{one_bound}
use Rattle.a64_assembler.proofs.emitter.Emitter.bind.Goals as goal

pub invariant_of-self-2 : goal.invariant_of-self-2
invariant_of-self-2 c =
    let within : c.args.label.0 < length c.self.inside.bound.items = omega arith in
    rw c.in_ok-bind_label.ensures.ok (
      c.self.invariant.0,
      one_bound c.self.inside.bound.items c.self.inside.buffer.labels c.args.label.0 _ within c.self.invariant.1,
      rw length-set c.self.invariant.2,
    )
