use Rattle.std.proofs.Common.{◌≡◌, ◌+◌, ◌≤◌, ◌++◌, length, map}
use Rattle.std.specs.Vec.{vec_len, vec_capacity}
use Rattle.a64_assembler.specs.Assembly.{emitted}
use Rattle.a64_assembler.proofs.assembler.push_all.Given as goal

abbrev pub invariant-loop-inst : goal.invariant-loop-inst
invariant-loop-inst l =
    (l.items.items ++ map emitted l.inst-iterator ≡ l.initial.items.items ++ map emitted l.fn.insts.items)
    × (vec_len l.items + length l.inst-iterator ≤ vec_capacity l.items)
