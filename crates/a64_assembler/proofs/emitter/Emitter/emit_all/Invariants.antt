use Rattle.std.proofs.Common.{take}
use Rattle.a64_assembler.specs.Emitting.{AreEmitted}
use Rattle.a64_assembler.proofs.emitter.Emitter.emit_all.Given as goal

abbrev pub invariant-loop-inst : goal.invariant-loop-inst
invariant-loop-inst l = AreEmitted (take l.inst-index l.fn.insts) l.initial.self l.self
