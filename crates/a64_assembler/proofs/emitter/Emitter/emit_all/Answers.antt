use Rattle.std.proofs.Common.{◌≤◌, length, refl, arith}
use Rattle.std.proofs.lemmas.Result.{err_from_is_err_and}
use Rattle.a64_assembler.proofs.Emitted.{next, stopped, all_emitted}
use Rattle.a64_assembler.proofs.emitter.Emitter.emit_all.Goals as goal

pub loop-inst-init : goal.loop-inst-init
loop-inst-init c = refl

pub returns-in_err-emit : goal.returns-in_err-emit
returns-in_err-emit c =
    let p = err_from_is_err_and c.from_residual.result c.from_residual.ensures.1 in
    rw (p.1, p.2) (record {
      ok = tt;
      cause = stopped c.args.insts.now c.loop-inst.inst-index c.inst-item.result c.loop-inst-test.true c.inst-item.is _ c.loop-inst.self _ _ c.loop-inst.invariant c.in_err-emit.ensures.cause;
    })

pub loop-inst-preserved : goal.loop-inst-preserved
loop-inst-preserved c = next c.args.insts.now c.loop-inst.inst-index c.inst-item.result c.loop-inst-test.true c.inst-item.is _ c.loop-inst.self _ c.loop-inst.invariant c.in_ok-emit.ensures.ok

pub returns : goal.returns
returns c =
    let all : length c.args.insts.now ≤ c.loop-inst.inst-index = omega (arith, c.loop-inst-test.false) in
    record { ok = all_emitted c.args.insts.now c.loop-inst.inst-index _ _ all c.loop-inst.invariant; cause = tt }
