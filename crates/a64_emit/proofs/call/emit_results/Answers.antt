use Rattle.std.proofs.Common.{◌≡◌, true, [], ◌∷◌, map, refl, sym, subst}
use Rattle.std.specs.List.{flat_map}
use Rattle.a64_inst.specs.declared.call.CallRetPair.{CallRetPair}
use Rattle.a64_operand.specs.declared.virtuals.VirtualRegisters.TheVariants.{Refused}
use Rattle.a64_inst.specs.CallOperands.{are_call_defs}
use Rattle.a64_cells.specs.Cells.{result_cells}
use Rattle.a64_emit.specs.Emission.{appended, IsAppendedInPart, CanPut}
use Rattle.a64_cells.specs.Words.{as_put}
use Rattle.a64_emit.proofs.Fitting.{failed}
use Rattle.a64_emit.proofs.Holding.{none_appended}
use Rattle.a64_emit.proofs.Repeated.{can_one, one_put, one_begun}
use Rattle.a64_emit.proofs.Results.{results_more, result_each}
use Rattle.a64_emit.proofs.call.emit_results.Goals as goal

pub loop-pair-init : goal.loop-pair-init
loop-pair-init c = none_appended c.args.sink.now

pub emit_result-requires : goal.emit_result-requires
emit_result-requires c =
    let a = c.args in
    let i = c.loop-pair.pair-index in
    let d = c.pair-item.result in
    record {
      good = subst (λ (pair : CallRetPair). are_call_defs Refused (pair ∷ []) ≡ true) (sym c.pair-item.is) (result_each a.defs.now i d c.requires.good c.loop-pair-test.true);
      can = subst (λ (pair : CallRetPair). CanPut c.loop-pair.sink (map as_put (result_cells a.frame.now pair))) (sym c.pair-item.is) (can_one (λ (pair : CallRetPair). map as_put (result_cells a.frame.now pair)) (λ defs. map as_put (flat_map (result_cells a.frame.now) defs)) refl (results_more a.frame.now) a.sink.now a.defs.now i d c.loop-pair-test.true c.loop-pair.sink c.loop-pair.invariant c.requires.can);
    }

pub returns-in_err-emit_result : goal.returns-in_err-emit_result
returns-in_err-emit_result c =
    let a = c.args in
    let i = c.loop-pair.pair-index in
    let d = c.pair-item.result in
    failed c.from_residual.result _ a.sink.now c.emit_result.new.sink (map as_put (flat_map (result_cells a.frame.now) a.defs.now)) c.from_residual.ensures.1
    (one_begun (λ (pair : CallRetPair). map as_put (result_cells a.frame.now pair)) (λ defs. map as_put (flat_map (result_cells a.frame.now) defs)) refl (results_more a.frame.now) a.sink.now a.defs.now i d c.loop-pair-test.true c.loop-pair.sink c.loop-pair.invariant c.emit_result.new.sink (subst (λ (pair : CallRetPair). IsAppendedInPart c.loop-pair.sink c.emit_result.new.sink (map as_put (result_cells a.frame.now pair))) c.pair-item.is c.in_err-emit_result.ensures.err))

pub loop-pair-preserved : goal.loop-pair-preserved
loop-pair-preserved c =
    let a = c.args in
    let i = c.loop-pair.pair-index in
    let d = c.pair-item.result in
    one_put (λ (pair : CallRetPair). map as_put (result_cells a.frame.now pair)) (λ defs. map as_put (flat_map (result_cells a.frame.now) defs)) refl (results_more a.frame.now) a.sink.now a.defs.now i d c.loop-pair-test.true c.loop-pair.sink c.loop-pair.invariant c.emit_result.new.sink (subst (λ (pair : CallRetPair). c.emit_result.new.sink ≡ appended c.loop-pair.sink (map as_put (result_cells a.frame.now pair))) c.pair-item.is c.in_ok-emit_result.ensures.ok)
