use Rattle.std.proofs.Common.{◌≡◌, true, [], ◌∷◌, map, refl, sym, ap, subst, ◌∙◌}
use Rattle.a64_inst.specs.declared.inst.Inst.{Inst}
use Rattle.a64_operand.specs.declared.virtuals.VirtualRegisters.TheVariants.{Refused}
use Rattle.a64_inst.specs.Faults.{can_restore}
use Rattle.a64_cells.specs.Cells.{restored_cell}
use Rattle.a64_emit.specs.Emission.{appended, IsAppendedInPart, CanPut}
use Rattle.a64_cells.specs.Words.{as_put}
use Rattle.a64_emit.proofs.Fitting.{failed}
use Rattle.a64_emit.proofs.Holding.{none_appended}
use Rattle.a64_emit.proofs.Repeated.{can_one, one_put, one_begun}
use Rattle.a64_emit.proofs.Restored.{restored, restored_there, restored_each}
use Rattle.a64_emit.proofs.call.emit_restored.Goals as goal

pub loop-inst-init : goal.loop-inst-init
loop-inst-init c = none_appended c.args.sink.now

pub is_one_word-requires : goal.is_one_word-requires
is_one_word-requires c =
    let a = c.args in
    let i = c.loop-inst.inst-index in
    subst (λ (inst : Inst). can_restore a.frame.now a.info.now Refused inst ≡ true) (sym c.inst-item.is) (restored_each a.frame.now a.info.now a.restore.now i c.inst-item.result c.requires.good c.loop-inst-test.true)

pub emit_plain_inst-requires : goal.emit_plain_inst-requires
emit_plain_inst-requires c =
    let a = c.args in
    let i = c.loop-inst.inst-index in
    let word = c.is_one_word.ensures ∙ ap (λ (inst : Inst). restored_cell a.frame.now a.info.now inst ∷ []) c.inst-item.is in
    let known = restored a.frame.now a.info.now c.inst-item.result (subst (λ (inst : Inst). can_restore a.frame.now a.info.now Refused inst ≡ true) (sym c.inst-item.is) (restored_each a.frame.now a.info.now a.restore.now i c.inst-item.result c.requires.good c.loop-inst-test.true)) in
    record {
      other = known.other;
      asked = known.asked;
      can = subst (λ cells. CanPut c.loop-inst.sink (map as_put cells)) (sym word) (can_one (λ (inst : Inst). map as_put (restored_cell a.frame.now a.info.now inst ∷ [])) (λ insts. map as_put (map (restored_cell a.frame.now a.info.now) insts)) refl (λ inst insts. refl) a.sink.now a.restore.now i c.inst-item.result c.loop-inst-test.true c.loop-inst.sink c.loop-inst.invariant c.requires.can);
      good = known.good;
      mode = known.mode;
      there = restored_there a.frame.now a.info.now c.inst-item.result known c.loop-inst.sink.constants;
    }

pub returns-in_err-emit_plain_inst : goal.returns-in_err-emit_plain_inst
returns-in_err-emit_plain_inst c =
    let a = c.args in
    let i = c.loop-inst.inst-index in
    let word = c.is_one_word.ensures ∙ ap (λ (inst : Inst). restored_cell a.frame.now a.info.now inst ∷ []) c.inst-item.is in
    failed c.from_residual.result _ a.sink.now c.emit_plain_inst.new.sink (map as_put (map (restored_cell a.frame.now a.info.now) a.restore.now)) c.from_residual.ensures.1
    (one_begun (λ (inst : Inst). map as_put (restored_cell a.frame.now a.info.now inst ∷ [])) (λ insts. map as_put (map (restored_cell a.frame.now a.info.now) insts)) refl (λ inst insts. refl) a.sink.now a.restore.now i c.inst-item.result c.loop-inst-test.true c.loop-inst.sink c.loop-inst.invariant c.emit_plain_inst.new.sink
    (subst (λ cells. IsAppendedInPart c.loop-inst.sink c.emit_plain_inst.new.sink (map as_put cells)) word c.in_err-emit_plain_inst.ensures.err))

pub loop-inst-preserved : goal.loop-inst-preserved
loop-inst-preserved c =
    let a = c.args in
    let i = c.loop-inst.inst-index in
    let word = c.is_one_word.ensures ∙ ap (λ (inst : Inst). restored_cell a.frame.now a.info.now inst ∷ []) c.inst-item.is in
    one_put (λ (inst : Inst). map as_put (restored_cell a.frame.now a.info.now inst ∷ [])) (λ insts. map as_put (map (restored_cell a.frame.now a.info.now) insts)) refl (λ inst insts. refl) a.sink.now a.restore.now i c.inst-item.result c.loop-inst-test.true c.loop-inst.sink c.loop-inst.invariant c.emit_plain_inst.new.sink
    (c.in_ok-emit_plain_inst.ensures.ok ∙ ap (λ cells. appended c.loop-inst.sink (map as_put cells)) word)
