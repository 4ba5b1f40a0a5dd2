use Rattle.std.proofs.Common.{◌+◌, ◌^◌, ◌<◌, None, rules, sym, subst, ◌∙◌}
use Rattle.a64_inst.specs.declared.item.Item.TheVariants.{Emit}
use Rattle.a64_emit.specs.Bounds.{IsExtent}
use Rattle.a64_emit.proofs.Asked.{asked_extent, kept_extent}
use Rattle.a64_emit.proofs.extent.inst_burden.Goals as goal

pub returns-in-Some-clause-extent : goal.returns-in-Some-clause-extent
returns-in-Some-clause-extent c = λ kept.
    let small : c.in-Some.space < 2 ^ 32 = search rules in
    subst (λ n. IsExtent c.args.frame.now c.args.info.now (Emit c.args.inst.now kept) 0 (4 + n) None) (sym c.from.ensures)
    (asked_extent c.args.frame.now c.args.info.now c.args.inst.now kept c.in-Some.space (sym c.asked_space.ensures ∙ c.in-Some.is) small)

pub returns-in-None-clause-extent : goal.returns-in-None-clause-extent
returns-in-None-clause-extent c = λ kept.
    let extent = c.words_burden.result.extent in
    kept_extent c.args.frame.now c.args.info.now c.args.inst.now kept extent.size extent.charge extent.range (sym c.asked_space.ensures ∙ c.in-None.is) c.words_burden.ensures.extent
