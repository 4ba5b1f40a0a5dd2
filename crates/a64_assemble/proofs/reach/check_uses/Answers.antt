use Rattle.std.proofs.Common.{◌∙◌, refl, sym, ap, option_map}
use Rattle.a64_emit.specs.declared.error.EmitError.TheVariants.{OutOfReach}
use Rattle.a64_assemble.proofs.FarUses.{far_kept, far_skip, far_found, far_end}
use Rattle.a64_assemble.proofs.Indices.{all_within}
use Rattle.a64_assemble.proofs.reach.check_uses.Goals as goal

pub far_in-requires-clause-within : goal.far_in-requires-clause-within
far_in-requires-clause-within c = all_within c.args.frame.now c.args.info.now c.args.items.now c.args.marks.now c.args.bindings.now c.requires.marks c.requires.bindings

pub loop-index-preserved-in_default : goal.loop-index-preserved-in_default
loop-index-preserved-in_default c = λ force quiet.
    far_skip c.args.frame.now c.args.info.now force c.args.items.now c.loop-index.index c.index-items-index.result _ c.loop-index-test.true (sym c.index-items-index.is ∙ c.in_default.is) refl
    ∙ c.loop-index.invariant force quiet

pub loop-index-preserved : goal.loop-index-preserved
loop-index-preserved c = λ force quiet.
    far_skip c.args.frame.now c.args.info.now force c.args.items.now c.loop-index.index c.index-items-index.result _ c.loop-index-test.true (sym c.index-items-index.is ∙ c.in-Emit.is)
    (far_kept c.args.frame.now c.args.info.now force c.args.items.now c.loop-index.index c.in-Emit.inst _ ∙ sym (c.far_in.ensures force c.args.items.now c.requires.marks c.requires.bindings quiet) ∙ c.in_default-far_in.is)
    ∙ c.loop-index.invariant force quiet

pub returns-in-Some : goal.returns-in-Some
returns-in-Some c = λ force quiet.
    ap (option_map OutOfReach) (sym (c.loop-index.invariant force quiet) ∙ far_found c.args.frame.now c.args.info.now force c.args.items.now c.loop-index.index c.index-items-index.result _ c.in-Some.label c.loop-index-test.true (sym c.index-items-index.is ∙ c.in-Emit.is)
    (far_kept c.args.frame.now c.args.info.now force c.args.items.now c.loop-index.index c.in-Emit.inst _ ∙ sym (c.far_in.ensures force c.args.items.now c.requires.marks c.requires.bindings quiet) ∙ c.in-Some.is))

pub returns : goal.returns
returns c = λ force quiet.
    ap (option_map OutOfReach) (sym (c.loop-index.invariant force quiet) ∙ far_end c.args.frame.now c.args.info.now force c.args.items.now c.loop-index.index c.loop-index-test.false)
