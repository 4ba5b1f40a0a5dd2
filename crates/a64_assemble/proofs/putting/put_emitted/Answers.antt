use Rattle.std.proofs.Common.{◌≤◌, sym, subst}
use Rattle.a64_inst.specs.declared.item.Item.TheVariants.{Emit}
use Rattle.a64_inst.specs.State.{State}
use Rattle.a64_assemble.specs.Asks.{MayMove, Moves, NeedsNone}
use Rattle.a64_assemble.specs.Elements.{element_of, elements_of, room_of}
use Rattle.a64_assemble.proofs.Stepped.{on_ok}
use Rattle.a64_assemble.proofs.putting.put_emitted.Goals as goal

pub put_inst-requires-clause-may : goal.put_inst-requires-clause-may
put_inst-requires-clause-may c =
    subst (λ (s : State). MayMove (element_of s.frame c.args.how.now.info.now (Emit c.args.inst.now s.map)) (elements_of s.frame c.args.how.now.info.now c.args.rest.now) c.args.buffer.now) (sym c.pre_safepoint.ensures)
    c.requires.may

pub put_inst-requires-clause-wide : goal.put_inst-requires-clause-wide
put_inst-requires-clause-wide c =
    subst (λ (s : State). room_of (elements_of s.frame c.args.how.now.info.now c.args.rest.now) ≤ c.args.how.now.widest) (sym c.pre_safepoint.ensures) c.requires.wide

pub put_inst-requires-clause-quiet : goal.put_inst-requires-clause-quiet
put_inst-requires-clause-quiet c = λ quiet.
    subst (λ (s : State). NeedsNone c.args.how.now.force (element_of s.frame c.args.how.now.info.now (Emit c.args.inst.now s.map)) (elements_of s.frame c.args.how.now.info.now c.args.rest.now) c.args.buffer.now) (sym c.pre_safepoint.ensures)
    (c.requires.quiet quiet)

pub returns-clause-buffer : goal.returns-clause-buffer
returns-clause-buffer c =
    on_ok c.put_inst.result (λ moves.
    subst (λ (s : State). Moves c.args.how.now.force (element_of s.frame c.args.how.now.info.now (Emit c.args.inst.now s.map)) (elements_of s.frame c.args.how.now.info.now c.args.rest.now) c.args.buffer.now c.put_inst.new.buffer) c.pre_safepoint.ensures moves) c.put_inst.ensures.buffer
