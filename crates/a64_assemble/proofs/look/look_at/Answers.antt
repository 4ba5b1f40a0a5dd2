use Rattle.std.proofs.Common.{subst, sym}
use Rattle.a64_inst.specs.declared.item.Item.{Item}
use Rattle.a64_assemble.specs.Looks.{IsLook}
use Rattle.a64_assemble.proofs.look.look_at.Goals as goal

-- ---- what a look at the instruction finds, whatever its map, it finds of the item

pub returns-in-Plain : goal.returns-in-Plain
returns-in-Plain c =
    subst (λ (item : Item). IsLook c.args.frame.now c.args.info.now c.args.constants.now item c.look_in.result) (sym c.in-Emit.is)
    (c.look_in.ensures c.in-Emit.map)

pub returns-in-Control : goal.returns-in-Control
returns-in-Control c =
    subst (λ (item : Item). IsLook c.args.frame.now c.args.info.now c.args.constants.now item c.look_control.result) (sym c.in-Emit.is)
    (c.look_control.ensures c.in-Emit.map)

pub returns-in-Sequence : goal.returns-in-Sequence
returns-in-Sequence c =
    subst (λ (item : Item). IsLook c.args.frame.now c.args.info.now c.args.constants.now item c.look_in-in-Sequence.result) (sym c.in-Emit.is)
    (c.look_in-in-Sequence.ensures c.in-Emit.map)

pub returns-in-Call : goal.returns-in-Call
returns-in-Call c =
    subst (λ (item : Item). IsLook c.args.frame.now c.args.info.now c.args.constants.now item c.look_in-in-Call.result) (sym c.in-Emit.is)
    (c.look_in-in-Call.ensures c.in-Emit.map)

pub returns-in-Memory : goal.returns-in-Memory
returns-in-Memory c =
    subst (λ (item : Item). IsLook c.args.frame.now c.args.info.now c.args.constants.now item c.look_in-in-Memory.result) (sym c.in-Emit.is)
    (c.look_in-in-Memory.ensures c.in-Emit.map)
