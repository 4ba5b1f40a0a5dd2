use Rattle.std.proofs.Common.{rules, ◌≡◌, true}
use Rattle.std.specs.Prelude.{is_none, None}
use Rattle.a64_inst.specs.declared.group.Group.TheVariants.{Memory}
use Rattle.a64_inst.specs.Groups.{group_of}
use Rattle.a64_inst.specs.Lone.{is_lone}
use Rattle.a64_inst.specs.Faults.{fault_with, can_restore}
use Rattle.a64_inst.proofs.Restored.{restored_memory}
use Rattle.a64_inst.proofs.own_fault.can_restore.Goals as goal

-- src/own_fault.rt:34:1
pub returns-in-Memory : goal.returns-in-Memory
returns-in-Memory c =
    let group : group_of c.args.inst.now ≡ Memory = search rules in
    let lone : is_lone c.args.frame.now c.args.inst.now ≡ true = search rules in
    let same : is_none (fault_with c.args.frame.now c.args.info.now None c.args.virtuals c.args.inst.now) ≡ can_restore c.args.frame.now c.args.info.now c.args.virtuals c.args.inst.now = restored_memory c.args.frame.now c.args.info.now c.args.virtuals c.args.inst.now group lone in
    search rules
