use Rattle.std.proofs.Common.{sym, ap, ◌∙◌}
use Rattle.a64_inst.specs.declared.access.Access.{Access}
use Rattle.a64_inst.proofs.Pools.{pool_fault}
use Rattle.a64_inst.proofs.fault.memory.memory_fault.Goals as goal

pub returns-in-Const : goal.returns-in-Const
returns-in-Const c =
    c.pool_fault.ensures
    ∙ pool_fault c.args.frame.now c.args.constant c.args.virtuals c.args.info.now c.args.inst.now c.in-Some.access c.in-Const.addr (sym c.access_ref.ensures ∙ c.in-Some.is) (ap (λ (a : Access). a.mem) (sym c.access.view_is) ∙ c.in-Const.is)
