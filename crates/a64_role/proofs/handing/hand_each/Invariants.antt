use Rattle.std.proofs.Common.{◌≡◌, ◌≤◌, ◌++◌, map, take}
use Rattle.a64_role.proofs.handing.hand_each.Given as goal

-- the visitor was told the roles of the pairs so far
abbrev pub invariant-loop-pair : goal.invariant-loop-pair
invariant-loop-pair g l =
    record { told : g.V.OperandVisitor.told l.visitor ≡ g.V.OperandVisitor.told l.fn.visitor ++ map g.P.HasRole.role (take l.pair-index l.pairs); rises : g.V.OperandVisitor.refusals l.fn.visitor ≤ g.V.OperandVisitor.refusals l.visitor }
