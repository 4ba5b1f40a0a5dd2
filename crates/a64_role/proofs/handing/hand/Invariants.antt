use Rattle.std.proofs.Common.{◌≡◌, ◌≤◌, ◌++◌, take}
use Rattle.a64_role.proofs.handing.hand.Given as goal

-- the visitor was told the roles so far
abbrev pub invariant-loop-role : goal.invariant-loop-role
invariant-loop-role g l =
    record { told : g.V.OperandVisitor.told l.visitor ≡ g.V.OperandVisitor.told l.fn.visitor ++ take l.role-index l.roles; rises : g.V.OperandVisitor.refusals l.fn.visitor ≤ g.V.OperandVisitor.refusals l.visitor }
