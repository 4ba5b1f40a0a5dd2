-- The roles of sequences that are lists of their own.
use Rattle.std.specs.Prelude.{List, [], ◌∷◌, map}
use Rattle.a64_base.specs.declared.reg.Reg.{Reg}
use Rattle.a64_inst.specs.declared.pair.ArgPair.{ArgPair}
use Rattle.a64_inst.specs.declared.pair.RetPair.{RetPair}
use Rattle.a64_ops.specs.declared.operator.AtomicRMWLoopOp.{AtomicRMWLoopOp}
use Rattle.a64_ops.specs.declared.operator.AtomicRMWLoopOp.TheVariants as loop_ops
use Rattle.a64_role.specs.declared.role.Role.{Role}
use Rattle.a64_role.specs.Lists.{arg_role, defined_in, ret_role, used_in}

-- what enters a function, and what leaves it
abbrev pub args_roles : List ArgPair → List Role
args_roles args = map arg_role args

abbrev pub rets_roles : List RetPair → List Role
rets_roles rets = map ret_role rets

-- the second scratch register of a loop, which an exchange leaves alone
abbrev pub second_scratch_roles : AtomicRMWLoopOp → Reg → List Role
second_scratch_roles loop_ops.Xchg scratch2 = []
second_scratch_roles _ scratch2 = defined_in 28 scratch2 ∷ []

-- a loop that updates memory by an operation
abbrev pub rmw_loop_roles : AtomicRMWLoopOp → Reg → Reg → Reg → Reg → Reg → List Role
rmw_loop_roles op addr operand oldval scratch1 scratch2 =
    used_in 25 addr ∷ used_in 26 operand ∷ defined_in 27 oldval ∷ defined_in 24 scratch1
    ∷ second_scratch_roles op scratch2
