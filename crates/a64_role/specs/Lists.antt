-- The roles of fields, of addresses, and of what enters and leaves functions.
use Rattle.std.specs.Prelude.{ℕ, Bool, true, false, if◌then◌else◌, List, [], ◌∷◌, ◌++◌, map}
use Rattle.a64_base.specs.declared.cond.CondBrKind.{CondBrKind}
use Rattle.a64_base.specs.declared.cond.CondBrKind.TheVariants.{Zero, NotZero, Cond}
use Rattle.a64_base.specs.declared.reg.Reg.{Reg}
use Rattle.a64_base.specs.declared.set.PRegSet.{PRegSet}
use Rattle.a64_base.specs.Registers.{integer_register}
use Rattle.a64_inst.specs.declared.access.Access.{Access}
use Rattle.a64_operand.specs.declared.atomic.AtomicCAS128Args.{AtomicCAS128Args}
use Rattle.a64_inst.specs.declared.call.CallArgPair.{CallArgPair}
use Rattle.a64_inst.specs.declared.call.CallRetPair.{CallRetPair}
use Rattle.a64_inst.specs.declared.call.RetLocation.{RetLocation}
use Rattle.a64_inst.specs.declared.call.RetLocation.TheVariants as locations
use Rattle.a64_inst.specs.declared.mode.AMode.{AMode}
use Rattle.a64_inst.specs.declared.mode.AMode.TheVariants as modes
use Rattle.a64_inst.specs.declared.mode.PairAMode.{PairAMode}
use Rattle.a64_inst.specs.declared.mode.PairAMode.TheVariants as pair_modes
use Rattle.a64_inst.specs.declared.pair.ArgPair.{ArgPair}
use Rattle.a64_inst.specs.declared.pair.RetPair.{RetPair}
use Rattle.a64_inst.specs.Fields as fields
use Rattle.a64_inst.specs.Fields.{Field, Def, Use, Is}
use Rattle.a64_ops.specs.Accesses.{loads}
use Rattle.a64_role.specs.declared.role.Role.{Role}
use Rattle.a64_role.specs.declared.role.Role.TheVariants.{RegUse, RegDef, RegReuseDef, RegFixedUse}
use Rattle.a64_role.specs.declared.role.Role.TheVariants.{RegFixedDef, AnyDef}
use Rattle.a64_role.specs.declared.role.Role.TheVariants.{RegFixedNonallocatable, RegClobbers}

-- a register that is written: the one that the operand with index 1 is read from, or any
abbrev pub result_role : Bool → Reg → Role
result_role tied reg = if tied then RegReuseDef reg 1 else RegDef reg

-- the registers among the fields of an instruction, in the order of the fields
abbrev pub field_roles : Bool → List Field → List Role
field_roles tied [] = []
field_roles tied (Def class reg ∷ others) = result_role tied reg ∷ field_roles tied others
field_roles tied (Use class reg ∷ others) = RegUse reg ∷ field_roles tied others
field_roles tied (Is (fields.PReg reg) ∷ others) =
    RegFixedNonallocatable reg ∷ field_roles tied others
field_roles tied (Is operand ∷ others) = field_roles tied others

-- the registers of an addressing mode, which are read: its base, then its index
abbrev pub mode_roles : AMode → List Role
mode_roles (modes.RegReg rn rm) = RegUse rn ∷ RegUse rm ∷ []
mode_roles (modes.RegScaled rn rm) = RegUse rn ∷ RegUse rm ∷ []
mode_roles (modes.RegScaledExtended rn rm extendop) = RegUse rn ∷ RegUse rm ∷ []
mode_roles (modes.RegExtended rn rm extendop) = RegUse rn ∷ RegUse rm ∷ []
mode_roles (modes.Unscaled rn simm9) = RegUse rn ∷ []
mode_roles (modes.UnsignedOffset rn uimm12) = RegUse rn ∷ []
mode_roles (modes.RegOffset rn off) = RegUse rn ∷ []
mode_roles (modes.Label label) = []
mode_roles (modes.SPPreIndexed simm9) = []
mode_roles (modes.SPPostIndexed simm9) = []
mode_roles (modes.FPOffset off) = []
mode_roles (modes.SPOffset off) = []
mode_roles (modes.IncomingArg off) = []
mode_roles (modes.SlotOffset off) = []
mode_roles (modes.Const addr) = []

abbrev pub pair_mode_roles : PairAMode → List Role
pair_mode_roles (pair_modes.SignedOffset reg simm7) = RegUse reg ∷ []
pair_mode_roles (pair_modes.SPPreIndexed simm7) = []
pair_mode_roles (pair_modes.SPPostIndexed simm7) = []

-- a load writes its register, and a store reads it
abbrev pub moved_role : Bool → Reg → Role
moved_role is_load reg = if is_load then RegDef reg else RegUse reg

abbrev pub access_roles : Access → List Role
access_roles access = (moved_role (loads access.op) access.reg ∷ []) ++ mode_roles access.mem

-- the register that a condition tests, where it tests one
abbrev pub kind_roles : CondBrKind → List Role
kind_roles (Zero reg size) = RegUse reg ∷ []
kind_roles (NotZero reg size) = RegUse reg ∷ []
kind_roles (Cond cond) = []

-- a register that is read in the integer register with a number, and one that is written in it
abbrev pub used_in : ℕ → Reg → Role
used_in number reg = RegFixedUse reg (integer_register number)

abbrev pub defined_in : ℕ → Reg → Role
defined_in number reg = RegFixedDef reg (integer_register number)

-- the registers of a compare and swap of 128 bits, which an allocator has to put in pairs
abbrev pub pair_swap_roles : AtomicCAS128Args → List Role
pair_swap_roles args =
    used_in 24 args.rs_lo ∷ used_in 25 args.rs_hi ∷ defined_in 24 args.rd_lo
    ∷ defined_in 25 args.rd_hi
    ∷ used_in 26 args.rt_lo ∷ used_in 27 args.rt_hi ∷ used_in 28 args.rn ∷ []

-- what enters a function, and what leaves it
abbrev pub arg_role : ArgPair → Role
arg_role pair = RegFixedDef pair.vreg pair.preg

abbrev pub ret_role : RetPair → Role
ret_role pair = RegFixedUse pair.vreg pair.preg

-- what is passed to a function that is called
abbrev pub call_arg_role : CallArgPair → Role
call_arg_role pair = RegFixedUse pair.vreg pair.preg

-- what comes back from it: in a register, or on the stack, from which any register may be loaded
abbrev pub location_role : RetLocation → Reg → Role
location_role (locations.Reg preg ty) vreg = RegFixedDef vreg preg
location_role (locations.Stack off ty) vreg = AnyDef vreg

abbrev pub call_ret_role : CallRetPair → Role
call_ret_role pair = location_role pair.location pair.vreg

-- a call: what is passed, what comes back, and what is changed beside
abbrev pub call_roles : List CallArgPair → List CallRetPair → PRegSet → List Role
call_roles uses defs clobbers =
    map call_arg_role uses ++ (map call_ret_role defs ++ RegClobbers clobbers ∷ [])

-- a return that calls: what is passed
abbrev pub return_call_roles : List CallArgPair → List Role
return_call_roles uses = map call_arg_role uses
