-- What each instruction does with its registers, in the order in which a visitor is told it.
use Rattle.std.specs.Prelude.{List, Option, Some, None}
use Rattle.a64_inst.specs.declared.access.Access.{Access}
use Rattle.a64_inst.specs.declared.inst.Inst.{Inst}
use Rattle.a64_inst.specs.Accesses.{access_of}
use Rattle.a64_role.specs.declared.role.Role.{Role}
use Rattle.a64_role.specs.Lists.{access_roles}
use Rattle.a64_roles.specs.OwnRoles.{own_roles}

-- the roles of an instruction that is a load or a store of one register, or else has roles of its
-- own
abbrev pub roles_or : Option Access → List Role → List Role
roles_or (Some access) roles = access_roles access
roles_or None roles = roles

abbrev pub roles_of : Inst → List Role
roles_of inst = roles_or (access_of inst) (own_roles inst)
