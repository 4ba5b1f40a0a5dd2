-- An instruction that has an access is that of the access.
use Rattle.std.proofs.Common.{◌≡◌, Some}
use Rattle.a64_inst.specs.declared.access.Access.{Access}
use Rattle.a64_inst.specs.declared.inst.Inst.{Inst}
use Rattle.a64_inst.specs.declared.inst.Inst.TheVariants as insts
use Rattle.a64_inst.specs.Accesses.{access_of, inst_of}

pub of_access : (inst : Inst) (access : Access) → access_of inst ≡ Some access → inst_of access ≡ inst
of_access insts.Nop0 access e = absurd cc
of_access _ access e = cc
