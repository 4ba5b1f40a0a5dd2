-- Loads and stores of one register: none asks for space.
use Rattle.std.proofs.Common.{◌≡◌, None, Some, refl}
use Rattle.a64_inst.specs.declared.access.Access.{Access}
use Rattle.a64_inst.specs.declared.inst.Inst.{Inst}
use Rattle.a64_inst.specs.declared.inst.Inst.TheVariants as insts
use Rattle.a64_inst.specs.Accesses.{access_of}
use Rattle.a64_emit.specs.Bounds.{asked_of}

-- a load or a store asks for no space
pub access_unasked : (inst : Inst) (access : Access) → access_of inst ≡ Some access → asked_of inst ≡ None
access_unasked (insts.EmitIsland needed_space) access e = absurd cc
access_unasked _ access e = refl
