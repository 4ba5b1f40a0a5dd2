-- The constants that instructions load.
use Rattle.std.proofs.Common.{ℕ, ◌≡◌, Bool, true, false, List, None, Some, refl, sym, ap, nat_cmp}
use Rattle.std.specs.Prelude.{option_map, option_and_then, length}
use Rattle.std.specs.FinMap.{FinMap, get}
use Rattle.a64_base.specs.declared.entity.VCodeConstant.{VCodeConstant}
use Rattle.a64_inst.specs.declared.group.Group.{Group}
use Rattle.a64_inst.specs.declared.group.Group.TheVariants.{Memory}
use Rattle.a64_inst.specs.declared.inst.Inst.{Inst}
use Rattle.a64_inst.specs.declared.inst.Inst.TheVariants as insts
use Rattle.a64_inst.specs.Accesses.{access_of}
use Rattle.a64_inst.specs.Groups.{group_of}
use Rattle.a64_inst.specs.Modes.{constant_in}
use Rattle.a64_inst.specs.Faults.{constant_size}

-- a group whose instructions load no constant
abbrev pub loads_none : Group → Bool
loads_none Memory = false
loads_none _ = true

no_access : (inst : Inst) → loads_none (group_of inst) ≡ true → access_of inst ≡ None
no_access insts.Nop0 e = refl
no_access _ e = cc

-- only loads and stores load any
pub no_constant : (constants : FinMap nat_cmp (List ℕ)) (inst : Inst) → loads_none (group_of inst) ≡ true → None ≡ constant_size constants inst
no_constant constants inst e =
    sym (ap (λ o. option_and_then (λ (addr : VCodeConstant). option_map length (get constants addr.0)) (elim o [ None ↦ None | Some access ↦ constant_in access.mem ])) (no_access inst e))
