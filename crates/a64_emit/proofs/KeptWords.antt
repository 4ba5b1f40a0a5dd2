-- At which words a map of the stack is kept: at those of calls alone.
use Rattle.std.proofs.Common.{◌≡◌, ◌≢◌, Option, refl}
use Rattle.a64_base.specs.declared.entity.UserStackMap.{UserStackMap}
use Rattle.a64_inst.specs.declared.emission.EmitFlags.{EmitFlags}
use Rattle.a64_inst.specs.declared.frame.FrameLayout.{FrameLayout}
use Rattle.a64_inst.specs.declared.group.Group.TheVariants.{Call}
use Rattle.a64_inst.specs.declared.inst.Inst.{Inst}
use Rattle.a64_inst.specs.declared.inst.Inst.TheVariants as insts
use Rattle.a64_inst.specs.Groups.{group_of}
use Rattle.a64_cells.specs.Cells.{inst_cells, kept_cells}

-- an instruction that is no call keeps none
pub other_kept : (frame : FrameLayout) (flags : EmitFlags) (inst : Inst) (kept : Option UserStackMap) → group_of inst ≢ Call → kept_cells frame flags inst kept ≡ inst_cells frame flags inst
other_kept frame flags (insts.Call info) kept other = absurd (other refl)
other_kept frame flags (insts.CallInd info) kept other = absurd (other refl)
other_kept frame flags _ kept other = refl
