-- Which instructions are one word that is no use.
use Rattle.std.specs.Prelude.{Bool, None, Some}
use Rattle.a64_inst.specs.declared.frame.FrameLayout.{FrameLayout}
use Rattle.a64_inst.specs.declared.inst.Inst.{Inst}
use Rattle.a64_inst.specs.AccessTable.{access_of}
pub use Rattle.a64_inst.specs.LoneForms.{is_resolved, is_near_literal, is_no_use, is_lone_access}
pub use Rattle.a64_inst.specs.LoneForms.{is_lone_sum}
pub use Rattle.a64_inst.specs.LoneForms.{is_lone_address, is_lone_mode, is_lone_return}
pub use Rattle.a64_inst.specs.LoneOthers.{is_lone_other}

-- an instruction is one word, which is no use, and neither a call nor a place for an island
abbrev pub is_lone : FrameLayout → Inst → Bool
is_lone frame inst =
    elim (access_of inst) [
      | None ↦ is_lone_other frame inst
      | Some access ↦ is_lone_access frame access
    ]
