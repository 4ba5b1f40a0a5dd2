-- What emission keeps between instructions.
use Rattle.std.specs.Prelude.{Option}
use Rattle.a64_base.specs.declared.entity.UserStackMap.{UserStackMap}
use Rattle.a64_inst.specs.declared.frame.FrameLayout.{FrameLayout}

-- the frame, and the stack map of the next instruction
pub record State : Type 0 where
  pub frame : FrameLayout
  pub map : Option UserStackMap
