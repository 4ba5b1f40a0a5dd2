use Rattle.std.proofs.Common.{◌≡◌, ◌++◌, drop}
use Rattle.std.specs.String.{string_bytes}
use Rattle.std.specs.List.{flat_map}
use Rattle.a64_operand_text.specs.MemoryTexts.{step_before}
use Rattle.a64_print.proofs.memory.push_steps_before.Given as goal

-- the steps that are left make the text whole
abbrev pub invariant-loop-step : goal.invariant-loop-step
invariant-loop-step l = string_bytes l.out ++ flat_map step_before (drop l.step-index l.steps) ≡ string_bytes l.fn.out ++ flat_map step_before l.steps
