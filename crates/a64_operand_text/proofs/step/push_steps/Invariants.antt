use Rattle.std.proofs.Common.{◌≡◌, ◌++◌, drop}
use Rattle.std.specs.String.{string_bytes}
use Rattle.std.specs.List.{flat_map}
use Rattle.a64_inst.specs.Constants.{step_into}
use Rattle.a64_operand_text.specs.Texts.{own_text}
use Rattle.a64_operand_text.specs.MemoryTexts.{steps_text}
use Rattle.a64_operand_text.proofs.step.push_steps.Given as goal

-- the steps that are left make the text whole
abbrev pub invariant-loop-step : goal.invariant-loop-step
invariant-loop-step l = string_bytes l.out ++ flat_map (λ step. own_text (step_into l.rd step)) (drop l.step-index l.steps) ≡ string_bytes l.fn.out ++ steps_text l.rd l.steps
