use Rattle.std.proofs.Common.{◌≡◌, take, map, length}
use Rattle.a64_rows.specs.Forms.{form_word}
use Rattle.a64_cells.specs.MemoryForms.{step_forms}
use Rattle.a64_cells.proofs.word.memory.step.step_words.Given as goal

-- the words of the steps so far
abbrev pub invariant-loop-step : goal.invariant-loop-step
invariant-loop-step l = (l.words.items ≡ map form_word (step_forms l.rd (take l.step-index l.steps))) × (length l.words.items ≡ l.step-index)
