-- Buffers with uses of labels.
use Rattle.std.specs.Prelude.{ℕ, ◌+◌, ◌*◌}
use Rattle.a64_buffer.specs.Buffer.{Buffer}
use Rattle.a64_buffer.specs.Grown.{IsGrown}
use Rattle.a64_label_use.specs.declared.label_use.LabelUse.{LabelUse}
use Rattle.a64_label_use.specs.LabelUses.{label_kinds}

-- of so many uses in all, the first ones stand in a buffer, in a word each, and the labels below a
-- number are bound: a use adds its word, the jump of an island before it, and what it may be given
abbrev pub HasUses : ℕ → ℕ → ℕ → Buffer LabelUse → Type 0
HasUses count uses next b = IsGrown label_kinds (4 * uses) (36 * uses) (count + 1) next b
