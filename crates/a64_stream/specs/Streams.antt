-- What streams and their code are.
use Rattle.std.specs.Prelude.{ℕ, ◌+◌, ◌*◌, ◌/◌, ◌%◌, ◌^◌, ◌<◌, List, length, slice_index, map, sum}
use Rattle.std.specs.Prelude.{None}
use Rattle.std.specs.List.{range_with_len}
use Rattle.a64_inst.specs.declared.item.Item.{Item}
use Rattle.a64_inst.specs.declared.item.Item.TheVariants as items
use Rattle.a64_stream.specs.declared.stream.Step.{Step}
use Rattle.a64_stream.specs.declared.stream.Step.TheVariants as steps
use Rattle.a64_stream.specs.declared.command.Kind.{Kind}
use Rattle.a64_stream.specs.declared.command.Kind.TheVariants.{Mixed, Branches}
use Rattle.a64_stream.specs.declared.command.Command.{Command}
use Rattle.a64_stream.specs.declared.command.Command.TheVariants.{Items, Uses}

-- the item that a step is
abbrev pub item_of : Step → Item
item_of (steps.Bind label) = items.Bind label
item_of (steps.Emit inst) = items.Emit inst None

-- how many items a stream has: of so many groups of eight, or of so many pairs
abbrev pub item_count : Kind → ℕ → ℕ
item_count Mixed count = 8 * count
item_count Branches count = 2 * count

-- what a command asks for is small enough to be counted
abbrev pub IsSmall : Command → Type 0
IsSmall (Items kind count assembles) = count < 2 ^ 28
IsSmall (Uses count) = count < 2 ^ 25

-- the word of this index, whose least byte stands first
abbrev pub word_at : List ℕ → ℕ → ℕ
word_at bytes i =
    slice_index bytes (4 * i) + slice_index bytes (4 * i + 1) * 2 ^ 8 + slice_index bytes
    (4 * i + 2) * 2 ^ 16 + slice_index bytes (4 * i + 3) * 2 ^ 24

-- the sum of the whole words of some bytes, as 32 bits
abbrev pub word_sum : List ℕ → ℕ
word_sum bytes = sum (map (word_at bytes) (range_with_len 0 (length bytes / 4))) % 2 ^ 32
