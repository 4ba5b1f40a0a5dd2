use Rattle.std.proofs.Common.{◌≡◌, ◌++◌, take}
use Rattle.std.specs.List.{flat_map}
use Rattle.a64_elf.specs.Fields.{word}
use Rattle.a64_elf.proofs.fields.put_words.Given as goal

-- the fields so far
abbrev pub invariant-loop-value : goal.invariant-loop-value
invariant-loop-value l =
    l.bytes.items ≡ l.fn.bytes.items ++ flat_map word (take l.value-index l.values)
