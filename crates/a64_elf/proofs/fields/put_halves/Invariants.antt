use Rattle.std.proofs.Common.{◌≡◌, ◌++◌, take}
use Rattle.std.specs.List.{flat_map}
use Rattle.a64_elf.specs.Fields.{half}
use Rattle.a64_elf.proofs.fields.put_halves.Given as goal

-- the fields so far
abbrev pub invariant-loop-value : goal.invariant-loop-value
invariant-loop-value l =
    l.bytes.items ≡ l.fn.bytes.items ++ flat_map half (take l.value-index l.values)
