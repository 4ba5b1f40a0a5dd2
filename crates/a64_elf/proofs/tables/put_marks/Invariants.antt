use Rattle.std.proofs.Common.{◌≡◌, ◌++◌, drop}
use Rattle.std.specs.List.{flat_map}
use Rattle.a64_elf.specs.Symbols.{mark_entry}
use Rattle.a64_elf.proofs.tables.put_marks.Given as goal

-- what stands, with the entries of the marks that are left, is what all give
abbrev pub invariant-loop-mark : goal.invariant-loop-mark
invariant-loop-mark l =
    l.symbols.items ++ flat_map mark_entry (drop l.mark-index l.marks)
    ≡ l.fn.symbols.items ++ flat_map mark_entry l.marks
