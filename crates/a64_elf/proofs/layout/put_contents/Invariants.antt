use Rattle.std.proofs.Common.{◌≡◌, ◌++◌, length, drop}
use Rattle.a64_elf.specs.Sections.{contents}
use Rattle.a64_elf.proofs.layout.put_contents.Given as goal

-- what stands, with the contents that are left, is what all give
abbrev pub invariant-loop-section : goal.invariant-loop-section
invariant-loop-section l =
    l.bytes.items ++ contents (length l.bytes.items) (drop l.section-index l.sections)
    ≡ l.fn.bytes.items ++ contents (length l.fn.bytes.items) l.sections
