use Rattle.std.proofs.Common.{ℕ, ◌≡◌, ◌<◌, false, Some}
use Rattle.std.specs.Prelude.{slice_get}
use Rattle.a64_elf.specs.declared.section.Section.{Section}
use Rattle.a64_elf.specs.Sections.{has_nul}
use Rattle.a64_elf.proofs.layout.check_sections.Given as goal

-- no name of a section before this one has a NUL
abbrev pub invariant-loop-i : goal.invariant-loop-i
invariant-loop-i l =
    (k : ℕ) (section : Section) → k < l.i → slice_get l.sections k ≡ Some section
    → has_nul section.name ≡ false
