use Rattle.std.proofs.Common.{ℕ, ◌≡◌, ◌<◌, Some, length}
use Rattle.std.specs.Prelude.{slice_get}
use Rattle.a64_elf.specs.declared.object.Relocation.{Relocation}
use Rattle.a64_elf.proofs.writing.check_relocations.Given as goal

-- each relocation before this one is to a symbol of the object
abbrev pub invariant-loop-i : goal.invariant-loop-i
invariant-loop-i l =
    (k : ℕ) (relocation : Relocation) → k < l.i
    → slice_get l.object.relocations.items k ≡ Some relocation
    → relocation.symbol < length l.object.globals.items
