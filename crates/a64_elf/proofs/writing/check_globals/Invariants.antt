use Rattle.std.proofs.Common.{ℕ, ◌≡◌, ◌<◌, false, Some}
use Rattle.std.specs.Prelude.{slice_get}
use Rattle.a64_elf.specs.declared.object.Global.{Global}
use Rattle.a64_elf.specs.Sections.{has_nul}
use Rattle.a64_elf.proofs.writing.check_globals.Given as goal

-- no name of a symbol before this one has a NUL
abbrev pub invariant-loop-i : goal.invariant-loop-i
invariant-loop-i l =
    (k : ℕ) (global : Global) → k < l.i → slice_get l.object.globals.items k ≡ Some global
    → has_nul global.name ≡ false
