-- The tables of an object: its symbols with their names, and its relocations.
use Rattle.std.specs.Prelude.{ℕ, ◌+◌, ◌*◌, ◌<◌, ◌≡◌, ◌^◌, Option, Some, None, List, [], ◌∷◌, ◌++◌}
use Rattle.std.specs.Prelude.{length, replicate, slice_get, codes}
use Rattle.std.specs.List.{flat_map}
use Rattle.std.specs.Int.{w64, cast_unsigned}
use Rattle.a64_elf.specs.declared.object.MarkKind.{MarkKind}
use Rattle.a64_elf.specs.declared.object.MarkKind.TheVariants as marks
use Rattle.a64_elf.specs.declared.object.Mark.{Mark}
use Rattle.a64_elf.specs.declared.object.Global.{Global}
use Rattle.a64_elf.specs.declared.object.Relocation.{Relocation}
use Rattle.a64_elf.specs.declared.object.RelocationKind.{RelocationKind}
use Rattle.a64_elf.specs.declared.object.RelocationKind.TheVariants as kinds
use Rattle.a64_elf.specs.Fields.{half, word, long}

-- where the names of marks stand among the names of symbols
abbrev pub mark_name : MarkKind → ℕ
mark_name marks.Code = 1
mark_name marks.Data = 4

abbrev pub global_named : Global → List ℕ
global_named global = global.name ++ 0 ∷ []

-- the names of symbols: those of marks, and those of global symbols
abbrev pub symbol_names : List Global → List ℕ
symbol_names globals =
    (0 ∷ codes "$x" ++ (0 ∷ codes "$d" ++ 0 ∷ [])) ++ flat_map global_named globals

-- Elf64_Sym: where its name stands, what it is, in which section, and where; it has no size
unfoldable pub symbol_entry : ℕ → ℕ → ℕ → ℕ → List ℕ
symbol_entry name info section place =
    flat_map word (name ∷ [])
    ++ ((info ∷ 0 ∷ []) ++ (flat_map half (section ∷ []) ++ flat_map long (place ∷ 0 ∷ [])))

-- a mark: local, of no type, in the code
abbrev pub mark_entry : Mark → List ℕ
mark_entry mark = symbol_entry (mark_name mark.kind) 0 1 mark.place

-- global, of no type, in the code or not defined
abbrev pub global_entry : ℕ → Option ℕ → List ℕ
global_entry name (Some place) = symbol_entry name 16 1 place
global_entry name None = symbol_entry name 16 0 0

abbrev pub global_entries : ℕ → List Global → List ℕ
global_entries name [] = []
global_entries name (global ∷ globals) =
    global_entry name global.place
    ++ global_entries (name + length (global_named global)) globals

-- all symbols: the first is none, the local ones come before the global ones
abbrev pub symbol_table : List Mark → List Global → List ℕ
symbol_table marks globals =
    (replicate 24 0 ++ flat_map mark_entry marks) ++ global_entries 7 globals

-- the numbers of the ELF supplement for AArch64
abbrev pub relocation_number : RelocationKind → ℕ
relocation_number kinds.Abs64 = 257
relocation_number kinds.AdrPrelPgHi21 = 275
relocation_number kinds.AddAbsLo12Nc = 277
relocation_number kinds.Call26 = 283
relocation_number kinds.AdrGotPage = 311
relocation_number kinds.Ld64GotLo12Nc = 312

-- Elf64_Rela, where the global symbols have numbers from this on
abbrev pub relocation_entry : ℕ → Relocation → List ℕ
relocation_entry first relocation =
    flat_map long (relocation.place
    ∷ ((first + relocation.symbol) * 2 ^ 32 + relocation_number relocation.kind)
    ∷ cast_unsigned w64 relocation.addend ∷ [])

-- the numbers of symbols fit their field
abbrev pub AllHaveSymbols : ℕ → List Relocation → Type 0
AllHaveSymbols first relocations =
    (k : ℕ) (relocation : Relocation) → slice_get relocations k ≡ Some relocation
    → first + relocation.symbol < 2 ^ 32
