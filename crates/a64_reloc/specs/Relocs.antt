-- The lines of relocations.
use Rattle.std.specs.Prelude.{ℕ, ℤ, List, ◌++◌, codes}
use Rattle.std.specs.Fmt.{decimal, signed_decimal}
use Rattle.a64_base.specs.declared.entity.ExternalName.{ExternalName}
use Rattle.a64_base.specs.declared.entity.Reloc.{Reloc}
use Rattle.a64_base.specs.declared.entity.Reloc.TheVariants.{Arm64Call, Abs8, Aarch64AdrGotPage21}
use Rattle.a64_base.specs.declared.entity.Reloc.TheVariants.{Aarch64Ld64GotLo12Nc}
use Rattle.a64_base.specs.declared.entity.Reloc.TheVariants.{Aarch64AdrPrelPgHi21}
use Rattle.a64_base.specs.declared.entity.Reloc.TheVariants.{Aarch64AddAbsLo12Nc}
use Rattle.a64_tokens.specs.Reads.{IsI64, IsU32}

-- the name of a kind of relocation
abbrev pub reloc_text : Reloc → List ℕ
reloc_text Arm64Call = codes "Arm64Call"
reloc_text Abs8 = codes "Abs8"
reloc_text Aarch64AdrGotPage21 = codes "Aarch64AdrGotPage21"
reloc_text Aarch64Ld64GotLo12Nc = codes "Aarch64Ld64GotLo12Nc"
reloc_text Aarch64AdrPrelPgHi21 = codes "Aarch64AdrPrelPgHi21"
reloc_text Aarch64AddAbsLo12Nc = codes "Aarch64AddAbsLo12Nc"

-- the name of a symbol
abbrev pub symbol_text : ExternalName → List ℕ
symbol_text name = codes "userextname" ++ decimal name.0

abbrev pub IsSymbol : ExternalName → Type 0
IsSymbol name = IsU32 name.0

-- the line of a relocation, without the line feed: its place, its kind, its symbol, and the number
-- that is added to that symbol's place
abbrev pub reloc_line : ℕ × Reloc × ExternalName × ℤ → List ℕ
reloc_line (place, kind, name, addend) =
    codes "reloc " ++ decimal place ++ codes " " ++ reloc_text kind
    ++ codes " userextname" ++ decimal name.0 ++ codes " " ++ signed_decimal addend

-- its numbers are of their kinds
abbrev pub IsReloc : ℕ × Reloc × ExternalName × ℤ → Type 0
IsReloc (place, kind, name, addend) = IsU32 place × IsSymbol name × IsI64 addend
