-- The report of assembled code.
use Rattle.std.specs.Prelude.{ℕ, ℤ, ◌*◌, List, [], ◌∷◌, ◌++◌, map, codes}
use Rattle.std.specs.Int.{w32, from_le_bytes}
use Rattle.std.specs.List.{flat_map, enumerate_from}
use Rattle.std.specs.Fmt.{decimal}
use Rattle.a64_base.specs.declared.entity.ExternalName.{ExternalName}
use Rattle.a64_base.specs.declared.entity.MachLabel.{MachLabel}
use Rattle.a64_base.specs.declared.entity.Reloc.{Reloc}
use Rattle.a64_base.specs.declared.entity.TrapCode.{TrapCode}
use Rattle.a64_base.specs.declared.entity.UserStackMap.{UserStackMap}
use Rattle.a64_emit.specs.declared.code.Code.{Code}
use Rattle.a64_tokens.specs.Hex.{hex_word}
use Rattle.a64_reloc.specs.Relocs as Relocs

-- the words of code, each with its least byte first
abbrev pub words_in : List ℕ → List ℕ
words_in (a ∷ b ∷ c ∷ d ∷ bytes) = from_le_bytes w32 (a ∷ b ∷ c ∷ d ∷ []) ∷ words_in bytes
words_in _ = []

-- a line with a number, and one with two
abbrev pub line_of_one : List ℕ → ℕ → List ℕ
line_of_one name a = name ++ codes " " ++ decimal a ++ codes "\n"

abbrev pub line_of_two : List ℕ → ℕ → ℕ → List ℕ
line_of_two name a b = name ++ codes " " ++ decimal a ++ codes " " ++ decimal b ++ codes "\n"

-- the lines of each kind
abbrev pub item_line : ℕ × ℕ → List ℕ
item_line (index, place) = line_of_two (codes "item") index place

abbrev pub label_line : MachLabel × ℕ → List ℕ
label_line (label, place) =
    codes "label L" ++ decimal label.0 ++ codes " " ++ decimal place ++ codes "\n"

abbrev pub island_line : ℕ × ℕ → List ℕ
island_line (begin, end) = line_of_two (codes "island") begin end

abbrev pub pool_line : ℕ → List ℕ
pool_line place = line_of_one (codes "pool") place

abbrev pub word_line : ℕ × ℕ → List ℕ
word_line (index, word) =
    codes "word " ++ decimal (4 * index) ++ codes " " ++ hex_word word ++ codes "\n"

-- the lines of words, from the first on
abbrev pub words_text : List ℕ → List ℕ
words_text words = flat_map word_line (enumerate_from 0 words)

abbrev pub reloc_line : ℕ × Reloc × ExternalName × ℤ → List ℕ
reloc_line reloc = Relocs.reloc_line reloc ++ codes "\n"

abbrev pub trap_line : ℕ × TrapCode → List ℕ
trap_line (place, code) = line_of_two (codes "trap") place code.0

abbrev pub call_line : ℕ → List ℕ
call_line place = line_of_one (codes "call") place

abbrev pub patchable_line : ℕ × ℕ → List ℕ
patchable_line (place, len) = line_of_two (codes "patchable") place len

abbrev pub map_line : ℕ × UserStackMap → List ℕ
map_line (place, map) = line_of_two (codes "map") place map.0

-- the report: the lines of each kind, by number or place
abbrev pub report_of : Code → List ℕ
report_of code =
    flat_map item_line (enumerate_from 0 code.places.items)
    ++ flat_map label_line code.labels.items
    ++ flat_map island_line code.islands.items
    ++ pool_line code.pool
    ++ words_text (words_in code.bytes.items)
    ++ flat_map reloc_line code.relocs.items
    ++ flat_map trap_line code.traps.items
    ++ flat_map call_line code.calls.items
    ++ flat_map patchable_line code.patchable.items
    ++ flat_map map_line code.maps.items
