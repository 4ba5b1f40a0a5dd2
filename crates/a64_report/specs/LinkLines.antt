-- The lines of linked code.
use Rattle.std.specs.Prelude.{ℕ, ◌+◌, ◌*◌, ◌||◌, not, nat_eq, nat_lt, if◌then◌else◌, List, [], ◌++◌}
use Rattle.std.specs.Prelude.{take, drop, replicate, codes}
use Rattle.std.specs.Fmt.{decimal}
use Rattle.std.specs.List.{flat_map, enumerate_from, prefix_len, suffix_len}
use Rattle.a64_base.specs.declared.entity.ExternalName.{ExternalName}
use Rattle.a64_reloc.specs.Relocs.{symbol_text}
use Rattle.a64_report.specs.Report.{line_of_one, line_of_two, word_line}

-- the line of a unit: its number and its start
abbrev pub unit_line : ℕ × ℕ → List ℕ
unit_line (index, start) = line_of_two (codes "unit") index start

-- that of a symbol: its name and its place
abbrev pub symbol_line : ExternalName × ℕ → List ℕ
symbol_line (name, place) =
    codes "symbol " ++ symbol_text name ++ codes " " ++ decimal place ++ codes "\n"

-- that of a thunk: its place
abbrev pub thunk_line : ℕ → List ℕ
thunk_line place = line_of_one (codes "thunk") place

-- that of zero words which stand together: the place of the first, and how many they are
abbrev pub zeros_line : ℕ → ℕ → List ℕ
zeros_line index count = line_of_two (codes "zeros") (4 * index) count

-- the line of the word at an index, where so many zero words stand directly before it and so many
-- from it on: where it is one of 16 or more zero words that stand together, the first of them has
-- one line for all, and the others have none
abbrev pub line_among : (before from : ℕ) → ℕ × ℕ → List ℕ
line_among before from (index, word) =
    if not (nat_eq 0 word) || nat_lt (before + from) 16 then word_line (index, word)
    else if nat_eq before 0 then zeros_line index from
    else []

-- the same, among words
abbrev pub data_line : List ℕ → ℕ × ℕ → List ℕ
data_line words (index, word) =
    line_among (suffix_len (nat_eq 0) (take index words)) (prefix_len (nat_eq 0) (drop index words))
    (index, word)

-- the lines of words
abbrev pub data_text : List ℕ → List ℕ
data_text words = flat_map (data_line words) (enumerate_from 0 words)

-- those of zero words before and behind which none stands
abbrev pub zeros_text : (index count : ℕ) → List ℕ
zeros_text index count =
    if nat_lt count 16 then flat_map word_line (enumerate_from index (replicate count 0))
    else zeros_line index count

-- the lines of linked code: those of its units, numbered from 0, of its symbols, of its thunks, and
-- of its words
abbrev pub linked_text : List ℕ → List (ExternalName × ℕ) → List ℕ → List ℕ → List ℕ
linked_text starts symbols thunks words =
    flat_map unit_line (enumerate_from 0 starts) ++ flat_map symbol_line symbols
    ++ flat_map thunk_line thunks ++ data_text words
