-- The lines of stubs.
use Rattle.std.specs.Prelude.{ℕ, ◌+◌, List, [], ◌∷◌, ◌++◌, codes}
use Rattle.std.specs.Fmt.{decimal}
use Rattle.a64_report.specs.Report.{words_text}

-- the line of a stub: its number, its place and its address
abbrev pub stub_line : ℕ → ℕ → ℕ → List ℕ
stub_line index place address =
    codes "stub " ++ decimal index ++ codes " " ++ decimal place ++ codes " " ++ decimal address
    ++ codes "\n"

-- those of stubs, numbered from this number on
abbrev pub stub_lines : ℕ → List ℕ → List ℕ → List ℕ
stub_lines index (place ∷ places) (address ∷ addresses) =
    stub_line index place address ++ stub_lines (index + 1) places addresses
stub_lines index _ _ = []

-- the lines of stubs, and behind them those of all their words
abbrev pub stubs_text : List ℕ → List ℕ → List ℕ → List ℕ
stubs_text addresses places words = stub_lines 0 places addresses ++ words_text words
