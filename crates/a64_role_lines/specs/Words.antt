-- Words of a line.
use Rattle.std.specs.Prelude.{ℕ, List, ◌++◌, codes}

-- a word behind another
abbrev pub behind : List ℕ → List ℕ
behind word = codes " " ++ word
