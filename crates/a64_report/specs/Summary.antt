-- What is told of the code of a file that `gen` made.
use Rattle.std.specs.Prelude.{ℕ, ◌%◌, ◌^◌, List, ◌++◌, length, sum, codes}
use Rattle.a64_emit.specs.declared.code.Code.{Code}
use Rattle.a64_tokens.specs.Hex.{hex_word}
use Rattle.a64_report.specs.Report.{words_in, line_of_one}

-- the sum of the words of code, as a word
abbrev pub word_sum : List ℕ → ℕ
word_sum bytes = sum (words_in bytes) % 2 ^ 32

-- four lines: how many items there are, how many bytes of code, how many islands, and the sum of
-- the words
abbrev pub summary_lines : ℕ → ℕ → ℕ → ℕ → List ℕ
summary_lines items bytes islands total =
    line_of_one (codes "items") items
    ++ line_of_one (codes "bytes") bytes
    ++ line_of_one (codes "islands") islands
    ++ codes "sum " ++ hex_word total ++ codes "\n"

-- what is told of the code of so many items
abbrev pub summary_of : ℕ → Code → List ℕ
summary_of items code =
    summary_lines items (length code.bytes.items) (length code.islands.items)
    (word_sum code.bytes.items)
