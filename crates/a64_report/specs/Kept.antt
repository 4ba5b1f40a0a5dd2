-- Lines that are kept.
use Rattle.std.specs.Prelude.{ℕ, ◌≡◌, ◌+◌, ◌/◌, ◌%◌, ◌^◌, ◌<◌, ◌≤◌, List, [], ◌∷◌, ◌++◌, drop}
use Rattle.std.specs.Prelude.{length, codes}
use Rattle.std.specs.Fmt.{decimal}
use Rattle.std.specs.List.{flat_map, enumerate_from}
use Rattle.a64_report.specs.declared.hundred.Hundred.{Hundred}
use Rattle.a64_report.specs.Report.{item_line, word_line, words_in}
use Rattle.a64_tokens.specs.Hex.{hex_word}

-- the two digits of a number below 100
abbrev pub last_digits : ℕ → List ℕ
last_digits n = (48 + n / 10) ∷ (48 + n % 10) ∷ []

-- the `span` numbers from `first` on have texts that differ in the last two digits alone, and a
-- number is of their hundred
pub record Shares (first span number : ℕ) : Type 0 where
  pub few : span ≤ 100
  pub fits : first + span < 2 ^ 64
  pub some : 0 < span → (100 ≤ first) × (first % 100 ≡ 0) × (number / 100 ≡ first / 100)

-- the line of an item stands in a buffer, from `start` to 64, and the text of its number ends at
-- `index_end`
pub record KeepsItem (buffer : List ℕ) (start index_end index place : ℕ) : Type 0 where
  pub text : drop start buffer
      ≡ codes "item " ++ (decimal index ++ (codes " " ++ (decimal place ++ drop 63 buffer)))
  pub last : drop 63 buffer ≡ 10 ∷ drop 64 buffer
  pub front : index_end ≡ start + (5 + length (decimal index))
  pub begins : 16 ≤ start
  pub high : index_end ≤ 63
  pub index_fits : index < 2 ^ 64
  pub place_fits : place < 2 ^ 64

-- the line of some item of two hundreds stands there
abbrev pub KeepsItemOf : List ℕ → ℕ → ℕ → Hundred → Hundred → Type 0
KeepsItemOf buffer start index_end like hundred =
    (index : ℕ) × (place : ℕ) × KeepsItem buffer start index_end index place
    × Shares like.first like.span index × Shares hundred.first hundred.span place

-- the line of a word of code with its place
abbrev pub placed_word : ℕ → ℕ → List ℕ
placed_word place word = codes "word " ++ decimal place ++ codes " " ++ hex_word word ++ codes "\n"

-- it stands in a buffer, from `start` to 64
pub record KeepsWord (buffer : List ℕ) (start place word : ℕ) : Type 0 where
  pub text : drop start buffer ≡ codes "word " ++ (decimal place ++ drop 54 buffer)
  pub rest : drop 54 buffer ≡ 32 ∷ drop 55 buffer
  pub digits : drop 55 buffer ≡ hex_word word ++ drop 63 buffer
  pub last : drop 63 buffer ≡ 10 ∷ drop 64 buffer
  pub begins : 16 ≤ start
  pub low : start ≤ 54
  pub fits : place < 2 ^ 64

-- the line of this word at some place of a hundred stands there
abbrev pub KeepsWordOf : List ℕ → ℕ → Hundred → ℕ → Type 0
KeepsWordOf buffer start like word =
    (place : ℕ) × KeepsWord buffer start place word × Shares like.first like.span place

-- the lines of the items from the one with this index on
abbrev pub item_lines : List ℕ → ℕ → List ℕ
item_lines places index = flat_map item_line (enumerate_from index (drop index places))

-- the lines of the words of code from the one at this place on
abbrev pub word_lines : List ℕ → ℕ → List ℕ
word_lines code place = flat_map word_line (enumerate_from (place / 4) (words_in (drop place code)))
