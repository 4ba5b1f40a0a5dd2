-- How words are shown: as the text of their form, or as data.
use Rattle.std.specs.Prelude.{ℕ, ◌≡◌, ◌⊎◌, not, List, [], ◌∷◌, ◌++◌, codes}
use Rattle.std.specs.List.{AllByRecursion, AllZip, filter}
use Rattle.a64_formtext.specs.declared.file.ShownFile.{ShownFile}
use Rattle.a64_formtext.specs.Texts.{form_text}
use Rattle.a64_lines.specs.Lines as Lines
use Rattle.a64_tokens.specs.Hex.{hex_word}
use Rattle.a64_tokens.specs.Reads.{IsU32}
use Rattle.a64_tokens.specs.Splitting.{is_blank, lines_of}
use Rattle.a64_rows.specs.declared.row_table.Row.{Row}
use Rattle.a64_rows.specs.Forms.{Form, IsWordOf, Matches}

-- the line is the text of the form of a word
pub record IsShownForm (word : ℕ) (line : List ℕ) : Type 0 where
  pub form : Form
  pub is_word : IsWordOf form.row form.fields word
  pub text : line ≡ form_text form

-- the line is a word that matches no row
pub record IsShownData (word : ℕ) (line : List ℕ) : Type 0 where
  pub unmatched : (row : Row) → Matches row word → ⊥
  pub text : line ≡ codes "Data " ++ hex_word word

-- a word of 32 bits that matches no row
abbrev pub IsData : ℕ → Type 0
IsData word = IsU32 word × ((row : Row) → Matches row word → ⊥)

-- how a word is shown
abbrev pub IsShown : ℕ → List ℕ → Type 0
IsShown word line = IsShownForm word line ⊎ IsShownData word line

-- the lines of some words, one behind another
abbrev pub IsListing : List ℕ → List ℕ → Type 0
IsListing [] text = text ≡ []
IsListing (word ∷ words) text =
    (line : List ℕ) × (rest : List ℕ) × IsShown word line × (text ≡ line ++ codes "\n" ++ rest)
    × IsListing words rest

-- the line is the one as which the word is shown, and no other word is shown as it
pub record IsOneLine (word : ℕ) (line : List ℕ) : Type 0 where
  pub shown : IsShown word line
  pub one_line : (other : List ℕ) → IsShown word other → other ≡ line
  pub one_word : (other : ℕ) → IsU32 other → IsShown other line → other ≡ word

-- the lines of a file that mean something
abbrev pub meant_lines : List ℕ → List (List ℕ)
meant_lines bytes = filter (λ line. not (is_blank line)) (lines_of bytes)

-- lines, each with a line feed behind it
abbrev pub with_feeds : List (List ℕ) → List ℕ
with_feeds [] = []
with_feeds (line ∷ lines) = line ++ codes "\n" ++ with_feeds lines

-- the lines are those of the words, in order, each the one line of its word; and with a line feed
-- behind each they are the one listing of the words
pub record IsOneListing (words : List ℕ) (lines : List (List ℕ)) : Type 0 where
  pub each : AllZip IsOneLine words lines
  pub listing : IsListing words (with_feeds lines)
  pub one : (text : List ℕ) → IsListing words text → text ≡ with_feeds lines

-- a line says the word as which it is shown
abbrev pub says : List ℕ → List ℕ → List ℕ → Type 0
says line old new = (word : ℕ) × IsU32 word × IsShown word line × (new ≡ old ++ word ∷ [])

-- the words of a file
abbrev pub words_of : ShownFile → List ℕ
words_of file = file.words.items

-- the bytes are this file: its lines say these words, and where they are the listing of some words,
-- it is of these
pub record IsShownFile (bytes : List ℕ) (file : ShownFile) : Type 0 where
  pub lines : Lines.IsFile says [] bytes (words_of file)
  pub back : (words : List ℕ) → AllByRecursion IsU32 words → IsListing words bytes
      → words_of file ≡ words
