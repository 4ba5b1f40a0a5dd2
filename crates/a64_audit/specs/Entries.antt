-- The lines that an auditor reads: those of a report that tell of words, of traps and of data.
use Rattle.std.specs.Prelude.{ℕ, ◌≡◌, ◌*◌, ◌<◌, List, [], ◌∷◌, ◌++◌, codes, length, None, IfSome, ⊤}
use Rattle.std.specs.Fmt.{decimal}
use Rattle.std.specs.List.{last_or}
use Rattle.a64_audit.specs.declared.entry.Entry.{Entry}
use Rattle.a64_audit.specs.declared.entry.Entry.TheVariants.{Word, Trap, Data}
use Rattle.a64_audit.specs.declared.file.AuditFile.{AuditFile}
use Rattle.a64_lines.specs.Entries.{SaysBut}
use Rattle.a64_lines.specs.Lines as Lines
use Rattle.a64_tokens.specs.Hex.{hex_word}
use Rattle.a64_tokens.specs.Reads.{IsU8, IsU32}

-- what an entry says is a number of its kind
abbrev pub IsEntry : Entry → Type 0
IsEntry (Word place word) = IsU32 place × IsU32 word
IsEntry (Trap place code) = IsU32 place × IsU8 code
IsEntry (Data begin end) = IsU32 begin × IsU32 end

-- the line of a name and two fields
abbrev pub line_of_two : List ℕ → List ℕ → List ℕ → List ℕ
line_of_two name first second = name ++ codes " " ++ first ++ codes " " ++ second

-- the line of an entry
abbrev pub entry_line : Entry → List ℕ
entry_line (Word place word) = line_of_two (codes "word") (decimal place) (hex_word word)
entry_line (Trap place code) = line_of_two (codes "trap") (decimal place) (decimal code)
entry_line (Data begin end) = line_of_two (codes "data") (decimal begin) (decimal end)

-- what the other lines of a report begin with; they mean nothing here
abbrev pub passed_words : List (List ℕ)
passed_words =
    codes "item " ∷ codes "label " ∷ codes "island " ∷ codes "pool " ∷ codes "reloc "
    ∷ codes "call "
    ∷ codes "patchable " ∷ codes "map " ∷ []

-- what the lines of a file say: the words of code, the places of traps, and where data begins and
-- ends
pub record Contents : Type 0 where
  pub words : List ℕ
  pub traps : List ℕ
  pub ranges : List (ℕ × ℕ)

abbrev pub contents_of : AuditFile → Contents
contents_of file = record {
  words = file.words.items;
  traps = file.traps.items;
  ranges = file.ranges.items;
}

-- before the first line
abbrev pub nothing : Contents
nothing = record { words = []; traps = []; ranges = [] }

-- an entry may stand there: a word at the place behind those before it, a trap above the one before
-- it
abbrev pub MayStand : Contents → Entry → Type 0
MayStand old (Word place word) = place ≡ 4 * length old.words
MayStand old (Trap place code) = IfSome (last_or None old.traps) (λ before. before < place)
MayStand old (Data begin end) = ⊤

-- what is said with the entry too
abbrev pub said : Entry → Contents → Contents
said (Word place word) old = record old { words = old.words ++ word ∷ [] }
said (Trap place code) old = record old { traps = old.traps ++ place ∷ [] }
said (Data begin end) old = record old { ranges = old.ranges ++ (begin, end) ∷ [] }

-- what a line says
abbrev pub says : List ℕ → Contents → Contents → Type 0
says = SaysBut IsEntry entry_line MayStand said passed_words

-- the bytes are this file
abbrev pub IsAuditFile : List ℕ → AuditFile → Type 0
IsAuditFile bytes file = Lines.IsFile says nothing bytes (contents_of file)
