-- The parts of lines: a name, and two fields.
use Rattle.std.specs.Prelude.{ℕ, ◌≡◌, List, codes, Option, MatchOption, IfSome}
use Rattle.std.specs.Fmt.{decimal}
use Rattle.a64_audit.specs.declared.entry.Entry.{Entry}
use Rattle.a64_audit.specs.declared.entry.Entry.TheVariants.{Word, Trap, Data}
use Rattle.a64_audit.specs.declared.reading.LineParts.{LineParts}
use Rattle.a64_audit.specs.Entries.{line_of_two}
use Rattle.a64_tokens.specs.Fields.{HasNo}
use Rattle.a64_tokens.specs.Hex.{hex_word}

-- a name, and two fields
abbrev pub Parts : Type 0
Parts = List ℕ × List ℕ × List ℕ

-- those of an entry
abbrev pub entry_parts : Entry → Parts
entry_parts (Word place word) = (codes "word", decimal place, hex_word word)
entry_parts (Trap place code) = (codes "trap", decimal place, decimal code)
entry_parts (Data begin end) = (codes "data", decimal begin, decimal end)

-- the line was cut at its first two spaces, where it has two
pub record AreParts (line : List ℕ) (result : Option LineParts) : Type 0 where
  pub some : IfSome result (λ parts. line
      ≡ line_of_two parts.name.now parts.first.now parts.second.now)
  pub only : (name first second : List ℕ) → HasNo 32 name → HasNo 32 first
      → line ≡ line_of_two name first second
      → MatchOption result ⊥ (λ parts. (parts.name.now ≡ name) × (parts.first.now ≡ first)
      × (parts.second.now ≡ second))
