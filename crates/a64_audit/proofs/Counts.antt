-- How many words a file has.
use Rattle.std.proofs.Common.{◌≡◌, ℕ, ◌+◌, ◌≤◌, inl, inr, List, [], ◌∷◌, length, ap, arith}
use Rattle.std.specs.List.{join_with_byte}
use Rattle.std.proofs.lemmas.List.{length-append}
use Rattle.std.proofs.lemmas.List.Splits.{join_with_byte-slice_split}
use Rattle.a64_audit.specs.declared.entry.Entry.{Entry}
use Rattle.a64_audit.specs.declared.entry.Entry.TheVariants.{Word, Trap, Data}
use Rattle.a64_audit.specs.Entries.{Contents, entry_line, said, says}
use Rattle.a64_lines.specs.Lines.{Leads, LeadAll, IsFile}
use Rattle.a64_tokens.specs.Splitting.{lines_of}

-- how many bytes lines have
total : List (List ℕ) → ℕ
total [] = 0
total (line ∷ lines) = length line + total lines

-- an entry is one word at most, and its line has a byte
said_few : (e : Entry) (old : Contents) → length (said e old).words ≤ length old.words + length (entry_line e)
said_few (Word place word) old = omega (arith, length-append old.words (word ∷ []))
said_few (Trap place code) old = omega arith
said_few (Data begin end) old = omega arith

line_few : (line : List ℕ) (old new : Contents) → Leads says line old new → length new.words ≤ length old.words + length line
line_few line old new (inl blank) = omega (arith, ap (λ (c : Contents). length c.words) blank.1)
line_few line old new (inr (meant, inl passed)) = omega (arith, ap (λ (c : Contents). length c.words) passed.1)
line_few line old new (inr (meant, inr s)) = omega (arith, ap (λ (c : Contents). length c.words) s.is, ap (λ (l : List ℕ). length l) s.text, said_few s.entry old)

lines_few : (lines : List (List ℕ)) (old new : Contents) → LeadAll says lines old new → length new.words ≤ length old.words + total lines
unfolding total
lines_few [] old new h = omega (arith, ap (λ (c : Contents). length c.words) h)
lines_few (line ∷ lines) old new h = omega (arith, line_few line old h.0 h.1, lines_few lines h.0 new h.2)

-- lines have no more bytes than what they are joined to
total_few : (separator : ℕ) (lines : List (List ℕ)) → total lines ≤ length (join_with_byte separator lines)
unfolding total
total_few separator [] = omega arith
total_few separator (line ∷ []) = omega arith
total_few separator (line ∷ next ∷ lines) = omega (arith, length-append line (separator ∷ join_with_byte separator (next ∷ lines)), total_few separator (next ∷ lines))

-- a file has no more words than bytes
pub words_few : (start : Contents) (bytes : List ℕ) (file : Contents) → start.words ≡ [] → IsFile says start bytes file → length file.words ≤ length bytes
words_few start bytes file none is =
    omega (
      arith,
      ap (λ (ws : List ℕ). length ws) none,
      lines_few (lines_of bytes) start file is,
      total_few 10 (lines_of bytes),
      ap (λ (bs : List ℕ). length bs) (join_with_byte-slice_split 10 bytes),
    )
