-- The entry of a name and two fields, and of their line.
use Rattle.std.proofs.Common.{◌≡◌, inl, ℕ, List, get_or, Some, None, Option, refl, sym, ap, ◌∙◌, arith}
use Rattle.std.specs.Prelude.{IfSome, codes}
use Rattle.std.specs.Fmt.{decimal}
use Rattle.a64_audit.specs.declared.entry.Entry.{Entry}
use Rattle.a64_audit.specs.declared.entry.Entry.TheVariants.{Word, Trap, Data}
use Rattle.a64_audit.specs.Entries.{IsEntry, entry_line, line_of_two}
use Rattle.a64_audit.specs.declared.reading.LineParts.{LineParts}
use Rattle.a64_audit.specs.LineParts.{AreParts, entry_parts}
use Rattle.a64_tokens.specs.DigitLaws.{decimal_apart}
use Rattle.a64_tokens.specs.Fields.{HasNo}
use Rattle.a64_tokens.specs.Hex.{hex_word}
use Rattle.a64_tokens.specs.Reads.{Reads, IsU32}

-- the first byte
front : {a b : List ℕ} → a ≡ b → get_or a 0 0 ≡ get_or b 0 0
front e = ap (λ (t : List ℕ). get_or t 0 0) e

module _ (name first second : List ℕ) where
  abbrev AreOf : Entry → Type 0
  AreOf e = IsEntry e × ((name, first, second) ≡ entry_parts e)

  abbrev IsRead : Option Entry → Type 0
  IsRead result = Reads IsEntry entry_parts (name, first, second) result

  -- the name is that of the entry
  named_so : (e : Entry) → AreOf e → name ≡ (entry_parts e).0
  named_so e h = ap (λ p. p.0) h.1

  module _ (named : name ≡ codes "word") where
    word_of : (e : Entry) → AreOf e → (place word : ℕ) × (e ≡ Word place word) × IsU32 place × IsU32 word × (first ≡ decimal place) × (second ≡ hex_word word)
    word_of (Word place word) h = let is = h.1 in (place, word, refl, h.0.0, h.0.1, ap (λ p. p.1) is, ap (λ p. p.2) is)
    word_of (Trap place code) h = absurd (omega (arith, front (sym named ∙ named_so (Trap place code) h)))
    word_of (Data begin end) h = absurd (omega (arith, front (sym named ∙ named_so (Data begin end) h)))

    pub word_read : (place word : ℕ) → Reads IsU32 decimal first (Some place) → Reads IsU32 hex_word second (Some word) → IsRead (Some (Word place word))
    word_read place word one two = record {
      some = ((one.some.0, two.some.0), let a = one.some.1 in let b = two.some.1 in cc);
      only = λ e fits is.
          let w = word_of e (fits, is) in
          let a = one.only w.0 w.3 w.5 in
          let b = two.only w.1 w.4 w.6 in
          let c = w.2 in
          cc;
    }

-- ---- the line of a name and two fields

-- the name and the first field of an entry have no space
plain : (e : Entry) → IsEntry e → HasNo 32 (entry_parts e).0 × HasNo 32 (entry_parts e).1
plain (Word place word) fits = (refl, decimal_apart 32 place (inl (omega arith)) (omega (arith, fits.0)))
plain (Trap place code) fits = (refl, decimal_apart 32 place (inl (omega arith)) (omega (arith, fits.0)))
plain (Data begin end) fits = (refl, decimal_apart 32 begin (inl (omega arith)) (omega (arith, fits.0)))

in_parts : (e : Entry) → entry_line e ≡ line_of_two (entry_parts e).0 (entry_parts e).1 (entry_parts e).2
in_parts (Word place word) = refl
in_parts (Trap place code) = refl
in_parts (Data begin end) = refl

-- a line without two spaces says nothing
pub no_parts : (line : List ℕ) → AreParts line None → Reads IsEntry entry_line line None
no_parts line parts = record {
  some = tt;
  only = λ e fits is. absurd (parts.only (entry_parts e).0 (entry_parts e).1 (entry_parts e).2 (plain e fits).0 (plain e fits).1 (is ∙ in_parts e));
}

-- what a line says is what its parts say
pub by_parts : (line : List ℕ) (parts : LineParts) (result : Option Entry) → AreParts line (Some parts)
    → Reads IsEntry entry_parts (parts.name.now, parts.first.now, parts.second.now) result → Reads IsEntry entry_line line result
by_parts line parts result cut read = record {
  some = said result read.some;
  only = λ e fits is.
      let same = cut.only (entry_parts e).0 (entry_parts e).1 (entry_parts e).2 (plain e fits).0 (plain e fits).1 (is ∙ in_parts e) in
      read.only e fits (λ i. (same.0 i, same.1 i, same.2 i));
}
  where
    said : (r : Option Entry) → IfSome r (λ e. IsEntry e × ((parts.name.now, parts.first.now, parts.second.now) ≡ entry_parts e)) → IfSome r (λ e. IsEntry e × (line ≡ entry_line e))
    said None h = tt
    said (Some e) h =
        let a : parts.name.now ≡ (entry_parts e).0 = ap (λ p. p.0) h.1 in
        let b : parts.first.now ≡ (entry_parts e).1 = ap (λ p. p.1) h.1 in
        let c : parts.second.now ≡ (entry_parts e).2 = ap (λ p. p.2) h.1 in
        let whole : line_of_two parts.name.now parts.first.now parts.second.now ≡ line_of_two (entry_parts e).0 (entry_parts e).1 (entry_parts e).2 = cc in
        (h.0, cut.some ∙ whole ∙ sym (in_parts e))
