-- The lines of entries.
use Rattle.std.proofs.Common.{◌≡◌, ℕ, ◌<◌, Bool, true, false, eqb, List, get_or, Option, Some, None, refl, sym, ap, ◌∙◌, arith}
use Rattle.std.specs.Fmt.{decimal}
use Rattle.std.specs.Prelude.{ℤ, ◌++◌, codes, ◌||◌}
use Rattle.std.specs.List.{AllByRecursion}
use Rattle.a64_lines.specs.Entries.{BeginsWith}
use Rattle.a64_lines.proofs.Fronts.{other_front}
use Rattle.a64_link_file.specs.declared.entry.Entry.{Entry}
use Rattle.a64_link_file.specs.declared.entry.Entry.TheVariants as entries
use Rattle.a64_link_file.specs.declared.entry.Part.{Part}
use Rattle.a64_link_file.specs.declared.entry.Part.TheVariants.{Define, Word, Space, Reloc}
use Rattle.a64_base.specs.declared.entity.Reloc as kinds
use Rattle.a64_base.specs.declared.entity.ExternalName.{ExternalName}
use Rattle.a64_link_file.specs.Entries.{IsDefine, IsEntry, IsPart, IsSpace, IsWord, base_line, define_line, entry_line, name_text, part_line, passed_words, space_line, word_line}
use Rattle.a64_tokens.specs.Fields.{HasNo}
use Rattle.a64_tokens.specs.Reads.{Reads, IsU32, IsU64}
use Rattle.a64_reloc.specs.Relocs.{IsReloc, IsSymbol, reloc_line}
use Rattle.a64_reloc.proofs.Plain.{decimal_plain}

pub name_plain : (name : ExternalName) → IsSymbol name → HasNo 32 (name_text name)
name_plain name fits = decimal_plain name.0 fits

-- a symbol is read as its number
pub no_name : (text : List ℕ) → Reads IsU32 decimal text None → Reads IsSymbol name_text text None
no_name text read = record { some = tt; only = λ name fits is. let e = read.only name.0 fits is in absurd cc }

abbrev named : ℕ → Option ExternalName
named number = Some (record { 0 = number })

pub number_name : (text : List ℕ) (number : ℕ) → Reads IsU32 decimal text (Some number) → Reads IsSymbol name_text text (Some (record { 0 = number }))
number_name text number read = record {
  some = read.some;
  only = λ name fits is.
      let e = read.only name.0 fits is in
      let same : number ≡ name.0 = cc in
      ap named same;
}

-- ---- the kinds of entries, by the first byte of their lines

front : {a b : List ℕ} → a ≡ b → get_or a 0 0 ≡ get_or b 0 0
front e = ap (λ (t : List ℕ). get_or t 0 0) e

module _ (line : List ℕ) where
  abbrev IsPartRead : Option Part → Type 0
  IsPartRead result = Reads IsPart part_line line result

  abbrev IsRead : Option Entry → Type 0
  IsRead result = Reads IsEntry entry_line line result

  pub define_read : (x : ExternalName × ℕ) → Reads IsDefine define_line line (Some x) → IsPartRead (Some (Define x))
  define_read x read = record { some = read.some; only = only }
    where
      only : (p : Part) → IsPart p → line ≡ part_line p → Some (Define x) ≡ Some p
      only (Define y) fits is = let e = read.only y fits is in let same : x ≡ y = cc in ap (λ (z : ExternalName × ℕ). Some (Define z)) same
      only (Word y) fits is = absurd (omega (arith, front (sym read.some.1 ∙ is)))
      only (Space y) fits is = absurd (omega (arith, front (sym read.some.1 ∙ is)))
      only (Reloc y) fits is = absurd (omega (arith, front (sym read.some.1 ∙ is)))

  pub word_read : (x : ℕ × ℕ) → Reads IsWord word_line line (Some x) → IsPartRead (Some (Word x))
  word_read x read = record { some = read.some; only = only }
    where
      only : (p : Part) → IsPart p → line ≡ part_line p → Some (Word x) ≡ Some p
      only (Define y) fits is = absurd (omega (arith, front (sym read.some.1 ∙ is)))
      only (Word y) fits is = let e = read.only y fits is in let same : x ≡ y = cc in ap (λ (z : ℕ × ℕ). Some (Word z)) same
      only (Space y) fits is = absurd (omega (arith, front (sym read.some.1 ∙ is)))
      only (Reloc y) fits is = absurd (omega (arith, front (sym read.some.1 ∙ is)))

  pub space_read : (x : ℕ) → Reads IsSpace space_line line (Some x) → IsPartRead (Some (Space x))
  space_read x read = record { some = read.some; only = only }
    where
      only : (p : Part) → IsPart p → line ≡ part_line p → Some (Space x) ≡ Some p
      only (Define y) fits is = absurd (omega (arith, front (sym read.some.1 ∙ is)))
      only (Word y) fits is = absurd (omega (arith, front (sym read.some.1 ∙ is)))
      only (Space y) fits is = let e = read.only y fits is in let same : x ≡ y = cc in ap (λ (z : ℕ). Some (Space z)) same
      only (Reloc y) fits is = absurd (omega (arith, front (sym read.some.1 ∙ is)))

  pub reloc_read : (x : ℕ × kinds.Reloc × ExternalName × ℤ) → Reads IsReloc reloc_line line (Some x) → IsPartRead (Some (Reloc x))
  reloc_read x read = record { some = read.some; only = only }
    where
      only : (p : Part) → IsPart p → line ≡ part_line p → Some (Reloc x) ≡ Some p
      only (Define y) fits is = absurd (omega (arith, front (sym read.some.1 ∙ is)))
      only (Word y) fits is = absurd (omega (arith, front (sym read.some.1 ∙ is)))
      only (Space y) fits is = absurd (omega (arith, front (sym read.some.1 ∙ is)))
      only (Reloc y) fits is = let e = read.only y fits is in let same : x ≡ y = cc in ap (λ (z : ℕ × kinds.Reloc × ExternalName × ℤ). Some (Reloc z)) same

  pub no_part : Reads IsDefine define_line line None → Reads IsWord word_line line None → Reads IsSpace space_line line None → Reads IsReloc reloc_line line None → IsPartRead None
  no_part define word space reloc = record { some = tt; only = only }
    where
      only : (p : Part) → IsPart p → line ≡ part_line p → None ≡ Some p
      only (Define y) fits is = let e = define.only y fits is in absurd cc
      only (Word y) fits is = let e = word.only y fits is in absurd cc
      only (Space y) fits is = let e = space.only y fits is in absurd cc
      only (Reloc y) fits is = let e = reloc.only y fits is in absurd cc

  -- with what the lines of what is inside a unit begin
  part_front : (p : Part) → (98 < get_or (part_line p) 0 0) × (get_or (part_line p) 0 0 ≡ 117 → ⊥)
  part_front (Define y) = (omega arith, λ e. omega (arith, e))
  part_front (Word y) = (omega arith, λ e. omega (arith, e))
  part_front (Space y) = (omega arith, λ e. omega (arith, e))
  part_front (Reloc y) = (omega arith, λ e. omega (arith, e))

  pub unit_read : line ≡ codes "unit" → IsRead (Some entries.Unit)
  unit_read is = record { some = (tt, is); only = only }
    where
      only : (e : Entry) → IsEntry e → line ≡ entry_line e → Some entries.Unit ≡ Some e
      only entries.Unit fits so = refl
      only (entries.Base base) fits so = absurd (omega (arith, front (sym is ∙ so)))
      only (entries.Inside part) fits so = absurd ((part_front part).1 (front (sym so ∙ is)))

  pub base_read : (base : ℕ) → Reads IsU64 base_line line (Some base) → IsRead (Some (entries.Base base))
  base_read base read = record { some = read.some; only = only }
    where
      only : (e : Entry) → IsEntry e → line ≡ entry_line e → Some (entries.Base base) ≡ Some e
      only entries.Unit fits so = absurd (omega (arith, front (sym read.some.1 ∙ so)))
      only (entries.Base b) fits so = let e = read.only b fits so in let same : base ≡ b = cc in ap (λ (n : ℕ). Some (entries.Base n)) same
      only (entries.Inside part) fits so = absurd (omega (arith, (part_front part).0, front (sym read.some.1 ∙ so)))

  pub part_read : (part : Part) → IsPartRead (Some part) → IsRead (Some (entries.Inside part))
  part_read part read = record { some = read.some; only = only }
    where
      only : (e : Entry) → IsEntry e → line ≡ entry_line e → Some (entries.Inside part) ≡ Some e
      only entries.Unit fits so = absurd ((part_front part).1 (front (sym read.some.1 ∙ so)))
      only (entries.Base b) fits so = absurd (omega (arith, (part_front part).0, front (sym read.some.1 ∙ so)))
      only (entries.Inside p) fits so = let e = read.only p fits so in let same : part ≡ p = cc in ap (λ (q : Part). Some (entries.Inside q)) same

  pub no_entry_read : (line ≡ codes "unit" → ⊥) → Reads IsU64 base_line line None → IsPartRead None → IsRead None
  no_entry_read other base inside = record { some = tt; only = only }
    where
      only : (e : Entry) → IsEntry e → line ≡ entry_line e → None ≡ Some e
      only entries.Unit fits so = absurd (other so)
      only (entries.Base b) fits so = let e = base.only b fits so in absurd cc
      only (entries.Inside p) fits so = let e = inside.only p fits so in absurd cc

-- ---- no line of an entry is passed

begins : ℕ → Bool
begins byte = eqb byte 98 || (eqb byte 117 || (eqb byte 100 || (eqb byte 119 || (eqb byte 115 || eqb byte 114))))

entry_begins : (e : Entry) → begins (get_or (entry_line e) 0 0) ≡ true
unfolding begins
entry_begins (entries.Base base) = refl
entry_begins entries.Unit = refl
entry_begins (entries.Inside (Define y)) = refl
entry_begins (entries.Inside (Word y)) = refl
entry_begins (entries.Inside (Space y)) = refl
entry_begins (entries.Inside (Reloc y)) = refl

passed_begin : AllByRecursion (λ (word : List ℕ). (rest : List ℕ) → begins (get_or (word ++ rest) 0 0) ≡ false) passed_words
unfolding begins
passed_begin = (λ r. refl, (λ r. refl, (λ r. refl, (λ r. refl, (λ r. refl, (λ r. refl, (λ r. refl, (λ r. refl, tt))))))))

pub never_both : (line : List ℕ) (e : Entry) → BeginsWith line passed_words → line ≡ entry_line e → ⊥
never_both line e passed is =
    let no : begins (get_or line 0 0) ≡ false = other_front begins line passed_words passed_begin passed in
    let yes : begins (get_or line 0 0) ≡ true = ap (λ (l : List ℕ). begins (get_or l 0 0)) is ∙ entry_begins e in
    absurd cc
