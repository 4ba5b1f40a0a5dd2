-- No line of an entry is passed.
use Rattle.std.proofs.Common.{◌≡◌, ℕ, ◌||◌, Bool, true, false, eqb, List, ◌++◌, get_or, refl, ap, ◌∙◌}
use Rattle.std.specs.List.{AllByRecursion}
use Rattle.a64_audit.specs.declared.entry.Entry.{Entry}
use Rattle.a64_audit.specs.declared.entry.Entry.TheVariants.{Word, Trap, Data}
use Rattle.a64_audit.specs.Entries.{entry_line, passed_words}
use Rattle.a64_lines.specs.Entries.{BeginsWith}
use Rattle.a64_lines.proofs.Fronts.{other_front}

-- a byte with which the names of entries begin
abbrev begins : ℕ → Bool
begins byte = eqb byte 119 || (eqb byte 116 || eqb byte 100)

entry_begins : (e : Entry) → begins (get_or (entry_line e) 0 0) ≡ true
entry_begins (Word place word) = refl
entry_begins (Trap place code) = refl
entry_begins (Data begin end) = refl

passed_begin : AllByRecursion (λ (word : List ℕ). (rest : List ℕ) → begins (get_or (word ++ rest) 0 0) ≡ false) passed_words
passed_begin = (λ r. refl, (λ r. refl, (λ r. refl, (λ r. refl, (λ r. refl, (λ r. refl, (λ r. refl, (λ r. refl, tt))))))))

pub never_both : (line : List ℕ) (e : Entry) → BeginsWith line passed_words → line ≡ entry_line e → ⊥
never_both line e passed is =
    let no : begins (get_or line 0 0) ≡ false = other_front begins line passed_words passed_begin passed in
    let yes : begins (get_or line 0 0) ≡ true = ap (λ (l : List ℕ). begins (get_or l 0 0)) is ∙ entry_begins e in
    absurd cc
