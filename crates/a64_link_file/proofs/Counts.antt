-- How many words the units have.
use Rattle.std.proofs.Common.{◌≡◌, ℕ, ◌+◌, ◌<◌, ◌^◌, inl, inr, List, [], ◌∷◌, ◌++◌, length, map, Option, Some, None, refl, sym, ap, subst, ◌∙◌, arith, replicate}
use Rattle.std.specs.Prelude.{MatchOption, option_map}
use Rattle.std.specs.List.{sum_by}
use Rattle.std.specs.Option.{option_to_list}
use Rattle.std.proofs.lemmas.List.{length-append, length-replicate}
use Rattle.std.proofs.lemmas.List.Sums.{sum_by-append, sum_by-cons}
use Rattle.a64_lines.specs.Lines.{Leads, LeadAll, IsFile}
use Rattle.a64_link.specs.declared.unit.Unit.{Unit}
use Rattle.a64_link.specs.Units.{word_count}
use Rattle.a64_link_file.specs.declared.entry.Entry.{Entry}
use Rattle.a64_link_file.specs.declared.entry.Entry.TheVariants as entries
use Rattle.a64_link_file.specs.declared.entry.Part.{Part}
use Rattle.a64_link_file.specs.declared.entry.Part.TheVariants.{Define, Word, Space, Reloc}
use Rattle.a64_link_file.specs.Entries.{MayStand, StandsBehind, State, UnitContents, closed, no_words, said, says, unit_contents, with_part, words_brought}
use Rattle.a64_tokens.specs.Splitting.{lines_of}

abbrev unit_words : UnitContents → ℕ
unit_words unit = length unit.words

-- the number of the words of all units
abbrev words_in : List UnitContents → Option UnitContents → ℕ
words_in done current = sum_by unit_words (done ++ option_to_list current)

-- it is what was counted, and fewer than 2 ^ 29
record IsCounted (state : State) : Type 0 where
  same : state.total ≡ words_in state.done state.current
  few : state.total < 2 ^ 29

-- those of one unit more
one_more : (units : List UnitContents) (unit : UnitContents) → sum_by unit_words (units ++ unit ∷ []) ≡ sum_by unit_words units + length unit.words
one_more units unit = omega (arith, sum_by-append unit_words units (unit ∷ []), sum_by-cons unit_words unit [])

part_words : (part : Part) (unit : UnitContents) → length (with_part part unit).words ≡ length unit.words + words_brought part
part_words (Define definition) unit = omega arith
part_words (Word placed) unit = omega (arith, length-append unit.words (placed.1 ∷ []))
part_words (Space count) unit = omega (arith, length-append unit.words (replicate count 0), length-replicate {A = ℕ} count 0)
part_words (Reloc reloc) unit = omega arith

inside : (part : Part) (old : State) (current : Option UnitContents) → old.current ≡ current → IsCounted old → MatchOption current ⊥ (λ unit. StandsBehind unit part × (old.total + words_brought part < 2 ^ 29)) → IsCounted (said (entries.Inside part) old)
inside part old None is counted stands = absurd stands
inside part old (Some unit) is counted stands = record {
  same =
      let now : words_in old.done (option_map (with_part part) old.current) ≡ words_in old.done (Some (with_part part unit)) = ap (λ (c : Option UnitContents). words_in old.done (option_map (with_part part) c)) is in
      let before : words_in old.done old.current ≡ words_in old.done (Some unit) = ap (λ (c : Option UnitContents). words_in old.done c) is in
      omega (arith, now, before, counted.same, one_more old.done unit, one_more old.done (with_part part unit), part_words part unit);
  few = stands.1;
}

entry_counted : (e : Entry) (old : State) → MayStand old e → IsCounted old → IsCounted (said e old)
entry_counted (entries.Base base) old stands counted = record { same = counted.same; few = counted.few }
entry_counted entries.Unit old stands counted = record { same = counted.same ∙ sym (one_more (closed old).done no_words ∙ omega arith); few = counted.few }
entry_counted (entries.Inside part) old stands counted = inside part old old.current refl counted stands

line_counted : (line : List ℕ) (old new : State) → Leads says line old new → IsCounted old → IsCounted new
line_counted line old new (inl blank) counted = subst IsCounted (sym blank.1) counted
line_counted line old new (inr (meant, inl passed)) counted = subst IsCounted (sym passed.1) counted
line_counted line old new (inr (meant, inr s)) counted = subst IsCounted (sym s.is) (entry_counted s.entry old s.stands counted)

lines_counted : (lines : List (List ℕ)) (old new : State) → LeadAll says lines old new → IsCounted old → IsCounted new
lines_counted [] old new h counted = subst IsCounted (sym h) counted
lines_counted (line ∷ lines) old new h counted = lines_counted lines h.0 new h.2 (line_counted line old h.0 h.1 counted)

begins : (start : State) → start.done ≡ [] → start.current ≡ None → start.total ≡ 0 → IsCounted start
begins start done current total = record {
  same = total ∙ sym (ap (λ (us : List UnitContents). words_in us start.current) done ∙ ap (λ (c : Option UnitContents). words_in [] c) current);
  few = omega (arith, total);
}

all_words : (units : List Unit) → sum_by unit_words (map unit_contents units) ≡ sum_by word_count units
all_words [] = refl
all_words (unit ∷ units) = omega (arith, all_words units, sum_by-cons unit_words (unit_contents unit) (map unit_contents units), sum_by-cons word_count unit units)

-- the units of a file have fewer words
pub words_few : (start : State) (bytes : List ℕ) (state : State) (units : List Unit) → start.done ≡ [] → start.current ≡ None → start.total ≡ 0
    → IsFile says start bytes state → map unit_contents units ≡ (closed state).done → sum_by word_count units < 2 ^ 29
words_few start bytes state units done current total is same =
    let counted = lines_counted (lines_of bytes) start state is (begins start done current total) in
    omega (arith, counted.same, counted.few, all_words units, ap (λ (us : List UnitContents). sum_by unit_words us) same)
