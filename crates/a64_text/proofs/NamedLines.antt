-- Lines whose name stands behind the word of instructions that are restored, and lines without it.
use Rattle.std.proofs.Common.{Bor, ◌≡◌, ℕ, Bool, true, false, List, ◌++◌, Option, Some, None, refl, sym, ap, subst, ◌∙◌}
use Rattle.std.specs.Prelude.{codes, is_some, unwrap_or}
use Rattle.a64_text.specs.declared.entry.Entry.{Entry}
use Rattle.a64_text.specs.declared.name.Name.{Name}
use Rattle.a64_text.specs.declared.state.ReaderState.{ReaderState}
use Rattle.a64_tokens.specs.declared.value.Value.{Value}
use Rattle.a64_text.specs.AddsLine.{Added, AddsNamed, AddsNothing, IsBehindRestore}
use Rattle.a64_tokens.specs.Splitting.{first_line, lines_behind}
use Rattle.a64_text.proofs.Adds.{line_added, line_refused}
use Rattle.a64_text.proofs.Givens.{no_entry}
use Rattle.a64_text.proofs.LineReads.{line_none, ReadsLine}
use Rattle.a64_text.proofs.Restores.{first_behind, lines_same, no_restored, other_line, plain_read, restored_added, restored_refused}

-- the first line of a text that begins with the word
its_line : (text rest : List ℕ) → text ≡ codes "restore " ++ rest → first_line text ≡ codes "restore " ++ first_line rest
its_line text rest is = ap first_line is ∙ first_behind rest

module _ (text : Bor (List ℕ)) where
  -- `read` is the text in which the name stands
  pub lines_read : (behind : Option (Bor (List ℕ))) (read : Bor (List ℕ)) → IsBehindRestore text.now behind → read ≡ unwrap_or behind text → lines_behind read.now ≡ lines_behind text.now
  lines_read None read word its = ap (λ (t : Bor (List ℕ)). lines_behind t.now) its
  lines_read (Some rest) read word its = ap (λ (t : Bor (List ℕ)). lines_behind t.now) its ∙ sym (ap lines_behind word ∙ lines_same rest.now)

  pub none_read : (old : ReaderState) (behind : Option (Bor (List ℕ))) (read : Bor (List ℕ)) → IsBehindRestore text.now behind → read ≡ unwrap_or behind text → ReadsLine (first_line read.now) None → AddsNothing old (first_line text.now)
  none_read old None read word its h =
      let line = first_line text.now in
      no_entry old line (plain_read line (other_line text.now word) None (line_none line (subst (λ (t : Bor (List ℕ)). ReadsLine (first_line t.now) None) its h)))
  none_read old (Some rest) read word its h =
      subst (λ (l : List ℕ). AddsNothing old l) (sym (its_line text.now rest.now word))
      (no_restored (first_line rest.now) old old (subst (λ (t : Bor (List ℕ)). ReadsLine (first_line t.now) None) its h))

  module _ (old new : ReaderState) (name : Name) (values fields : List Value) (same : fields ≡ values) where
    -- what was read in the text in which the name stands
    there : (read its : Bor (List ℕ)) → read ≡ its → ReadsLine (first_line read.now) (Some (name, values)) → ReadsLine (first_line its.now) (Some (name, values))
    there read its is h = subst (λ (t : Bor (List ℕ)). ReadsLine (first_line t.now) (Some (name, values))) is h

    -- what the name adds, by whether it stands behind the word
    by_word : (restored is made : Bool) → restored ≡ is → AddsNamed restored name fields old new made → AddsNamed is name fields old new made
    by_word restored is made same h = subst (λ (b : Bool). AddsNamed b name fields old new made) same h

    pub named_added : (behind : Option (Bor (List ℕ))) (read : Bor (List ℕ)) (restored : Bool) → IsBehindRestore text.now behind → read ≡ unwrap_or behind text → restored ≡ is_some behind → ReadsLine (first_line read.now) (Some (name, values)) → AddsNamed restored name fields old new true → (e : Entry) × Added old new (first_line text.now) e
    named_added None read restored word its is reads adds =
        line_added (first_line text.now) old new true (other_line text.now word) name values fields (there read text its reads) same (by_word restored false true is adds) refl
    named_added (Some rest) read restored word its is reads adds =
        subst (λ (l : List ℕ). (e : Entry) × Added old new l e) (sym (its_line text.now rest.now word))
        (restored_added (first_line rest.now) old new name values fields (there read rest its reads) same (by_word restored true true is adds))

    pub named_refused : (behind : Option (Bor (List ℕ))) (read : Bor (List ℕ)) (restored : Bool) → IsBehindRestore text.now behind → read ≡ unwrap_or behind text → restored ≡ is_some behind → ReadsLine (first_line read.now) (Some (name, values)) → AddsNamed restored name fields old new false → AddsNothing old (first_line text.now)
    named_refused None read restored word its is reads adds =
        line_refused (first_line text.now) old new false (other_line text.now word) name values fields (there read text its reads) same (by_word restored false false is adds) refl
    named_refused (Some rest) read restored word its is reads adds =
        subst (λ (l : List ℕ). AddsNothing old l) (sym (its_line text.now rest.now word))
        (restored_refused (first_line rest.now) old new name values fields (there read rest its reads) same (by_word restored true false is adds))
