-- From the tokens of a line to the entry that the line is.
use Rattle.std.proofs.Common.{◌≡◌, ℕ, List, ◌∷◌, eqb, Option, Some, None, refl, sym, ap, subst, ◌∙◌}
use Rattle.std.specs.Prelude.{IfSome}
use Rattle.std.specs.List.{AllByRecursion, slice_split}
use Rattle.a64_text.specs.declared.entry.Entry.{Entry}
use Rattle.a64_text.specs.declared.name.Name.{Name}
use Rattle.a64_tokens.specs.declared.value.Value.{Value}
use Rattle.a64_text.specs.Makers.{made_some, made_only, fields_kinds, name_plain}
use Rattle.a64_text.specs.Makes.{Makes}
use Rattle.a64_text.specs.Names.{name_text, kinds_of}
use Rattle.a64_tokens.specs.Reads.{Reads}
use Rattle.a64_read.specs.Rows.{AreFields, texts}
use Rattle.a64_text.specs.Tokens.{name_of, fields_of, IsOwn, IsPlain, tokens_of, plain_line}
use Rattle.a64_read.specs.Values.{IsValue}
use Rattle.a64_read.proofs.Joined.{all_plain}
use Rattle.a64_tokens.proofs.Splits.{joined_some}
use Rattle.a64_read.proofs.Plain.{value_plain}
use Rattle.a64_read.proofs.Schemas.{Names, none_made, made_of}
use Rattle.a64_tokens.specs.SplitLaws.{split-join}

pub line_split : (line : List ℕ) (entry : Entry) → IsPlain entry → line ≡ plain_line entry → slice_split (λ b. eqb b 32) line ≡ tokens_of entry
line_split line entry is e = ap (λ (t : List ℕ). slice_split (λ b. eqb b 32) t) e ∙ split-join 32 (name_text (name_of entry)) (texts (fields_of entry)) (name_plain (name_of entry), all_plain 32 IsValue value_plain (fields_of entry) is.fields)

is_some : (line : List ℕ) (tokens : List (List ℕ)) (r : Option Entry) → slice_split (λ b. eqb b 32) line ≡ tokens → IfSome r (λ entry. (AllByRecursion IsValue (fields_of entry) × IsOwn entry) × (tokens ≡ tokens_of entry)) → IfSome r (λ entry. IsPlain entry × (line ≡ plain_line entry))
is_some line tokens None split h = tt
is_some line tokens (Some entry) split h = (record { fields = h.0.0; own = h.0.1 }, joined_some 32 line (tokens_of entry) (split ∙ h.1))

pub line_read : (line : List ℕ) (tokens : List (List ℕ)) (r : Option Entry) → slice_split (λ b. eqb b 32) line ≡ tokens → Reads (λ entry. AllByRecursion IsValue (fields_of entry) × IsOwn entry) tokens_of tokens r → Reads IsPlain plain_line line r
line_read line tokens r split h = record {
  some = is_some line tokens r split h.some;
  only = λ entry is e. h.only entry (is.fields, is.own) (sym split ∙ line_split line entry is e);
}

-- the names of entries
entries : Names Name Entry
entries = record {
  text = name_text;
  kinds_of = kinds_of;
  name_of = name_of;
  fields_of = fields_of;
  own = IsOwn;
  makes = Makes;
  made_some = made_some;
  made_only = made_only;
  fields_kinds = fields_kinds;
}

-- the name and the fields of a line
abbrev pub ReadsLine : List ℕ → Option (Name × List Value) → Type 0
ReadsLine line r = Reads (λ (p : Name × List Value). AreFields IsValue (kinds_of p.0) p.1) (λ p. name_text p.0 ∷ texts p.1) (slice_split (λ b. eqb b 32) line) r

pub line_none : (line : List ℕ) → ReadsLine line None → Reads IsPlain plain_line line None
unfolding entries
line_none line h = line_read line (slice_split (λ b. eqb b 32) line) None refl (none_made entries IsValue (λ v fits. fits) (slice_split (λ b. eqb b 32) line) h)

pub line_made : (line : List ℕ) (name : Name) (values given : List Value) (made r : Option Entry) → ReadsLine line (Some (name, values)) → given ≡ values → made ≡ r → Makes name given made → Reads IsPlain plain_line line r
unfolding entries
line_made line name values given made r h same is makes =
    let its_makes = subst (λ (vs : List Value). Makes name vs r) same (subst (λ (m : Option Entry). Makes name given m) is makes) in
    line_read line (slice_split (λ b. eqb b 32) line) r refl (made_of entries IsValue (λ v fits. fits) (slice_split (λ b. eqb b 32) line) name values h r its_makes)
