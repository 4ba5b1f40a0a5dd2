-- What is read for a kind that may stand with commas between is what a field of the kind says.
use Rattle.std.proofs.Common.{◌≡◌, ℕ, List, Bool, true, false, Option, Some, None, refl, sym, ap, ◌∙◌}
use Rattle.std.specs.Prelude.{IfSome}
use Rattle.std.proofs.lemmas.Bool.{false≢true}
use Rattle.a64_tokens.specs.declared.value.Kind.{Kind}
use Rattle.a64_tokens.specs.declared.value.Value.{Value}
use Rattle.a64_read.specs.PartLaws.{part_is, part_of}
use Rattle.a64_read.specs.Parts.{is_part, IsPart}
use Rattle.a64_tokens.specs.Reads.{Reads}
use Rattle.a64_read.specs.ReadsParts.{ReadsWhere, ReadsPart}
use Rattle.a64_read.specs.Values.{kind_of, value_text, IsOf}
use Rattle.a64_read.proofs.KindsRead.{kind_read}

module _ (kind : Kind) (token : List ℕ) where
  abbrev IsPartOf : Value → Type 0
  IsPartOf v = (kind_of v ≡ kind) × IsPart v

  some_of : is_part kind ≡ true → (r : Option Value) → IfSome r (λ v. IsOf kind v × (token ≡ value_text v)) → IfSome r (λ v. IsPartOf v × (token ≡ value_text v))
  some_of is None h = tt
  some_of is (Some v) h = ((h.0.0, part_of v (ap is_part h.0.0 ∙ is) h.0.1), h.1)

  read_where : (r : Option Value) (part : Bool) → is_part kind ≡ part → ReadsWhere part kind token r → Reads IsPartOf value_text token r
  read_where r true is h =
      let reads = kind_read kind token r h in
      record { some = some_of is r reads.some; only = λ v fits e. reads.only v (fits.0, (part_is v fits.1).0) e }
  read_where r false is h = rw h (record { some = tt; only = λ v fits e. absurd (false≢true (sym (ap is_part fits.0 ∙ is) ∙ (part_is v fits.1).2)) })

pub part_read : (kind : Kind) (token : List ℕ) (r : Option Value) → ReadsPart kind token r → Reads (λ v. (kind_of v ≡ kind) × IsPart v) value_text token r
part_read kind token r h = read_where kind token r (is_part kind) refl h
