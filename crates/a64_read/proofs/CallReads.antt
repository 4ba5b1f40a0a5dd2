-- From a name and the fields in parentheses to what they make.
use Rattle.std.proofs.Common.{◌≡◌, ℕ, ◌<◌, List, [], ◌∷◌, length, Option, Some, None, sym, ap, ◌∙◌, arith}
use Rattle.std.specs.Prelude.{IfSome}
use Rattle.std.specs.List.{AllByRecursion, join_with_byte}
use Rattle.std.proofs.lemmas.List.Splits.{join_with_byte-slice_split}
use Rattle.a64_tokens.specs.declared.value.Value.{Value}
use Rattle.a64_tokens.specs.Fields.{HasNo, IsCall, call_text}
use Rattle.a64_read.specs.Parts.{part_text, part_texts, IsPart}
use Rattle.a64_tokens.specs.Reads.{Reads}
use Rattle.a64_read.specs.RegisterLaws.{comma}
use Rattle.a64_read.specs.Rows.{texts}
use Rattle.a64_tokens.specs.Splitting.{comma_tokens}
use Rattle.a64_read.proofs.Between.{parts_apart, same_texts}
use Rattle.a64_read.proofs.Calls.{made_no_call}
use Rattle.a64_read.proofs.Schemas.{Names}
use Rattle.a64_tokens.specs.SplitLaws.{split-join}

-- fields, of which there is one at least, are split where they were joined
fields_split : (vs : List Value) → 0 < length vs → AllByRecursion IsPart vs → comma_tokens (join_with_byte 44 (part_texts vs)) ≡ texts vs
fields_split [] some are = absurd (omega (arith, some))
fields_split (v ∷ vs) some are = split-join 44 (part_text v) (part_texts vs) (parts_apart 44 comma (v ∷ vs) are) ∙ sym (same_texts (v ∷ vs) are)

module _ {N M : Type 0} (n : Names N M) (apart : (name : N) → HasNo 40 (n.text name)) (some_field : (made : M) → 0 < length (n.fields_of made)) (token : List ℕ) where
  abbrev pub IsMade : M → Type 0
  IsMade made = AllByRecursion IsPart (n.fields_of made) × n.own made

  abbrev pub parts_of : M → List ℕ × List ℕ
  parts_of made = (n.text (n.name_of made), join_with_byte 44 (part_texts (n.fields_of made)))

  abbrev pub made_text : M → List ℕ
  made_text made = call_text (parts_of made)

  pub no_call : Reads IsCall call_text token None → Reads IsMade made_text token None
  no_call h = made_no_call IsMade parts_of (λ made. apart (n.name_of made)) token h

  module _ (name inside : List ℕ) (h : Reads IsCall call_text token (Some (name, inside))) where
    its_parts : (made : M) → token ≡ made_text made → (name ≡ n.text (n.name_of made)) × (inside ≡ join_with_byte 44 (part_texts (n.fields_of made)))
    its_parts made e =
        let found : Some (name, inside) ≡ Some (parts_of made) = h.only (parts_of made) (apart (n.name_of made)) e in
        let same : (name, inside) ≡ parts_of made = cc in
        (ap (λ (p : List ℕ × List ℕ). p.0) same, ap (λ (p : List ℕ × List ℕ). p.1) same)

    is_one : (made : M) → IsMade made × (name ∷ comma_tokens inside ≡ n.text (n.name_of made) ∷ texts (n.fields_of made)) → IsMade made × (token ≡ made_text made)
    is_one made g =
        let e = g.1 in
        let its_name : name ≡ n.text (n.name_of made) = cc in
        let its_fields : comma_tokens inside ≡ texts (n.fields_of made) = cc in
        let joined : inside ≡ join_with_byte 44 (part_texts (n.fields_of made)) = sym (join_with_byte-slice_split 44 inside) ∙ ap (λ (t : List (List ℕ)). join_with_byte 44 t) (its_fields ∙ same_texts (n.fields_of made) g.0.0) in
        (g.0, h.some.1 ∙ ap (λ (t : List ℕ). call_text (t, inside)) its_name ∙ ap (λ (t : List ℕ). call_text (n.text (n.name_of made), t)) joined)

    is_some : (r : Option M) → IfSome r (λ made. IsMade made × (name ∷ comma_tokens inside ≡ n.text (n.name_of made) ∷ texts (n.fields_of made))) → IfSome r (λ made. IsMade made × (token ≡ made_text made))
    is_some None g = tt
    is_some (Some made) g = is_one made g

    pub made_read : (r : Option M) → Reads IsMade (λ made. n.text (n.name_of made) ∷ texts (n.fields_of made)) (name ∷ comma_tokens inside) r → Reads IsMade made_text token r
    made_read r g = record {
      some = is_some r g.some;
      only = λ made is e.
          let parts = its_parts made e in
          let split : comma_tokens inside ≡ texts (n.fields_of made) = ap comma_tokens parts.1 ∙ fields_split (n.fields_of made) (some_field made) is.0 in
          g.only made is (ap (λ (t : List ℕ). t ∷ comma_tokens inside) parts.0 ∙ ap (λ (t : List (List ℕ)). n.text (n.name_of made) ∷ t) split);
    }
