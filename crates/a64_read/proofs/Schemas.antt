-- From a name and the fields behind it to what they make.
use Rattle.std.proofs.Common.{◌≡◌, ℕ, List, [], ◌∷◌, map, Option, Some, None, sym, ap, subst, ◌∙◌}
use Rattle.std.specs.Prelude.{IfSome}
use Rattle.std.specs.List.{AllByRecursion}
use Rattle.a64_tokens.specs.declared.value.Kind.{Kind}
use Rattle.a64_tokens.specs.declared.value.Value.{Value}
use Rattle.a64_tokens.specs.Reads.{Reads, Always}
use Rattle.a64_read.specs.Rows.{AreFields, texts}
use Rattle.a64_read.specs.Values.{kind_of, IsValue}

heads : (a b : List ℕ) (xs ys : List (List ℕ)) → a ∷ xs ≡ b ∷ ys → (a ≡ b) × (xs ≡ ys)
heads a b xs ys e = (cc, cc)

each_value : (fits : Value → Type 0) → ((v : Value) → fits v → IsValue v) → (vs : List Value) → AllByRecursion fits vs → AllByRecursion IsValue vs
each_value fits each [] h = tt
each_value fits each (v ∷ vs) h = (each v h.0, each_value fits each vs h.1)

-- the names N, what they make, and the laws of both
pub record Names (N M : Type 0) : Type 1 where
  pub text : N → List ℕ
  pub kinds_of : N → List Kind
  pub name_of : M → N
  pub fields_of : M → List Value
  pub own : M → Type 0
  pub makes : N → List Value → Option M → Type 0
  pub made_some : (name : N) (values : List Value) (r : Option M) → makes name values r → map kind_of values ≡ kinds_of name → IfSome r (λ made. (name_of made ≡ name) × (fields_of made ≡ values) × own made)
  pub made_only : (made : M) (values : List Value) (r : Option M) → makes (name_of made) values r → AllByRecursion IsValue (fields_of made) → own made → fields_of made ≡ values → r ≡ Some made
  pub fields_kinds : (made : M) → map kind_of (fields_of made) ≡ kinds_of (name_of made)

-- a name of N, and fields behind it
module _ {N : Type 0} (text : N → List ℕ) (kinds_of : N → List Kind) (fits : Value → Type 0) (token : List ℕ) (rest : List (List ℕ)) where
  abbrev pub IsHeaded : N × List Value → Type 0
  IsHeaded p = AreFields fits (kinds_of p.0) p.1

  abbrev pub head_tokens : N × List Value → List (List ℕ)
  head_tokens p = text p.0 ∷ texts p.1

  -- the first token is no name
  pub no_name : Reads Always text token None → Reads IsHeaded head_tokens (token ∷ rest) None
  no_name named = record {
    some = tt;
    only = λ p are e. let found : None ≡ Some p.0 = named.only p.0 tt (heads token (text p.0) rest (texts p.1) e).0 in absurd cc;
  }

  module _ (name : N) (named : Reads Always text token (Some name)) where
    its_fields : (r : Option (List Value)) → Reads (AreFields fits (kinds_of name)) texts rest r → (p : N × List Value) → IsHeaded p → token ∷ rest ≡ head_tokens p → (name ≡ p.0) × (r ≡ Some p.1)
    its_fields r h p are e =
        let both = heads token (text p.0) rest (texts p.1) e in
        let found : Some name ≡ Some p.0 = named.only p.0 tt both.0 in
        let same : name ≡ p.0 = cc in
        (same, h.only p.1 (are.0 ∙ ap kinds_of (sym same), are.1) both.1)

    -- the others are no fields of its kinds
    pub no_fields : Reads (AreFields fits (kinds_of name)) texts rest None → Reads IsHeaded head_tokens (token ∷ rest) None
    no_fields h = record {
      some = tt;
      only = λ p are e. let found : None ≡ Some p.1 = (its_fields None h p are e).1 in absurd cc;
    }

    pub headed : (values : List Value) → Reads (AreFields fits (kinds_of name)) texts rest (Some values) → Reads IsHeaded head_tokens (token ∷ rest) (Some (name, values))
    headed values h = record {
      some = (h.some.0, ap (λ (t : List ℕ). t ∷ rest) named.some.1 ∙ ap (λ (t : List (List ℕ)). text name ∷ t) h.some.1);
      only = λ p are e.
          let both = its_fields (Some values) h p are e in
          let is : Some values ≡ Some p.1 = both.1 in
          let same : values ≡ p.1 = cc in
          ap (λ (m : N). Some (m, values)) both.0 ∙ ap (λ (vs : List Value). Some (p.0, vs)) same;
    }

module _ {N M : Type 0} (n : Names N M) (fits : Value → Type 0) (each : (v : Value) → fits v → IsValue v) (tokens : List (List ℕ)) where
  abbrev pub IsOne : M → Type 0
  IsOne made = AllByRecursion fits (n.fields_of made) × n.own made

  abbrev pub tokens_of : M → List (List ℕ)
  tokens_of made = n.text (n.name_of made) ∷ texts (n.fields_of made)

  abbrev IsHead : N × List Value → Type 0
  IsHead p = AreFields fits (n.kinds_of p.0) p.1

  abbrev parts_text : N × List Value → List (List ℕ)
  parts_text p = n.text p.0 ∷ texts p.1

  its_head : (r : Option (N × List Value)) → Reads IsHead parts_text tokens r → (made : M) → IsOne made → tokens ≡ tokens_of made → r ≡ Some (n.name_of made, n.fields_of made)
  its_head r h made is e = h.only (n.name_of made, n.fields_of made) (n.fields_kinds made, is.0) e

  pub none_made : Reads IsHead parts_text tokens None → Reads IsOne tokens_of tokens None
  none_made h = record {
    some = tt;
    only = λ made is e. let found : None ≡ Some (n.name_of made, n.fields_of made) = its_head None h made is e in absurd cc;
  }

  module _ (name : N) (values : List Value) (h : Reads IsHead parts_text tokens (Some (name, values))) where
    is_one : (made : M) → (n.name_of made ≡ name) × (n.fields_of made ≡ values) × n.own made → IsOne made × (tokens ≡ tokens_of made)
    is_one made m = (
      (subst (λ (vs : List Value). AllByRecursion fits vs) (sym m.1) h.some.0.1, m.2),
      h.some.1 ∙ ap (λ (k : N). n.text k ∷ texts values) (sym m.0) ∙ ap (λ (vs : List Value). n.text (n.name_of made) ∷ texts vs) (sym m.1),
    )

    is_some : (r : Option M) → IfSome r (λ made. (n.name_of made ≡ name) × (n.fields_of made ≡ values) × n.own made) → IfSome r (λ made. IsOne made × (tokens ≡ tokens_of made))
    is_some None m = tt
    is_some (Some made) m = is_one made m

    pub made_of : (r : Option M) → n.makes name values r → Reads IsOne tokens_of tokens r
    made_of r makes = record {
      some = is_some r (n.made_some name values r makes h.some.0.0);
      only = λ made is e.
          let found : Some (name, values) ≡ Some (n.name_of made, n.fields_of made) = its_head (Some (name, values)) h made is e in
          let both : (name, values) ≡ (n.name_of made, n.fields_of made) = cc in
          let its_name : name ≡ n.name_of made = ap (λ (p : N × List Value). p.0) both in
          let its_values : values ≡ n.fields_of made = ap (λ (p : N × List Value). p.1) both in
          n.made_only made values r (subst (λ (m : N). n.makes m values r) its_name makes) (each_value fits each (n.fields_of made) is.0) is.1 (sym its_values);
    }
