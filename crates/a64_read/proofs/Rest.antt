-- Fields in a row, as far as they were read.
use Rattle.std.proofs.Common.{◌≡◌, ℕ, ◌<◌, List, [], ◌∷◌, ◌++◌, length, map, Some, None, refl, sym, ap, ◌∙◌, append_assoc, append-nil, arith}
use Rattle.a64_tokens.specs.declared.value.Kind.{Kind}
use Rattle.a64_tokens.specs.declared.value.Value.{Value}
use Rattle.a64_tokens.specs.Reads.{Reads}
use Rattle.a64_read.specs.Rows.{AreFields, texts}
use Rattle.a64_read.specs.Values.{kind_of, value_text}

-- what was read is the front of all fields, and they are told by what is left of the kinds and tokens
pub record Rest (fits : Value → Type 0) (kinds : List Kind) (tokens : List (List ℕ)) (read : List Value) (left : List Kind) (others : List (List ℕ)) : Type 0 where
  pub some : (more : List Value) → AreFields fits left more → others ≡ texts more → AreFields fits kinds (read ++ more) × (tokens ≡ texts (read ++ more))
  pub only : (all : List Value) → AreFields fits kinds all → tokens ≡ texts all → (more : List Value) × (all ≡ read ++ more) × AreFields fits left more × (others ≡ texts more)

pub begins : (fits : Value → Type 0) (kinds : List Kind) (tokens : List (List ℕ)) → Rest fits kinds tokens [] kinds tokens
begins fits kinds tokens = record { some = λ more are e. (are, e); only = λ all are e. (all, refl, are, e) }

module _ (fits : Value → Type 0) (kinds : List Kind) (tokens : List (List ℕ)) (read : List Value) where
  -- the first of the fields that are left
  next : (kind : Kind) (left : List Kind) (token : List ℕ) (others : List (List ℕ)) (more : List Value) → AreFields fits (kind ∷ left) more → token ∷ others ≡ texts more
      → (v : Value) × (rest : List Value) × (more ≡ v ∷ rest) × (kind_of v ≡ kind) × fits v × AreFields fits left rest × (token ≡ value_text v) × (others ≡ texts rest)
  next kind left token others [] are e = absurd cc
  next kind left token others (v ∷ rest) are e =
      let all_kinds = are.0 in
      let its_kind : kind_of v ≡ kind = cc in
      let other_kinds : map kind_of rest ≡ left = cc in
      let its_text : token ≡ value_text v = cc in
      let other_texts : others ≡ texts rest = cc in
      (v, rest, refl, its_kind, are.1.0, (other_kinds, are.1.1), its_text, other_texts)

  pub one_more : (kind : Kind) (left : List Kind) (token : List ℕ) (others : List (List ℕ)) (v : Value) → Rest fits kinds tokens read (kind ∷ left) (token ∷ others) → Reads (λ v. (kind_of v ≡ kind) × fits v) value_text token (Some v) → Rest fits kinds tokens (read ++ v ∷ []) left others
  one_more kind left token others v r h = record {
    some = λ more are e.
        let its_kind : kind_of v ≡ kind = h.some.0.0 in
        let its_text : token ≡ value_text v = h.some.1 in
        let other_kinds : map kind_of more ≡ left = are.0 in
        let all_kinds : map kind_of (v ∷ more) ≡ kind ∷ left = cc in
        let all_texts : token ∷ others ≡ texts (v ∷ more) = cc in
        let both = r.some (v ∷ more) (all_kinds, (h.some.0.1, are.1)) all_texts in
        rw append_assoc both;
    only = λ all are e.
        let m = r.only all are e in
        let n = next kind left token others m.0 m.2 m.3 in
        let found : Some v ≡ Some n.0 = h.only n.0 (n.3, n.4) n.6 in
        let same : v ≡ n.0 = cc in
        (n.1, m.1 ∙ ap (λ (t : List Value). read ++ t) (n.2 ∙ ap (λ (x : Value). x ∷ n.1) (sym same)) ∙ sym (append_assoc read (v ∷ []) n.1), n.5, n.7);
  }

  -- no token is left for the kind
  pub too_short : (kind : Kind) (left : List Kind) → Rest fits kinds tokens read (kind ∷ left) [] → Reads (AreFields fits kinds) texts tokens None
  too_short kind left r = record { some = tt; only = λ all are e. let m = r.only all are e in absurd (none m.0 m.2 m.3) }
    where
      none : (more : List Value) → AreFields fits (kind ∷ left) more → [] ≡ texts more → ⊥
      none [] are e = cc
      none (v ∷ rest) are e = cc

  -- the token is no field of the kind
  pub bad_token : (kind : Kind) (left : List Kind) (token : List ℕ) (others : List (List ℕ)) → Rest fits kinds tokens read (kind ∷ left) (token ∷ others) → Reads (λ v. (kind_of v ≡ kind) × fits v) value_text token None → Reads (AreFields fits kinds) texts tokens None
  bad_token kind left token others r h = record {
    some = tt;
    only = λ all are e.
        let m = r.only all are e in
        let n = next kind left token others m.0 m.2 m.3 in
        let found : None ≡ Some n.0 = h.only n.0 (n.3, n.4) n.6 in
        absurd cc;
  }

  none_more : (more : List Value) → AreFields fits [] more → more ≡ []
  none_more [] are = refl
  none_more (v ∷ rest) are = absurd cc

  pub all_read : Rest fits kinds tokens read [] [] → Reads (AreFields fits kinds) texts tokens (Some read)
  all_read r = record {
    some = rw append-nil at (r.some [] (refl, tt) refl);
    only = λ all are e.
        let m = r.only all are e in
        ap (λ (t : List Value). Some t) (sym (m.1 ∙ ap (λ (t : List Value). read ++ t) (none_more m.0 m.2) ∙ append-nil read));
  }

  -- a token is left, and no kind
  pub too_long : (others : List (List ℕ)) → 0 < length others → Rest fits kinds tokens read [] others → Reads (AreFields fits kinds) texts tokens None
  too_long others some r = record {
    some = tt;
    only = λ all are e.
        let m = r.only all are e in
        absurd (omega (arith, some, ap (λ (t : List (List ℕ)). length t) (m.3 ∙ ap texts (none_more m.0 m.2))));
  }
