-- Lists as they are written: they have no space.
use Rattle.std.proofs.Common.{Bor, ◌≡◌, ℕ, ◌<◌, eqb, List, [], ◌∷◌, length, Option, Some, None, refl, sym, ap, subst, ◌∙◌, arith}
use Rattle.std.specs.Prelude.{MatchOption}
use Rattle.std.specs.List.{slice_split}
use Rattle.a64_tokens.specs.Fields.{HasNo}
use Rattle.a64_tokens.specs.Lists.{same_text}
use Rattle.a64_tokens.specs.Reads.{Reads}
use Rattle.a64_tokens.specs.SplitLaws.{split_none}
use Rattle.a64_tokens.proofs.Splits.{first_plain, joined_some, parts_left}

pub no_space : (token front : List ℕ) → slice_split (λ b. eqb b 32) token ≡ front ∷ [] → Reads (HasNo 32) same_text token (Some token)
no_space token front e = record {
  some = (subst (λ (t : List ℕ). HasNo 32 t) (sym (joined_some 32 token (front ∷ []) e)) (first_plain 32 token front [] e), refl);
  only = λ x fits same. ap (λ (t : List ℕ). Some t) same;
}

a_space : (token front rest : List ℕ) → slice_split (λ b. eqb b 32) token ≡ front ∷ slice_split (λ b. eqb b 32) rest → Reads (HasNo 32) same_text token None
a_space token front rest e = record {
  some = tt;
  only = λ x fits same.
      let one : x ∷ [] ≡ front ∷ slice_split (λ b. eqb b 32) rest = sym (split_none 32 x fits) ∙ ap (λ (t : List ℕ). slice_split (λ b. eqb b 32) t) (sym same) ∙ e in
      absurd (omega (arith, parts_left 32 rest, ap (λ (t : List (List ℕ)). length t) one));
}

pub has_space : (token front : List ℕ) (more : Option (Bor (List ℕ))) (rest : Bor (List ℕ)) → more ≡ Some rest → MatchOption more (slice_split (λ b. eqb b 32) token ≡ front ∷ []) (λ rest. (slice_split (λ b. eqb b 32) token ≡ front ∷ slice_split (λ b. eqb b 32) rest.now) × (length rest.now < length token)) → Reads (HasNo 32) same_text token None
has_space token front None rest is cut = absurd cc
has_space token front (Some other) rest is cut = a_space token front other.now cut.0
