-- Lists, as far as they were read.
use Rattle.std.proofs.Common.{◌≡◌, ℕ, ◌<◌, List, [], ◌∷◌, ◌++◌, length, map, Some, None, refl, sym, ap, ◌∙◌, append_assoc, append-nil, get_or, length-append, arith}
use Rattle.std.specs.Prelude.{codes}
use Rattle.std.specs.List.{AllByRecursion, join_with_byte}
use Rattle.a64_tokens.specs.Lists.{list_text}
use Rattle.a64_tokens.specs.Reads.{Reads}
use Rattle.a64_tokens.proofs.Splits.{heads}

-- ---- what was read is the front of the list, and it is told by what is left of the tokens

pub record Listing {X : Type 0} (text : X → List ℕ) (fits : X → Type 0) (tokens : List (List ℕ)) (read : List X) (others : List (List ℕ)) : Type 0 where
  pub some : (more : List X) → AllByRecursion fits more → others ≡ map text more → AllByRecursion fits (read ++ more) × (tokens ≡ map text (read ++ more))
  pub only : (all : List X) → AllByRecursion fits all → tokens ≡ map text all → (more : List X) × (all ≡ read ++ more) × AllByRecursion fits more × (others ≡ map text more)

module _ {X : Type 0} (text : X → List ℕ) (fits : X → Type 0) (tokens : List (List ℕ)) where
  pub begins : Listing text fits tokens [] tokens
  begins = record { some = λ more are e. (are, e); only = λ all are e. (all, refl, are, e) }

  module _ (read : List X) (token : List ℕ) (others : List (List ℕ)) (l : Listing text fits tokens read (token ∷ others)) where
    -- the first of those that are left
    next : (more : List X) → AllByRecursion fits more → token ∷ others ≡ map text more → (x : X) × (rest : List X) × (more ≡ x ∷ rest) × fits x × AllByRecursion fits rest × (token ≡ text x) × (others ≡ map text rest)
    next [] are e = absurd cc
    next (x ∷ rest) are e = let both = heads token (text x) others (map text rest) e in (x, rest, refl, are.0, are.1, both.0, both.1)

    pub one_more : (x : X) → Reads fits text token (Some x) → Listing text fits tokens (read ++ x ∷ []) others
    one_more x h = record {
      some = λ more are e.
          let all_texts : token ∷ others ≡ map text (x ∷ more) = ap (λ (t : List ℕ). t ∷ others) h.some.1 ∙ ap (λ (ts : List (List ℕ)). text x ∷ ts) e in
          let both = l.some (x ∷ more) (h.some.0, are) all_texts in
          rw append_assoc both;
      only = λ all are e.
          let m = l.only all are e in
          let n = next m.0 m.2 m.3 in
          let found : Some x ≡ Some n.0 = h.only n.0 n.3 n.5 in
          let same : x ≡ n.0 = cc in
          (n.1, m.1 ∙ ap (λ (t : List X). read ++ t) (n.2 ∙ ap (λ (y : X). y ∷ n.1) (sym same)) ∙ sym (append_assoc read (x ∷ []) n.1), n.4, n.6);
    }

    pub no_one : Reads fits text token None → (all : List X) → AllByRecursion fits all → tokens ≡ map text all → ⊥
    no_one h all are e =
        let m = l.only all are e in
        let n = next m.0 m.2 m.3 in
        let found : None ≡ Some n.0 = h.only n.0 n.3 n.5 in
        cc

-- ---- from the tokens of a list to the list

-- what is joined of two texts is no dash
no_join : (t u : List ℕ) → t ++ 44 ∷ u ≡ codes "-" → ⊥
no_join [] u e = omega (arith, ap (λ (l : List ℕ). get_or l 0 0) e)
no_join (b ∷ t) u e = omega (arith, length-append t (44 ∷ u), ap (λ (l : List ℕ). length l) e)

module _ {X : Type 0} (text : X → List ℕ) (fits : X → Type 0) (token : List ℕ) where
  pub dash : ((x : X) → fits x → text x ≡ codes "-" → ⊥) → token ≡ codes "-" → Reads (AllByRecursion fits) (list_text text) token (Some [])
  dash no_dash is = record { some = (tt, is); only = only }
    where
      only : (all : List X) → AllByRecursion fits all → token ≡ list_text text all → Some [] ≡ Some all
      only [] are e = refl
      only (x ∷ []) are e = absurd (no_dash x are.0 (sym e ∙ is))
      only (x ∷ y ∷ xs) are e = absurd (no_join (text x) (join_with_byte 44 (map text (y ∷ xs))) (sym e ∙ is))

  module _ (tokens : List ℕ → List (List ℕ)) (apart : (x : X) (xs : List X) → AllByRecursion fits (x ∷ xs) → tokens (join_with_byte 44 (map text (x ∷ xs))) ≡ map text (x ∷ xs)) (other : token ≡ codes "-" → ⊥) where
    its_tokens : (x : X) (xs : List X) → AllByRecursion fits (x ∷ xs) → token ≡ list_text text (x ∷ xs) → tokens token ≡ map text (x ∷ xs)
    its_tokens x xs are e = ap tokens e ∙ apart x xs are

    pub no_list : ((all : List X) → AllByRecursion fits all → tokens token ≡ map text all → ⊥) → Reads (AllByRecursion fits) (list_text text) token None
    no_list none = record { some = tt; only = only }
      where
        only : (all : List X) → AllByRecursion fits all → token ≡ list_text text all → None ≡ Some all
        only [] are e = absurd (other e)
        only (x ∷ xs) are e = absurd (none (x ∷ xs) are (its_tokens x xs are e))

    none_more : (more : List X) → [] ≡ map text more → more ≡ []
    none_more [] e = refl
    none_more (x ∷ more) e = absurd cc

    module _ (joined : (list : List ℕ) → join_with_byte 44 (tokens list) ≡ list) (some_token : (list : List ℕ) → 0 < length (tokens list)) where
      its_text : (read : List X) → tokens token ≡ map text read → token ≡ list_text text read
      its_text [] e = absurd (omega (arith, some_token token, ap (λ (t : List (List ℕ)). length t) e))
      its_text (x ∷ xs) e = sym (joined token) ∙ ap (λ (ts : List (List ℕ)). join_with_byte 44 ts) e

      pub all_listed : (read : List X) → Listing text fits (tokens token) read [] → Reads (AllByRecursion fits) (list_text text) token (Some read)
      all_listed read l = record { some = (both.0, its_text read both.1); only = only }
        where
          both : AllByRecursion fits read × (tokens token ≡ map text read)
          both = rw append-nil at (l.some [] tt refl)

          only : (all : List X) → AllByRecursion fits all → token ≡ list_text text all → Some read ≡ Some all
          only [] are e = absurd (other e)
          only (x ∷ xs) are e =
              let m = l.only (x ∷ xs) are (its_tokens x xs are e) in
              ap (λ (t : List X). Some t) (sym (m.1 ∙ ap (λ (t : List X). read ++ t) (none_more m.0 m.3) ∙ append-nil read))
