-- Names with something in parentheses behind them.
use Rattle.std.proofs.Common.{Bor, ◌≡◌, ℕ, ◌<◌, List, [], ◌∷◌, ◌++◌, length, length-append, Option, Some, None, refl, sym, ap, ◌∙◌, arith}
use Rattle.std.specs.Prelude.{IfSome}
use Rattle.std.specs.List.{join_with_byte}
use Rattle.std.proofs.lemmas.List.Splits.{join_with_byte-slice_split}
use Rattle.a64_tokens.specs.Fields.{IsCall, call_text}
use Rattle.a64_tokens.specs.Reads.{Reads}
use Rattle.a64_tokens.specs.SplitLaws.{split_at}
use Rattle.a64_tokens.proofs.Splits.{heads, split, parts_left, first_plain, IsFront}

abbrev join : List (List ℕ) → List ℕ
join tokens = join_with_byte 40 tokens

same_split : (a b : List ℕ) → split 40 a ≡ split 40 b → a ≡ b
same_split a b e = sym (join_with_byte-slice_split 40 a) ∙ ap join e ∙ join_with_byte-slice_split 40 b

-- the last byte, and those before it
same_last : (xs ys : List ℕ) (x y : ℕ) → xs ++ x ∷ [] ≡ ys ++ y ∷ [] → (xs ≡ ys) × (x ≡ y)
same_last [] [] x y e = (refl, cc)
same_last [] (b ∷ ys) x y e = absurd (omega (arith, length-append ys (y ∷ []), ap (λ (t : List ℕ). length t) e))
same_last (a ∷ xs) [] x y e = absurd (omega (arith, length-append xs (x ∷ []), ap (λ (t : List ℕ). length t) e))
same_last (a ∷ xs) (b ∷ ys) x y e =
    let both = heads a b (xs ++ x ∷ []) (ys ++ y ∷ []) e in
    let rest = same_last xs ys x y both.1 in
    (rw (both.0, rest.0) refl, rest.1)

module _ (token name : List ℕ) where
  -- no parenthesis
  pub no_call : (more : Option (Bor (List ℕ))) → more ≡ None → IsFront 40 token name more → Reads IsCall call_text token None
  no_call (Some rest) is cut = absurd cc
  no_call None is cut = record {
    some = tt;
    only = λ x fits e.
        let two : split 40 token ≡ x.0 ∷ split 40 (x.1 ++ 41 ∷ []) = ap (λ (t : List ℕ). split 40 t) e ∙ split_at 40 x.0 (x.1 ++ 41 ∷ []) fits in
        let none : [] ≡ split 40 (x.1 ++ 41 ∷ []) = (heads name x.0 [] (split 40 (x.1 ++ 41 ∷ [])) (sym cut ∙ two)).1 in
        absurd (omega (arith, parts_left 40 (x.1 ++ 41 ∷ []), ap (λ (t : List (List ℕ)). length t) none));
  }

  module _ (rest : List ℕ) (cut : split 40 token ≡ name ∷ split 40 rest) where
    call_is : (x : List ℕ × List ℕ) → IsCall x → token ≡ call_text x → (name ≡ x.0) × (rest ≡ x.1 ++ 41 ∷ [])
    call_is x fits e =
        let both = heads name x.0 (split 40 rest) (split 40 (x.1 ++ 41 ∷ [])) (sym cut ∙ ap (λ (t : List ℕ). split 40 t) e ∙ split_at 40 x.0 (x.1 ++ 41 ∷ []) fits) in
        (both.0, same_split rest (x.1 ++ 41 ∷ []) both.1)

    -- nothing behind the parenthesis
    pub no_end : length rest ≡ 0 → Reads IsCall call_text token None
    no_end none = record { some = tt; only = λ x fits e. absurd (omega (arith, length-append x.1 (41 ∷ []), none, ap (λ (t : List ℕ). length t) (call_is x fits e).1)) }

    module _ (inside : List ℕ) (last : ℕ) (is : rest ≡ inside ++ last ∷ []) where
      pub other_end : (last ≡ 41 → ⊥) → Reads IsCall call_text token None
      other_end apart = record { some = tt; only = λ x fits e. absurd (apart (same_last inside x.1 last 41 (sym is ∙ (call_is x fits e).1)).1) }

      pub is_call : last ≡ 41 → Reads IsCall call_text token (Some (name, inside))
      is_call ends = record {
        some = (first_plain 40 token name (split 40 rest) cut, sym (join_with_byte-slice_split 40 token) ∙ ap join cut ∙ joined (split 40 rest) (parts_left 40 rest) ∙ ap (λ (t : List ℕ). name ++ 40 ∷ t) (join_with_byte-slice_split 40 rest ∙ is ∙ ap (λ (b : ℕ). inside ++ b ∷ []) ends));
        only = λ x fits e.
            let both = call_is x fits e in
            let insides : inside ≡ x.1 = (same_last inside x.1 last 41 (sym is ∙ both.1)).0 in
            ap (λ (t : List ℕ). Some (t, inside)) both.0 ∙ ap (λ (t : List ℕ). Some (x.0, t)) insides;
      }
        where
          joined : (ws : List (List ℕ)) → 0 < length ws → join (name ∷ ws) ≡ name ++ 40 ∷ join ws
          joined [] h = absurd (omega (arith, h))
          joined (v ∷ ws) h = refl

-- what has as its text a name with something in parentheses behind it
module _ {X : Type 0} (fits : X → Type 0) (parts : X → List ℕ × List ℕ) (apart : (x : X) → IsCall (parts x)) (token : List ℕ) where
  pub made_no_call : Reads IsCall call_text token None → Reads fits (λ x. call_text (parts x)) token None
  made_no_call h = record { some = tt; only = λ x is e. let none = h.only (parts x) (apart x) e in absurd cc }

  module _ (call : List ℕ × List ℕ) (h : Reads IsCall call_text token (Some call)) where
    same_call : (x : X) → token ≡ call_text (parts x) → call ≡ parts x
    same_call x e = let found = h.only (parts x) (apart x) e in cc

    is_some : (r : Option X) → IfSome r (λ x. fits x × (call ≡ parts x)) → IfSome r (λ x. fits x × (token ≡ call_text (parts x)))
    is_some None g = tt
    is_some (Some x) g = (g.0, h.some.1 ∙ ap call_text g.1)

    pub made_call : (r : Option X) → Reads fits parts call r → Reads fits (λ x. call_text (parts x)) token r
    made_call r g = record { some = is_some r g.some; only = λ x is e. g.only x is (same_call x e) }
