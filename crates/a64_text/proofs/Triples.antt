-- Three lists that are read one after another.
use Rattle.std.proofs.Common.{◌≡◌, Some, None, ap, ◌∙◌}
use Rattle.a64_tokens.specs.Reads.{Reads}

module _ {A B C S T U : Type 0} (fits_a : A → Type 0) (fits_b : B → Type 0) (fits_c : C → Type 0) (text_a : A → S) (text_b : B → T) (text_c : C → U) (s : S) (t : T) (u : U) where
  abbrev fit : A × B × C → Type 0
  fit x = fits_a x.0 × fits_b x.1 × fits_c x.2

  abbrev text : A × B × C → S × T × U
  text x = (text_a x.0, text_b x.1, text_c x.2)

  pub no_first : Reads fits_a text_a s None → Reads fit text (s, t, u) None
  no_first h = record { some = tt; only = λ x its e. let none : None ≡ Some x.0 = h.only x.0 its.0 (ap (λ (p : S × T × U). p.0) e) in absurd cc }

  pub no_second : Reads fits_b text_b t None → Reads fit text (s, t, u) None
  no_second h = record { some = tt; only = λ x its e. let none : None ≡ Some x.1 = h.only x.1 its.1 (ap (λ (p : S × T × U). p.1) e) in absurd cc }

  pub no_third : Reads fits_c text_c u None → Reads fit text (s, t, u) None
  no_third h = record { some = tt; only = λ x its e. let none : None ≡ Some x.2 = h.only x.2 its.2 (ap (λ (p : S × T × U). p.2) e) in absurd cc }

  pub all_three : (a : A) (b : B) (c : C) → Reads fits_a text_a s (Some a) → Reads fits_b text_b t (Some b) → Reads fits_c text_c u (Some c) → Reads fit text (s, t, u) (Some (a, b, c))
  all_three a b c h k l = record {
    some =
        let one : (s, t, u) ≡ (text_a a, t, u) = ap (λ (x : S). (x, t, u)) h.some.1 in
        let two : (text_a a, t, u) ≡ (text_a a, text_b b, u) = ap (λ (y : T). (text_a a, y, u)) k.some.1 in
        let three : (text_a a, text_b b, u) ≡ (text_a a, text_b b, text_c c) = ap (λ (z : U). (text_a a, text_b b, z)) l.some.1 in
        ((h.some.0, k.some.0, l.some.0), one ∙ two ∙ three);
    only = λ x its e.
        let first : Some a ≡ Some x.0 = h.only x.0 its.0 (ap (λ (p : S × T × U). p.0) e) in
        let second : Some b ≡ Some x.1 = k.only x.1 its.1 (ap (λ (p : S × T × U). p.1) e) in
        let third : Some c ≡ Some x.2 = l.only x.2 its.2 (ap (λ (p : S × T × U). p.2) e) in
        let same_a : a ≡ x.0 = cc in
        let same_b : b ≡ x.1 = cc in
        let same_c : c ≡ x.2 = cc in
        ap (λ (i : A). Some (i, b, c)) same_a ∙ ap (λ (j : B). Some (x.0, j, c)) same_b ∙ ap (λ (k : C). Some (x.0, x.1, k)) same_c;
  }
