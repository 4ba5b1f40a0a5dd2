-- Which immediates the constructor gives.
use Rattle.std.proofs.Common.{◌≡◌, ℕ, ◌+◌, ◌*◌, ◌^◌, ◌<◌, ◌⊎◌, inl, inr, Bool, true, false, ◌||◌, ◌&&◌, List, [], ◌∷◌, Option, Some, None, refl, sym, ap, subst, ◌∙◌, arith, lit<}
use Rattle.std.specs.Prelude.{◌==◌, not}
use Rattle.std.proofs.lemmas.Bool.{and_parts, eqb-true, false≢true, not-true, or_cases}
use Rattle.a64_base.specs.declared.size.ScalarSize.{ScalarSize}
use Rattle.a64_base.specs.declared.size.ScalarSize.TheVariants.{Size8, Size16, Size32, Size64, Size128}
use Rattle.a64_imms.specs.declared.asimd_mov.ASIMDMovModImm.{ASIMDMovModImm}
use Rattle.a64_imms.specs.MovImms.{forms_of, is_64, pattern, spread, with_ones, with_zeros, Form, HasForm, HoldsForm, IsFirst, IsMovImm}
use Rattle.a64_tokens.specs.declared.value.WrittenMovImm.{WrittenMovImm}
use Rattle.a64_text.specs.MovImms.{is_given, written_mov, IsGiven, IsMovAt}
use Rattle.a64_tokens.specs.Reads.{Reads}

-- the immediate that is written so, of 64 bits or of fewer
abbrev pub mov_of : Bool → WrittenMovImm → ASIMDMovModImm
mov_of is_64bit w = record { imm = w.imm; shift = w.shift; is_64bit = is_64bit; shift_ones = w.ones }

abbrev narrow : ℕ → ℕ → Bool → ASIMDMovModImm
narrow imm shift ones = record { imm = imm; shift = shift; is_64bit = false; shift_ones = ones }

-- ---- the constructor gives these

module _ (imm : ℕ) (low : imm < 256) where
  holds : (shift : ℕ) (ones : Bool) (number : ℕ) → pattern (record { shift = shift; ones = ones }) imm ≡ number → HoldsForm (record { shift = shift; ones = ones }) number (narrow imm shift ones)
  holds shift ones number e = record { narrow = refl; shift_is = refl; ones_is = refl; bits_fit = low; number_is = e }

  given_zeros : (imm ≡ 0 → ⊥) → (shift : ℕ) → (shift ≡ 8) ⊎ ((shift ≡ 16) ⊎ (shift ≡ 24)) → IsGiven false (narrow imm shift false)
  given_zeros some shift (inl e) = rw e (Size16, refl, imm * 256, inr ((λ h. some (omega (arith, h.1, h.2))), inl (holds 8 false _ (omega arith))))
  given_zeros some shift (inr (inl e)) = rw e (Size32, refl, imm * 65536, inr ((λ h. omega (arith, h.1, h.2)), inr ((λ h. omega (arith, h.1, h.2)), inr ((λ h. some (omega (arith, h.1, h.2))), inr ((λ h. some (omega (arith, h.1, h.2))), inl (holds 16 false _ (omega arith)))))))
  given_zeros some shift (inr (inr e)) = rw e (Size32, refl, imm * 16777216, inr ((λ h. omega (arith, h.1, h.2)), inr ((λ h. omega (arith, h.1, h.2)), inr ((λ h. some (omega (arith, h.1, h.2))), inr ((λ h. some (omega (arith, h.1, h.2))), inr ((λ h. some (omega (arith, h.1, h.2))), inl (holds 24 false _ (omega arith))))))))

  given_ones : (imm ≡ 255 → ⊥) → IsGiven false (narrow imm 8 true)
  given_ones other = (Size32, refl, imm * 256 + 255, inr ((λ h. other (omega (arith, h.1, h.2))), inl (holds 8 true _ (omega arith))))

  given_narrow : (shift : ℕ) (ones : Bool) → is_given false (record { imm = imm; shift = shift; ones = ones }) ≡ true → IsGiven false (narrow imm shift ones)
  given_narrow shift true e = elim (or_cases (shift == 16) (shift == 8 && not (imm == 255)) e) [
    | inl is ↦ rw (eqb-true shift 16 is) (Size32, refl, imm * 65536 + 65535, inl (holds 16 true _ (omega arith)))
    | inr is ↦ let parts = and_parts (shift == 8) (not (imm == 255)) is in rw (eqb-true shift 8 parts.0) (given_ones (λ same. grind (arith, same, parts.1)))
  ]
  given_narrow shift false e = elim (or_cases (shift == 0) (not (imm == 0) && (shift == 8 || (shift == 16 || shift == 24))) e) [
    | inl is ↦ rw (eqb-true shift 0 is) (Size8, refl, imm, inl (holds 0 false _ (omega arith)))
    | inr is ↦
        let parts = and_parts (not (imm == 0)) (shift == 8 || (shift == 16 || shift == 24)) is in
        given_zeros (λ zero. grind (arith, zero, parts.0)) shift (grind (arith, parts.1))
  ]

pub given : (is_64bit : Bool) (w : WrittenMovImm) → w.imm < 256 → is_given is_64bit w ≡ true → IsGiven is_64bit (mov_of is_64bit w)
given true w low e =
    let parts = and_parts (w.shift == 0) (not w.ones) e in
    (Size64, refl, spread w.imm, record { wide = refl; shift_is = eqb-true w.shift 0 parts.0; ones_is = not-true w.ones parts.1; bits_fit = low; number_is = refl })
given false w low e = given_narrow w.imm low w.shift w.ones e

-- ---- and no others

first_narrow : (forms : List Form) (number : ℕ) (imm : ASIMDMovModImm) → IsFirst forms number imm → imm.is_64bit ≡ false
first_narrow [] number imm h = absurd h
first_narrow (form ∷ forms) number imm (inl h) = h.narrow
first_narrow (form ∷ forms) number imm (inr h) = first_narrow forms number imm h.1

width : (size : ScalarSize) (value : ℕ) (imm : ASIMDMovModImm) → IsMovImm size value imm → imm.is_64bit ≡ is_64 size
width Size8 value imm h = first_narrow (forms_of Size8) _ imm h
width Size16 value imm h = first_narrow (forms_of Size16) _ imm h
width Size32 value imm h = first_narrow (forms_of Size32) _ imm h
width Size64 value imm h = h.wide
width Size128 value imm h = absurd h

module _ (w : WrittenMovImm) where
  zeros_given : (shift number : ℕ) → HoldsForm (with_zeros shift) number (mov_of false w) → (w.imm ≡ 0 → ⊥) → (shift == 8 || (shift == 16 || shift == 24)) ≡ true → is_given false w ≡ true
  zeros_given shift number h some is = rw (h.shift_is, h.ones_is) (grind (arith, some, is))

  not_zero : (shift number : ℕ) → HoldsForm (with_zeros shift) number (mov_of false w) → (HasForm (with_zeros 0) number → ⊥) → w.imm ≡ 0 → ⊥
  not_zero shift number h none zero = let e : 0 * 2 ^ shift + 0 ≡ number = sym (ap (λ (n : ℕ). n * 2 ^ shift + 0) zero) ∙ h.number_is in none (0, lit< tt, omega (arith, e))

  are_narrow : (size : ScalarSize) (value : ℕ) → is_64 size ≡ false → IsMovImm size value (mov_of false w) → is_given false w ≡ true
  are_narrow Size8 value is (inl h) = rw (h.shift_is, h.ones_is) refl
  are_narrow Size8 value is (inr h) = absurd h.1
  are_narrow Size16 value is (inl h) = rw (h.shift_is, h.ones_is) refl
  are_narrow Size16 value is (inr (none, inl h)) = zeros_given 8 _ h (not_zero 8 _ h none) refl
  are_narrow Size16 value is (inr (none, inr h)) = absurd h.1
  are_narrow Size32 value is (inl h) = rw (h.shift_is, h.ones_is) refl
  are_narrow Size32 value is (inr (none, inl h)) = rw (h.shift_is, h.ones_is) (grind (arith, h.number_is, none))
  are_narrow Size32 value is (inr (_, inr (_, inl h))) = rw (h.shift_is, h.ones_is) refl
  are_narrow Size32 value is (inr (_, inr (_, inr (none, inl h)))) = zeros_given 8 _ h (not_zero 8 _ h none) refl
  are_narrow Size32 value is (inr (_, inr (_, inr (none, inr (_, inl h))))) = zeros_given 16 _ h (not_zero 16 _ h none) refl
  are_narrow Size32 value is (inr (_, inr (_, inr (none, inr (_, inr (_, inl h)))))) = zeros_given 24 _ h (not_zero 24 _ h none) refl
  are_narrow Size32 value is (inr (_, inr (_, inr (none, inr (_, inr (_, inr h)))))) = absurd h.1
  are_narrow Size64 value is h = absurd (false≢true (sym is))
  are_narrow Size128 value is h = absurd h

  are_given : (is_64bit : Bool) → IsGiven is_64bit (mov_of is_64bit w) → is_given is_64bit w ≡ true
  are_given false (size, is, value, h) = are_narrow size value is h
  are_given true (Size64, is, value, h) = rw (h.shift_is, h.ones_is) refl
  are_given true (Size8, is, value, h) = absurd (false≢true is)
  are_given true (Size16, is, value, h) = absurd (false≢true is)
  are_given true (Size32, is, value, h) = absurd (false≢true is)
  are_given true (Size128, is, value, h) = absurd h

  -- what is given is what is written
  module _ (lane : ScalarSize) where
    same : (imm : ASIMDMovModImm) → IsMovAt lane imm → w ≡ written_mov imm → mov_of (is_64 lane) w ≡ imm
    same imm fits e = ap (λ (b : Bool). mov_of b w) (sym (width fits.0 fits.2 imm fits.3 ∙ fits.1)) ∙ ap (λ (v : WrittenMovImm). mov_of imm.is_64bit v) e

    module _ (is_64bit : Bool) (wide : is_64bit ≡ is_64 lane) where
      pub no_mov : is_given is_64bit w ≡ false → Reads (IsMovAt lane) written_mov w None
      no_mov is = record {
        some = tt;
        only = λ imm fits e. absurd (false≢true (sym is ∙ rw wide (are_given (is_64 lane) (subst (λ (i : ASIMDMovModImm). IsMovAt lane i) (sym (same imm fits e)) fits))));
      }

      pub is_mov : w.imm < 256 → is_given is_64bit w ≡ true → Reads (IsMovAt lane) written_mov w (Some (mov_of is_64bit w))
      is_mov low is = record {
        some = (subst (λ (b : Bool). IsGiven b (mov_of is_64bit w)) wide (given is_64bit w low is), refl);
        only = λ imm fits e. ap (λ (b : Bool). Some (mov_of b w)) wide ∙ ap (λ (i : ASIMDMovModImm). Some i) (same imm fits e);
      }
