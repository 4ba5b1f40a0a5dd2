-- Signed decimals, and branch targets.
use Rattle.std.proofs.Common.{◌≡◌, ◌≢◌, ℕ, suc, List, ◌∷◌, Option, Some, None, refl, sym, ap, ◌∙◌, subst, arith, get_or}
use Rattle.std.specs.Prelude.{ℤ, pos, negsuc, IfSome}
use Rattle.std.specs.Fmt.{decimal, signed_decimal}
use Rattle.std.proofs.lemmas.Int.{ints}
use Rattle.a64_base.specs.declared.target.BranchTarget.{BranchTarget}
use Rattle.a64_base.specs.declared.target.BranchTarget.TheVariants.{Label, ResolvedOffset}
use Rattle.a64_tokens.specs.Reads.{Reads, IsU32, IsU64, IsI32, IsI64, IsBelowZero, IsFromZero}
use Rattle.a64_tokens.specs.Fields.{target_text, IsTarget}
use Rattle.a64_tokens.proofs.Decimals.{decimal_first}

no_minus : (digits : List ℕ) (n : ℕ) → IsU64 n → 45 ∷ digits ≡ decimal n → ⊥
no_minus digits n fits e = omega (arith, decimal_first (45 ∷ digits) n fits e)

minus_only : (token digits : List ℕ) (n : ℕ) (r : Option ℤ) (z : ℤ) → token ≡ 45 ∷ digits → Reads IsU64 decimal digits (Some n) → IsBelowZero n r → IsI64 z → token ≡ signed_decimal z → r ≡ Some z
minus_only token digits n r (pos m) w h l fits e = absurd (no_minus digits m (omega (arith, ints, fits)) (sym w ∙ e))
minus_only token digits n None (negsuc m) w h l fits e =
    let both : 45 ∷ digits ≡ 45 ∷ decimal (suc m) = sym w ∙ e in
    let t : digits ≡ decimal (suc m) = cc in
    let s : Some n ≡ Some (suc m) = h.only (suc m) (omega (arith, ints, fits)) t in
    let k : n ≡ suc m = cc in
    absurd (l m k (omega (arith, ints, fits)))
minus_only token digits n (Some y) (negsuc m) w h l fits e =
    let both : 45 ∷ digits ≡ 45 ∷ decimal (suc m) = sym w ∙ e in
    let t : digits ≡ decimal (suc m) = cc in
    let s : Some n ≡ Some (suc m) = h.only (suc m) (omega (arith, ints, fits)) t in
    let k : n ≡ suc m = cc in
    let same : l.0 ≡ m = omega (arith, k, l.1) in
    rw (l.3, same) refl

minus_some : (token digits : List ℕ) (n : ℕ) (r : Option ℤ) → token ≡ 45 ∷ digits → digits ≡ decimal n → IsBelowZero n r → IfSome r (λ z. IsI64 z × (token ≡ signed_decimal z))
minus_some token digits n None w d l = tt
minus_some token digits n (Some y) w d l = rw l.3 (omega (arith, ints, l.2), w ∙ ap (λ (t : List ℕ). 45 ∷ t) (d ∙ ap decimal l.1))

pub minus_read : (token digits : List ℕ) (n : ℕ) (r : Option ℤ) → token ≡ 45 ∷ digits → Reads IsU64 decimal digits (Some n) → IsBelowZero n r → Reads IsI64 signed_decimal token r
minus_read token digits n r w h l = record { some = minus_some token digits n r w h.some.1 l; only = λ z fits e. minus_only token digits n r z w h l fits e }

minus_none_only : (token digits : List ℕ) (z : ℤ) → token ≡ 45 ∷ digits → Reads IsU64 decimal digits None → IsI64 z → token ≡ signed_decimal z → ⊥
minus_none_only token digits (pos m) w h fits e = no_minus digits m (omega (arith, ints, fits)) (sym w ∙ e)
minus_none_only token digits (negsuc m) w h fits e =
    let both : 45 ∷ digits ≡ 45 ∷ decimal (suc m) = sym w ∙ e in
    let t : digits ≡ decimal (suc m) = cc in
    let s : None ≡ Some (suc m) = h.only (suc m) (omega (arith, ints, fits)) t in
    absurd cc

pub minus_none : (token digits : List ℕ) → token ≡ 45 ∷ digits → Reads IsU64 decimal digits None → Reads IsI64 signed_decimal token None
minus_none token digits w h = record { some = tt; only = λ z fits e. absurd (minus_none_only token digits z w h fits e) }

-- without a minus at the front
plain_only : (token : List ℕ) (q : Option ℕ) (r : Option ℤ) (z : ℤ) → ((rest : List ℕ) → token ≢ 45 ∷ rest) → Reads IsU64 decimal token q → ((n : ℕ) → q ≡ Some n → IsFromZero n r) → IsI64 z → token ≡ signed_decimal z → r ≡ Some z
plain_only token q r (negsuc m) w h k fits e = absurd (w (decimal (suc m)) e)
plain_only token q r (pos m) w h k fits e = go r (k m (h.only m (omega (arith, ints, fits)) e))
  where
    go : (r' : Option ℤ) → IsFromZero m r' → r' ≡ Some (pos m)
    go None l = absurd (l (omega (arith, ints, fits)))
    go (Some y) l = rw l.1 refl

plain_some : (token : List ℕ) (n : ℕ) (r : Option ℤ) → token ≡ decimal n → IsFromZero n r → IfSome r (λ z. IsI64 z × (token ≡ signed_decimal z))
plain_some token n None d l = tt
plain_some token n (Some y) d l = rw l.1 (omega (arith, ints, l.0), d)

pub plain_read : (token : List ℕ) (n : ℕ) (r : Option ℤ) → ((rest : List ℕ) → token ≢ 45 ∷ rest) → Reads IsU64 decimal token (Some n) → IsFromZero n r → Reads IsI64 signed_decimal token r
plain_read token n r w h l = record {
  some = plain_some token n r h.some.1 l;
  only = λ z fits e. plain_only token (Some n) r z w h (λ m is. let k : n ≡ m = cc in subst (λ (i : ℕ). IsFromZero i r) k l) fits e;
}

pub plain_none : (token : List ℕ) → ((rest : List ℕ) → token ≢ 45 ∷ rest) → Reads IsU64 decimal token None → Reads IsI64 signed_decimal token None
plain_none token w h = record {
  some = tt;
  only = λ z fits e. plain_only token None None z w h (λ m is. absurd cc) fits e;
}

-- ---- branch targets

letter_first : (z : ℤ) (rest : List ℕ) → IsI32 z → 76 ∷ rest ≡ signed_decimal z → ⊥
letter_first (pos m) rest fits e = omega (arith, decimal_first (76 ∷ rest) m (omega (arith, ints, fits)) e)
letter_first (negsuc m) rest fits e = omega (arith, ap (λ (t : List ℕ). get_or t 0 0) e)

abbrev labelled : ℕ → BranchTarget
labelled n = Label (record { 0 = n })

label_only : (token number : List ℕ) (q : Option ℕ) (t : BranchTarget) → token ≡ 76 ∷ number → Reads IsU32 decimal number q → IsTarget t → token ≡ target_text t → (n : ℕ) × (q ≡ Some n) × (t ≡ labelled n)
label_only token number q (Label label) w h fits e =
    let both : 76 ∷ number ≡ 76 ∷ decimal label.0 = sym w ∙ e in
    let d : number ≡ decimal label.0 = cc in
    (label.0, h.only label.0 fits d, refl)
label_only token number q (ResolvedOffset z) w h fits e = absurd (letter_first z number fits (sym w ∙ e))

pub label_read : (token number : List ℕ) (n : ℕ) → token ≡ 76 ∷ number → Reads IsU32 decimal number (Some n) → Reads IsTarget target_text token (Some (labelled n))
label_read token number n w h = record {
  some = (h.some.0, w ∙ ap (λ (t : List ℕ). 76 ∷ t) h.some.1);
  only = λ t fits e.
      let r = label_only token number (Some n) t w h fits e in
      let s : n ≡ r.0 = let q = r.1 in cc in
      ap (λ (k : ℕ). Some (labelled k)) s ∙ ap (λ (u : BranchTarget). Some u) (sym r.2);
}

pub label_none : (token number : List ℕ) → token ≡ 76 ∷ number → Reads IsU32 decimal number None → Reads IsTarget target_text token None
label_none token number w h = record {
  some = tt;
  only = λ t fits e. let r = label_only token number None t w h fits e in let q = r.1 in absurd cc;
}
