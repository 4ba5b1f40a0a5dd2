-- Which words sites take, and that sites overlap where they take the same.
use Rattle.std.proofs.Common.{ℕ, zero, suc, ◌≡◌, ◌+◌, ◌*◌, ◌/◌, ◌%◌, Bool, true, false, cond, eqb, ltb, leb, List, [], ◌∷◌, length, Option, Some, None, refl, sym, ap, ap₂, ◌∙◌, arith, nat_cmp}
use Rattle.std.specs.Prelude.{◌||◌, ◌&&◌, not, is_some}
use Rattle.std.specs.Cmp.{nat_cmp_total, unsigned_tied}
use Rattle.std.specs.FinMap.{FinMap, get, contains_key, insert, get-insert}
use Rattle.std.specs.List.{list_any, All}
use Rattle.std.proofs.lemmas.Bool.{eq-eqb}
use Rattle.std.proofs.lemmas.Bool.Decides.{nat_tests}
use Rattle.a64_link.specs.Units.{Relocation, is_call}
use Rattle.a64_link.specs.Linking.{site_size}
use Rattle.a64_link.specs.Faults.{overlap, fits_call, is_good_site}
use Rattle.a64_link.specs.Sites.{takes, AreTaken, HasTaken}

-- ---- the map of the words that are taken

inserted : (m : FinMap nat_cmp (Unit {0})) (a n : ℕ) → contains_key (insert m a tt) n ≡ (contains_key m n || eqb n a)
inserted m a n = ap is_some (get-insert nat_cmp_total m a tt n ∙ ap (λ (t : Bool). cond t (Some tt) (get m n)) (unsigned_tied n a)) ∙ either (eqb n a) (get m n)
  where
    either : (b : Bool) (o : Option (Unit {0})) → is_some (cond b (Some tt) o) ≡ (is_some o || b)
    either true None = refl
    either true (Some x) = refl
    either false None = refl
    either false (Some x) = refl

module _ (r : Relocation) (old : FinMap nat_cmp (Unit {0})) where
  one : (c a b d : Bool) → c ≡ true → (a || b) ≡ (a || (b || (not c && d)))
  one true true b d e = refl
  one true false true d e = refl
  one true false false d e = refl
  one false a b d e = absurd cc

  two : (c a b d : Bool) → c ≡ false → ((a || b) || d) ≡ (a || (b || (not c && d)))
  two true a b d e = absurd cc
  two false true b d e = refl
  two false false b d e = refl

  pub call_taken : is_call r.1 ≡ true → HasTaken r old (insert old (r.0 / 4) tt)
  call_taken c n = inserted old (r.0 / 4) n ∙ one (is_call r.1) (contains_key old n) (eqb n (r.0 / 4)) (eqb n (r.0 / 4 + 1)) c

  pub address_taken : is_call r.1 ≡ false → HasTaken r old (insert (insert old (r.0 / 4) tt) (r.0 / 4 + 1) tt)
  address_taken c n =
      inserted (insert old (r.0 / 4) tt) (r.0 / 4 + 1) n ∙ ap (λ (b : Bool). b || eqb n (r.0 / 4 + 1)) (inserted old (r.0 / 4) n)
      ∙ two (is_call r.1) (contains_key old n) (eqb n (r.0 / 4)) (eqb n (r.0 / 4 + 1)) c

-- ---- sites that overlap

meet : (x y : ℕ) (s t : Bool) → x % 4 ≡ 0 → y % 4 ≡ 0
    → (ltb x (y + cond t 4 8) && ltb y (x + cond s 4 8))
    ≡ ((eqb (x / 4) (y / 4) || (not t && eqb (x / 4) (y / 4 + 1))) || (not s && (eqb (x / 4 + 1) (y / 4) || (not t && eqb (x / 4 + 1) (y / 4 + 1)))))
meet x y true true p q = grind (arith, nat_tests)
meet x y true false p q = grind (arith, nat_tests)
meet x y false true p q = grind (arith, nat_tests)
meet x y false false p q = grind (arith, nat_tests)

meet_any : (r : Relocation) (before : List Relocation) → r.0 % 4 ≡ 0 → All (λ (b : Relocation). b.0 % 4 ≡ 0) before
    → list_any (overlap r) before ≡ (list_any (takes (r.0 / 4)) before || (not (is_call r.1) && list_any (takes (r.0 / 4 + 1)) before))
meet_any r [] p q = none (not (is_call r.1))
  where
    none : (b : Bool) → false ≡ (false || (b && false))
    none true = refl
    none false = refl
meet_any r (b ∷ bs) p q = joined (not (is_call r.1)) (overlap r b) (list_any (overlap r) bs) _ _ _ _ (meet r.0 b.0 (is_call r.1) (is_call b.1) p (q zero b (omega arith))) (meet_any r bs p (λ k d lt. q (suc k) d (omega arith)))
  where
    joined : (n o p a b c d : Bool) → o ≡ (a || (n && c)) → p ≡ (b || (n && d)) → (o || p) ≡ ((a || b) || (n && (c || d)))
    joined n o p a b c d e f = ap₂ ◌||◌ e f ∙ at n a b c d
      where
        at : (n a b c d : Bool) → ((a || (n && c)) || (b || (n && d))) ≡ ((a || b) || (n && (c || d)))
        at n true b c d = refl
        at true false true true d = refl
        at true false true false d = refl
        at true false false true d = refl
        at true false false false d = refl
        at false false true c d = refl
        at false false false c d = refl

-- ---- what makes a site good, by the words that are taken

module _ (words : List ℕ) (before : List Relocation) (taken : FinMap nat_cmp (Unit {0})) (r : Relocation) (t : AreTaken before taken) (aligned : r.0 % 4 ≡ 0) where
  met : list_any (overlap r) before ≡ (contains_key taken (r.0 / 4) || (not (is_call r.1) && contains_key taken (r.0 / 4 + 1)))
  met = meet_any r before aligned t.aligned ∙ sym (ap₂ (λ (a b : Bool). a || (not (is_call r.1) && b)) (t.has (r.0 / 4)) (t.has (r.0 / 4 + 1)))

  good : (c : Bool) → is_call r.1 ≡ c
      → is_good_site words before r
      ≡ (eqb (r.0 % 4) 0 && (leb (r.0 + cond c 4 8) (4 * length words) && (not (contains_key taken (r.0 / 4) || (not c && contains_key taken (r.0 / 4 + 1))) && cond c (fits_call words r) true)))
  good c e =
      ap (λ (m : Bool). eqb (r.0 % 4) 0 && (leb (r.0 + site_size r) (4 * length words) && (not m && cond (is_call r.1) (fits_call words r) true))) met
      ∙ ap (λ (b : Bool). eqb (r.0 % 4) 0 && (leb (r.0 + cond b 4 8) (4 * length words) && (not (contains_key taken (r.0 / 4) || (not b && contains_key taken (r.0 / 4 + 1))) && cond b (fits_call words r) true))) e

  pub call_good : is_call r.1 ≡ true → (ltb (r.0 / 4) (length words) && (not (contains_key taken (r.0 / 4)) && fits_call words r)) ≡ is_good_site words before r
  call_good c = sym (good true c ∙ at (eqb (r.0 % 4) 0) _ _ (contains_key taken (r.0 / 4)) (fits_call words r) (eq-eqb (r.0 % 4) 0 aligned) within)
    where
      within : leb (r.0 + 4) (4 * length words) ≡ ltb (r.0 / 4) (length words)
      within = grind (arith, nat_tests)

      at : (p q s a f : Bool) → p ≡ true → q ≡ s → (p && (q && (not (a || false) && f))) ≡ (s && (not a && f))
      at true q s true f e g = ap (λ (b : Bool). b && false) g
      at true q s false f e g = ap (λ (b : Bool). b && f) g
      at false q s a f e g = absurd cc

  pub address_good : is_call r.1 ≡ false → (ltb (r.0 / 4 + 1) (length words) && (not (contains_key taken (r.0 / 4)) && not (contains_key taken (r.0 / 4 + 1)))) ≡ is_good_site words before r
  address_good c = sym (good false c ∙ at (eqb (r.0 % 4) 0) _ _ (contains_key taken (r.0 / 4)) (contains_key taken (r.0 / 4 + 1)) (eq-eqb (r.0 % 4) 0 aligned) within)
    where
      within : leb (r.0 + 8) (4 * length words) ≡ ltb (r.0 / 4 + 1) (length words)
      within = grind (arith, nat_tests)

      at : (p q s a b : Bool) → p ≡ true → q ≡ s → (p && (q && (not (a || b) && true))) ≡ (s && (not a && not b))
      at true q s true b e g = ap (λ (b : Bool). b && false) g
      at true q s false true e g = ap (λ (b : Bool). b && false) g
      at true q s false false e g = ap (λ (b : Bool). b && true) g
      at false q s a b e g = absurd cc
