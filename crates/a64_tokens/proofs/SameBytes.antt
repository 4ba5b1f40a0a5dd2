-- Texts of which several bytes are compared at once.
use Rattle.std.proofs.Common.{◌≡◌, ℕ, ◌+◌, ◌-◌, ◌*◌, ◌%◌, ◌^◌, ◌≤◌, eqb, cond, Bool, true, false, List, [], ◌∷◌, ◌++◌, map, length, take, drop, w8, refl, sym, ap, ap₂, ◌∙◌, arith}
use Rattle.std.specs.Prelude.{◌↔◌}
use Rattle.std.proofs.lemmas.Bool.{eqb-true, eq-eqb}
use Rattle.std.proofs.lemmas.List.{take_all, take-append-drop, length-drop, drop-drop}
use Rattle.std.proofs.lemmas.Simd.{tops_compared, mask_l-mod, length-chunk, length-zip2}
use native.Mathlib.Nat.{two-pow-succ}
use lib.Lanes.{chunk, zip2, mask_l, top}

-- the number all of whose bits are set, one for each element
abbrev full : List ℕ → ℕ
full [] = 0
full (x ∷ xs) = 1 + 2 * full xs

full_is : (xs : List ℕ) → 1 + full xs ≡ 2 ^ length xs
full_is [] = omega arith
full_is (x ∷ xs) = omega (arith, full_is xs, two-pow-succ (length xs))

lowest_set : (b : Bool) (m n : ℕ) → cond b 1 0 + 2 * m ≡ 1 + 2 * n → (b ≡ true) × (m ≡ n)
lowest_set true m n e = (refl, omega (arith, e))
lowest_set false m n e = absurd (omega (arith, e))

all_same : (xs ys : List ℕ) → length xs ≡ length ys → mask_l (zip2 eqb xs ys) ≡ full xs → xs ≡ ys
all_same [] [] n e = refl
all_same [] (y ∷ ys) n e = absurd (omega (arith, n))
all_same (x ∷ xs) [] n e = absurd (omega (arith, n))
all_same (x ∷ xs) (y ∷ ys) n e =
    let bits = lowest_set (eqb x y) (mask_l (zip2 eqb xs ys)) (full xs) e in
    ap₂ (λ (b : ℕ) (bs : List ℕ). b ∷ bs) (eqb-true x y bits.0) (all_same xs ys (omega (arith, n)) bits.1)

is_full : (xs : List ℕ) → mask_l (zip2 eqb xs xs) ≡ full xs
is_full [] = refl
is_full (x ∷ xs) = ap₂ (λ (b : Bool) (m : ℕ). cond b 1 0 + 2 * m) (eq-eqb x x refl) (is_full xs)

module _ (n most : ℕ) (few : n ≤ 64) (all_set : 1 + most ≡ 2 ^ n) (a b : List ℕ) (place : ℕ) (in_a : place + n ≤ length a) (in_b : place + n ≤ length b) where
  abbrev xs : List ℕ
  xs = chunk place n a

  abbrev ys : List ℕ
  ys = chunk place n b

  abbrev bits : ℕ
  bits = mask_l (map (top 7) (zip2 (λ x y. cond (eqb x y) 255 0) xs ys)) % 2 ^ 64

  long : length xs ≡ n
  long = length-chunk place n a in_a

  as_long : length xs ≡ length ys
  as_long = long ∙ sym (length-chunk place n b in_b)

  bits_are : bits ≡ mask_l (zip2 eqb xs ys)
  bits_are = ap (λ ms. mask_l ms % 2 ^ 64) (tops_compared w8 eqb xs ys) ∙ mask_l-mod (zip2 eqb xs ys) 64 (omega (arith, few, length-zip2 eqb xs ys as_long, long))

  most_is : full xs ≡ most
  most_is = omega (arith, full_is xs, all_set, ap (λ (m : ℕ). 2 ^ m) long)

  -- all bits are set just where the bytes are the same
  pub lanes_same : (result : Bool) → result ≡ eqb bits most → (result ≡ true) ↔ (xs ≡ ys)
  lanes_same result is = (
    λ yes. all_same xs ys as_long (sym bits_are ∙ eqb-true bits most (sym is ∙ yes) ∙ sym most_is),
    λ same. is ∙ eq-eqb bits most (bits_are ∙ ap (λ (l : List ℕ). mask_l (zip2 eqb xs l)) (sym same) ∙ is_full xs ∙ most_is),
  )

-- a text of n to 2 n bytes is its first n and its last n
pub from_both : (n : ℕ) (a b : List ℕ) (back : ℕ) → length a ≡ length b → back + n ≡ length a → back ≤ n → take n (drop 0 a) ≡ take n (drop 0 b) → take n (drop back a) ≡ take n (drop back b) → a ≡ b
from_both n a b back long room few front last =
    let rest_a : take n (drop back a) ≡ drop back a = take_all n (drop back a) (omega (arith, room, length-drop back a)) in
    let rest_b : take n (drop back b) ≡ drop back b = take_all n (drop back b) (omega (arith, room, long, length-drop back b)) in
    let meets : back + (n - back) ≡ n = omega (arith, few) in
    let tail : drop n a ≡ drop n b = ap (λ (m : ℕ). drop m a) (sym meets) ∙ sym (drop-drop (n - back) back a) ∙ ap (λ (l : List ℕ). drop (n - back) l) (sym rest_a ∙ last ∙ rest_b) ∙ drop-drop (n - back) back b ∙ ap (λ (m : ℕ). drop m b) meets in
    sym (take-append-drop n a) ∙ ap₂ (λ (x y : List ℕ). x ++ y) front tail ∙ take-append-drop n b
