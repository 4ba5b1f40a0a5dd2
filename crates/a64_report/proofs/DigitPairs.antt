-- Tables of pairs of digits, and numbers that differ in their last two digits.
use Rattle.std.proofs.Common.{◌≡◌, ℕ, zero, suc, ◌+◌, ◌-◌, ◌*◌, ◌/◌, ◌%◌, ◌<◌, ◌≤◌, Bool, true, ◌&&◌, T, eqb, List, [], ◌∷◌, ◌++◌, get_or, length, take, drop, refl, ap, ◌∙◌, inl, inr, arith, eq-zero-or-pos, eqb→eq}
use Rattle.std.proofs.lemmas.List.{drop_more, drop-drop}
use lib.Ieee.Fits.{and_l, and_r}
use borrow.Rule.Slice.PartMut.{put_mid}

-- a table holds the digits, in a base, of the numbers below n
abbrev pub are_pairs : List ℕ → (ℕ → ℕ) → ℕ → ℕ → Bool
are_pairs table digit base zero = true
are_pairs table digit base (suc n) = (eqb (get_or table (n * 2) 0) (digit (n / base)) && eqb (get_or table (n * 2 + 1) 0) (digit (n % base))) && are_pairs table digit base n

pub pair_at : (table : List ℕ) (digit : ℕ → ℕ) (base n k : ℕ) → T (are_pairs table digit base n) → k < n
    → (get_or table (k * 2) 0 ≡ digit (k / base)) × (get_or table (k * 2 + 1) 0 ≡ digit (k % base))
pair_at table digit base zero k t h = absurd (omega arith)
pair_at table digit base (suc n) k t h =
    elim (eq-zero-or-pos (n - k)) [
      | inl z ↦ let e : k ≡ n = omega arith in let a = and_l _ (are_pairs table digit base n) t in rw e (eqb→eq _ _ (and_l _ _ a), eqb→eq _ _ (and_r _ _ a))
      | inr g ↦ pair_at table digit base n k (and_r _ (are_pairs table digit base n) t) (omega arith)
    ]

-- the same, as a part of the table
pub pair_part : (table : List ℕ) (digit : ℕ → ℕ) (base n k : ℕ) → T (are_pairs table digit base n) → k < n → n * 2 ≤ length table
    → take 2 (drop (k * 2) table) ≡ digit (k / base) ∷ digit (k % base) ∷ []
pair_part table digit base n k t h long =
    let p = pair_at table digit base n k t h in
    rw (drop_more table (k * 2) 0 (omega arith), drop_more table (k * 2 + 1) 0 (omega arith), p.0, p.1) refl

-- what a write before a place leaves
pub placed : (end : ℕ) (xs ys : List ℕ) → 2 ≤ end → put_mid (end - 2) (end - (end - 2)) xs ys ≡ take (end - 2) xs ++ (ys ++ drop end xs)
placed end xs ys h =
    let e : end - 2 + (end - (end - 2)) ≡ end = omega arith in
    ap (λ t. take (end - 2) xs ++ (ys ++ t)) (drop-drop (end - (end - 2)) (end - 2) xs ∙ ap (λ n. drop n xs) e)
