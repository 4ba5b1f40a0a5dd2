-- The cells of items stand one behind another.
use Rattle.std.proofs.Common.{ℕ, ◌≡◌, ◌+◌, ◌-◌, ◌*◌, ◌<◌, ◌≤◌, suc, zero, List, [], ◌∷◌, ◌++◌, length, get_or, refl, ap, ◌∙◌, arith, inl, inr}
use Rattle.std.specs.Prelude.{All, Contains}
use Rattle.std.specs.List.{AllPairs}
use Rattle.std.proofs.lemmas.Bool.{cases_lt}
use Rattle.std.proofs.lemmas.List.{get_or_default, get_or_append_left, get_or-append_right, length-append}
use Rattle.std.proofs.lemmas.List.Elements.{All-append, Contains-append_left, Contains-append_right}
use Rattle.a64_buffer.proofs.Serving.{pairs_append}
use Rattle.a64_cells.specs.Shapes.{Cell}
use Rattle.a64_emit.specs.Layout.{placed, standing}
use Rattle.a64_emit.proofs.Sites.{length-placed, placed_at}

-- each item starts where the one before it ends, or behind that
abbrev pub AreBehind : List (List Cell) → List ℕ → ℕ → Type 0
AreBehind css places end = (i : ℕ) → i < length css → get_or places i 0 + 4 * length (get_or css i []) ≤ get_or (places ++ end ∷ []) (suc i) 0

module _ (place : ℕ) (cs : List Cell) where
  at : (k : ℕ) (d : ℕ × Cell) → k < length (placed place cs) → (get_or (placed place cs) k d).0 ≡ place + 4 * k
  at k d h = ap (λ (s : ℕ × Cell). s.0) (placed_at place cs k d (omega (arith, h, length-placed place cs)))

  placed_from : All (λ s. place ≤ s.0) (placed place cs)
  placed_from k d h = omega (arith, at k d h)

  placed_below : All (λ s. s.0 < place + 4 * length cs) (placed place cs)
  placed_below k d h = omega (arith, at k d h, h, length-placed place cs)

  placed_rising : AllPairs (λ s t. s.0 < t.0) (placed place cs)
  placed_rising j k d lt h = omega (arith, at j d (omega (arith, lt, h)), at k d h, lt)

  pub placed_has : (k : ℕ) (d : Cell) → k < length cs → Contains (placed place cs) (place + 4 * k, get_or cs k d)
  placed_has k d h = (k, omega (arith, h, length-placed place cs), placed_at place cs k (place + 4 * k, get_or cs k d) h ∙ ap (λ c. (place + 4 * k, c)) (get_or_default cs k (get_or cs k d) d h))

-- behind the items before
rest_behind : (cs : List Cell) (css : List (List Cell)) (p : ℕ) (ps : List ℕ) (end : ℕ) → AreBehind (cs ∷ css) (p ∷ ps) end → AreBehind css ps end
rest_behind cs css p ps end behind i h = behind (suc i) (omega arith)

from_low : (css : List (List Cell)) (places : List ℕ) (end low : ℕ) → length places ≡ length css → AreBehind css places end → low ≤ get_or (places ++ end ∷ []) 0 0 → All (λ s. low ≤ s.0) (standing css places)
from_low [] [] end low count behind l = λ k d h. absurd (omega arith)
from_low [] (p ∷ ps) end low count behind l = absurd (omega (arith, count))
from_low (cs ∷ css) [] end low count behind l = absurd (omega (arith, count))
from_low (cs ∷ css) (p ∷ ps) end low count behind l =
    All-append (λ (s : ℕ × Cell). low ≤ s.0) (placed p cs) (standing css ps)
    (λ k d h. let x = placed_from p cs k d h in omega (arith, x, l))
    (from_low css ps end low (omega (arith, count)) (rest_behind cs css p ps end behind) (let x = behind 0 (omega arith) in omega (arith, x, l)))

pub standing_rising : (css : List (List Cell)) (places : List ℕ) (end : ℕ) → length places ≡ length css → AreBehind css places end → AllPairs (λ s t. s.0 < t.0) (standing css places)
standing_rising [] [] end count behind = λ j k d lt h. absurd (omega arith)
standing_rising [] (p ∷ ps) end count behind = absurd (omega (arith, count))
standing_rising (cs ∷ css) [] end count behind = absurd (omega (arith, count))
standing_rising (cs ∷ css) (p ∷ ps) end count behind =
    pairs_append (λ (s t : ℕ × Cell). s.0 < t.0) (placed p cs) (standing css ps) (placed_rising p cs)
    (standing_rising css ps end (omega (arith, count)) (rest_behind cs css p ps end behind))
    (λ j k d hj hk.
    let x = placed_below p cs j d hj in
    let y = from_low css ps end (p + 4 * length cs) (omega (arith, count)) (rest_behind cs css p ps end behind) (let z = behind 0 (omega arith) in omega (arith, z)) k d hk in
    omega (arith, x, y))

-- a cell of an item stands at its place
pub standing_has : (css : List (List Cell)) (places : List ℕ) (i k : ℕ) (d : Cell) → length places ≡ length css → i < length css → k < length (get_or css i []) → Contains (standing css places) (get_or places i 0 + 4 * k, get_or (get_or css i []) k d)
standing_has [] places i k d count hi hk = absurd (omega arith)
standing_has (cs ∷ css) [] i k d count hi hk = absurd (omega (arith, count))
standing_has (cs ∷ css) (p ∷ ps) zero k d count hi hk = Contains-append_left (placed p cs) (standing css ps) (p + 4 * k, get_or cs k d) (placed_has p cs k d hk)
standing_has (cs ∷ css) (p ∷ ps) (suc i) k d count hi hk = Contains-append_right (placed p cs) (standing css ps) (get_or ps i 0 + 4 * k, get_or (get_or css i []) k d) (standing_has css ps i k d (omega (arith, count)) (omega arith) hk)

-- and each cell is one of an item, in which it stands
pub standing_in : (css : List (List Cell)) (places : List ℕ) → length places ≡ length css → (k : ℕ) (d : ℕ × Cell) → k < length (standing css places)
    → (i : ℕ) × (i < length css) × (get_or places i 0 ≤ (get_or (standing css places) k d).0) × ((get_or (standing css places) k d).0 < get_or places i 0 + 4 * length (get_or css i []))
standing_in [] [] count k d h = absurd (omega (arith, h))
standing_in [] (p ∷ ps) count k d h = absurd (omega (arith, count))
standing_in (cs ∷ css) [] count k d h = absurd (omega (arith, count))
standing_in (cs ∷ css) (p ∷ ps) count k d h = elim (cases_lt k (length (placed p cs))) [
  | inl first ↦
      let at = ap (λ (s : ℕ × Cell). s.0) (get_or_append_left (placed p cs) (standing css ps) d k first) in
      let low = placed_from p cs k d first in
      let high = placed_below p cs k d first in
      (0, omega arith, omega (arith, at, low), omega (arith, at, high))
  | inr behind ↦
      let at = ap (λ (s : ℕ × Cell). s.0) (get_or-append_right (placed p cs) (standing css ps) (length (placed p cs)) k d refl behind) in
      let rest = standing_in css ps (omega (arith, count)) (k - length (placed p cs)) d (omega (arith, h, behind, length-append (placed p cs) (standing css ps))) in
      (suc rest.0, (let w = rest.1 in omega (arith, w)), (let l = rest.2 in omega (arith, at, l)), (let g = rest.3 in omega (arith, at, g)))
]
