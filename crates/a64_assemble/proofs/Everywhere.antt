-- What holds of the cells of each item holds of all cells that stand.
use Rattle.std.proofs.Common.{ℕ, ◌+◌, suc, zero, List, [], ◌∷◌, map, arith}
use Rattle.std.specs.Prelude.{All}
use Rattle.std.proofs.lemmas.List.Elements.{All-append}
use Rattle.a64_cells.specs.Shapes.{Cell}
use Rattle.a64_emit.specs.Layout.{placed, standing}

module _ (P : Cell → Type 0) where
  placed_all : (place : ℕ) (cells : List Cell) → All P cells → All (λ s. P s.1) (placed place cells)
  placed_all place [] all k d h = absurd (omega arith)
  placed_all place (c ∷ cs) all zero d h = all 0 c (omega arith)
  placed_all place (c ∷ cs) all (suc k) d h = placed_all (place + 4) cs (λ j e l. all (suc j) e (omega arith)) k d (omega arith)

  pub standing_all : {X : Type 0} (cells : X → List Cell) (xs : List X) (places : List ℕ) → All (λ x. All P (cells x)) xs → All (λ s. P s.1) (standing (map cells xs) places)
  standing_all cells [] places all = λ k d h. absurd (omega arith)
  standing_all cells (x ∷ xs) [] all = λ k d h. absurd (omega arith)
  standing_all cells (x ∷ xs) (place ∷ places) all =
      All-append (λ (s : ℕ × Cell). P s.1) (placed place (cells x)) (standing (map cells xs) places)
      (placed_all place (cells x) (all 0 x (omega arith))) (standing_all cells xs places (λ k d h. all (suc k) d (omega arith)))
