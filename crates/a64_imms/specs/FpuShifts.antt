-- The amounts of shifts in floating-point registers.
use Rattle.std.specs.Prelude.{ℕ, ◌≡◌, ◌<◌, ◌≤◌, ◌⊎◌}

-- a lane of 32 or 64 bits
abbrev pub IsLane : ℕ → Type 0
IsLane lane = (lane ≡ 32) ⊎ (lane ≡ 64)

pub record IsLeftShift (lane amount : ℕ) : Type 0 where
  pub of_lane : IsLane lane
  pub below : amount < lane

pub record IsRightShift (lane amount : ℕ) : Type 0 where
  pub of_lane : IsLane lane
  pub positive : 0 < amount
  pub at_most : amount ≤ lane
