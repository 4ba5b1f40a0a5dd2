-- Immediates of 12 bits, shifted left by 0 or 12 places.
use Rattle.std.specs.Prelude.{ℕ, ◌≡◌, ◌<◌, ◌≤◌, ◌+◌, ◌*◌, ◌%◌, ◌^◌, ◌⊎◌, IsTrue, if◌then◌else◌}
use Rattle.a64_imms.specs.declared.imm12.Imm12.{Imm12}

-- a value below 4096, or a multiple of 4096 below 2^24
abbrev pub IsImm12Value : ℕ → Type 0
IsImm12Value value = (value < 4096) ⊎ ((value < 2 ^ 24) × (value % 4096 ≡ 0))

abbrev pub imm12_value : Imm12 → ℕ
imm12_value imm = imm.bits * (if imm.shift12 then 4096 else 1)

-- the shift's field above the twelve bits
abbrev pub imm12_field : Imm12 → ℕ
imm12_field imm = (if imm.shift12 then 4096 else 0) + imm.bits

-- the immediate of a value: without a shift where the value is below 4096
pub record HasImm12 (value : ℕ) (imm : Imm12) : Type 0 where
  pub in_set : IsImm12Value value
  pub low : imm.bits < 4096
  pub value_is : imm12_value imm ≡ value
  pub shift_is : IsTrue imm.shift12 → 4096 ≤ value
