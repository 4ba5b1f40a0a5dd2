-- 16 bits at one of the four halfwords of a register.
use Rattle.std.specs.Prelude.{ℕ, ◌≡◌, ◌<◌, ◌≤◌, ◌+◌, ◌*◌, ◌/◌, ◌%◌, ◌^◌, ◌==◌, nat_eq}
use Rattle.std.specs.Prelude.{if◌then◌else◌, Option, List, [], ◌++◌, codes, find, map}
use Rattle.std.specs.List.{range_with_len}
use Rattle.a64_imms.specs.declared.move_wide.MoveWideConst.{MoveWideConst}
use Rattle.a64_imms.specs.Texts.{number_text}

-- at most one halfword is not zero
abbrev pub IsWideValue : ℕ → Type 0
IsWideValue value =
    (bits shift : ℕ) × (bits < 2 ^ 16) × (shift ≤ 3) × (bits * 2 ^ (16 * shift) ≡ value)

abbrev pub wide_value : MoveWideConst → ℕ
wide_value imm = imm.bits * 2 ^ (16 * imm.shift)

-- the shift's field above the sixteen bits
abbrev pub wide_field : MoveWideConst → ℕ
wide_field imm = imm.shift * 2 ^ 16 + imm.bits

pub record IsWide (imm : MoveWideConst) : Type 0 where
  pub bits_fit : imm.bits < 2 ^ 16
  pub shift_fits : imm.shift ≤ 3

-- the immediate of a value: 0 is at halfword 0
pub record HasWide (value : ℕ) (imm : MoveWideConst) : Type 0 where
  pub lawful : IsWide imm
  pub value_is : wide_value imm ≡ value
  pub lowest : value ≡ 0 → imm.shift ≡ 0

-- halfword k of a number, counted from the lowest
abbrev pub halfword : ℕ → ℕ → ℕ
halfword k value = value / 2 ^ (16 * k) % 2 ^ 16

-- that halfword at its place
abbrev pub wide_at : ℕ → ℕ → MoveWideConst
wide_at value k = record { bits = halfword k value; shift = k }

-- the immediate of a value: its lowest halfword that is all of it
unfoldable pub wide_of : ℕ → Option MoveWideConst
wide_of value =
    find (λ imm. nat_eq (wide_value imm) value) (map (wide_at value) (range_with_len 0 4))

-- `#` and the bits, then the shift in bits where it is not 0
abbrev pub wide_text : MoveWideConst → List ℕ
wide_text imm =
    number_text imm.bits
    ++ (if imm.shift == 0 then [] else codes ", LSL " ++ number_text (16 * imm.shift))
