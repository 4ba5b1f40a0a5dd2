-- Offsets in addressing modes.
use Rattle.std.specs.Prelude.{ℕ, ℤ, pos, negsuc, ◌≡◌, ◌≤◌, ◌≤ℤ◌, ◌*ℤ◌, ◌-◌, ◌*◌, ◌/◌, ◌%◌, ◌^◌}
use Rattle.std.specs.Prelude.{nat_lt, if◌then◌else◌}
use Rattle.std.specs.Int.RustNames.{unsigned_abs}
use Rattle.a64_base.specs.declared.ir_type.IrType.{IrType}
use Rattle.a64_imms.specs.Scales.{type_bytes, IsPairScale}

-- a number modulo m, from 0 to m - 1
abbrev pub residue : ℕ → ℤ → ℕ
residue m (pos n) = n % m
residue m (negsuc n) = m - 1 - n % m

-- a field of so many bits, read as a signed number
abbrev pub signed : ℕ → ℕ → ℤ
signed bits field =
    if nat_lt field (2 ^ (bits - 1)) then pos field else negsuc (2 ^ bits - 1 - field)

-- a quotient, rounded down
abbrev pub floor_div : ℤ → ℕ → ℤ
floor_div (pos n) d = pos (n / d)
floor_div (negsuc n) d = negsuc (n / d)

-- an offset from -256 to 255
pub record IsOffset9 (value : ℤ) : Type 0 where
  pub low : negsuc 255 ≤ℤ value
  pub high : value ≤ℤ pos 255

-- a multiple of the scale, from -64 to 63 times it
pub record IsPairOffset (scale_ty : IrType) (value : ℤ) : Type 0 where
  pub scale : IsPairScale scale_ty
  pub low : (negsuc 63 *ℤ pos (type_bytes scale_ty)) ≤ℤ value
  pub high : value ≤ℤ pos (63 * type_bytes scale_ty)
  pub multiple : unsigned_abs value % type_bytes scale_ty ≡ 0

-- a multiple of the scale, from 0 to 4095 times it
pub record IsScaledOffset (scale_ty : IrType) (value : ℤ) : Type 0 where
  pub scale : type_bytes scale_ty ≤ 16
  pub low : pos 0 ≤ℤ value
  pub high : value ≤ℤ pos (4095 * type_bytes scale_ty)
  pub multiple : unsigned_abs value % type_bytes scale_ty ≡ 0
