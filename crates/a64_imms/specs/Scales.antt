-- The types that offsets are scaled by.
use Rattle.std.specs.Prelude.{ℕ, ◌≡◌, ◌⊎◌, ◌/◌}
use Rattle.a64_base.specs.declared.ir_type.IrType.{IrType}
use Rattle.a64_base.specs.declared.ir_type.IrType.TheVariants.{I32, I64, F64, I8X16}
use Rattle.a64_base.specs.Types.{type_bits}

-- the number of bytes of a type
abbrev pub type_bytes : IrType → ℕ
type_bytes ty = type_bits ty / 8

-- the types that the offset of a pair is scaled by
abbrev pub IsPairScale : IrType → Type 0
IsPairScale ty = (ty ≡ I64) ⊎ (ty ≡ I32) ⊎ (ty ≡ F64) ⊎ (ty ≡ I8X16)
