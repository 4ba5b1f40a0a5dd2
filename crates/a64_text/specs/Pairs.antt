-- The scales of loads and stores of pairs, by their names.
use Rattle.a64_base.specs.declared.ir_type.IrType.{IrType}
use Rattle.a64_base.specs.declared.ir_type.IrType.TheVariants.{F64, I64, I8X16}
use Rattle.a64_text.specs.declared.name.PairName.{PairName}
use Rattle.a64_text.specs.declared.name.PairName.TheVariants as pair

-- the type whose size scales the offset
abbrev pub pair_scale : PairName → IrType
pair_scale pair.LoadP64 = I64
pair_scale pair.StoreP64 = I64
pair_scale pair.FpuLoadP64 = F64
pair_scale pair.FpuStoreP64 = F64
pair_scale pair.FpuLoadP128 = I8X16
pair_scale pair.FpuStoreP128 = I8X16
