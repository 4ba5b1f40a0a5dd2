-- Loads and stores of the types of values.
use Rattle.std.specs.Prelude.{ℕ, Bool, ◌||◌, nat_le, nat_eq, if◌then◌else◌}
use Rattle.a64_base.specs.declared.ir_type.IrType.{IrType}
use Rattle.a64_base.specs.Types.{type_bits, is_float_type, is_vector_type}
use Rattle.a64_ops.specs.declared.access.AccessOp.{AccessOp}
use Rattle.a64_ops.specs.declared.access.AccessOp.TheVariants as ops
use Rattle.a64_inst.specs.declared.access.Access.{Access}
use Rattle.a64_inst.specs.declared.inst.Inst.{Inst}
pub use Rattle.a64_inst.specs.AccessTable.{access_type, access_of, inst_with}

-- the widths of the accesses of float registers that hold whole values
abbrev pub is_float_width : ℕ → Bool
is_float_width bits = nat_eq bits 16 || nat_eq bits 32 || nat_eq bits 64 || nat_eq bits 128

-- the types of which one load or store moves a value: integers of at most 64 bits, floats and
-- vectors of those widths
abbrev pub type_has_load_form : IrType → Bool
type_has_load_form ty =
    if is_float_type ty || is_vector_type ty then is_float_width (type_bits ty)
    else nat_le (type_bits ty) 64

-- the instruction of an access
abbrev pub inst_of : Access → Inst
inst_of access = inst_with access.op access.reg access.mem access.flags

-- the load and the store of a type's values: by their bits, from or into a vector register where
-- they are floats or vectors
abbrev pub load_op : IrType → AccessOp
load_op ty =
    if is_float_type ty || is_vector_type ty
    then (if nat_eq (type_bits ty) 16 then ops.FpuLoad16 else if nat_eq (type_bits ty) 32
    then ops.FpuLoad32 else if nat_eq (type_bits ty) 64 then ops.FpuLoad64 else ops.FpuLoad128)
    else (if nat_eq (type_bits ty) 8 then ops.ULoad8 else if nat_eq (type_bits ty) 16
    then ops.ULoad16 else if nat_eq (type_bits ty) 32 then ops.ULoad32 else ops.ULoad64)

abbrev pub store_op : IrType → AccessOp
store_op ty =
    if is_float_type ty || is_vector_type ty
    then (if nat_eq (type_bits ty) 16 then ops.FpuStore16 else if nat_eq (type_bits ty) 32
    then ops.FpuStore32 else if nat_eq (type_bits ty) 64 then ops.FpuStore64
    else ops.FpuStore128)
    else (if nat_eq (type_bits ty) 8 then ops.Store8 else if nat_eq (type_bits ty) 16
    then ops.Store16 else if nat_eq (type_bits ty) 32 then ops.Store32 else ops.Store64)
