-- What operands of sequences say of their words' operands.
use Rattle.std.proofs.Common.{◌≡◌, true, false, refl}
use Rattle.std.specs.Prelude.{◌&&◌}
use Rattle.std.proofs.lemmas.Bool.{and_parts}
use Rattle.a64_base.specs.declared.ir_type.IrType.{IrType}
use Rattle.a64_base.specs.declared.reg.Reg.{Reg}
use Rattle.a64_ops.specs.declared.access.AccessOp.{AccessOp}
use Rattle.a64_ops.specs.Accesses.{moves_vector}
use Rattle.a64_operand.specs.declared.virtuals.VirtualRegisters.TheVariants.{Refused}
use Rattle.a64_operand.specs.AtomicOperands.{are_cas_loop_operands, are_loop_operands, is_atomic_type}
use Rattle.a64_inst.specs.MemoryOperands.{is_data_register}
use Rattle.a64_operand.specs.Operands.{is_fixed_register, is_register, is_register_or_zero, is_other_register}
use Rattle.a64_inst.specs.SequenceOperands.{are_table_operands}
use Rattle.a64_enc_int.specs.Registers.{IsGeneral}
use Rattle.a64_cells.proofs.Operands.{general, register_zero}

-- ---- loops of atomic accesses

pub loop_type : (ty : IrType) (addr operand oldval failed : Reg) → are_loop_operands Refused ty addr operand oldval failed ≡ true → is_atomic_type ty ≡ true
unfolding are_loop_operands
loop_type ty addr operand oldval failed good =
    let (first, _) = and_parts (is_atomic_type ty && (is_fixed_register Refused 25 addr && is_fixed_register Refused 26 operand)) (is_fixed_register Refused 27 oldval && is_fixed_register Refused 24 failed) good in
    (and_parts (is_atomic_type ty) (is_fixed_register Refused 25 addr && is_fixed_register Refused 26 operand) first).0

pub cas_loop_type : (ty : IrType) (addr expected replacement oldval scratch : Reg) → are_cas_loop_operands Refused ty addr expected replacement oldval scratch ≡ true → is_atomic_type ty ≡ true
cas_loop_type ty addr expected replacement oldval scratch good =
    loop_type ty addr expected oldval scratch (and_parts (are_loop_operands Refused ty addr expected oldval scratch) (is_fixed_register Refused 28 replacement) good).0

-- ---- tables

pub record IsTableJump (ridx rtmp1 rtmp2 : Reg) : Type 0 where
  pub index : is_register_or_zero Refused ridx ≡ true
  pub first : is_register Refused rtmp1 ≡ true
  pub second : is_register Refused rtmp2 ≡ true

pub table_parts : (ridx rtmp1 rtmp2 : Reg) → are_table_operands Refused ridx rtmp1 rtmp2 ≡ true → IsTableJump ridx rtmp1 rtmp2
unfolding are_table_operands
table_parts ridx rtmp1 rtmp2 good =
    let (others, _) = and_parts (is_register_or_zero Refused ridx && is_register Refused rtmp1 && is_register Refused rtmp2 && is_other_register rtmp2 ridx) (is_other_register rtmp2 rtmp1) good in
    let (registers, _) = and_parts (is_register_or_zero Refused ridx && is_register Refused rtmp1 && is_register Refused rtmp2) (is_other_register rtmp2 ridx) others in
    let (two, second) = and_parts (is_register_or_zero Refused ridx && is_register Refused rtmp1) (is_register Refused rtmp2) registers in
    let (index, first) = and_parts (is_register_or_zero Refused ridx) (is_register Refused rtmp1) two in
    record { index = index; first = first; second = second }

pub numbered_general : (reg : Reg) → is_register Refused reg ≡ true → IsGeneral reg
numbered_general reg e = general reg (register_zero reg e)

pub data_good : (op : AccessOp) (reg : Reg) → moves_vector op ≡ false → is_register Refused reg ≡ true → is_data_register Refused op reg ≡ true
data_good op reg integer e = rw (integer, register_zero reg e) refl
