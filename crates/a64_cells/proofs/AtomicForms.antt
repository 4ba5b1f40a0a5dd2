-- The forms of atomic accesses are forms of their rows, and what is known of their operands.
use Rattle.std.proofs.Common.{ℕ, ◌≡◌, ◌<◌, ◌%◌, Bool, true, false, refl, lit<, arith}
use Rattle.std.specs.Prelude.{◌&&◌, nat_le, nat_lt, nat_eq}
use Rattle.std.proofs.lemmas.Bool.{and_parts, ltb-true}
use Rattle.std.proofs.lemmas.Bool.Decides.{nat_tests}
use Rattle.a64_base.specs.declared.ir_type.IrType.{IrType}
use Rattle.a64_base.specs.declared.ir_type.IrType.TheVariants.{I8, I16, I32, I64}
use Rattle.a64_base.specs.declared.reg.Reg.{Reg}
use Rattle.a64_base.specs.declared.reg.RegKind.TheVariants.{Real, Virtual}
use Rattle.a64_base.specs.declared.reg.RegClass.{RegClass}
use Rattle.a64_base.specs.declared.reg.RegClass.TheVariants.{Int, Float}
use Rattle.a64_operand.specs.declared.atomic.AtomicCAS128Args.{AtomicCAS128Args}
use Rattle.a64_operand.specs.declared.virtuals.VirtualRegisters.TheVariants.{Refused}
use Rattle.a64_operand.specs.AtomicOperands.{is_atomic_type, is_pair_first, is_register_pair, is_next_register, are_cas_operands, are_cas128_operands}
use Rattle.a64_operand.specs.Operands.{is_int, is_register, is_register_or_stack, is_register_or_zero, is_same_register}
use Rattle.a64_ops.specs.declared.operator.AtomicRMWOp.{AtomicRMWOp}
use Rattle.a64_ops.specs.declared.operator.AtomicRMWOp.TheVariants as atomic
use Rattle.a64_rows.specs.Forms.{IsFormOf}
use Rattle.a64_rows.specs.Limits.{is_atomic}
use Rattle.a64_enc_int.specs.Operators.{access_size, atomic_opc, is_swap, IsAccessType}
use Rattle.a64_enc_int.specs.Registers.{IsGeneral, register_field}
use Rattle.a64_enc_int.proofs.Registers.{field_below}
use Rattle.a64_cells.proofs.Operands.{stack_general}
use Rattle.a64_cells.specs.AtomicForms.{rmw_form, cas_form, cas128_form, load_acquire_form, store_release_form}

-- ---- operands

pub access_type : (ty : IrType) → is_atomic_type ty ≡ true → IsAccessType ty
access_type I8 e = tt
access_type I16 e = tt
access_type I32 e = tt
access_type I64 e = tt
access_type _ e = absurd cc

int_class : (class : RegClass) → is_int class ≡ true → class ≡ Int
int_class Int e = refl
int_class Float e = absurd cc

pub register_general : (reg : Reg) → is_register Refused reg ≡ true → IsGeneral reg
register_general (Real p) e = int_class p.class (and_parts (is_int p.class) (nat_lt p.number 31) e).0
register_general (Virtual index class) e = absurd cc

-- a register that is not the zero register has a number below that one's
pub below_zero_register : (reg : Reg) → is_register Refused reg ≡ true → register_field reg < 31
below_zero_register (Real p) e = omega (arith, ltb-true p.number 31 (and_parts (is_int p.class) (nat_lt p.number 31) e).1)
below_zero_register (Virtual index class) e = absurd cc

pub first_general : (reg : Reg) → is_pair_first Refused reg ≡ true → IsGeneral reg
first_general (Real p) e = int_class p.class (and_parts (is_int p.class) (nat_le p.number 28 && nat_eq (p.number % 2) 0) e).0
first_general (Virtual index class) e = absurd cc

-- the low half of a pair stands in a register with an even number
pub first_even : (reg : Reg) → is_pair_first Refused reg ≡ true → register_field reg % 2 ≡ 0
first_even (Real p) e = grind (arith, nat_tests)
first_even (Virtual index class) e = absurd cc

-- the register that holds the address of a compare and swap
pub cas_base_general : (rd rs rt rn : Reg) (ty : IrType) → are_cas_operands Refused rd rs rt rn ty ≡ true → IsGeneral rn
unfolding are_cas_operands
cas_base_general rd rs rt rn ty good =
    let result = is_register_or_zero Refused rd && is_register_or_zero Refused rs && is_same_register rd rs in
    let rest = (and_parts (is_atomic_type ty && result) (is_register_or_zero Refused rt && is_register_or_stack Refused rn) good).1 in
    stack_general rn (and_parts (is_register_or_zero Refused rt) (is_register_or_stack Refused rn) rest).1

-- ---- fields

pub size_below : (ty : IrType) → access_size ty < 4
size_below I8 = lit< tt
size_below I16 = lit< tt
size_below I32 = lit< tt
size_below I64 = lit< tt
size_below _ = lit< tt

swap_below : (op : AtomicRMWOp) → is_swap op < 2
swap_below atomic.Swp = lit< tt
swap_below _ = lit< tt

opc_below : (op : AtomicRMWOp) → atomic_opc op < 8
opc_below atomic.Add = lit< tt
opc_below atomic.Clr = lit< tt
opc_below atomic.Eor = lit< tt
opc_below atomic.Set = lit< tt
opc_below atomic.Smax = lit< tt
opc_below atomic.Smin = lit< tt
opc_below atomic.Umax = lit< tt
opc_below atomic.Umin = lit< tt
opc_below atomic.Swp = lit< tt

opc_alone : (op : AtomicRMWOp) → is_atomic (is_swap op) (atomic_opc op) ≡ true
opc_alone atomic.Add = refl
opc_alone atomic.Clr = refl
opc_alone atomic.Eor = refl
opc_alone atomic.Set = refl
opc_alone atomic.Smax = refl
opc_alone atomic.Smin = refl
opc_alone atomic.Umax = refl
opc_alone atomic.Umin = refl
opc_alone atomic.Swp = refl

-- ---- forms

pub rmw_is_form : (ty : IrType) (op : AtomicRMWOp) (rs rt rn : Reg) → IsFormOf (rmw_form ty op rs rt rn)
unfolding rmw_form
rmw_is_form ty op rs rt rn = ((size_below ty, (field_below rs, (swap_below op, (opc_below op, (field_below rn, (field_below rt, tt)))))), opc_alone op)

pub cas_is_form : (ty : IrType) (rs rt rn : Reg) → IsFormOf (cas_form ty rs rt rn)
unfolding cas_form
cas_is_form ty rs rt rn = ((size_below ty, (field_below rs, (field_below rn, (field_below rt, tt)))), refl)

pub cas128_is_form : (args : AtomicCAS128Args) → are_cas128_operands Refused args ≡ true → IsFormOf (cas128_form args)
unfolding cas128_form are_cas128_operands
cas128_is_form args good =
    let pairs = is_register_pair Refused args.rs_lo args.rs_hi && is_register_pair Refused args.rt_lo args.rt_hi in
    let results = is_register_or_zero Refused args.rd_lo && is_register_or_zero Refused args.rd_hi in
    let same = is_same_register args.rd_lo args.rs_lo && is_same_register args.rd_hi args.rs_hi in
    let registers = (and_parts (pairs && results && same) (is_register_or_stack Refused args.rn) good).0 in
    let are = (and_parts pairs results (and_parts (pairs && results) same registers).0).0 in
    let (expected, new) = and_parts (is_register_pair Refused args.rs_lo args.rs_hi) (is_register_pair Refused args.rt_lo args.rt_hi) are in
    let rs = first_even args.rs_lo (and_parts (is_pair_first Refused args.rs_lo) (is_register_or_zero Refused args.rs_hi && is_next_register args.rs_lo args.rs_hi) expected).0 in
    let rt = first_even args.rt_lo (and_parts (is_pair_first Refused args.rt_lo) (is_register_or_zero Refused args.rt_hi && is_next_register args.rt_lo args.rt_hi) new).0 in
    ((field_below args.rs_lo, (field_below args.rn, (field_below args.rt_lo, tt))), rw (rs, rt) refl)

pub load_acquire_is_form : (ty : IrType) (rt rn : Reg) → IsFormOf (load_acquire_form ty rt rn)
unfolding load_acquire_form
load_acquire_is_form ty rt rn = ((size_below ty, (field_below rn, (field_below rt, tt))), refl)

pub store_release_is_form : (ty : IrType) (rt rn : Reg) → IsFormOf (store_release_form ty rt rn)
unfolding store_release_form
store_release_is_form ty rt rn = ((size_below ty, (field_below rn, (field_below rt, tt))), refl)
