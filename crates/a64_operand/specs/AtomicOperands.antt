-- Which operands atomic accesses may have, and loops of them (Arm Architecture Reference Manual,
-- C3.2: load-acquire and store-release, load-exclusive and store-exclusive, atomic memory
-- operations, and compare and swap).
use Rattle.std.specs.Prelude.{◌+◌, ◌%◌, Bool, true, false, ◌&&◌, nat_le, nat_eq}
use Rattle.a64_base.specs.declared.ir_type.IrType.{IrType}
use Rattle.a64_base.specs.declared.ir_type.IrType.TheVariants.{I8, I16, I32, I64}
use Rattle.a64_base.specs.declared.reg.Reg.{Reg}
use Rattle.a64_base.specs.declared.reg.RegKind.TheVariants.{Real, Virtual}
use Rattle.a64_operand.specs.declared.atomic.AtomicCAS128Args.{AtomicCAS128Args}
use Rattle.a64_operand.specs.declared.virtuals.VirtualRegisters.{VirtualRegisters}
use Rattle.a64_ops.specs.declared.operator.AtomicRMWLoopOp.{AtomicRMWLoopOp}
use Rattle.a64_ops.specs.declared.operator.AtomicRMWLoopOp.TheVariants.{Xchg}
use Rattle.a64_operand.specs.Operands.{are_allowed, is_fixed_register, is_int, is_register}
use Rattle.a64_operand.specs.Operands.{is_register_or_stack, is_register_or_zero, is_same_class}
use Rattle.a64_operand.specs.Operands.{is_same_register}

-- the types of the values: integers of 8, 16, 32 and 64 bits
abbrev pub is_atomic_type : IrType → Bool
is_atomic_type I8 = true
is_atomic_type I16 = true
is_atomic_type I32 = true
is_atomic_type I64 = true
is_atomic_type _ = false

-- an operation: the result is x0 to x30, and the address may be the stack pointer
unfoldable pub are_rmw_operands : VirtualRegisters → IrType → Reg → Reg → Reg → Bool
are_rmw_operands virtuals ty rs rt rn =
    is_atomic_type ty
    && (is_register_or_zero virtuals rs
    && (is_register virtuals rt && is_register_or_stack virtuals rn))

-- a compare and swap: the result comes in the register of the value that was awaited
unfoldable pub are_cas_operands : VirtualRegisters → Reg → Reg → Reg → Reg → IrType → Bool
are_cas_operands virtuals rd rs rt rn ty =
    is_atomic_type ty
    && (is_register_or_zero virtuals rd && is_register_or_zero virtuals rs
    && is_same_register rd rs)
    && (is_register_or_zero virtuals rt && is_register_or_stack virtuals rn)

-- the register of the low half of a pair: its number is even, from x0 to x28
abbrev pub is_pair_first : VirtualRegisters → Reg → Bool
is_pair_first virtuals (Real p) = is_int p.class && (nat_le p.number 28 && nat_eq (p.number % 2) 0)
is_pair_first virtuals (Virtual index class) = are_allowed virtuals && is_int class

-- a register is the next behind another; a virtual one may be any
abbrev pub is_next_register : Reg → Reg → Bool
is_next_register (Real p) (Real q) = is_same_class p.class q.class && nat_eq q.number (p.number + 1)
is_next_register _ _ = true

-- a pair: its low and its high half
abbrev pub is_register_pair : VirtualRegisters → Reg → Reg → Bool
is_register_pair virtuals lo hi =
    is_pair_first virtuals lo && (is_register_or_zero virtuals hi && is_next_register lo hi)

-- a compare and swap of a pair: the result comes in the registers of the value that was awaited
unfoldable pub are_cas128_operands : VirtualRegisters → AtomicCAS128Args → Bool
are_cas128_operands virtuals args =
    (is_register_pair virtuals args.rs_lo args.rs_hi
    && is_register_pair virtuals args.rt_lo args.rt_hi)
    && (is_register_or_zero virtuals args.rd_lo && is_register_or_zero virtuals args.rd_hi)
    && (is_same_register args.rd_lo args.rs_lo && is_same_register args.rd_hi args.rs_hi)
    && is_register_or_stack virtuals args.rn

-- the values of a loop, and the registers of its address, of its operand, of what was there, and of
-- whether the store failed
unfoldable pub are_loop_operands : VirtualRegisters → IrType → Reg → Reg → Reg → Reg → Bool
are_loop_operands virtuals ty addr operand oldval failed =
    is_atomic_type ty
    && (is_fixed_register virtuals 25 addr && is_fixed_register virtuals 26 operand)
    && (is_fixed_register virtuals 27 oldval && is_fixed_register virtuals 24 failed)

-- the register of what a loop stores; an exchange stores its operand, and has x0 to x30 or the zero
-- register here
abbrev pub is_loop_result : VirtualRegisters → AtomicRMWLoopOp → Reg → Bool
is_loop_result virtuals Xchg reg = is_register_or_zero virtuals reg
is_loop_result virtuals _ reg = is_fixed_register virtuals 28 reg

-- an operation as a loop
abbrev pub are_rmw_loop_operands : VirtualRegisters → IrType → AtomicRMWLoopOp → Reg → Reg → Reg
    → Reg → Reg → Bool
are_rmw_loop_operands virtuals ty op addr operand oldval scratch1 scratch2 =
    are_loop_operands virtuals ty addr operand oldval scratch1
    && is_loop_result virtuals op scratch2

-- a compare and swap as a loop
abbrev pub are_cas_loop_operands : VirtualRegisters → IrType → Reg → Reg → Reg → Reg → Reg → Bool
are_cas_loop_operands virtuals ty addr expected replacement oldval scratch =
    are_loop_operands virtuals ty addr expected oldval scratch
    && is_fixed_register virtuals 28 replacement

-- a load with acquire, or a store with release
unfoldable pub are_ordered_operands : VirtualRegisters → IrType → Reg → Reg → Bool
are_ordered_operands virtuals ty rt rn =
    is_atomic_type ty && (is_register_or_zero virtuals rt && is_register_or_stack virtuals rn)
