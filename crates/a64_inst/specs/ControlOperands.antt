-- Which operands each branch may have (Arm Architecture Reference Manual, C6.2).
use Rattle.std.specs.Prelude.{ℕ, ◌^◌, Bool, true, ◌&&◌, nat_lt}
use Rattle.a64_base.specs.declared.cond.CondBrKind.{CondBrKind}
use Rattle.a64_base.specs.declared.cond.CondBrKind.TheVariants.{Zero, NotZero, Cond}
use Rattle.a64_base.specs.declared.reg.Reg.{Reg}
use Rattle.a64_base.specs.declared.target.BranchTarget.{BranchTarget}
use Rattle.a64_base.specs.declared.target.BranchTarget.TheVariants.{Label, ResolvedOffset}
use Rattle.a64_operand.specs.declared.virtuals.VirtualRegisters.{VirtualRegisters}
use Rattle.a64_operand.specs.Operands.{is_offset, is_register_or_zero}

-- a target of a branch that reaches so many bytes, once a label is resolved
abbrev pub is_target : ℕ → BranchTarget → Bool
is_target reach (Label label) = true
is_target reach (ResolvedOffset offset) = is_offset reach offset

unfoldable pub are_jump_operands : BranchTarget → Bool
are_jump_operands dest = is_target (2 ^ 27) dest

-- a test of x0 to x30, of the zero register, or of the flags
abbrev pub is_test : VirtualRegisters → CondBrKind → Bool
is_test virtuals (Zero reg size) = is_register_or_zero virtuals reg
is_test virtuals (NotZero reg size) = is_register_or_zero virtuals reg
is_test virtuals (Cond cond) = true

-- behind the conditional branch stands a jump
unfoldable pub are_cond_br_operands : VirtualRegisters → BranchTarget → BranchTarget → CondBrKind
    → Bool
are_cond_br_operands virtuals taken not_taken kind =
    is_target (2 ^ 20) taken && are_jump_operands not_taken && is_test virtuals kind

unfoldable pub are_test_bit_operands : VirtualRegisters → BranchTarget → BranchTarget → Reg → ℕ
    → Bool
are_test_bit_operands virtuals taken not_taken rn bit =
    is_target (2 ^ 15) taken && are_jump_operands not_taken && is_register_or_zero virtuals rn
    && nat_lt bit 64
