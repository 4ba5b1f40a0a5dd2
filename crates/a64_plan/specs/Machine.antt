-- The move machine: a register of 64 bits, and the steps that change it
-- (Arm Architecture Reference Manual, C6.2: MOVZ, MOVN, MOVK and ORR with an immediate).
-- The register may hold any number before the first step, and each result is cut to its size; so
-- what is said of a plan and of shorter ones holds of more than contents of 64 bits.
use Rattle.std.specs.Prelude.{ℕ, ◌+◌, ◌-◌, ◌*◌, ◌/◌, ◌%◌, ◌^◌, List, fold}
use Rattle.a64_base.specs.declared.size.OperandSize.{OperandSize}
use Rattle.a64_base.specs.OperandSizes.{operand_bits}
use Rattle.a64_imms.specs.MoveWides.{wide_value}
use Rattle.a64_imms.specs.Runs.{number}
use Rattle.a64_imms.specs.Logic.{run_in}
use Rattle.a64_plan.specs.declared.step.ConstStep.{ConstStep}
use Rattle.a64_plan.specs.declared.step.ConstStep.TheVariants.{MovZ, MovN, MovK, Orr}

-- what a write at a size leaves of a number: after one of 32 bits the upper half is zero
abbrev pub cut : OperandSize → ℕ → ℕ
cut size n = n % 2 ^ operand_bits size

-- a number with other bits at halfword k: all above it, the bits, all below it
abbrev pub with_halfword : ℕ → ℕ → ℕ → ℕ
with_halfword k bits n =
    n / 2 ^ (16 * k + 16) * 2 ^ (16 * k + 16) + bits * 2 ^ (16 * k) + n % 2 ^ (16 * k)

-- the register after a step, where it held a number before. movz: the bits at their halfword, and
-- zeros elsewhere; movn: the complement of that within the size; movk: the bits at their halfword,
-- and elsewhere what was there; orr: the number that N, R and S tell, at 32 bits its low half.
abbrev pub after : ConstStep → ℕ → ℕ
after (MovZ imm size) old = cut size (wide_value imm)
after (MovN imm size) old = 2 ^ operand_bits size - 1 - cut size (wide_value imm)
after (MovK imm size) old = cut size (with_halfword imm.shift imm.bits old)
after (Orr imm) old = cut imm.size (number (run_in imm))

-- the register after several steps, one behind the other
abbrev pub after_all : List ConstStep → ℕ → ℕ
after_all steps old = fold (λ register step. after step register) old steps
