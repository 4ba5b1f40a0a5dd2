-- Operations on a register and a number of any size.
use Rattle.std.specs.Prelude.{
  ℕ,
  ◌≡◌,
  ◌⊎◌,
  ◌-◌,
  ◌/◌,
  ◌%◌,
  ◌^◌,
  ◌<◌,
  ◌≤◌,
  Bool,
  true,
  false,
  List,
  [],
  ◌∷◌,
  ◌++◌,
  map,
  Result,
}
use Rattle.a64_base.specs.declared.reg.Reg.{Reg}
use Rattle.a64_base.specs.declared.size.OperandSize.{OperandSize}
use Rattle.a64_base.specs.OperandSizes.{operand_bits}
use Rattle.a64_base.specs.Registers.{integer_register}
use Rattle.a64_imms.specs.declared.imm12.Imm12.{Imm12}
use Rattle.a64_imms.specs.Imm12s.{HasImm12, IsImm12Value}
use Rattle.a64_inst.specs.declared.inst.Inst.{Inst}
use Rattle.a64_inst.specs.declared.inst.Inst.TheVariants.{AluRRImm12, AluRRR}
use Rattle.a64_inst.specs.Constants.{step_into}
use Rattle.a64_ops.specs.declared.operator.ALUOp.{ALUOp}
use Rattle.a64_plan.specs.Plans.{plan_of}
use Rattle.a64_assembler.specs.Assembly.{Assembly, Adds, emitted}
use Rattle.a64_assembler.specs.declared.error.AddError.{AddError}
use Rattle.a64_assembler.specs.declared.numbers.WithNumber.{WithNumber}

-- the bits of a number that count at a size
abbrev pub at_size : OperandSize → ℕ → ℕ
at_size size number = number % 2 ^ operand_bits size

-- what a number lacks to 0 at a size: to add the one is to subtract the other
abbrev pub lacking : OperandSize → ℕ → ℕ
lacking size number = (2 ^ operand_bits size - at_size size number) % 2 ^ operand_bits size

-- the instructions in their order, the operation last
abbrev pub insts_of : WithNumber → List Inst
insts_of it = it.before.items ++ it.operation ∷ []

module _ (size : OperandSize) (rd rn : Reg) where
  -- an operation on an immediate with a value
  pub record IsOnImmediate (alu_op : ALUOp) (value : ℕ) (it : WithNumber) : Type 0 where
    pub imm12 : Imm12
    pub value_is : HasImm12 value imm12
    pub before : it.before.items ≡ []
    pub operation : it.operation ≡ AluRRImm12 alu_op size rd rn imm12

  -- an operation on x16, to which moves give a number
  pub record IsOnScratch (alu_op : ALUOp) (number : ℕ) (it : WithNumber) : Type 0 where
    pub before :
        it.before.items
        ≡ map (step_into (integer_register 16)) (plan_of (at_size size number))
    pub operation : it.operation ≡ AluRRR alu_op size rd rn (integer_register 16)

  -- two operations on immediates, which together do what one on a number of 24 bits does
  pub record IsOnHalves (alu_op : ALUOp) (value : ℕ) (it : WithNumber) : Type 0 where
    pub short : value < 2 ^ 24
    pub before :
        it.before.items
        ≡ AluRRImm12 alu_op size rd rn (record { bits = value / 4096; shift12 = true }) ∷ []
    pub operation :
        it.operation
        ≡ AluRRImm12 alu_op size rd rd (record { bits = value % 4096; shift12 = false })

-- an operation, the one that does the same with what a number lacks to 0, and whether two of them
-- do what one does: not where flags count
module _ (op inverse : ALUOp) (halves : Bool) (size : OperandSize) (rd rn : Reg) where
  -- with a number that no immediate has: by two operations where it has 24 bits; else by two of the
  -- inverse where what it lacks to 0 has; and else on x16
  abbrev pub IsWithLong : ℕ → WithNumber → Type 0
  IsWithLong number it =
      ((halves ≡ true) × IsOnHalves size rd rn op (at_size size number) it)
      ⊎ ((halves ≡ true → 2 ^ 24 ≤ at_size size number)
      × (((halves ≡ true) × IsOnHalves size rd rn inverse (lacking size number) it)
      ⊎ ((halves ≡ true → 2 ^ 24 ≤ lacking size number) × IsOnScratch size rd rn op number it)))

  -- with any number: on an immediate where one has it; else the inverse on an immediate where one
  -- has what it lacks to 0; else by two immediates, or over x16
  abbrev pub IsWithNumber : ℕ → WithNumber → Type 0
  IsWithNumber number it =
      IsOnImmediate size rd rn op (at_size size number) it
      ⊎ ((¬ IsImm12Value (at_size size number))
      × (IsOnImmediate size rd rn inverse (lacking size number) it
      ⊎ ((¬ IsImm12Value (lacking size number)) × IsWithLong number it)))

  -- what adding such an operation leaves
  abbrev pub AddsWithNumber : {T : Type 0} → ℕ → Result T AddError → Assembly → Assembly → Type 0
  AddsWithNumber number result a a' =
      (it : WithNumber) × IsWithNumber number it × Adds (map emitted (insts_of it)) result a a'
