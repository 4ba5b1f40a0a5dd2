-- Immediates of logical instructions: the numbers of rotated runs.
use Rattle.std.specs.Prelude.{ℕ, ◌≡◌, ◌+◌, ◌-◌, ◌*◌, ◌%◌, ◌^◌, Bool, true, false, ◌&&◌, nat_eq}
use Rattle.std.specs.Prelude.{nat_lt, if◌then◌else◌, Option, None, Some, option_map}
use Rattle.std.specs.Prelude.{option_and_then}
use Rattle.a64_base.specs.declared.ir_type.IrType.{IrType}
use Rattle.a64_base.specs.declared.ir_type.IrType.TheVariants.{I32, I64}
use Rattle.a64_base.specs.declared.size.OperandSize.{OperandSize}
use Rattle.a64_base.specs.declared.size.OperandSize.TheVariants.{Size32, Size64}
use Rattle.a64_imms.specs.declared.imm_logic.ImmLogic.{ImmLogic}
use Rattle.a64_imms.specs.declared.run.Period.{Period}
use Rattle.a64_imms.specs.declared.run.Period.TheVariants.{Two, Four, Eight, Sixteen, ThirtyTwo}
use Rattle.a64_imms.specs.declared.run.Period.TheVariants.{SixtyFour}
use Rattle.a64_imms.specs.declared.run.Run.{Run}
use Rattle.a64_imms.specs.Runs.{prefix, copies, number, IsRun, is_run, opposite, run_of}

-- the size of an integer type that logical instructions have
abbrev pub size_for : IrType → Option OperandSize
size_for I32 = Some Size32
size_for I64 = Some Size64
size_for _ = None

-- the number that an instruction makes of a value: at 32 bits the low half, twice
abbrev pub seen : OperandSize → ℕ → ℕ
seen Size32 value = copies 32 (value % 2 ^ 32) 2
seen Size64 value = value

-- the bits of a value that count
abbrev pub counted : OperandSize → ℕ → ℕ
counted Size32 value = value % 2 ^ 32
counted Size64 value = value

-- N is 1 exactly for runs of 64 bits
abbrev pub is_widest : Period → Bool
is_widest SixtyFour = true
is_widest Two = false
is_widest Four = false
is_widest Eight = false
is_widest Sixteen = false
is_widest ThirtyTwo = false

-- the value that an immediate was made of, with all its bits
abbrev pub logic_value : ImmLogic → ℕ
logic_value imm = imm.value

-- the field: N, then six bits of R, then six bits of S
abbrev pub logic_field : ImmLogic → ℕ
logic_field imm = 4096 * (if imm.n then 1 else 0) + 64 * imm.r + imm.s

-- the number seen is that of a rotated run
abbrev pub IsLogicValue : OperandSize → ℕ → Type 0
IsLogicValue size value = (run : Run) × IsRun run × (number run ≡ seen size value)

-- N, R and S of a run: S has the prefix of the period, and behind it the number of ones less 1
pub record HasTriple (run : Run) (imm : ImmLogic) : Type 0 where
  pub n_is : imm.n ≡ is_widest run.period
  pub r_is : imm.r ≡ run.turn
  pub s_is : imm.s ≡ prefix run.period + (run.ones - 1)

-- the immediate of a value at a size: the triple is that of the run whose number is seen
pub record IsLogicOf (size : OperandSize) (value : ℕ) (imm : ImmLogic) : Type 0 where
  pub run : Run
  pub is_run : IsRun run
  pub number_is : number run ≡ seen size value
  pub triple : HasTriple run imm
  pub value_is : logic_value imm ≡ value
  pub size_is : imm.size ≡ size

-- the immediate of a value at a size, with the triple of a run
abbrev pub logic_with : OperandSize → ℕ → Run → ImmLogic
logic_with size value run = record {
  value = value;
  n = is_widest run.period;
  r = run.turn;
  s = prefix run.period + (run.ones - 1);
  size = size;
}

-- the immediate of a value at a size, and at a type: that of the run whose number is seen
abbrev pub logic_of : OperandSize → ℕ → Option ImmLogic
logic_of size value = option_map (logic_with size value) (run_of (seen size value))

abbrev pub logic_at : IrType → ℕ → Option ImmLogic
logic_at ty value = option_and_then (λ size. logic_of size value) (size_for ty)

-- the fields are those of the immediate of its value at its size
abbrev pub IsImmLogic : ImmLogic → Type 0
IsImmLogic imm = IsLogicOf imm.size (logic_value imm) imm

-- the period that N and S tell
abbrev pub period_in : Bool → ℕ → Period
period_in true s = SixtyFour
period_in false s =
    if nat_lt s 32 then ThirtyTwo else
    if nat_lt s 48 then Sixteen else
    if nat_lt s 56 then Eight else
    if nat_lt s 60 then Four else
    Two

-- the run that N, R and S tell
abbrev pub run_in : ImmLogic → Run
run_in imm =
    let period = period_in imm.n imm.s in record {
      period = period;
      ones = imm.s - prefix period + 1;
      turn = imm.r;
    }

-- the test of that: N, R and S tell the run whose number is seen
unfoldable pub is_imm_logic : ImmLogic → Bool
is_imm_logic imm =
    is_run (run_in imm) && nat_eq (number (run_in imm)) (seen imm.size (logic_value imm))

-- the immediate of the complement, whose run is the opposite one
unfoldable pub inverted : ImmLogic → ImmLogic
inverted imm =
    let run = opposite (run_in imm) in
    record {
      value = 2 ^ 64 - 1 - logic_value imm;
      n = is_widest run.period;
      r = run.turn;
      s = prefix run.period + (run.ones - 1);
      size = imm.size;
    }
