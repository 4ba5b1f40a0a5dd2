-- Shifts and extensions of register operands.
use Rattle.std.specs.Prelude.{ℕ, List, ◌++◌, codes, decimal}
use Rattle.a64_base.specs.declared.shift.ShiftOp.{ShiftOp}
use Rattle.a64_base.specs.declared.shift.ShiftOp.TheVariants.{LSL, LSR, ASR, ROR}
use Rattle.a64_base.specs.declared.shift.ShiftOpAndAmt.{ShiftOpAndAmt}
use Rattle.a64_base.specs.declared.shift.ExtendOp.{ExtendOp}
use Rattle.a64_base.specs.declared.shift.ExtendOp.TheVariants.{UXTB, UXTH, UXTW, UXTX, SXTB, SXTH}
use Rattle.a64_base.specs.declared.shift.ExtendOp.TheVariants.{SXTW, SXTX}

-- the bits of a shift in an instruction
abbrev pub shift_bits : ShiftOp → ℕ
shift_bits LSL = 0
shift_bits LSR = 1
shift_bits ASR = 2
shift_bits ROR = 3

-- the name of a shift
abbrev pub shift_name : ShiftOp → List ℕ
shift_name LSL = codes "LSL"
shift_name LSR = codes "LSR"
shift_name ASR = codes "ASR"
shift_name ROR = codes "ROR"

-- a shift and its amount, as in `LSL 3`
abbrev pub shift_text : ShiftOpAndAmt → List ℕ
shift_text s = shift_name s.op ++ codes " " ++ decimal s.amount

-- the bits of an extension in an instruction
abbrev pub extend_bits : ExtendOp → ℕ
extend_bits UXTB = 0
extend_bits UXTH = 1
extend_bits UXTW = 2
extend_bits UXTX = 3
extend_bits SXTB = 4
extend_bits SXTH = 5
extend_bits SXTW = 6
extend_bits SXTX = 7

-- the name of an extension
abbrev pub extend_name : ExtendOp → List ℕ
extend_name UXTB = codes "UXTB"
extend_name UXTH = codes "UXTH"
extend_name UXTW = codes "UXTW"
extend_name UXTX = codes "UXTX"
extend_name SXTB = codes "SXTB"
extend_name SXTH = codes "SXTH"
extend_name SXTW = codes "SXTW"
extend_name SXTX = codes "SXTX"
