-- The immediate of a move to lanes, of its bits, their shift, and whether ones are shifted in.
use Rattle.std.specs.Prelude.{ℕ, ◌≡◌, ◌==◌, ◌||◌, ◌&&◌, not, Bool, true, false, if◌then◌else◌}
use Rattle.a64_base.specs.declared.size.ScalarSize.{ScalarSize}
use Rattle.a64_imms.specs.declared.asimd_mov.ASIMDMovModImm.{ASIMDMovModImm}
use Rattle.a64_imms.specs.MovImms.{is_64, IsMovImm}
use Rattle.a64_tokens.specs.declared.value.WrittenMovImm.{WrittenMovImm}

-- the immediate as a line has it
abbrev pub written_mov : ASIMDMovModImm → WrittenMovImm
written_mov imm = record { imm = imm.imm; shift = imm.shift; ones = imm.shift_ones }

-- an immediate that the constructor gives for some value, at 64 bits or at fewer
abbrev pub IsGiven : Bool → ASIMDMovModImm → Type 0
IsGiven is_64bit imm =
    (size : ScalarSize) × (is_64 size ≡ is_64bit) × (value : ℕ) × IsMovImm size value imm

-- one for lanes of this size: at 64 bits for those of 64 bits, and at fewer for others
abbrev pub IsMovAt : ScalarSize → ASIMDMovModImm → Type 0
IsMovAt lane imm = IsGiven (is_64 lane) imm

-- ---- which these are

-- at 64 bits nothing is shifted. At fewer a value has the first of its forms: so 0 is not shifted,
-- and 255 with ones behind it is 0 with more ones behind it
abbrev pub is_given : Bool → WrittenMovImm → Bool
is_given true w = w.shift == 0 && not w.ones
is_given false w =
    if w.ones then w.shift == 16 || (w.shift == 8 && not (w.imm == 255))
    else (w.shift == 0 || (not (w.imm == 0) && (w.shift == 8 || (w.shift == 16 || w.shift == 24))))
