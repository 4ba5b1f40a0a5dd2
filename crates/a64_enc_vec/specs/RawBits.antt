-- The forms of encoders to which raw bits of the word give some fields, and numbers of registers
-- the others.
use Rattle.std.specs.Prelude.{ℕ, ◌/◌, ◌%◌, ◌^◌, ◌||◌, ◌==◌, IsTrue}
use Rattle.a64_rows.specs.Forms.{Form}
use Rattle.a64_rows.specs.Floats.{fp_int, fp_three}

-- an operation on three floats, Rd, Rn, Rm and Ra: the word's bits 31 to 15 give ftype, o1 and o0
abbrev pub fp_three_of : ℕ → ℕ → ℕ → ℕ → ℕ → Form
fp_three_of top17 rd rn rm ra =
    fp_three (record {
      ftype = top17 / 2 ^ 7 % 2 ^ 2;
      o1 = top17 / 2 ^ 6 % 2;
      rm = rm;
      o0 = top17 % 2;
      ra = ra;
      rn = rn;
      rd = rd;
    })

-- a conversion between a float and an integer, Rd and Rn: the word's bits 31 to 16 give sf, ftype,
-- and rmode and opcode
abbrev pub fp_int_of : ℕ → ℕ → ℕ → Form
fp_int_of top16 rd rn =
    fp_int (record {
      sf = top16 / 2 ^ 15;
      ftype = top16 / 2 ^ 6 % 2 ^ 2;
      op = top16 % 2 ^ 5;
      rn = rn;
      rd = rd;
    })

-- rmode and opcode of FCVTZS and FCVTZU, whose result is a general register
abbrev pub IsToInteger : ℕ → Type 0
IsToInteger top16 = IsTrue (top16 % 2 ^ 5 == 24 || top16 % 2 ^ 5 == 25)

-- those of SCVTF, UCVTF and FMOV, whose operand is one
abbrev pub IsFromInteger : ℕ → Type 0
IsFromInteger top16 = IsTrue (top16 % 2 ^ 5 == 2 || (top16 % 2 ^ 5 == 3 || top16 % 2 ^ 5 == 7))
