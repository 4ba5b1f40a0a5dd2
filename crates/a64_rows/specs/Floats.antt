-- Written by `python3 tools/rows.py` from tables/rows.txt.
-- Floats: the forms of "Data Processing -- Scalar Floating-Point and Advanced SIMD" on one float
-- (Arm Architecture Reference Manual, DDI 0487, C4.1), by the names of their fields.
use Rattle.std.specs.Prelude.{ℕ, [], ◌∷◌}
use Rattle.a64_rows.specs.declared.row_table.Row.TheVariants.{FpOne, FpTwo, FpThree, FpCompare}
use Rattle.a64_rows.specs.declared.row_table.Row.TheVariants.{FpSelect, FpImm, FpInt}
use Rattle.a64_rows.specs.Forms.{Form, form}

-- Data Processing -- Scalar Floating-Point and Advanced SIMD, Floating-point data-processing (1
-- source)
pub record FpOneFields : Type 0 where
  pub ftype : ℕ
  pub op : ℕ
  pub rn : ℕ
  pub rd : ℕ

abbrev pub fp_one : FpOneFields → Form
fp_one f = form FpOne (f.ftype ∷ f.op ∷ f.rn ∷ f.rd ∷ [])

-- Data Processing -- Scalar Floating-Point and Advanced SIMD, Floating-point data-processing (2
-- source)
pub record FpTwoFields : Type 0 where
  pub ftype : ℕ
  pub rm : ℕ
  pub op : ℕ
  pub rn : ℕ
  pub rd : ℕ

abbrev pub fp_two : FpTwoFields → Form
fp_two f = form FpTwo (f.ftype ∷ f.rm ∷ f.op ∷ f.rn ∷ f.rd ∷ [])

-- Data Processing -- Scalar Floating-Point and Advanced SIMD, Floating-point data-processing (3
-- source)
pub record FpThreeFields : Type 0 where
  pub ftype : ℕ
  pub o1 : ℕ
  pub rm : ℕ
  pub o0 : ℕ
  pub ra : ℕ
  pub rn : ℕ
  pub rd : ℕ

abbrev pub fp_three : FpThreeFields → Form
fp_three f = form FpThree (f.ftype ∷ f.o1 ∷ f.rm ∷ f.o0 ∷ f.ra ∷ f.rn ∷ f.rd ∷ [])

-- Data Processing -- Scalar Floating-Point and Advanced SIMD, Floating-point compare: FCMP of
-- registers
pub record FpCompareFields : Type 0 where
  pub ftype : ℕ
  pub rm : ℕ
  pub rn : ℕ

abbrev pub fp_compare : FpCompareFields → Form
fp_compare f = form FpCompare (f.ftype ∷ f.rm ∷ f.rn ∷ [])

-- Data Processing -- Scalar Floating-Point and Advanced SIMD, Floating-point conditional select
pub record FpSelectFields : Type 0 where
  pub ftype : ℕ
  pub rm : ℕ
  pub cond : ℕ
  pub rn : ℕ
  pub rd : ℕ

abbrev pub fp_select : FpSelectFields → Form
fp_select f = form FpSelect (f.ftype ∷ f.rm ∷ f.cond ∷ f.rn ∷ f.rd ∷ [])

-- Data Processing -- Scalar Floating-Point and Advanced SIMD, Floating-point immediate
pub record FpImmFields : Type 0 where
  pub ftype : ℕ
  pub imm8 : ℕ
  pub rd : ℕ

abbrev pub fp_imm : FpImmFields → Form
fp_imm f = form FpImm (f.ftype ∷ f.imm8 ∷ f.rd ∷ [])

-- Data Processing -- Scalar Floating-Point and Advanced SIMD, Conversion between floating-point and
-- integer
pub record FpIntFields : Type 0 where
  pub sf : ℕ
  pub ftype : ℕ
  pub op : ℕ
  pub rn : ℕ
  pub rd : ℕ

abbrev pub fp_int : FpIntFields → Form
fp_int f = form FpInt (f.sf ∷ f.ftype ∷ f.op ∷ f.rn ∷ f.rd ∷ [])
