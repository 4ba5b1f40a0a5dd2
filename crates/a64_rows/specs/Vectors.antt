-- Written by `python3 tools/rows.py` from tables/rows.txt.
-- Vectors: the forms of "Data Processing -- Scalar Floating-Point and Advanced SIMD" on vectors and
-- their elements (Arm Architecture Reference Manual, DDI 0487, C4.1), by the names of their fields.
use Rattle.std.specs.Prelude.{ℕ, [], ◌∷◌}
use Rattle.a64_rows.specs.declared.row_table.Row.TheVariants.{VecThree, VecPermute, VecDot}
use Rattle.a64_rows.specs.declared.row_table.Row.TheVariants.{VecElem, VecTwo, VecScalarPair}
use Rattle.a64_rows.specs.declared.row_table.Row.TheVariants.{VecAcross, VecLong3, VecShift}
use Rattle.a64_rows.specs.declared.row_table.Row.TheVariants.{VecImm, ScalarShift, VecCopy}
use Rattle.a64_rows.specs.declared.row_table.Row.TheVariants.{ScalarCopy, VecInsElem, VecExt}
use Rattle.a64_rows.specs.declared.row_table.Row.TheVariants.{VecTable}
use Rattle.a64_rows.specs.Forms.{Form, form}

-- Data Processing -- Scalar Floating-Point and Advanced SIMD, Advanced SIMD three same
pub record VecThreeFields : Type 0 where
  pub q : ℕ
  pub u : ℕ
  pub size : ℕ
  pub rm : ℕ
  pub op : ℕ
  pub rn : ℕ
  pub rd : ℕ

abbrev pub vec_three : VecThreeFields → Form
vec_three f = form VecThree (f.q ∷ f.u ∷ f.size ∷ f.rm ∷ f.op ∷ f.rn ∷ f.rd ∷ [])

-- Data Processing -- Scalar Floating-Point and Advanced SIMD, Advanced SIMD permute, of 128 bits
pub record VecPermuteFields : Type 0 where
  pub size : ℕ
  pub rm : ℕ
  pub op : ℕ
  pub rn : ℕ
  pub rd : ℕ

abbrev pub vec_permute : VecPermuteFields → Form
vec_permute f = form VecPermute (f.size ∷ f.rm ∷ f.op ∷ f.rn ∷ f.rd ∷ [])

-- Data Processing -- Scalar Floating-Point and Advanced SIMD, Advanced SIMD three-register
-- extension: SDOT and USDOT
pub record VecDotFields : Type 0 where
  pub q : ℕ
  pub us : ℕ
  pub rm : ℕ
  pub rn : ℕ
  pub rd : ℕ

abbrev pub vec_dot : VecDotFields → Form
vec_dot f = form VecDot (f.q ∷ f.us ∷ f.rm ∷ f.rn ∷ f.rd ∷ [])

-- Data Processing -- Scalar Floating-Point and Advanced SIMD, Advanced SIMD vector x indexed
-- element: FMLA and FMLS
pub record VecElemFields : Type 0 where
  pub q : ℕ
  pub sz : ℕ
  pub l : ℕ
  pub rm : ℕ
  pub o2 : ℕ
  pub h : ℕ
  pub rn : ℕ
  pub rd : ℕ

abbrev pub vec_elem : VecElemFields → Form
vec_elem f = form VecElem (f.q ∷ f.sz ∷ f.l ∷ f.rm ∷ f.o2 ∷ f.h ∷ f.rn ∷ f.rd ∷ [])

-- Data Processing -- Scalar Floating-Point and Advanced SIMD, Advanced SIMD two-register
-- miscellaneous
pub record VecTwoFields : Type 0 where
  pub q : ℕ
  pub u : ℕ
  pub size : ℕ
  pub op : ℕ
  pub rn : ℕ
  pub rd : ℕ

abbrev pub vec_two : VecTwoFields → Form
vec_two f = form VecTwo (f.q ∷ f.u ∷ f.size ∷ f.op ∷ f.rn ∷ f.rd ∷ [])

-- Data Processing -- Scalar Floating-Point and Advanced SIMD, Advanced SIMD scalar pairwise: ADDP
pub record VecScalarPairFields : Type 0 where
  pub rn : ℕ
  pub rd : ℕ

abbrev pub vec_scalar_pair : VecScalarPairFields → Form
vec_scalar_pair f = form VecScalarPair (f.rn ∷ f.rd ∷ [])

-- Data Processing -- Scalar Floating-Point and Advanced SIMD, Advanced SIMD across lanes
pub record VecAcrossFields : Type 0 where
  pub q : ℕ
  pub u : ℕ
  pub size : ℕ
  pub op : ℕ
  pub rn : ℕ
  pub rd : ℕ

abbrev pub vec_across : VecAcrossFields → Form
vec_across f = form VecAcross (f.q ∷ f.u ∷ f.size ∷ f.op ∷ f.rn ∷ f.rd ∷ [])

-- Data Processing -- Scalar Floating-Point and Advanced SIMD, Advanced SIMD three different: SMLAL,
-- UMLAL, SMULL and UMULL
pub record VecLong3Fields : Type 0 where
  pub q : ℕ
  pub u : ℕ
  pub size : ℕ
  pub mul : ℕ
  pub rm : ℕ
  pub rn : ℕ
  pub rd : ℕ

abbrev pub vec_long3 : VecLong3Fields → Form
vec_long3 f = form VecLong3 (f.q ∷ f.u ∷ f.size ∷ f.mul ∷ f.rm ∷ f.rn ∷ f.rd ∷ [])

-- Data Processing -- Scalar Floating-Point and Advanced SIMD, Advanced SIMD shift by immediate
pub record VecShiftFields : Type 0 where
  pub q : ℕ
  pub u : ℕ
  pub imm7 : ℕ
  pub op : ℕ
  pub rn : ℕ
  pub rd : ℕ

abbrev pub vec_shift : VecShiftFields → Form
vec_shift f = form VecShift (f.q ∷ f.u ∷ f.imm7 ∷ f.op ∷ f.rn ∷ f.rd ∷ [])

-- Data Processing -- Scalar Floating-Point and Advanced SIMD, Advanced SIMD modified immediate
pub record VecImmFields : Type 0 where
  pub q : ℕ
  pub op : ℕ
  pub abc : ℕ
  pub cmode : ℕ
  pub defgh : ℕ
  pub rd : ℕ

abbrev pub vec_imm : VecImmFields → Form
vec_imm f = form VecImm (f.q ∷ f.op ∷ f.abc ∷ f.cmode ∷ f.defgh ∷ f.rd ∷ [])

-- Data Processing -- Scalar Floating-Point and Advanced SIMD, Advanced SIMD scalar shift by
-- immediate: USHR and SLI
pub record ScalarShiftFields : Type 0 where
  pub imm7 : ℕ
  pub op : ℕ
  pub rn : ℕ
  pub rd : ℕ

abbrev pub scalar_shift : ScalarShiftFields → Form
scalar_shift f = form ScalarShift (f.imm7 ∷ f.op ∷ f.rn ∷ f.rd ∷ [])

-- Data Processing -- Scalar Floating-Point and Advanced SIMD, Advanced SIMD copy of one element or
-- general register
pub record VecCopyFields : Type 0 where
  pub q : ℕ
  pub imm5 : ℕ
  pub op : ℕ
  pub rn : ℕ
  pub rd : ℕ

abbrev pub vec_copy : VecCopyFields → Form
vec_copy f = form VecCopy (f.q ∷ f.imm5 ∷ f.op ∷ f.rn ∷ f.rd ∷ [])

-- Data Processing -- Scalar Floating-Point and Advanced SIMD, Advanced SIMD scalar copy: DUP
-- (element)
pub record ScalarCopyFields : Type 0 where
  pub imm5 : ℕ
  pub rn : ℕ
  pub rd : ℕ

abbrev pub scalar_copy : ScalarCopyFields → Form
scalar_copy f = form ScalarCopy (f.imm5 ∷ f.rn ∷ f.rd ∷ [])

-- Data Processing -- Scalar Floating-Point and Advanced SIMD, Advanced SIMD copy: INS (element)
pub record VecInsElemFields : Type 0 where
  pub imm5 : ℕ
  pub imm4 : ℕ
  pub rn : ℕ
  pub rd : ℕ

abbrev pub vec_ins_elem : VecInsElemFields → Form
vec_ins_elem f = form VecInsElem (f.imm5 ∷ f.imm4 ∷ f.rn ∷ f.rd ∷ [])

-- Data Processing -- Scalar Floating-Point and Advanced SIMD, Advanced SIMD extract: EXT
pub record VecExtFields : Type 0 where
  pub rm : ℕ
  pub imm4 : ℕ
  pub rn : ℕ
  pub rd : ℕ

abbrev pub vec_ext : VecExtFields → Form
vec_ext f = form VecExt (f.rm ∷ f.imm4 ∷ f.rn ∷ f.rd ∷ [])

-- Data Processing -- Scalar Floating-Point and Advanced SIMD, Advanced SIMD table lookup
pub record VecTableFields : Type 0 where
  pub rm : ℕ
  pub len : ℕ
  pub ext : ℕ
  pub rn : ℕ
  pub rd : ℕ

abbrev pub vec_table : VecTableFields → Form
vec_table f = form VecTable (f.rm ∷ f.len ∷ f.ext ∷ f.rn ∷ f.rd ∷ [])
