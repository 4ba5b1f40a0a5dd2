-- What the operators of vector instructions fix of their words (Arm Architecture Reference Manual,
-- DDI 0487, C4.1, "Data Processing -- Scalar Floating-Point and Advanced SIMD"): the row, where it
-- is one of several, and fields.
use Rattle.std.specs.Prelude.{ℕ}
use Rattle.a64_base.specs.declared.size.ScalarSize.{ScalarSize}
use Rattle.a64_base.specs.declared.size.ScalarSize.TheVariants.{Size8, Size16, Size32, Size64}
use Rattle.a64_base.specs.declared.size.ScalarSize.TheVariants.{Size128}
use Rattle.a64_ops.specs.declared.vector.VecALUModOp.{VecALUModOp}
use Rattle.a64_ops.specs.declared.vector.VecALUModOp.TheVariants.{Bsl, Fmla, Fmls, Sdot, Usdot}
use Rattle.a64_ops.specs.declared.vector.VecALUOp.{VecALUOp}
use Rattle.a64_ops.specs.declared.vector.VecALUOp.TheVariants as three
use Rattle.a64_ops.specs.declared.vector.VecLanesOp.{VecLanesOp}
use Rattle.a64_ops.specs.declared.vector.VecLanesOp.TheVariants.{Addv, Uminv}
use Rattle.a64_ops.specs.declared.vector.VecMisc2.{VecMisc2}
use Rattle.a64_ops.specs.declared.vector.VecMisc2.TheVariants as two
use Rattle.a64_ops.specs.declared.vector.VecRRLongOp.{VecRRLongOp}
use Rattle.a64_ops.specs.declared.vector.VecRRLongOp.TheVariants.{Fcvtl16, Fcvtl32, Shll8, Shll16}
use Rattle.a64_ops.specs.declared.vector.VecRRLongOp.TheVariants.{Shll32}
use Rattle.a64_ops.specs.declared.vector.VecRRNarrowOp.{VecRRNarrowOp}
use Rattle.a64_ops.specs.declared.vector.VecRRNarrowOp.TheVariants.{Xtn, Sqxtn, Sqxtun, Uqxtn}
use Rattle.a64_ops.specs.declared.vector.VecRRNarrowOp.TheVariants.{Fcvtn}
use Rattle.a64_ops.specs.declared.vector.VecRRPairLongOp.{VecRRPairLongOp}
use Rattle.a64_ops.specs.declared.vector.VecRRPairLongOp.TheVariants.{Saddlp8, Saddlp16, Uaddlp8}
use Rattle.a64_ops.specs.declared.vector.VecRRPairLongOp.TheVariants.{Uaddlp16}
use Rattle.a64_ops.specs.declared.vector.VecRRRLongModOp.{VecRRRLongModOp}
use Rattle.a64_ops.specs.declared.vector.VecRRRLongModOp.TheVariants.{Umlal8, Umlal16, Umlal32}
use Rattle.a64_ops.specs.declared.vector.VecRRRLongOp.{VecRRRLongOp}
use Rattle.a64_ops.specs.declared.vector.VecRRRLongOp.TheVariants.{Smull8, Smull16, Smull32, Umull8}
use Rattle.a64_ops.specs.declared.vector.VecRRRLongOp.TheVariants.{Umull16, Umull32}
use Rattle.a64_ops.specs.declared.vector.VecShiftImmOp.{VecShiftImmOp}
use Rattle.a64_ops.specs.declared.vector.VecShiftImmOp.TheVariants.{Shl, Ushr, Sshr}
use Rattle.a64_enc_vec.specs.declared.operator.LongFields.{LongFields}
use Rattle.a64_enc_vec.specs.declared.operator.OpFields.{OpFields}
use Rattle.a64_enc_vec.specs.declared.operator.ThreeOp.{ThreeOp}
use Rattle.a64_enc_vec.specs.declared.operator.ThreeOp.TheVariants.{Lanes, Bits, Floats, Permute}
use Rattle.a64_enc_vec.specs.declared.operator.ThreeOp.TheVariants.{Dot}
use Rattle.a64_enc_vec.specs.declared.operator.TwoFields.{TwoFields}
use Rattle.a64_enc_vec.specs.declared.operator.TwoOp.{TwoOp}
use Rattle.a64_enc_vec.specs.declared.operator.TwoOp.TheVariants as two_ops

-- ---- operators on two vectors

-- the row and its fields: U and opcode, U and size, U, opcode and the upper bit of size, or opcode
abbrev pub three_op : VecALUOp → ThreeOp
-- SQADD, UQADD, URHADD, SQSUB, UQSUB
three_op three.Sqadd = Lanes 0 1
three_op three.Uqadd = Lanes 1 1
three_op three.Urhadd = Lanes 1 2
three_op three.Sqsub = Lanes 0 5
three_op three.Uqsub = Lanes 1 5
-- CMGT, CMHI, CMGE, CMHS (register)
three_op three.Cmgt = Lanes 0 6
three_op three.Cmhi = Lanes 1 6
three_op three.Cmge = Lanes 0 7
three_op three.Cmhs = Lanes 1 7
-- SSHL, USHL
three_op three.Sshl = Lanes 0 8
three_op three.Ushl = Lanes 1 8
-- SMAX, UMAX, SMIN, UMIN
three_op three.Smax = Lanes 0 12
three_op three.Umax = Lanes 1 12
three_op three.Smin = Lanes 0 13
three_op three.Umin = Lanes 1 13
-- ADD, SUB, CMEQ (register), MUL (vector)
three_op three.Add = Lanes 0 16
three_op three.Sub = Lanes 1 16
three_op three.Cmeq = Lanes 1 17
three_op three.Mul = Lanes 0 19
-- UMAXP, SQRDMULH (vector), ADDP (vector)
three_op three.Umaxp = Lanes 1 20
three_op three.Sqrdmulh = Lanes 1 22
three_op three.Addp = Lanes 0 23
-- AND, BIC (register), ORR (register), ORN, EOR
three_op three.And = Bits 0 0
three_op three.Bic = Bits 0 1
three_op three.Orr = Bits 0 2
three_op three.Orn = Bits 0 3
three_op three.Eor = Bits 1 0
-- FADD, FSUB, FMUL (vector), FCMEQ, FCMGE, FCMGT (register), FMAX, FMIN, FDIV
three_op three.Fadd = Floats 0 26 0
three_op three.Fsub = Floats 0 26 2
three_op three.Fmul = Floats 1 27 0
three_op three.Fcmeq = Floats 0 28 0
three_op three.Fcmge = Floats 1 28 0
three_op three.Fcmgt = Floats 1 28 2
three_op three.Fmax = Floats 0 30 0
three_op three.Fmin = Floats 0 30 2
three_op three.Fdiv = Floats 1 31 0
-- UZP1, TRN1, ZIP1, UZP2, TRN2, ZIP2
three_op three.Uzp1 = Permute 1
three_op three.Trn1 = Permute 2
three_op three.Zip1 = Permute 3
three_op three.Uzp2 = Permute 5
three_op three.Trn2 = Permute 6
three_op three.Zip2 = Permute 7

-- and where the result's register is an operand: BSL, FMLA, FMLS (vector), SDOT, USDOT (vector)
abbrev pub kept_three_op : VecALUModOp → ThreeOp
kept_three_op Bsl = Bits 1 1
kept_three_op Fmla = Floats 0 25 0
kept_three_op Fmls = Floats 0 25 2
kept_three_op Sdot = Dot 0
kept_three_op Usdot = Dot 1

-- the field o2 of a product with an element: FMLA (by element) 0, FMLS 1. Its rows for the other
-- operators are not read
abbrev pub element_o2 : VecALUModOp → ℕ
element_o2 Bsl = 0
element_o2 Fmla = 0
element_o2 Fmls = 1
element_o2 Sdot = 0
element_o2 Usdot = 0

-- the fields U and size of a product of lanes: SMULL, UMULL (vector)
abbrev pub product_fields : VecRRRLongOp → LongFields
product_fields Smull8 = record { u = 0; size = 0; mul = 1 }
product_fields Smull16 = record { u = 0; size = 1; mul = 1 }
product_fields Smull32 = record { u = 0; size = 2; mul = 1 }
product_fields Umull8 = record { u = 1; size = 0; mul = 1 }
product_fields Umull16 = record { u = 1; size = 1; mul = 1 }
product_fields Umull32 = record { u = 1; size = 2; mul = 1 }

-- and of one that is added: UMLAL (vector)
abbrev pub added_product_fields : VecRRRLongModOp → LongFields
added_product_fields Umlal8 = record { u = 1; size = 0; mul = 0 }
added_product_fields Umlal16 = record { u = 1; size = 1; mul = 0 }
added_product_fields Umlal32 = record { u = 1; size = 2; mul = 0 }

-- ---- operators on one vector

-- the fields U and opcode, and what size is
abbrev pub two_op : VecMisc2 → TwoOp
-- NOT, NEG, ABS
two_op two.Not = two_ops.Bits 1 5
two_op two.Neg = two_ops.Lanes 1 11
two_op two.Abs = two_ops.Lanes 0 11
-- CMGT, CMGE, CMEQ, CMLE, CMLT (zero)
two_op two.Cmgt0 = two_ops.Lanes 0 8
two_op two.Cmge0 = two_ops.Lanes 1 8
two_op two.Cmeq0 = two_ops.Lanes 0 9
two_op two.Cmle0 = two_ops.Lanes 1 9
two_op two.Cmlt0 = two_ops.Lanes 0 10
-- REV16, REV32, REV64 (vector), CNT
two_op two.Rev16 = two_ops.Lanes 0 1
two_op two.Rev32 = two_ops.Lanes 1 0
two_op two.Rev64 = two_ops.Lanes 0 0
two_op two.Cnt = two_ops.Lanes 0 5
-- FABS, FNEG, FSQRT (vector)
two_op two.Fabs = two_ops.Lanes 0 15
two_op two.Fneg = two_ops.Lanes 1 15
two_op two.Fsqrt = two_ops.Lanes 1 31
-- FCVTZS, FCVTZU (vector, integer)
two_op two.Fcvtzs = two_ops.Lanes 0 27
two_op two.Fcvtzu = two_ops.Lanes 1 27
-- FRINTZ, FRINTP (vector)
two_op two.Frintz = two_ops.Lanes 0 25
two_op two.Frintp = two_ops.Lanes 0 24
-- FCMGT, FCMGE, FCMEQ, FCMLE, FCMLT (zero)
two_op two.Fcmgt0 = two_ops.Lanes 0 12
two_op two.Fcmge0 = two_ops.Lanes 1 12
two_op two.Fcmeq0 = two_ops.Lanes 0 13
two_op two.Fcmle0 = two_ops.Lanes 1 13
two_op two.Fcmlt0 = two_ops.Lanes 0 14
-- FRINTN, FRINTM (vector)
two_op two.Frintn = two_ops.Floats 0 24
two_op two.Frintm = two_ops.Floats 0 25
-- SCVTF, UCVTF (vector, integer)
two_op two.Scvtf = two_ops.Floats 0 29
two_op two.Ucvtf = two_ops.Floats 1 29

-- the fields U, size and opcode of an operation whose lanes become twice as long: FCVTL, SHLL
abbrev pub long_fields : VecRRLongOp → TwoFields
long_fields Fcvtl16 = record { u = 0; size = 0; op = 23 }
long_fields Fcvtl32 = record { u = 0; size = 1; op = 23 }
long_fields Shll8 = record { u = 1; size = 0; op = 19 }
long_fields Shll16 = record { u = 1; size = 1; op = 19 }
long_fields Shll32 = record { u = 1; size = 2; op = 19 }

-- of a sum of neighbouring lanes: SADDLP, UADDLP
abbrev pub pair_long_fields : VecRRPairLongOp → TwoFields
pair_long_fields Saddlp8 = record { u = 0; size = 0; op = 2 }
pair_long_fields Saddlp16 = record { u = 0; size = 1; op = 2 }
pair_long_fields Uaddlp8 = record { u = 1; size = 0; op = 2 }
pair_long_fields Uaddlp16 = record { u = 1; size = 1; op = 2 }

-- the field size of an operation whose lanes become half as long, by the lanes that they become.
-- Its rows for lanes that none has are not read
abbrev pub narrow_size : ScalarSize → ℕ
narrow_size Size8 = 0
narrow_size Size16 = 1
narrow_size Size32 = 2
narrow_size Size64 = 0
narrow_size Size128 = 0

-- and of floats
abbrev pub narrow_float_size : ScalarSize → ℕ
narrow_float_size Size8 = 0
narrow_float_size Size16 = 0
narrow_float_size Size32 = 1
narrow_float_size Size64 = 0
narrow_float_size Size128 = 0

-- XTN, SQXTUN, SQXTN, UQXTN, FCVTN
abbrev pub narrow_fields : VecRRNarrowOp → ScalarSize → TwoFields
narrow_fields Xtn lane = record { u = 0; size = narrow_size lane; op = 18 }
narrow_fields Sqxtun lane = record { u = 1; size = narrow_size lane; op = 18 }
narrow_fields Sqxtn lane = record { u = 0; size = narrow_size lane; op = 20 }
narrow_fields Uqxtn lane = record { u = 1; size = narrow_size lane; op = 20 }
narrow_fields Fcvtn lane = record { u = 0; size = narrow_float_size lane; op = 22 }

-- the fields U and opcode of an operation over the lanes: UMINV, ADDV
abbrev pub across_fields : VecLanesOp → OpFields
across_fields Uminv = record { u = 1; op = 26 }
across_fields Addv = record { u = 0; op = 27 }

-- of a shift by a number: SHL, USHR, SSHR
abbrev pub shift_fields : VecShiftImmOp → OpFields
shift_fields Shl = record { u = 0; op = 10 }
shift_fields Ushr = record { u = 1; op = 0 }
shift_fields Sshr = record { u = 0; op = 0 }
