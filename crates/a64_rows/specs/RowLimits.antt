-- Written by `python3 tools/rows.py` from tables/rows.txt.
-- The limits of rows: what the values of a row's fields have to meet, besides their widths.
use Rattle.std.specs.Prelude.{ℕ, List, Bool, true, not, ◌&&◌, ◌==◌, nat_le}
use Rattle.a64_rows.specs.declared.row_table.Row.{Row}
use Rattle.a64_rows.specs.declared.row_table.Row.TheVariants.{AddSubReg, LogicReg, DataProc2}
use Rattle.a64_rows.specs.declared.row_table.Row.TheVariants.{LogicImm, Bitfield, Extract}
use Rattle.a64_rows.specs.declared.row_table.Row.TheVariants.{DataProc1, MoveWide, BranchReg}
use Rattle.a64_rows.specs.declared.row_table.Row.TheVariants.{LdStImm9, LdStUnsigned, LdStReg}
use Rattle.a64_rows.specs.declared.row_table.Row.TheVariants.{LdLiteral, LdStPair, AtomicOp, Casp}
use Rattle.a64_rows.specs.declared.row_table.Row.TheVariants.{FpOne, FpTwo, FpThree, FpCompare}
use Rattle.a64_rows.specs.declared.row_table.Row.TheVariants.{FpSelect, FpImm, FpInt, VecPermute}
use Rattle.a64_rows.specs.declared.row_table.Row.TheVariants.{VecShift, ScalarShift, VecCopy}
use Rattle.a64_rows.specs.declared.row_table.Row.TheVariants.{VecTable}
use Rattle.a64_rows.specs.Limits.{field, is_access, is_atomic, is_bit_number, is_bitmask_of}
use Rattle.a64_rows.specs.Limits.{is_copy, is_even, is_float_conversion, is_float_one}
use Rattle.a64_rows.specs.Limits.{is_float_type, is_halfword, is_index_extend, is_one_source}
use Rattle.a64_rows.specs.Limits.{is_pair, is_permute, is_scalar_shift, is_two_source}
use Rattle.a64_rows.specs.Limits.{is_vector_shift}

-- the limits of a row, over the values of its fields in their order; a row that is not named has
-- none
abbrev pub limits_of : Row → List ℕ → Bool
-- sf, op, S, shift, Rm, imm6, Rn, Rd
limits_of AddSubReg fields =
    not (field 3 fields == 3) && is_bit_number (field 0 fields) (field 5 fields)
-- sf, opc, shift, N, Rm, imm6, Rn, Rd
limits_of LogicReg fields = is_bit_number (field 0 fields) (field 5 fields)
-- sf, Rm, opcode, Rn, Rd
limits_of DataProc2 fields = is_two_source (field 2 fields)
-- sf, opc, N, immr, imms, Rn, Rd
limits_of LogicImm fields =
    is_bitmask_of (field 0 fields) (field 2 fields) (field 3 fields) (field 4 fields)
-- sf, opc, immr, imms, Rn, Rd
limits_of Bitfield fields =
    not (field 1 fields == 3) && is_bit_number (field 0 fields) (field 2 fields)
    && is_bit_number (field 0 fields) (field 3 fields)
-- sf, Rm, imms, Rn, Rd
limits_of Extract fields = is_bit_number (field 0 fields) (field 2 fields)
-- sf, opcode, Rn, Rd
limits_of DataProc1 fields = is_one_source (field 0 fields) (field 1 fields)
-- sf, opc, hw, imm16, Rd
limits_of MoveWide fields =
    not (field 1 fields == 1) && is_halfword (field 0 fields) (field 2 fields)
-- opc (lowest bits), Rn
limits_of BranchReg fields = nat_le (field 0 fields) 2
-- size, V, opc, imm9, mode (bits 11 to 10), Rn, Rt
limits_of LdStImm9 fields =
    is_access (field 0 fields) (field 1 fields) (field 2 fields) && not (field 4 fields == 2)
-- size, V, opc, imm12, Rn, Rt
limits_of LdStUnsigned fields = is_access (field 0 fields) (field 1 fields) (field 2 fields)
-- size, V, opc, Rm, option, S, Rn, Rt
limits_of LdStReg fields =
    is_access (field 0 fields) (field 1 fields) (field 2 fields) && is_index_extend (field 4 fields)
-- opc, V, imm19, Rt
limits_of LdLiteral fields = nat_le (field 0 fields) 2
-- opc, V, index (bits 24 to 23), L, imm7, Rt2, Rn, Rt
limits_of LdStPair fields = not (field 2 fields == 0) && is_pair (field 0 fields) (field 1 fields)
-- size, Rs, o3, opc, Rn, Rt
limits_of AtomicOp fields = is_atomic (field 2 fields) (field 3 fields)
-- Rs, Rn, Rt
limits_of Casp fields = is_even (field 0 fields) && is_even (field 2 fields)
-- ftype, opcode, Rn, Rd
limits_of FpOne fields = is_float_type (field 0 fields) && is_float_one (field 1 fields)
-- ftype, Rm, opcode, Rn, Rd
limits_of FpTwo fields = is_float_type (field 0 fields) && nat_le (field 2 fields) 5
-- ftype, o1, Rm, o0, Ra, Rn, Rd
limits_of FpThree fields = is_float_type (field 0 fields)
-- ftype, Rm, Rn
limits_of FpCompare fields = is_float_type (field 0 fields)
-- ftype, Rm, cond, Rn, Rd
limits_of FpSelect fields = is_float_type (field 0 fields)
-- ftype, imm8, Rd
limits_of FpImm fields = is_float_type (field 0 fields)
-- sf, ftype, rmode and opcode, Rn, Rd
limits_of FpInt fields = is_float_conversion (field 0 fields) (field 1 fields) (field 2 fields)
-- size, Rm, opcode, Rn, Rd
limits_of VecPermute fields = is_permute (field 2 fields)
-- Q, U, immh and immb, opcode, Rn, Rd
limits_of VecShift fields = nat_le 8 (field 2 fields) && is_vector_shift (field 3 fields)
-- immh and immb, opcode, Rn, Rd
limits_of ScalarShift fields = is_scalar_shift (field 1 fields)
-- Q, imm5, imm4, Rn, Rd
limits_of VecCopy fields = is_copy (field 2 fields)
-- Rm, len, op, Rn, Rd
limits_of VecTable fields = nat_le (field 1 fields) 1
limits_of _ _ = true
