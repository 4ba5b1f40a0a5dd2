-- The tests of which the limits of rows are made.
use Rattle.std.specs.Prelude.{ℕ, ◌+◌, ◌-◌, ◌%◌, List, get_or, Bool, not, ◌&&◌, ◌||◌, ◌==◌, nat_lt}
use Rattle.std.specs.Prelude.{nat_le, if◌then◌else◌}

-- the value of the field with this number, from 0
abbrev pub field : ℕ → List ℕ → ℕ
field number fields = get_or fields number 0

-- a bit's number or a shift is below 32 where the size flag sf is 0
abbrev pub is_bit_number : ℕ → ℕ → Bool
is_bit_number sf number = not (sf == 0) || nat_lt number 32

-- opcodes of two sources: UDIV, SDIV, and from 8 on LSLV, LSRV, ASRV, RORV
abbrev pub is_two_source : ℕ → Bool
is_two_source opcode = opcode == 2 || opcode == 3 || (nat_le 8 opcode && nat_le opcode 11)

-- opcodes of one source: RBIT, REV16, REV, CLZ and CLS, and 3 for REV of 64 bits alone
abbrev pub is_one_source : ℕ → ℕ → Bool
is_one_source sf opcode = nat_le opcode 5 && (not (opcode == 3) || sf == 1)

-- a 16-bit part of a register: of 32 bits the lower two
abbrev pub is_halfword : ℕ → ℕ → Bool
is_halfword sf hw = not (sf == 0) || nat_le hw 1

-- the triple of a run of k ones in elements of `size` bits, for a k from 1 to size - 1, rotated
-- right by a number below the size: N is 1 exactly at size 64, immr is the rotation, and imms is k
-- - 1 behind the prefix of the size
abbrev pub is_run : ℕ → ℕ → ℕ → ℕ → ℕ → Bool
is_run size prefix n immr imms =
    n == (if size == 64 then 1 else 0) && nat_lt immr size && nat_le prefix imms
    && nat_lt imms (prefix + (size - 1))

-- the triple of some bitmask immediate
abbrev pub is_bitmask : ℕ → ℕ → ℕ → Bool
is_bitmask n immr imms =
    is_run 64 0b000000 n immr imms
    || is_run 32 0b000000 n immr imms
    || is_run 16 0b100000 n immr imms
    || is_run 8 0b110000 n immr imms
    || is_run 4 0b111000 n immr imms
    || is_run 2 0b111100 n immr imms

-- at 32 bits (sf 0) no element has 64 bits
abbrev pub is_bitmask_of : ℕ → ℕ → ℕ → ℕ → Bool
is_bitmask_of sf n immr imms = is_bitmask n immr imms && (not (sf == 0) || n == 0)

-- the loads and stores of one register: of general registers (V 0) the store (opc 0) and the load
-- (1) at each size, and the load that extends the sign to 64 bits (2) below 64 bits; of vector
-- registers (V 1) the store (0) and the load (1) of 16, 32 and 64 bits, and at size 0 those of 128
-- bits (2 and 3)
abbrev pub is_access : ℕ → ℕ → ℕ → Bool
is_access size vector opc =
    if vector == 0 then nat_le opc 1 || (opc == 2 && nat_le size 2)
    else (if size == 0 then nat_le 2 opc else nat_le opc 1)

-- how an index is extended: UXTW, LSL, SXTW, SXTX
abbrev pub is_index_extend : ℕ → Bool
is_index_extend option = option == 2 || option == 3 || option == 6 || option == 7

-- pairs of general registers (V 0) have 64 bits (opc 2), pairs of vector registers 64 or 128 (1 or
-- 2)
abbrev pub is_pair : ℕ → ℕ → Bool
is_pair opc vector = opc == 2 || (opc == 1 && vector == 1)

-- a swap (o3 1) has opc 0
abbrev pub is_atomic : ℕ → ℕ → Bool
is_atomic o3 opc = o3 == 0 || opc == 0

abbrev pub is_even : ℕ → Bool
is_even register = register % 2 == 0

-- 32, 64 and 16 bits are 0, 1 and 3
abbrev pub is_float_type : ℕ → Bool
is_float_type ftype = not (ftype == 2)

-- opcodes of one source: FMOV, FABS, FNEG, FSQRT, FCVT to 32 and to 64 bits, and from 8 on FRINTN,
-- FRINTP, FRINTM, FRINTZ
abbrev pub is_float_one : ℕ → Bool
is_float_one opcode = nat_le opcode 5 || (nat_le 8 opcode && nat_le opcode 11)

-- rmode and opcode of SCVTF, UCVTF, FCVTZS and FCVTZU, from and to floats of 32 and 64 bits, and of
-- FMOV (7) into floats of 16 and 32 bits from 32 bits, and of 64 from 64
abbrev pub is_float_conversion : ℕ → ℕ → ℕ → Bool
is_float_conversion sf ftype opcode =
    if opcode == 7
    then (sf == 0 && ftype == 3) || (sf == 0 && ftype == 0) || (sf == 1 && ftype == 1)
    else (opcode == 2 || opcode == 3 || opcode == 24 || opcode == 25) && nat_le ftype 1

-- opcodes of UZP1, TRN1, ZIP1, UZP2, TRN2, ZIP2
abbrev pub is_permute : ℕ → Bool
is_permute opcode =
    opcode == 1 || opcode == 2 || opcode == 3 || opcode == 5 || opcode == 6 || opcode == 7

-- opcodes of SSHR and USHR, of SHL and SLI, of SSHLL and USHLL
abbrev pub is_vector_shift : ℕ → Bool
is_vector_shift opcode = opcode == 0 || opcode == 10 || opcode == 20

-- opcodes of USHR and SLI
abbrev pub is_scalar_shift : ℕ → Bool
is_scalar_shift opcode = opcode == 0 || opcode == 10

-- imm4 of DUP (element), DUP (general), INS (general), SMOV, UMOV
abbrev pub is_copy : ℕ → Bool
is_copy imm4 = imm4 == 0 || imm4 == 1 || imm4 == 3 || imm4 == 5 || imm4 == 7
