-- Written by `python3 tools/rows.py` from tables/rows.txt.
-- Where the field of each name stands in the rows that have it (Arm Architecture Reference Manual,
-- DDI 0487, C4.1). The name that the manual gives a field stands in front of what it says.
use Rattle.a64_rows.specs.declared.row_table.Row.{Row}
use Rattle.a64_rows.specs.declared.row_table.Row.TheVariants as row
use Rattle.a64_rows.specs.declared.slots.Slot.{Slot}
use Rattle.a64_rows.specs.declared.slots.Slot.TheVariants.{Bits, Doubled}

-- sf: 1 for operations of 64 bits; where it says the size of a bit field too (N), it stands twice
abbrev pub sf : Row → Slot
sf row.Bitfield = Doubled
sf row.Extract = Doubled
sf _ = Bits 31 1

-- op, or opcode: which operation of its class
abbrev pub op : Row → Slot
op row.AtomicOp = Bits 12 3
op row.FpOne = Bits 15 6
op row.FpTwo = Bits 12 4
op row.FpInt = Bits 16 5
op row.VecThree = Bits 11 5
op row.VecPermute = Bits 12 3
op row.VecTwo = Bits 12 5
op row.VecAcross = Bits 12 5
op row.VecShift = Bits 11 5
op row.VecImm = Bits 29 1
op row.ScalarShift = Bits 11 5
op row.VecCopy = Bits 11 4
op _ = Bits 30 1

-- S: 1 where the flags are set, or where an index is scaled
abbrev pub s : Row → Slot
s row.LdStReg = Bits 12 1
s _ = Bits 29 1

-- shift: how the second operand is shifted, or 1 where the immediate is shifted left by 12
abbrev pub sh : Row → Slot
sh row.AddSubImm = Bits 22 1
sh _ = Bits 22 2

-- Rm: the second register that is read, or the number that stands in its place
abbrev pub rm : Row → Slot
rm _ = Bits 16 5

-- imm6: the amount of a shift
abbrev pub imm6 : Row → Slot
imm6 _ = Bits 10 6

-- Rn: the first register that is read, or the base of an address
abbrev pub rn : Row → Slot
rn _ = Bits 5 5

-- Rd: the register that is written
abbrev pub rd : Row → Slot
rd _ = Bits 0 5

-- opc: which operation of its class
abbrev pub opc : Row → Slot
opc row.BranchReg = Bits 21 2
opc row.LdStImm9 = Bits 22 2
opc row.LdStUnsigned = Bits 22 2
opc row.LdStReg = Bits 22 2
opc row.LdLiteral = Bits 30 2
opc row.LdStPair = Bits 30 2
opc _ = Bits 29 2

-- N: 1 where the second operand is inverted, or of a bitmask immediate the part N
abbrev pub n : Row → Slot
n row.LogicImm = Bits 22 1
n _ = Bits 21 1

-- option: how a register is extended; of a table lookup op, 1 where it keeps what it finds no entry
-- for
abbrev pub ext : Row → Slot
ext row.VecTable = Bits 12 1
ext _ = Bits 13 3

-- opcode: which operation on one or two sources
abbrev pub op6 : Row → Slot
op6 _ = Bits 10 6

-- U: 1 for the unsigned of two operations, or the second half of the opcodes
abbrev pub u : Row → Slot
u row.MulHigh = Bits 23 1
u row.MulAddLong = Bits 23 1
u _ = Bits 29 1

-- o0: 1 where the product is subtracted
abbrev pub sub : Row → Slot
sub _ = Bits 15 1

-- Ra: the third register that is read
abbrev pub ra : Row → Slot
ra _ = Bits 10 5

-- imm12: an unsigned immediate
abbrev pub imm12 : Row → Slot
imm12 _ = Bits 10 12

-- immr: the rotation of a bitmask immediate or of a bit field
abbrev pub immr : Row → Slot
immr _ = Bits 16 6

-- imms: the length of a bitmask immediate, or the last bit of a bit field
abbrev pub imms : Row → Slot
imms _ = Bits 10 6

-- hw: which halfword is moved
abbrev pub hw : Row → Slot
hw _ = Bits 21 2

-- imm16: a halfword
abbrev pub imm16 : Row → Slot
imm16 _ = Bits 5 16

-- cond: a condition
abbrev pub cond : Row → Slot
cond row.BranchCond = Bits 0 4
cond _ = Bits 12 4

-- the lowest bit of op2 of a conditional select; of products by an element, the bit of opcode that
-- subtracts
abbrev pub o2 : Row → Slot
o2 row.VecElem = Bits 14 1
o2 _ = Bits 10 1

-- bit 11: 1 where a comparison is with an immediate
abbrev pub imm : Row → Slot
imm _ = Bits 11 1

-- nzcv: the flags where the condition fails
abbrev pub nzcv : Row → Slot
nzcv _ = Bits 0 4

-- op: 1 for addresses of pages
abbrev pub page : Row → Slot
page _ = Bits 31 1

-- immlo: the lower two bits of a distance
abbrev pub lo : Row → Slot
lo _ = Bits 29 2

-- immhi: the upper bits of a distance
abbrev pub hi : Row → Slot
hi _ = Bits 5 19

-- op: 1 where the return address is kept
abbrev pub link : Row → Slot
link _ = Bits 31 1

-- imm26: an offset in words
abbrev pub imm26 : Row → Slot
imm26 _ = Bits 0 26

-- imm19: an offset in words
abbrev pub imm19 : Row → Slot
imm19 _ = Bits 5 19

-- op: 1 where a branch is taken at other than zero
abbrev pub nz : Row → Slot
nz _ = Bits 24 1

-- Rt: the register that is moved or tested
abbrev pub rt : Row → Slot
rt _ = Bits 0 5

-- b5: the upper bit of a bit's number
abbrev pub b5 : Row → Slot
b5 _ = Bits 31 1

-- b40: the lower five bits of a bit's number
abbrev pub b40 : Row → Slot
b40 _ = Bits 19 5

-- imm14: an offset in words
abbrev pub imm14 : Row → Slot
imm14 _ = Bits 5 14

-- M: 1 for the second key
abbrev pub b : Row → Slot
b _ = Bits 10 1

-- CRm: the upper part of a hint's number
abbrev pub crm : Row → Slot
crm _ = Bits 8 4

-- op2: the lower part of a hint's number
abbrev pub op2 : Row → Slot
op2 _ = Bits 5 3

-- L: 1 where the flags are read
abbrev pub read : Row → Slot
read _ = Bits 21 1

-- size: the logarithm of the bytes that are moved; of products by an element, the lowest bit of
-- size
abbrev pub sz : Row → Slot
sz row.LdReplicate = Bits 10 2
sz row.VecElem = Bits 22 1
sz _ = Bits 30 2

-- V: 1 for vector registers
abbrev pub v : Row → Slot
v _ = Bits 26 1

-- imm9: an offset in bytes
abbrev pub imm9 : Row → Slot
imm9 _ = Bits 12 9

-- bits 11 to 10: offset (0), after the access (1), before the access (3)
abbrev pub mode : Row → Slot
mode _ = Bits 10 2

-- bits 24 to 23: after the access (1), offset (2), before the access (3)
abbrev pub idx : Row → Slot
idx _ = Bits 23 2

-- L: 1 for loads
abbrev pub load : Row → Slot
load _ = Bits 22 1

-- imm7: an offset in units of the size; of shifts immh and immb, the size of an element with the
-- amount
abbrev pub imm7 : Row → Slot
imm7 row.LdStPair = Bits 15 7
imm7 _ = Bits 16 7

-- Rt2: the second register that is moved
abbrev pub rt2 : Row → Slot
rt2 _ = Bits 10 5

-- Q: 1 for vectors of 128 bits
abbrev pub q : Row → Slot
q _ = Bits 30 1

-- Rs: the register that holds an operand, or that is told the outcome
abbrev pub rs : Row → Slot
rs _ = Bits 16 5

-- o3: 1 for the swap
abbrev pub swp : Row → Slot
swp _ = Bits 15 1

-- ftype: the type of floats
abbrev pub ftype : Row → Slot
ftype _ = Bits 22 2

-- o1: 1 where the sum is negated
abbrev pub o1 : Row → Slot
o1 _ = Bits 21 1

-- o0: 1 where the product is subtracted
abbrev pub o0 : Row → Slot
o0 _ = Bits 15 1

-- imm8: a float
abbrev pub imm8 : Row → Slot
imm8 _ = Bits 13 8

-- size: the logarithm of the bytes of an element, or the upper bits of an opcode
abbrev pub size : Row → Slot
size _ = Bits 22 2

-- the lowest bit of opcode of dot products: 1 for unsigned by signed
abbrev pub us : Row → Slot
us _ = Bits 11 1

-- L: the lower bit of an element's index
abbrev pub l : Row → Slot
l _ = Bits 21 1

-- H: the upper bit of an element's index
abbrev pub h : Row → Slot
h _ = Bits 11 1

-- bit 14 of opcode: 1 where a product is not added
abbrev pub mul : Row → Slot
mul _ = Bits 14 1

-- abc: the upper three bits of an immediate
abbrev pub abc : Row → Slot
abc _ = Bits 16 3

-- cmode: how an immediate fills the elements
abbrev pub cmode : Row → Slot
cmode _ = Bits 12 4

-- defgh: the lower five bits of an immediate
abbrev pub defgh : Row → Slot
defgh _ = Bits 5 5

-- imm5: the size and the index of an element
abbrev pub imm5 : Row → Slot
imm5 _ = Bits 16 5

-- imm4: the index of an element, or the number of a byte
abbrev pub imm4 : Row → Slot
imm4 _ = Bits 11 4

-- len: the number of tables, less one
abbrev pub len : Row → Slot
len _ = Bits 13 2
