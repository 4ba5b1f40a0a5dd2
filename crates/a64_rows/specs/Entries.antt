-- Written by `python3 tools/rows.py` from tables/rows.txt.
-- The table of instruction words: the name of each row, what it fixes, and its fields.
use Rattle.std.specs.Prelude.{ℕ, List, [], ◌∷◌, codes}
use Rattle.a64_rows.specs.declared.row_table.Row.{Row}
use Rattle.a64_rows.specs.declared.row_table.Row.TheVariants.{AddSubReg, LogicReg, AddSubExt}
use Rattle.a64_rows.specs.declared.row_table.Row.TheVariants.{AddSubCarry, DataProc2, MulHigh}
use Rattle.a64_rows.specs.declared.row_table.Row.TheVariants.{MulAdd, MulAddLong, AddSubImm}
use Rattle.a64_rows.specs.declared.row_table.Row.TheVariants.{LogicImm, Bitfield, Extract}
use Rattle.a64_rows.specs.declared.row_table.Row.TheVariants.{DataProc1, MoveWide, CondSelect}
use Rattle.a64_rows.specs.declared.row_table.Row.TheVariants.{CondCompare, Adr, Branch26}
use Rattle.a64_rows.specs.declared.row_table.Row.TheVariants.{BranchCond, CompareBranch}
use Rattle.a64_rows.specs.declared.row_table.Row.TheVariants.{TestBranch, BranchReg, RetAuth, Hint}
use Rattle.a64_rows.specs.declared.row_table.Row.TheVariants.{Barrier, Brk, Nzcv, LdStImm9}
use Rattle.a64_rows.specs.declared.row_table.Row.TheVariants.{LdStUnsigned, LdStReg, LdLiteral}
use Rattle.a64_rows.specs.declared.row_table.Row.TheVariants.{LdStPair, LdReplicate, AtomicOp}
use Rattle.a64_rows.specs.declared.row_table.Row.TheVariants.{LoadAcq, StoreRel, LoadEx, StoreEx}
use Rattle.a64_rows.specs.declared.row_table.Row.TheVariants.{Cas, Casp, FpOne, FpTwo, FpThree}
use Rattle.a64_rows.specs.declared.row_table.Row.TheVariants.{FpCompare, FpSelect, FpImm, FpInt}
use Rattle.a64_rows.specs.declared.row_table.Row.TheVariants.{VecThree, VecPermute, VecDot}
use Rattle.a64_rows.specs.declared.row_table.Row.TheVariants.{VecElem, VecTwo, VecScalarPair}
use Rattle.a64_rows.specs.declared.row_table.Row.TheVariants.{VecAcross, VecLong3, VecShift}
use Rattle.a64_rows.specs.declared.row_table.Row.TheVariants.{VecImm, ScalarShift, VecCopy}
use Rattle.a64_rows.specs.declared.row_table.Row.TheVariants.{ScalarCopy, VecInsElem, VecExt}
use Rattle.a64_rows.specs.declared.row_table.Row.TheVariants.{VecTable}
use Rattle.a64_rows.specs.declared.field.FieldName.TheVariants as name
use Rattle.a64_rows.specs.declared.slots.Slot.TheVariants.{Bits, Doubled}
use Rattle.a64_rows.specs.Slots.{Field, Entry, entry}

-- the fields; where fields of one name stand at several places, the lowest bit and the width follow
-- the name
abbrev sf : Field
sf = (name.Sf, Bits 31 1)

abbrev op : Field
op = (name.Op, Bits 30 1)

abbrev s : Field
s = (name.S, Bits 29 1)

abbrev sh : Field
sh = (name.Sh, Bits 22 2)

abbrev rm : Field
rm = (name.Rm, Bits 16 5)

abbrev imm6 : Field
imm6 = (name.Imm6, Bits 10 6)

abbrev rn : Field
rn = (name.Rn, Bits 5 5)

abbrev rd : Field
rd = (name.Rd, Bits 0 5)

abbrev opc : Field
opc = (name.Opc, Bits 29 2)

abbrev n_21_1 : Field
n_21_1 = (name.N, Bits 21 1)

abbrev ext : Field
ext = (name.Ext, Bits 13 3)

abbrev op6 : Field
op6 = (name.Op6, Bits 10 6)

abbrev u_23_1 : Field
u_23_1 = (name.U, Bits 23 1)

abbrev sub : Field
sub = (name.Sub, Bits 15 1)

abbrev ra : Field
ra = (name.Ra, Bits 10 5)

abbrev sh_22_1 : Field
sh_22_1 = (name.Sh, Bits 22 1)

abbrev imm12 : Field
imm12 = (name.Imm12, Bits 10 12)

abbrev n_22_1 : Field
n_22_1 = (name.N, Bits 22 1)

abbrev immr : Field
immr = (name.Immr, Bits 16 6)

abbrev imms : Field
imms = (name.Imms, Bits 10 6)

abbrev sf_twice : Field
sf_twice = (name.Sf, Doubled)

abbrev hw : Field
hw = (name.Hw, Bits 21 2)

abbrev imm16 : Field
imm16 = (name.Imm16, Bits 5 16)

abbrev cond : Field
cond = (name.Cond, Bits 12 4)

abbrev o2_10_1 : Field
o2_10_1 = (name.O2, Bits 10 1)

abbrev imm : Field
imm = (name.Imm, Bits 11 1)

abbrev nzcv : Field
nzcv = (name.Nzcv, Bits 0 4)

abbrev page : Field
page = (name.Page, Bits 31 1)

abbrev lo : Field
lo = (name.Lo, Bits 29 2)

abbrev hi : Field
hi = (name.Hi, Bits 5 19)

abbrev link : Field
link = (name.Link, Bits 31 1)

abbrev imm26 : Field
imm26 = (name.Imm26, Bits 0 26)

abbrev imm19 : Field
imm19 = (name.Imm19, Bits 5 19)

abbrev cond_0_4 : Field
cond_0_4 = (name.Cond, Bits 0 4)

abbrev nz : Field
nz = (name.Nz, Bits 24 1)

abbrev rt : Field
rt = (name.Rt, Bits 0 5)

abbrev b5 : Field
b5 = (name.B5, Bits 31 1)

abbrev b40 : Field
b40 = (name.B40, Bits 19 5)

abbrev imm14 : Field
imm14 = (name.Imm14, Bits 5 14)

abbrev opc_21_2 : Field
opc_21_2 = (name.Opc, Bits 21 2)

abbrev b : Field
b = (name.B, Bits 10 1)

abbrev crm : Field
crm = (name.Crm, Bits 8 4)

abbrev op2 : Field
op2 = (name.Op2, Bits 5 3)

abbrev read : Field
read = (name.Read, Bits 21 1)

abbrev sz : Field
sz = (name.Sz, Bits 30 2)

abbrev v : Field
v = (name.V, Bits 26 1)

abbrev opc_22_2 : Field
opc_22_2 = (name.Opc, Bits 22 2)

abbrev imm9 : Field
imm9 = (name.Imm9, Bits 12 9)

abbrev mode : Field
mode = (name.Mode, Bits 10 2)

abbrev s_12_1 : Field
s_12_1 = (name.S, Bits 12 1)

abbrev opc_30_2 : Field
opc_30_2 = (name.Opc, Bits 30 2)

abbrev idx : Field
idx = (name.Idx, Bits 23 2)

abbrev load : Field
load = (name.Load, Bits 22 1)

abbrev imm7_15_7 : Field
imm7_15_7 = (name.Imm7, Bits 15 7)

abbrev rt2 : Field
rt2 = (name.Rt2, Bits 10 5)

abbrev q : Field
q = (name.Q, Bits 30 1)

abbrev sz_10_2 : Field
sz_10_2 = (name.Sz, Bits 10 2)

abbrev rs : Field
rs = (name.Rs, Bits 16 5)

abbrev swp : Field
swp = (name.Swp, Bits 15 1)

abbrev op_12_3 : Field
op_12_3 = (name.Op, Bits 12 3)

abbrev ftype : Field
ftype = (name.Ftype, Bits 22 2)

abbrev op_15_6 : Field
op_15_6 = (name.Op, Bits 15 6)

abbrev op_12_4 : Field
op_12_4 = (name.Op, Bits 12 4)

abbrev o1 : Field
o1 = (name.O1, Bits 21 1)

abbrev o0 : Field
o0 = (name.O0, Bits 15 1)

abbrev imm8 : Field
imm8 = (name.Imm8, Bits 13 8)

abbrev op_16_5 : Field
op_16_5 = (name.Op, Bits 16 5)

abbrev u : Field
u = (name.U, Bits 29 1)

abbrev size : Field
size = (name.Size, Bits 22 2)

abbrev op_11_5 : Field
op_11_5 = (name.Op, Bits 11 5)

abbrev us : Field
us = (name.Us, Bits 11 1)

abbrev sz_22_1 : Field
sz_22_1 = (name.Sz, Bits 22 1)

abbrev l : Field
l = (name.L, Bits 21 1)

abbrev o2_14_1 : Field
o2_14_1 = (name.O2, Bits 14 1)

abbrev h : Field
h = (name.H, Bits 11 1)

abbrev op_12_5 : Field
op_12_5 = (name.Op, Bits 12 5)

abbrev mul : Field
mul = (name.Mul, Bits 14 1)

abbrev imm7_16_7 : Field
imm7_16_7 = (name.Imm7, Bits 16 7)

abbrev op_29_1 : Field
op_29_1 = (name.Op, Bits 29 1)

abbrev abc : Field
abc = (name.Abc, Bits 16 3)

abbrev cmode : Field
cmode = (name.Cmode, Bits 12 4)

abbrev defgh : Field
defgh = (name.Defgh, Bits 5 5)

abbrev imm5 : Field
imm5 = (name.Imm5, Bits 16 5)

abbrev op_11_4 : Field
op_11_4 = (name.Op, Bits 11 4)

abbrev imm4 : Field
imm4 = (name.Imm4, Bits 11 4)

abbrev len : Field
len = (name.Len, Bits 13 2)

abbrev ext_12_1 : Field
ext_12_1 = (name.Ext, Bits 12 1)

-- what the table has of a row
abbrev pub entry_of : Row → Entry
entry_of AddSubReg = entry 0x0b000000 (sf ∷ op ∷ s ∷ sh ∷ rm ∷ imm6 ∷ rn ∷ rd ∷ [])
entry_of LogicReg = entry 0x0a000000 (sf ∷ opc ∷ sh ∷ n_21_1 ∷ rm ∷ imm6 ∷ rn ∷ rd ∷ [])
entry_of AddSubExt = entry 0x0b200000 (sf ∷ op ∷ s ∷ rm ∷ ext ∷ rn ∷ rd ∷ [])
entry_of AddSubCarry = entry 0x1a000000 (sf ∷ op ∷ s ∷ rm ∷ rn ∷ rd ∷ [])
entry_of DataProc2 = entry 0x1ac00000 (sf ∷ rm ∷ op6 ∷ rn ∷ rd ∷ [])
entry_of MulHigh = entry 0x9b407c00 (u_23_1 ∷ rm ∷ rn ∷ rd ∷ [])
entry_of MulAdd = entry 0x1b000000 (sf ∷ rm ∷ sub ∷ ra ∷ rn ∷ rd ∷ [])
entry_of MulAddLong = entry 0x9b200000 (u_23_1 ∷ rm ∷ ra ∷ rn ∷ rd ∷ [])
entry_of AddSubImm = entry 0x11000000 (sf ∷ op ∷ s ∷ sh_22_1 ∷ imm12 ∷ rn ∷ rd ∷ [])
entry_of LogicImm = entry 0x12000000 (sf ∷ opc ∷ n_22_1 ∷ immr ∷ imms ∷ rn ∷ rd ∷ [])
entry_of Bitfield = entry 0x13000000 (sf_twice ∷ opc ∷ immr ∷ imms ∷ rn ∷ rd ∷ [])
entry_of Extract = entry 0x13800000 (sf_twice ∷ rm ∷ imms ∷ rn ∷ rd ∷ [])
entry_of DataProc1 = entry 0x5ac00000 (sf ∷ op6 ∷ rn ∷ rd ∷ [])
entry_of MoveWide = entry 0x12800000 (sf ∷ opc ∷ hw ∷ imm16 ∷ rd ∷ [])
entry_of CondSelect = entry 0x9a800000 (op ∷ rm ∷ cond ∷ o2_10_1 ∷ rn ∷ rd ∷ [])
entry_of CondCompare = entry 0x7a400000 (sf ∷ rm ∷ cond ∷ imm ∷ rn ∷ nzcv ∷ [])
entry_of Adr = entry 0x10000000 (page ∷ lo ∷ hi ∷ rd ∷ [])
entry_of Branch26 = entry 0x14000000 (link ∷ imm26 ∷ [])
entry_of BranchCond = entry 0x54000000 (imm19 ∷ cond_0_4 ∷ [])
entry_of CompareBranch = entry 0x34000000 (sf ∷ nz ∷ imm19 ∷ rt ∷ [])
entry_of TestBranch = entry 0x36000000 (b5 ∷ nz ∷ b40 ∷ imm14 ∷ rt ∷ [])
entry_of BranchReg = entry 0xd61f0000 (opc_21_2 ∷ rn ∷ [])
entry_of RetAuth = entry 0xd65f0bff (b ∷ [])
entry_of Hint = entry 0xd503201f (crm ∷ op2 ∷ [])
entry_of Barrier = entry 0xd5033bbf []
entry_of Brk = entry 0xd43e0000 []
entry_of Nzcv = entry 0xd51b4200 (read ∷ rt ∷ [])
entry_of LdStImm9 = entry 0x38000000 (sz ∷ v ∷ opc_22_2 ∷ imm9 ∷ mode ∷ rn ∷ rt ∷ [])
entry_of LdStUnsigned = entry 0x39000000 (sz ∷ v ∷ opc_22_2 ∷ imm12 ∷ rn ∷ rt ∷ [])
entry_of LdStReg = entry 0x38200800 (sz ∷ v ∷ opc_22_2 ∷ rm ∷ ext ∷ s_12_1 ∷ rn ∷ rt ∷ [])
entry_of LdLiteral = entry 0x18000000 (opc_30_2 ∷ v ∷ imm19 ∷ rt ∷ [])
entry_of LdStPair = entry 0x28000000 (opc_30_2 ∷ v ∷ idx ∷ load ∷ imm7_15_7 ∷ rt2 ∷ rn ∷ rt ∷ [])
entry_of LdReplicate = entry 0x0d40c000 (q ∷ sz_10_2 ∷ rn ∷ rt ∷ [])
entry_of AtomicOp = entry 0x38e00000 (sz ∷ rs ∷ swp ∷ op_12_3 ∷ rn ∷ rt ∷ [])
entry_of LoadAcq = entry 0x08dffc00 (sz ∷ rn ∷ rt ∷ [])
entry_of StoreRel = entry 0x089ffc00 (sz ∷ rn ∷ rt ∷ [])
entry_of LoadEx = entry 0x085ffc00 (sz ∷ rn ∷ rt ∷ [])
entry_of StoreEx = entry 0x0800fc00 (sz ∷ rs ∷ rn ∷ rt ∷ [])
entry_of Cas = entry 0x08e0fc00 (sz ∷ rs ∷ rn ∷ rt ∷ [])
entry_of Casp = entry 0x4860fc00 (rs ∷ rn ∷ rt ∷ [])
entry_of FpOne = entry 0x1e204000 (ftype ∷ op_15_6 ∷ rn ∷ rd ∷ [])
entry_of FpTwo = entry 0x1e200800 (ftype ∷ rm ∷ op_12_4 ∷ rn ∷ rd ∷ [])
entry_of FpThree = entry 0x1f000000 (ftype ∷ o1 ∷ rm ∷ o0 ∷ ra ∷ rn ∷ rd ∷ [])
entry_of FpCompare = entry 0x1e202000 (ftype ∷ rm ∷ rn ∷ [])
entry_of FpSelect = entry 0x1e200c00 (ftype ∷ rm ∷ cond ∷ rn ∷ rd ∷ [])
entry_of FpImm = entry 0x1e201000 (ftype ∷ imm8 ∷ rd ∷ [])
entry_of FpInt = entry 0x1e200000 (sf ∷ ftype ∷ op_16_5 ∷ rn ∷ rd ∷ [])
entry_of VecThree = entry 0x0e200400 (q ∷ u ∷ size ∷ rm ∷ op_11_5 ∷ rn ∷ rd ∷ [])
entry_of VecPermute = entry 0x4e000800 (size ∷ rm ∷ op_12_3 ∷ rn ∷ rd ∷ [])
entry_of VecDot = entry 0x0e809400 (q ∷ us ∷ rm ∷ rn ∷ rd ∷ [])
entry_of VecElem = entry 0x0f801000 (q ∷ sz_22_1 ∷ l ∷ rm ∷ o2_14_1 ∷ h ∷ rn ∷ rd ∷ [])
entry_of VecTwo = entry 0x0e200800 (q ∷ u ∷ size ∷ op_12_5 ∷ rn ∷ rd ∷ [])
entry_of VecScalarPair = entry 0x5ef1b800 (rn ∷ rd ∷ [])
entry_of VecAcross = entry 0x0e300800 (q ∷ u ∷ size ∷ op_12_5 ∷ rn ∷ rd ∷ [])
entry_of VecLong3 = entry 0x0e208000 (q ∷ u ∷ size ∷ mul ∷ rm ∷ rn ∷ rd ∷ [])
entry_of VecShift = entry 0x0f000400 (q ∷ u ∷ imm7_16_7 ∷ op_11_5 ∷ rn ∷ rd ∷ [])
entry_of VecImm = entry 0x0f000400 (q ∷ op_29_1 ∷ abc ∷ cmode ∷ defgh ∷ rd ∷ [])
entry_of ScalarShift = entry 0x7f000400 (imm7_16_7 ∷ op_11_5 ∷ rn ∷ rd ∷ [])
entry_of VecCopy = entry 0x0e000400 (q ∷ imm5 ∷ op_11_4 ∷ rn ∷ rd ∷ [])
entry_of ScalarCopy = entry 0x5e000400 (imm5 ∷ rn ∷ rd ∷ [])
entry_of VecInsElem = entry 0x6e000400 (imm5 ∷ imm4 ∷ rn ∷ rd ∷ [])
entry_of VecExt = entry 0x6e000000 (rm ∷ imm4 ∷ rn ∷ rd ∷ [])
entry_of VecTable = entry 0x4e000000 (rm ∷ len ∷ ext_12_1 ∷ rn ∷ rd ∷ [])

-- the name of a row
abbrev pub name_of : Row → List ℕ
name_of AddSubReg = codes "AddSubReg"
name_of LogicReg = codes "LogicReg"
name_of AddSubExt = codes "AddSubExt"
name_of AddSubCarry = codes "AddSubCarry"
name_of DataProc2 = codes "DataProc2"
name_of MulHigh = codes "MulHigh"
name_of MulAdd = codes "MulAdd"
name_of MulAddLong = codes "MulAddLong"
name_of AddSubImm = codes "AddSubImm"
name_of LogicImm = codes "LogicImm"
name_of Bitfield = codes "Bitfield"
name_of Extract = codes "Extract"
name_of DataProc1 = codes "DataProc1"
name_of MoveWide = codes "MoveWide"
name_of CondSelect = codes "CondSelect"
name_of CondCompare = codes "CondCompare"
name_of Adr = codes "Adr"
name_of Branch26 = codes "Branch26"
name_of BranchCond = codes "BranchCond"
name_of CompareBranch = codes "CompareBranch"
name_of TestBranch = codes "TestBranch"
name_of BranchReg = codes "BranchReg"
name_of RetAuth = codes "RetAuth"
name_of Hint = codes "Hint"
name_of Barrier = codes "Barrier"
name_of Brk = codes "Brk"
name_of Nzcv = codes "Nzcv"
name_of LdStImm9 = codes "LdStImm9"
name_of LdStUnsigned = codes "LdStUnsigned"
name_of LdStReg = codes "LdStReg"
name_of LdLiteral = codes "LdLiteral"
name_of LdStPair = codes "LdStPair"
name_of LdReplicate = codes "LdReplicate"
name_of AtomicOp = codes "AtomicOp"
name_of LoadAcq = codes "LoadAcq"
name_of StoreRel = codes "StoreRel"
name_of LoadEx = codes "LoadEx"
name_of StoreEx = codes "StoreEx"
name_of Cas = codes "Cas"
name_of Casp = codes "Casp"
name_of FpOne = codes "FpOne"
name_of FpTwo = codes "FpTwo"
name_of FpThree = codes "FpThree"
name_of FpCompare = codes "FpCompare"
name_of FpSelect = codes "FpSelect"
name_of FpImm = codes "FpImm"
name_of FpInt = codes "FpInt"
name_of VecThree = codes "VecThree"
name_of VecPermute = codes "VecPermute"
name_of VecDot = codes "VecDot"
name_of VecElem = codes "VecElem"
name_of VecTwo = codes "VecTwo"
name_of VecScalarPair = codes "VecScalarPair"
name_of VecAcross = codes "VecAcross"
name_of VecLong3 = codes "VecLong3"
name_of VecShift = codes "VecShift"
name_of VecImm = codes "VecImm"
name_of ScalarShift = codes "ScalarShift"
name_of VecCopy = codes "VecCopy"
name_of ScalarCopy = codes "ScalarCopy"
name_of VecInsElem = codes "VecInsElem"
name_of VecExt = codes "VecExt"
name_of VecTable = codes "VecTable"

-- all rows
abbrev pub all_rows : List Row
all_rows =
    AddSubReg ∷ LogicReg ∷ AddSubExt ∷ AddSubCarry ∷ DataProc2 ∷ MulHigh ∷ MulAdd ∷ MulAddLong
    ∷ AddSubImm ∷ LogicImm ∷ Bitfield ∷ Extract ∷ DataProc1 ∷ MoveWide ∷ CondSelect ∷ CondCompare
    ∷ Adr ∷ Branch26 ∷ BranchCond ∷ CompareBranch ∷ TestBranch ∷ BranchReg ∷ RetAuth ∷ Hint
    ∷ Barrier ∷ Brk ∷ Nzcv ∷ LdStImm9 ∷ LdStUnsigned ∷ LdStReg ∷ LdLiteral ∷ LdStPair ∷ LdReplicate
    ∷ AtomicOp ∷ LoadAcq ∷ StoreRel ∷ LoadEx ∷ StoreEx ∷ Cas ∷ Casp ∷ FpOne ∷ FpTwo ∷ FpThree
    ∷ FpCompare ∷ FpSelect ∷ FpImm ∷ FpInt ∷ VecThree ∷ VecPermute ∷ VecDot ∷ VecElem ∷ VecTwo
    ∷ VecScalarPair ∷ VecAcross ∷ VecLong3 ∷ VecShift ∷ VecImm ∷ ScalarShift ∷ VecCopy ∷ ScalarCopy
    ∷ VecInsElem ∷ VecExt ∷ VecTable ∷ []
