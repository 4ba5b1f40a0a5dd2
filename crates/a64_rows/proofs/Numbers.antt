-- Written by `python3 tools/rows.py` from tables/rows.txt.
-- The number of a row is its place.
use Rattle.std.proofs.Common.{◌≡◌, refl}
use denote.Enum.Declared.{tag_of}
use Rattle.a64_rows.specs.contracts.row_table.Row.{the_type}
use Rattle.a64_rows.specs.declared.row_table.Row.{Row}
use Rattle.a64_rows.specs.declared.row_table.Row.TheVariants.{AddSubReg, LogicReg, AddSubExt, AddSubCarry, DataProc2, MulHigh, MulAdd, MulAddLong, AddSubImm, LogicImm, Bitfield, Extract, DataProc1, MoveWide, CondSelect, CondCompare, Adr, Branch26, BranchCond, CompareBranch, TestBranch, BranchReg, RetAuth, Hint, Barrier, Brk, Nzcv, LdStImm9, LdStUnsigned, LdStReg, LdLiteral, LdStPair, LdReplicate, AtomicOp, LoadAcq, StoreRel, LoadEx, StoreEx, Cas, Casp, FpOne, FpTwo, FpThree, FpCompare, FpSelect, FpImm, FpInt, VecThree, VecPermute, VecDot, VecElem, VecTwo, VecScalarPair, VecAcross, VecLong3, VecShift, VecImm, ScalarShift, VecCopy, ScalarCopy, VecInsElem, VecExt, VecTable}
use Rattle.a64_rows.specs.Order.{placed}

pub number_is : (row : Row) → tag_of the_type row ≡ (placed row).place
number_is AddSubReg = refl
number_is LogicReg = refl
number_is AddSubExt = refl
number_is AddSubCarry = refl
number_is DataProc2 = refl
number_is MulHigh = refl
number_is MulAdd = refl
number_is MulAddLong = refl
number_is AddSubImm = refl
number_is LogicImm = refl
number_is Bitfield = refl
number_is Extract = refl
number_is DataProc1 = refl
number_is MoveWide = refl
number_is CondSelect = refl
number_is CondCompare = refl
number_is Adr = refl
number_is Branch26 = refl
number_is BranchCond = refl
number_is CompareBranch = refl
number_is TestBranch = refl
number_is BranchReg = refl
number_is RetAuth = refl
number_is Hint = refl
number_is Barrier = refl
number_is Brk = refl
number_is Nzcv = refl
number_is LdStImm9 = refl
number_is LdStUnsigned = refl
number_is LdStReg = refl
number_is LdLiteral = refl
number_is LdStPair = refl
number_is LdReplicate = refl
number_is AtomicOp = refl
number_is LoadAcq = refl
number_is StoreRel = refl
number_is LoadEx = refl
number_is StoreEx = refl
number_is Cas = refl
number_is Casp = refl
number_is FpOne = refl
number_is FpTwo = refl
number_is FpThree = refl
number_is FpCompare = refl
number_is FpSelect = refl
number_is FpImm = refl
number_is FpInt = refl
number_is VecThree = refl
number_is VecPermute = refl
number_is VecDot = refl
number_is VecElem = refl
number_is VecTwo = refl
number_is VecScalarPair = refl
number_is VecAcross = refl
number_is VecLong3 = refl
number_is VecShift = refl
number_is VecImm = refl
number_is ScalarShift = refl
number_is VecCopy = refl
number_is ScalarCopy = refl
number_is VecInsElem = refl
number_is VecExt = refl
number_is VecTable = refl
