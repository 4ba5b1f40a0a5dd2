-- Written by `python3 tools/rows.py` from tables/rows.txt.
-- The order of the rows in the table.
use Rattle.std.specs.Prelude.{refl}
use Rattle.a64_rows.specs.declared.row_table.Row.{Row}
use Rattle.a64_rows.specs.declared.row_table.Row.TheVariants.{AddSubReg, LogicReg, AddSubExt}
use Rattle.a64_rows.specs.declared.row_table.Row.TheVariants.{AddSubCarry, DataProc2, MulHigh}
use Rattle.a64_rows.specs.declared.row_table.Row.TheVariants.{MulAdd, MulAddLong, AddSubImm}
use Rattle.a64_rows.specs.declared.row_table.Row.TheVariants.{LogicImm, Bitfield, Extract}
use Rattle.a64_rows.specs.declared.row_table.Row.TheVariants.{DataProc1, MoveWide, CondSelect}
use Rattle.a64_rows.specs.declared.row_table.Row.TheVariants.{CondCompare, Adr, Branch26}
use Rattle.a64_rows.specs.declared.row_table.Row.TheVariants.{BranchCond, CompareBranch}
use Rattle.a64_rows.specs.declared.row_table.Row.TheVariants.{TestBranch, BranchReg, RetAuth, Hint}
use Rattle.a64_rows.specs.declared.row_table.Row.TheVariants.{Barrier, Brk, Nzcv, LdStImm9}
use Rattle.a64_rows.specs.declared.row_table.Row.TheVariants.{LdStUnsigned, LdStReg, LdLiteral}
use Rattle.a64_rows.specs.declared.row_table.Row.TheVariants.{LdStPair, LdReplicate, AtomicOp}
use Rattle.a64_rows.specs.declared.row_table.Row.TheVariants.{LoadAcq, StoreRel, LoadEx, StoreEx}
use Rattle.a64_rows.specs.declared.row_table.Row.TheVariants.{Cas, Casp, FpOne, FpTwo, FpThree}
use Rattle.a64_rows.specs.declared.row_table.Row.TheVariants.{FpCompare, FpSelect, FpImm, FpInt}
use Rattle.a64_rows.specs.declared.row_table.Row.TheVariants.{VecThree, VecPermute, VecDot}
use Rattle.a64_rows.specs.declared.row_table.Row.TheVariants.{VecElem, VecTwo, VecScalarPair}
use Rattle.a64_rows.specs.declared.row_table.Row.TheVariants.{VecAcross, VecLong3, VecShift}
use Rattle.a64_rows.specs.declared.row_table.Row.TheVariants.{VecImm, ScalarShift, VecCopy}
use Rattle.a64_rows.specs.declared.row_table.Row.TheVariants.{ScalarCopy, VecInsElem, VecExt}
use Rattle.a64_rows.specs.declared.row_table.Row.TheVariants.{VecTable}
use Rattle.a64_rows.specs.Placing.{Placed, at}
pub use Rattle.a64_rows.specs.Entries.{all_rows}

-- a row stands in the list of all rows
abbrev pub placed : (row : Row) → Placed row
placed AddSubReg = at 0 refl
placed LogicReg = at 1 refl
placed AddSubExt = at 2 refl
placed AddSubCarry = at 3 refl
placed DataProc2 = at 4 refl
placed MulHigh = at 5 refl
placed MulAdd = at 6 refl
placed MulAddLong = at 7 refl
placed AddSubImm = at 8 refl
placed LogicImm = at 9 refl
placed Bitfield = at 10 refl
placed Extract = at 11 refl
placed DataProc1 = at 12 refl
placed MoveWide = at 13 refl
placed CondSelect = at 14 refl
placed CondCompare = at 15 refl
placed Adr = at 16 refl
placed Branch26 = at 17 refl
placed BranchCond = at 18 refl
placed CompareBranch = at 19 refl
placed TestBranch = at 20 refl
placed BranchReg = at 21 refl
placed RetAuth = at 22 refl
placed Hint = at 23 refl
placed Barrier = at 24 refl
placed Brk = at 25 refl
placed Nzcv = at 26 refl
placed LdStImm9 = at 27 refl
placed LdStUnsigned = at 28 refl
placed LdStReg = at 29 refl
placed LdLiteral = at 30 refl
placed LdStPair = at 31 refl
placed LdReplicate = at 32 refl
placed AtomicOp = at 33 refl
placed LoadAcq = at 34 refl
placed StoreRel = at 35 refl
placed LoadEx = at 36 refl
placed StoreEx = at 37 refl
placed Cas = at 38 refl
placed Casp = at 39 refl
placed FpOne = at 40 refl
placed FpTwo = at 41 refl
placed FpThree = at 42 refl
placed FpCompare = at 43 refl
placed FpSelect = at 44 refl
placed FpImm = at 45 refl
placed FpInt = at 46 refl
placed VecThree = at 47 refl
placed VecPermute = at 48 refl
placed VecDot = at 49 refl
placed VecElem = at 50 refl
placed VecTwo = at 51 refl
placed VecScalarPair = at 52 refl
placed VecAcross = at 53 refl
placed VecLong3 = at 54 refl
placed VecShift = at 55 refl
placed VecImm = at 56 refl
placed ScalarShift = at 57 refl
placed VecCopy = at 58 refl
placed ScalarCopy = at 59 refl
placed VecInsElem = at 60 refl
placed VecExt = at 61 refl
placed VecTable = at 62 refl
