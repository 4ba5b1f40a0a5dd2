-- Written by `python3 tools/rows.py` from tables/rows.txt.
-- The rows that a word can match, by its bits 28 to 24.
use Rattle.std.proofs.Common.{List, [], ◌∷◌}
use Rattle.a64_rows.specs.declared.row_table.Row.{Row}
use Rattle.a64_rows.specs.declared.row_table.Row.TheVariants.{AddSubCarry, AddSubExt, AddSubImm, AddSubReg, Adr, AtomicOp, Barrier, Bitfield, Branch26, BranchCond, BranchReg, Brk, Cas, Casp, CompareBranch, CondCompare, CondSelect, DataProc1, DataProc2, Extract, FpCompare, FpImm, FpInt, FpOne, FpSelect, FpThree, FpTwo, Hint, LdLiteral, LdReplicate, LdStImm9, LdStPair, LdStReg, LdStUnsigned, LoadAcq, LoadEx, LogicImm, LogicReg, MoveWide, MulAdd, MulAddLong, MulHigh, Nzcv, RetAuth, ScalarCopy, ScalarShift, StoreEx, StoreRel, TestBranch, VecAcross, VecCopy, VecDot, VecElem, VecExt, VecImm, VecInsElem, VecLong3, VecPermute, VecScalarPair, VecShift, VecTable, VecThree, VecTwo}

-- the rows by bits 28 to 24
abbrev pub candidates_by_bits : List (List Row)
candidates_by_bits =
    [] ∷
    [] ∷
    [] ∷
    [] ∷
    [] ∷
    [] ∷
    [] ∷
    [] ∷
    (LdStPair ∷ LoadAcq ∷ StoreRel ∷ LoadEx ∷ StoreEx ∷ Cas ∷ Casp ∷ []) ∷
    (LdStPair ∷ []) ∷
    (LogicReg ∷ []) ∷
    (AddSubReg ∷ AddSubExt ∷ []) ∷
    (LdStPair ∷ []) ∷
    (LdStPair ∷ LdReplicate ∷ []) ∷
    (VecThree ∷ VecPermute ∷ VecDot ∷ VecTwo ∷ VecAcross ∷ VecLong3 ∷ VecCopy ∷ VecInsElem ∷ VecExt ∷ VecTable ∷ []) ∷
    (VecElem ∷ VecShift ∷ VecImm ∷ []) ∷
    (Adr ∷ []) ∷
    (AddSubImm ∷ []) ∷
    (LogicImm ∷ MoveWide ∷ []) ∷
    (Bitfield ∷ Extract ∷ []) ∷
    (Branch26 ∷ BranchCond ∷ CompareBranch ∷ Brk ∷ []) ∷
    (Branch26 ∷ CompareBranch ∷ Hint ∷ Barrier ∷ Nzcv ∷ []) ∷
    (Branch26 ∷ TestBranch ∷ BranchReg ∷ RetAuth ∷ []) ∷
    (Branch26 ∷ TestBranch ∷ []) ∷
    (LdStImm9 ∷ LdStReg ∷ LdLiteral ∷ AtomicOp ∷ []) ∷
    (LdStUnsigned ∷ []) ∷
    (AddSubCarry ∷ DataProc2 ∷ DataProc1 ∷ CondSelect ∷ CondCompare ∷ []) ∷
    (MulHigh ∷ MulAdd ∷ MulAddLong ∷ []) ∷
    (LdStImm9 ∷ LdStReg ∷ LdLiteral ∷ []) ∷
    (LdStUnsigned ∷ []) ∷
    (FpOne ∷ FpTwo ∷ FpCompare ∷ FpSelect ∷ FpImm ∷ FpInt ∷ VecScalarPair ∷ ScalarCopy ∷ []) ∷
    (FpThree ∷ ScalarShift ∷ []) ∷
    []
