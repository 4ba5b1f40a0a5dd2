-- Conditions of branches and of conditional instructions.
use Rattle.std.specs.Prelude.{ℕ, List, codes}
use Rattle.a64_base.specs.declared.cond.Cond.{Cond}
use Rattle.a64_base.specs.declared.cond.Cond.TheVariants.{Eq, Ne, Hs, Lo, Mi, Pl, Vs, Vc, Hi, Ls}
use Rattle.a64_base.specs.declared.cond.Cond.TheVariants.{Ge, Lt, Gt, Le, Al, Nv}
use Rattle.a64_base.specs.declared.cond.CondBrKind.{CondBrKind}
use Rattle.a64_base.specs.declared.cond.CondBrKind.TheVariants as kinds
use Rattle.a64_base.specs.declared.cond.TestBitAndBranchKind.{TestBitAndBranchKind}
use Rattle.a64_base.specs.declared.cond.TestBitAndBranchKind.TheVariants.{Z, NZ}

-- the bits of a condition in an instruction
abbrev pub condition_bits : Cond → ℕ
condition_bits Eq = 0
condition_bits Ne = 1
condition_bits Hs = 2
condition_bits Lo = 3
condition_bits Mi = 4
condition_bits Pl = 5
condition_bits Vs = 6
condition_bits Vc = 7
condition_bits Hi = 8
condition_bits Ls = 9
condition_bits Ge = 10
condition_bits Lt = 11
condition_bits Gt = 12
condition_bits Le = 13
condition_bits Al = 14
condition_bits Nv = 15

-- the condition that holds where another does not
abbrev pub inverse_of : Cond → Cond
inverse_of Eq = Ne
inverse_of Ne = Eq
inverse_of Hs = Lo
inverse_of Lo = Hs
inverse_of Mi = Pl
inverse_of Pl = Mi
inverse_of Vs = Vc
inverse_of Vc = Vs
inverse_of Hi = Ls
inverse_of Ls = Hi
inverse_of Ge = Lt
inverse_of Lt = Ge
inverse_of Gt = Le
inverse_of Le = Gt
inverse_of Al = Nv
inverse_of Nv = Al

-- the name of a condition
abbrev pub condition_name : Cond → List ℕ
condition_name Eq = codes "eq"
condition_name Ne = codes "ne"
condition_name Hs = codes "hs"
condition_name Lo = codes "lo"
condition_name Mi = codes "mi"
condition_name Pl = codes "pl"
condition_name Vs = codes "vs"
condition_name Vc = codes "vc"
condition_name Hi = codes "hi"
condition_name Ls = codes "ls"
condition_name Ge = codes "ge"
condition_name Lt = codes "lt"
condition_name Gt = codes "gt"
condition_name Le = codes "le"
condition_name Al = codes "al"
condition_name Nv = codes "nv"

-- the test of a branch that succeeds where another fails
abbrev pub inverse_kind_of : CondBrKind → CondBrKind
inverse_kind_of (kinds.Zero reg size) = kinds.NotZero reg size
inverse_kind_of (kinds.NotZero reg size) = kinds.Zero reg size
inverse_kind_of (kinds.Cond cond) = kinds.Cond (inverse_of cond)

-- the test of a bit that succeeds where the other fails
abbrev pub complement_of : TestBitAndBranchKind → TestBitAndBranchKind
complement_of Z = NZ
complement_of NZ = Z
