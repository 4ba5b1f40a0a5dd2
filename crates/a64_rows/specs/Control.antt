-- Written by `python3 tools/rows.py` from tables/rows.txt.
-- Control: the forms of "Branches, Exception Generating and System instructions"
-- (Arm Architecture Reference Manual, DDI 0487, C4.1), by the names of their fields.
use Rattle.std.specs.Prelude.{ℕ, [], ◌∷◌}
use Rattle.a64_rows.specs.declared.row_table.Row.TheVariants.{Branch26, BranchCond, CompareBranch}
use Rattle.a64_rows.specs.declared.row_table.Row.TheVariants.{TestBranch, BranchReg, RetAuth, Hint}
use Rattle.a64_rows.specs.declared.row_table.Row.TheVariants.{Barrier, Brk, Nzcv}
use Rattle.a64_rows.specs.Forms.{Form, form}

-- Branches, Exception Generating and System instructions, Unconditional branch (immediate)
pub record Branch26Fields : Type 0 where
  pub link : ℕ
  pub imm26 : ℕ

abbrev pub branch26 : Branch26Fields → Form
branch26 f = form Branch26 (f.link ∷ f.imm26 ∷ [])

-- Branches, Exception Generating and System instructions, Conditional branch (immediate)
pub record BranchCondFields : Type 0 where
  pub imm19 : ℕ
  pub cond : ℕ

abbrev pub branch_cond : BranchCondFields → Form
branch_cond f = form BranchCond (f.imm19 ∷ f.cond ∷ [])

-- Branches, Exception Generating and System instructions, Compare and branch (immediate)
pub record CompareBranchFields : Type 0 where
  pub sf : ℕ
  pub nz : ℕ
  pub imm19 : ℕ
  pub rt : ℕ

abbrev pub compare_branch : CompareBranchFields → Form
compare_branch f = form CompareBranch (f.sf ∷ f.nz ∷ f.imm19 ∷ f.rt ∷ [])

-- Branches, Exception Generating and System instructions, Test and branch (immediate)
pub record TestBranchFields : Type 0 where
  pub b5 : ℕ
  pub nz : ℕ
  pub b40 : ℕ
  pub imm14 : ℕ
  pub rt : ℕ

abbrev pub test_branch : TestBranchFields → Form
test_branch f = form TestBranch (f.b5 ∷ f.nz ∷ f.b40 ∷ f.imm14 ∷ f.rt ∷ [])

-- Branches, Exception Generating and System instructions, Unconditional branch (register): BR, BLR
-- and RET
pub record BranchRegFields : Type 0 where
  pub opc : ℕ
  pub rn : ℕ

abbrev pub branch_reg : BranchRegFields → Form
branch_reg f = form BranchReg (f.opc ∷ f.rn ∷ [])

-- Branches, Exception Generating and System instructions, Unconditional branch (register): RETAA
-- and RETAB
pub record RetAuthFields : Type 0 where
  pub b : ℕ

abbrev pub ret_auth : RetAuthFields → Form
ret_auth f = form RetAuth (f.b ∷ [])

-- Branches, Exception Generating and System instructions, Hints
pub record HintFields : Type 0 where
  pub crm : ℕ
  pub op2 : ℕ

abbrev pub hint : HintFields → Form
hint f = form Hint (f.crm ∷ f.op2 ∷ [])

-- Branches, Exception Generating and System instructions, Barriers: DMB ISH
abbrev pub barrier : Form
barrier = form Barrier []

-- Branches, Exception Generating and System instructions, Exception generation: BRK #0xf000
abbrev pub brk : Form
brk = form Brk []

-- Branches, Exception Generating and System instructions, System register move: MSR and MRS of NZCV
pub record NzcvFields : Type 0 where
  pub read : ℕ
  pub rt : ℕ

abbrev pub nzcv : NzcvFields → Form
nzcv f = form Nzcv (f.read ∷ f.rt ∷ [])
