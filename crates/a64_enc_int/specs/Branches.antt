-- Targets and tests of branches.
use Rattle.std.specs.Prelude.{ℕ, ℤ, ◌≡◌, ◌/◌, ◌%◌, ◌^◌, ◌⊎◌}
use Rattle.a64_base.specs.Conditions.{condition_bits}
use Rattle.a64_base.specs.OperandSizes.{sf_of}
use Rattle.a64_base.specs.declared.cond.CondBrKind.{CondBrKind}
use Rattle.a64_base.specs.declared.cond.CondBrKind.TheVariants.{Zero, NotZero, Cond}
use Rattle.a64_base.specs.declared.cond.TestBitAndBranchKind.{TestBitAndBranchKind}
use Rattle.a64_base.specs.declared.cond.TestBitAndBranchKind.TheVariants.{Z, NZ}
use Rattle.a64_imms.specs.Offsets.{residue}
use Rattle.a64_rows.specs.Forms.{Form, form_word}
use Rattle.a64_rows.specs.Control.{branch_cond, compare_branch}
use Rattle.a64_rows.specs.DataProcessing.{adr}
use Rattle.a64_enc_int.specs.Registers.{IsGeneral, register_field}

-- a test of the flags, or of a general register
abbrev pub IsGeneralTest : CondBrKind → Type 0
IsGeneralTest (Zero reg size) = IsGeneral reg
IsGeneralTest (NotZero reg size) = IsGeneral reg
IsGeneralTest (Cond cond) = Unit {0}

-- the form of a conditional branch over a distance in words
abbrev pub conditional_form : ℕ → CondBrKind → Form
conditional_form distance (Zero reg size) =
    compare_branch (record { sf = sf_of size; nz = 0; imm19 = distance; rt = register_field reg })
conditional_form distance (NotZero reg size) =
    compare_branch (record { sf = sf_of size; nz = 1; imm19 = distance; rt = register_field reg })
conditional_form distance (Cond cond) =
    branch_cond (record { imm19 = distance; cond = condition_bits cond })

-- 1 where a branch on a bit is taken when the bit is set
abbrev pub nonzero_of : TestBitAndBranchKind → ℕ
nonzero_of Z = 0
nonzero_of NZ = 1

-- a word of an address near the code, with zero distance and register
abbrev pub IsAdrOpcode : ℕ → Type 0
IsAdrOpcode opcode =
    (opcode ≡ form_word (adr (record { page = 0; lo = 0; hi = 0; rd = 0 })))
    ⊎ (opcode ≡ form_word (adr (record { page = 1; lo = 0; hi = 0; rd = 0 })))

-- immlo of such a word: the lower two bits of a distance of 21 bits
abbrev pub distance_low : ℤ → ℕ
distance_low distance = residue (2 ^ 21) distance % 4

-- immhi of such a word: the upper 19 bits
abbrev pub distance_high : ℤ → ℕ
distance_high distance = residue (2 ^ 21) distance / 4
