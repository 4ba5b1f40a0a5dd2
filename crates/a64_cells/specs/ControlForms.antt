-- The forms of control instructions, and their data (Arm Architecture Reference Manual, DDI 0487,
-- C4.1, "Branches, Exception Generating and System instructions").
use Rattle.std.specs.Prelude.{ℕ, pos, ◌/◌, ◌%◌, Bool, false, List, [], ◌∷◌}
use Rattle.a64_base.specs.declared.cond.CondBrKind.{CondBrKind}
use Rattle.a64_base.specs.declared.key.APIKey.{APIKey}
use Rattle.a64_base.specs.declared.key.APIKey.TheVariants.{AZ, ASP, BZ, BSP}
use Rattle.a64_base.specs.declared.cond.TestBitAndBranchKind.{TestBitAndBranchKind}
use Rattle.a64_base.specs.declared.reg.Reg.{Reg}
use Rattle.a64_base.specs.declared.target.BranchTarget.{BranchTarget}
use Rattle.a64_base.specs.declared.target.BranchTarget.TheVariants.{ResolvedOffset}
use Rattle.a64_base.specs.Target.{offset_field}
use Rattle.a64_ops.specs.declared.system.BranchTargetType.{BranchTargetType}
use Rattle.a64_ops.specs.declared.system.BranchTargetType.TheVariants.{None, C, J, JC}
use Rattle.a64_enc_int.specs.Branches.{conditional_form, nonzero_of}
use Rattle.a64_enc_int.specs.Registers.{register_field}
use Rattle.a64_rows.specs.Forms.{Form}
use Rattle.a64_rows.specs.Control.{branch26, branch_reg, brk, hint, ret_auth, test_branch}
use Rattle.a64_cells.specs.IntegerForms.{adr_form}

-- a branch by the return class to x30 (Unconditional branch (register), RET)
unfoldable pub ret_form : Form
ret_form = branch_reg (record { opc = 2; rn = 30 })

-- a return that authenticates its address by a key and the stack pointer: key A or B (Unconditional
-- branch (register), RETAA and RETAB)
unfoldable pub ret_auth_form : ℕ → Form
ret_auth_form b = ret_auth (record { b = b })

-- a branch without link, over the offset in words, or over none as long as it has a label
-- (Unconditional branch (immediate), B)
unfoldable pub jump_form : BranchTarget → Form
jump_form dest = branch26 (record { link = 0; imm26 = offset_field 26 dest })

-- a branch on a register (Compare and branch (immediate), CBZ and CBNZ) or on the flags
-- (Conditional branch (immediate), B.cond)
unfoldable pub cond_br_form : BranchTarget → CondBrKind → Form
cond_br_form taken kind = conditional_form (offset_field 19 taken) kind

-- the same to a trap, over no offset as long as that has no place
unfoldable pub trap_if_form : CondBrKind → Form
trap_if_form kind = cond_br_form (ResolvedOffset (pos 0)) kind

-- a branch on one bit of a register, of which the word has the highest bit of its number apart
-- (Test and branch (immediate), TBZ and TBNZ)
unfoldable pub test_bit_and_branch_form : TestBitAndBranchKind → BranchTarget → Reg → ℕ → Form
test_bit_and_branch_form kind taken rn bit =
    test_branch (record {
      b5 = bit / 32;
      nz = nonzero_of kind;
      b40 = bit % 32;
      imm14 = offset_field 14 taken;
      rt = register_field rn;
    })

-- a branch to the address in a register (Unconditional branch (register), BR)
unfoldable pub indirect_br_form : Reg → Form
indirect_br_form rn = branch_reg (record { opc = 0; rn = register_field rn })

-- a branch with link, over no offset as long as its symbol has no place (Unconditional branch
-- (immediate), BL)
unfoldable pub branch_link_form : Form
branch_link_form = branch26 (record { link = 1; imm26 = 0 })

-- a branch with link to the address in a register (Unconditional branch (register), BLR)
unfoldable pub branch_link_register_form : Reg → Form
branch_link_register_form rn = branch_reg (record { opc = 1; rn = register_field rn })

-- the number of the hint that authenticates the return address in x30 by a key
abbrev pub auti_number : APIKey → ℕ
auti_number AZ = 4
auti_number ASP = 5
auti_number BZ = 6
auti_number BSP = 7

-- the return address in x30 is authenticated (Hints, AUTIAZ, AUTIASP, AUTIBZ, AUTIBSP)
unfoldable pub auti_form : APIKey → Form
auti_form key = hint (record { crm = 3; op2 = auti_number key })

-- a return that authenticates the return address: in the same word where the modifier is the stack
-- pointer and no hint is asked for, else by a hint before it
abbrev pub authenticated_ret_forms : APIKey → Bool → List Form
authenticated_ret_forms ASP false = ret_auth_form 0 ∷ []
authenticated_ret_forms BSP false = ret_auth_form 1 ∷ []
authenticated_ret_forms key is_hint = auti_form key ∷ ret_form ∷ []

-- the number of the hint that signs the return address in x30 by a key
abbrev pub paci_number : APIKey → ℕ
paci_number AZ = 0
paci_number ASP = 1
paci_number BZ = 2
paci_number BSP = 3

-- the return address in x30 is signed (Hints, PACIAZ, PACIASP, PACIBZ, PACIBSP)
unfoldable pub paci_form : APIKey → Form
paci_form key = hint (record { crm = 3; op2 = paci_number key })

-- its signature is taken off (Hints, XPACLRI)
unfoldable pub xpaclri_form : Form
xpaclri_form = hint (record { crm = 0; op2 = 7 })

-- the number of the hint that lets branches go to a place: none, calls, jumps, or both
abbrev pub bti_number : BranchTargetType → ℕ
bti_number None = 0
bti_number C = 2
bti_number J = 4
bti_number JC = 6

-- a place to which such branches may go (Hints, BTI)
unfoldable pub bti_form : BranchTargetType → Form
bti_form targets = hint (record { crm = 4; op2 = bti_number targets })

-- a breakpoint (Exception generation, BRK)
unfoldable pub brk_form : Form
brk_form = brk

-- the address of a label, as long as this has none (PC-rel. addressing, ADR)
unfoldable pub label_address_form : Reg → Form
label_address_form dst = adr_form dst (pos 0)

-- a barrier against what was guessed before it (Hints, CSDB)
unfoldable pub csdb_form : Form
csdb_form = hint (record { crm = 2; op2 = 4 })

-- the data word that is no instruction
abbrev pub udf_word : ℕ
udf_word = 0xc11f
