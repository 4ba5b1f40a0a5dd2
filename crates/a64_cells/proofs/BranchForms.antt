-- The form of a branch, a hint or an access to the flags that has no fault of its own is a form of its row.
use Rattle.std.proofs.Common.{ℕ, ℤ, pos, negsuc, ◌≡◌, ◌<◌, ◌^◌, true, refl, lit<, arith, rules}
use Rattle.std.specs.Prelude.{nat_lt}
use Rattle.std.specs.Int.{int_rem_euclid}
use Rattle.std.specs.Int.RustNames.{unsigned_abs}
use Rattle.std.proofs.lemmas.Bool.{ltb-true}
use Rattle.a64_base.specs.declared.cond.CondBrKind.{CondBrKind}
use Rattle.a64_base.specs.declared.cond.CondBrKind.TheVariants.{Zero}
use Rattle.a64_base.specs.declared.cond.TestBitAndBranchKind.{TestBitAndBranchKind}
use Rattle.a64_base.specs.declared.cond.TestBitAndBranchKind.TheVariants.{Z, NZ}
use Rattle.a64_base.specs.declared.key.APIKey.{APIKey}
use Rattle.a64_base.specs.declared.reg.Reg.{Reg}
use Rattle.a64_base.specs.declared.target.BranchTarget.{BranchTarget}
use Rattle.a64_base.specs.declared.target.BranchTarget.TheVariants.{Label, ResolvedOffset}
use Rattle.a64_base.specs.Target.{offset_field}
use Rattle.a64_base.specs.Words.{words_of}
use Rattle.a64_ops.specs.declared.system.BranchTargetType.{BranchTargetType}
use Rattle.a64_rows.specs.Forms.{IsFormOf}
use Rattle.a64_enc_int.specs.Branches.{conditional_form, nonzero_of}
use Rattle.a64_enc_int.proofs.Registers.{field_below}
use Rattle.a64_cells.specs.IntegerForms.{nop4_form}
use Rattle.a64_cells.specs.ControlForms.{jump_form, cond_br_form, trap_if_form, test_bit_and_branch_form, indirect_br_form, label_address_form, branch_link_form, branch_link_register_form, auti_number, auti_form, paci_number, paci_form, xpaclri_form, bti_number, bti_form, csdb_form, ret_form, ret_auth_form}
use Rattle.a64_cells.proofs.ImmediateForms.{adr_is_form}
use Rattle.a64_cells.proofs.OneWord.{field_widths}

-- ---- hints and flags

pub nop4_is_form : IsFormOf nop4_form
unfolding nop4_form
nop4_is_form = search rules

auti_below : (key : APIKey) → auti_number key < 2 ^ 3
auti_below key = grind arith

pub auti_is_form : (key : APIKey) → IsFormOf (auti_form key)
unfolding auti_form
auti_is_form key = search (rules, auti_below)

pub csdb_is_form : IsFormOf csdb_form
unfolding csdb_form
csdb_is_form = search rules

paci_below : (key : APIKey) → paci_number key < 2 ^ 3
paci_below key = grind arith

pub paci_is_form : (key : APIKey) → IsFormOf (paci_form key)
unfolding paci_form
paci_is_form key = search (rules, paci_below)

pub xpaclri_is_form : IsFormOf xpaclri_form
unfolding xpaclri_form
xpaclri_is_form = search rules

bti_below : (targets : BranchTargetType) → bti_number targets < 2 ^ 3
bti_below targets = grind arith

pub bti_is_form : (targets : BranchTargetType) → IsFormOf (bti_form targets)
unfolding bti_form
bti_is_form targets = search (rules, bti_below)

-- ---- branches

-- the remainder of a distance
remainder_below : (m : ℕ) (distance : ℤ) → 0 < m → unsigned_abs (int_rem_euclid distance (pos m)) < m
remainder_below m (pos n) some = omega arith
remainder_below m (negsuc n) some = omega arith

offset_below : (bits : ℕ) (dest : BranchTarget) → 0 < 2 ^ bits → offset_field bits dest < 2 ^ bits
offset_below bits (Label label) some = some
offset_below bits (ResolvedOffset offset) some = remainder_below (2 ^ bits) (words_of offset) some

pub indirect_br_is_form : (rn : Reg) → IsFormOf (indirect_br_form rn)
unfolding indirect_br_form
indirect_br_is_form rn = search (rules, field_below)

pub ret_is_form : IsFormOf ret_form
unfolding ret_form
ret_is_form = search rules

pub ret_auth_is_form : (b : ℕ) → b < 2 → IsFormOf (ret_auth_form b)
unfolding ret_auth_form
ret_auth_is_form b small = search rules

pub branch_link_is_form : IsFormOf branch_link_form
unfolding branch_link_form
branch_link_is_form = search rules

pub branch_link_register_is_form : (rn : Reg) → IsFormOf (branch_link_register_form rn)
unfolding branch_link_register_form
branch_link_register_is_form rn = search (rules, field_below)

pub jump_is_form : (dest : BranchTarget) → IsFormOf (jump_form dest)
unfolding jump_form
jump_is_form dest = ((lit< tt, (offset_below 26 dest (lit< tt), tt)), refl)

conditional_is_form : (distance : ℕ) (kind : CondBrKind) → distance < 2 ^ 19 → IsFormOf (conditional_form distance kind)
conditional_is_form distance (Zero reg size) d = search (rules, field_widths)
conditional_is_form distance _ d = search (rules, field_widths)

pub cond_br_is_form : (taken : BranchTarget) (kind : CondBrKind) → IsFormOf (cond_br_form taken kind)
unfolding cond_br_form
cond_br_is_form taken kind = conditional_is_form (offset_field 19 taken) kind (offset_below 19 taken (lit< tt))

pub trap_if_is_form : (kind : CondBrKind) → IsFormOf (trap_if_form kind)
unfolding trap_if_form
trap_if_is_form kind = cond_br_is_form (ResolvedOffset (pos 0)) kind

nonzero_below : (kind : TestBitAndBranchKind) → nonzero_of kind < 2
nonzero_below Z = lit< tt
nonzero_below NZ = lit< tt

pub test_bit_and_branch_is_form : (kind : TestBitAndBranchKind) (taken : BranchTarget) (rn : Reg) (bit : ℕ) → nat_lt bit 64 ≡ true → IsFormOf (test_bit_and_branch_form kind taken rn bit)
unfolding test_bit_and_branch_form
test_bit_and_branch_is_form kind taken rn bit small =
    let below = ltb-true bit 64 small in
    ((omega (arith, below), (nonzero_below kind, (omega (arith, below), (offset_below 14 taken (lit< tt), (field_below rn, tt))))), refl)

pub label_address_is_form : (dst : Reg) → IsFormOf (label_address_form dst)
unfolding label_address_form
label_address_is_form dst = adr_is_form dst (pos 0)

-- those of branches and hints
pub ruleset branch_forms = (nop4_is_form, csdb_is_form, paci_is_form, xpaclri_is_form, bti_is_form, jump_is_form, cond_br_is_form, trap_if_is_form, test_bit_and_branch_is_form, indirect_br_is_form, label_address_is_form)
