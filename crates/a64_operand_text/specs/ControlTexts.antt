-- Parts of the texts of branches, returns and hints.
use Rattle.std.specs.Prelude.{ℕ, Bool, if◌then◌else◌, List, [], ◌∷◌, ◌++◌, codes}
use Rattle.std.specs.Fmt.{decimal}
use Rattle.a64_base.specs.declared.cond.CondBrKind.{CondBrKind}
use Rattle.a64_base.specs.declared.cond.CondBrKind.TheVariants as kinds
use Rattle.a64_base.specs.declared.cond.TestBitAndBranchKind.{TestBitAndBranchKind}
use Rattle.a64_base.specs.declared.cond.TestBitAndBranchKind.TheVariants.{Z, NZ}
use Rattle.a64_base.specs.declared.entity.TrapCode.{TrapCode}
use Rattle.a64_base.specs.declared.key.APIKey.{APIKey}
use Rattle.a64_base.specs.declared.key.APIKey.TheVariants.{AZ, ASP, BZ, BSP}
use Rattle.a64_base.specs.declared.reg.Reg.{Reg}
use Rattle.a64_base.specs.declared.target.BranchTarget.{BranchTarget}
use Rattle.a64_base.specs.Conditions.{condition_name}
use Rattle.a64_ops.specs.declared.system.BranchTargetType.{BranchTargetType}
use Rattle.a64_ops.specs.declared.system.BranchTargetType.TheVariants as target_types
use Rattle.a64_operand_text.specs.declared.operand.Operand.TheVariants as operand
use Rattle.a64_operand_text.specs.Lines.{line_text, two_lines_text}

-- the name of a key, as names of instructions end with it
abbrev pub key_name : APIKey → List ℕ
key_name AZ = codes "az"
key_name ASP = codes "asp"
key_name BZ = codes "bz"
key_name BSP = codes "bsp"

-- a hint that signs the link register
abbrev pub paci_text : APIKey → List ℕ
paci_text key = codes "paci" ++ key_name key

-- a return whose address is authenticated: by a hint before it, or by itself
unfoldable pub authenticated_ret_text : APIKey → Bool → List ℕ
authenticated_ret_text key is_hint =
    if is_hint
    then codes "auti" ++ (key_name key ++ codes " ; ret")
    else codes "reta" ++ key_name key

-- a place that branches of some kinds may go to
abbrev pub bti_text : BranchTargetType → List ℕ
bti_text target_types.None = codes "bti"
bti_text target_types.C = codes "bti c"
bti_text target_types.J = codes "bti j"
bti_text target_types.JC = codes "bti jc"

-- a branch where a test succeeds, and one where it fails
abbrev pub cond_br_text : CondBrKind → BranchTarget → BranchTarget → List ℕ
cond_br_text (kinds.Zero reg size) taken not_taken =
    two_lines_text (codes "cbz") (operand.Sized size reg ∷ operand.Target taken
    ∷ []) (codes "b") (operand.Target not_taken ∷ [])
cond_br_text (kinds.NotZero reg size) taken not_taken =
    two_lines_text (codes "cbnz") (operand.Sized size reg ∷ operand.Target taken
    ∷ []) (codes "b") (operand.Target not_taken ∷ [])
cond_br_text (kinds.Cond cond) taken not_taken =
    codes "b."
    ++ two_lines_text (condition_name cond) (operand.Target taken
    ∷ []) (codes "b") (operand.Target not_taken ∷ [])

-- a trap where a test succeeds
abbrev pub trap_if_text : CondBrKind → TrapCode → List ℕ
trap_if_text (kinds.Zero reg size) trap_code =
    line_text (codes "cbz") (operand.Sized size reg ∷ operand.Trap trap_code ∷ [])
trap_if_text (kinds.NotZero reg size) trap_code =
    line_text (codes "cbnz") (operand.Sized size reg ∷ operand.Trap trap_code ∷ [])
trap_if_text (kinds.Cond cond) trap_code =
    codes "b." ++ line_text (condition_name cond) (operand.Trap trap_code ∷ [])

-- the name of a branch on one bit
abbrev pub test_bit_name : TestBitAndBranchKind → List ℕ
test_bit_name Z = codes "tbz"
test_bit_name NZ = codes "tbnz"

-- a branch on one bit, and one where the bit is another
abbrev pub test_bit_text : TestBitAndBranchKind → BranchTarget → BranchTarget → Reg → ℕ → List ℕ
test_bit_text kind taken not_taken rn bit =
    two_lines_text (test_bit_name kind) (operand.X rn ∷ operand.Number bit ∷ operand.Target taken
    ∷ [])
    (codes "b") (operand.Target not_taken ∷ [])

-- a name and a number that no `#` stands before
unfoldable pub bare_number_text : List ℕ → ℕ → List ℕ
bare_number_text name number = name ++ (codes " " ++ decimal number)
