-- When a branch, a return, an access or an address is one word that is no use.
use Rattle.std.specs.Prelude.{ℤ, pos, Bool, true, false, not, ◌&&◌, if◌then◌else◌}
use Rattle.std.specs.Ordering.{int_eq}
use Rattle.std.specs.Int.RustNames.{unsigned_abs}
use Rattle.a64_base.specs.declared.key.APIKey.{APIKey}
use Rattle.a64_base.specs.declared.key.APIKey.TheVariants.{ASP, BSP}
use Rattle.a64_base.specs.declared.reg.Reg.{Reg}
use Rattle.a64_base.specs.declared.ir_type.IrType.TheVariants.{I8}
use Rattle.a64_base.specs.declared.target.BranchTarget.{BranchTarget}
use Rattle.a64_base.specs.declared.target.BranchTarget.TheVariants.{Label, ResolvedOffset}
use Rattle.a64_inst.specs.declared.access.Access.{Access}
use Rattle.a64_inst.specs.declared.frame.FrameLayout.{FrameLayout}
use Rattle.a64_inst.specs.declared.mode.AMode.{AMode}
use Rattle.a64_inst.specs.declared.mode.AMode.TheVariants as modes
use Rattle.a64_inst.specs.declared.mode.MemLabel.{MemLabel}
use Rattle.a64_inst.specs.declared.mode.MemLabel.TheVariants.{PCRel, Mach, Pool}
use Rattle.a64_inst.specs.AccessTable.{access_type}
use Rattle.a64_inst.specs.FinalModes.{FinalMode, SignedOffset, ScaledOffset, Other, final_mode}
use Rattle.a64_inst.specs.FinalModes.{needs_x16}
use Rattle.a64_inst.specs.MemoryOperands.{is_addend}
use Rattle.a64_operand.specs.Operands.{is_other_register}

-- a branch that has its offset already
abbrev pub is_resolved : BranchTarget → Bool
is_resolved (Label label) = false
is_resolved (ResolvedOffset offset) = true

-- a mode whose word is no use of a label or of a constant
abbrev pub is_near_literal : MemLabel → Bool
is_near_literal (PCRel offset) = true
is_near_literal (Mach label) = false
is_near_literal (Pool addr) = false

abbrev pub is_no_use : AMode → Bool
is_no_use (modes.Label label) = is_near_literal label
is_no_use (modes.Const addr) = false
is_no_use _ = true

-- an access without steps before it
abbrev pub is_lone_access : FrameLayout → Access → Bool
is_lone_access frame access =
    is_no_use access.mem && not (needs_x16 frame (access_type access.op) access.mem)

-- the sum of a base and an offset is nothing where they are the result already, and more than one
-- word where no addition holds the offset
abbrev pub is_lone_sum : Reg → Reg → ℤ → Bool
is_lone_sum rd rn offset =
    if int_eq offset (pos 0) then is_other_register rd rn else is_addend (unsigned_abs offset)

abbrev pub is_lone_address : Reg → Bool → FinalMode → Bool
is_lone_address rd steps (SignedOffset rn offset) = is_lone_sum rd rn offset
is_lone_address rd steps (ScaledOffset rn offset ty) = is_lone_sum rd rn (pos offset)
is_lone_address rd steps (Other (modes.RegExtended rn rm extendop)) = not steps
is_lone_address rd steps (Other _) = false

abbrev pub is_lone_mode : Reg → FrameLayout → AMode → Bool
is_lone_mode rd frame mem = is_lone_address rd (needs_x16 frame I8 mem) (final_mode frame I8 mem)

-- a return that authenticates its address in the same word: by the stack pointer, where no hint is
-- asked for
abbrev pub is_lone_return : APIKey → Bool → Bool
is_lone_return ASP false = true
is_lone_return BSP false = true
is_lone_return _ _ = false
