-- Addressing modes in listings.
use Rattle.std.specs.Prelude.{ℕ, zero, ℤ, pos, ◌≡◌, ◌==◌, Bool, true, false, if◌then◌else◌, List}
use Rattle.std.specs.Prelude.{[], ◌++◌, codes}
use Rattle.std.specs.Fmt.{decimal, signed_decimal}
use Rattle.a64_base.specs.declared.reg.Reg.{Reg}
use Rattle.a64_base.specs.declared.shift.ExtendOp.{ExtendOp}
use Rattle.a64_base.specs.declared.shift.ExtendOp.TheVariants.{UXTW, SXTW}
use Rattle.a64_base.specs.declared.size.OperandSize.{OperandSize}
use Rattle.a64_base.specs.declared.size.OperandSize.TheVariants.{Size32, Size64}
use Rattle.a64_base.specs.RegisterText.{sized_text}
use Rattle.a64_base.specs.Shifts.{extend_name}
use Rattle.a64_imms.specs.Texts.{number_text, signed_text}
use Rattle.a64_inst.specs.declared.mode.AMode.{AMode}
use Rattle.a64_inst.specs.declared.mode.AMode.TheVariants as modes
use Rattle.a64_inst.specs.declared.mode.MemLabel.{MemLabel}
use Rattle.a64_inst.specs.declared.mode.MemLabel.TheVariants.{PCRel, Mach, Pool}
use Rattle.a64_inst.specs.declared.mode.PairAMode.{PairAMode}
use Rattle.a64_inst.specs.declared.mode.PairAMode.TheVariants as pairs
use Rattle.a64_inst.specs.Modes.{IsAccessSize}
use Rattle.a64_inst.specs.FinalModes.{FinalMode, SignedOffset, ScaledOffset, Other, parts_of}

-- the name of a base or of an index of 64 bits
abbrev pub base_text : Reg → List ℕ
base_text reg = sized_text Size64 reg

-- the offset behind a base: none where it is 0
abbrev pub offset_part : ℤ → List ℕ
offset_part (pos zero) = []
offset_part z = codes ", " ++ signed_text z

-- a base and an offset
abbrev pub offset_text : Reg → ℤ → List ℕ
offset_text base offset = codes "[" ++ (base_text base ++ (offset_part offset ++ codes "]"))

-- the stack pointer, which is changed before the access, and after it
abbrev pub pre_text : ℤ → List ℕ
pre_text offset = codes "[sp, " ++ (signed_text offset ++ codes "]!")

abbrev pub post_text : ℤ → List ℕ
post_text offset = codes "[sp], " ++ signed_text offset

-- a constant
abbrev pub constant_text : ℕ → List ℕ
constant_text number = codes "[const(" ++ (decimal number ++ codes ")]")

-- an address in the code
abbrev pub label_text : MemLabel → List ℕ
label_text (PCRel offset) = codes "pc+" ++ signed_decimal offset
label_text (Mach label) = codes "label(" ++ (decimal label.0 ++ codes ")")
label_text (Pool addr) = constant_text addr.0

-- by how many places an index is shifted to the left, in units of so many bytes
abbrev pub unit_shift : ℕ → ℕ
unit_shift bytes =
    if bytes == 2 then 1 else
    if bytes == 4 then 2 else
    if bytes == 8 then 3 else
    if bytes == 16 then 4 else 0

-- the size of an index before it is extended
abbrev pub index_size : ExtendOp → OperandSize
index_size UXTW = Size32
index_size SXTW = Size32
index_size _ = Size64

-- a base and an index of a size, up to what is said of the index
abbrev pub index_front : Reg → OperandSize → Reg → List ℕ
index_front base size index = codes "[" ++ (base_text base ++ (codes ", " ++ sized_text size index))

-- the same of an index that is extended, with the extension
abbrev pub extended_front : Reg → Reg → ExtendOp → List ℕ
extended_front base index extendop =
    index_front base (index_size extendop) index ++ (codes ", " ++ extend_name extendop)

-- another mode, of an access of so many bytes. The five with an offset of 64 bits have no text:
-- they stand in no instruction.
abbrev pub other_text : ℕ → AMode → List ℕ
other_text bytes (modes.RegReg rn rm) = index_front rn Size64 rm ++ codes "]"
other_text bytes (modes.RegScaled rn rm) =
    index_front rn Size64 rm ++ (codes ", LSL " ++ (number_text (unit_shift bytes) ++ codes "]"))
other_text bytes (modes.RegScaledExtended rn rm extendop) =
    extended_front rn rm extendop ++ (codes " " ++ (number_text (unit_shift bytes) ++ codes "]"))
other_text bytes (modes.RegExtended rn rm extendop) = extended_front rn rm extendop ++ codes "]"
other_text bytes (modes.Label label) = label_text label
other_text bytes (modes.SPPreIndexed simm9) = pre_text simm9.value
other_text bytes (modes.SPPostIndexed simm9) = post_text simm9.value
other_text bytes (modes.Const addr) = constant_text addr.0
other_text bytes _ = []

-- the mode that stands in an instruction, of an access of so many bytes
abbrev pub final_text : ℕ → FinalMode → List ℕ
final_text bytes (SignedOffset base offset) = offset_text base offset
final_text bytes (ScaledOffset base offset scale) = offset_text base (pos offset)
final_text bytes (Other mode) = other_text bytes mode

abbrev pub mode_text : ℕ → AMode → List ℕ
mode_text bytes mode = final_text bytes (parts_of mode)

-- a mode of a pair
abbrev pub pair_text : PairAMode → List ℕ
pair_text (pairs.SignedOffset reg simm7) = offset_text reg simm7.value
pair_text (pairs.SPPreIndexed simm7) = pre_text simm7.value
pair_text (pairs.SPPostIndexed simm7) = post_text simm7.value

-- a mode stands in an instruction: its offset, where it has one, is not of 64 bits
abbrev pub stands_in_inst : AMode → Bool
stands_in_inst (modes.RegOffset rn off) = false
stands_in_inst (modes.SPOffset off) = false
stands_in_inst (modes.FPOffset off) = false
stands_in_inst (modes.IncomingArg off) = false
stands_in_inst (modes.SlotOffset off) = false
stands_in_inst _ = true

-- the text of a mode says how far the index is shifted, which is known of the size of the access
abbrev pub looks_at_size : AMode → Bool
looks_at_size (modes.RegScaled rn rm) = true
looks_at_size (modes.RegScaledExtended rn rm extendop) = true
looks_at_size _ = false

-- a mode may be printed beside an access of so many bytes
pub record CanPrintMode (mode : AMode) (bytes : ℕ) : Type 0 where
  pub stands : stands_in_inst mode ≡ true
  pub size : looks_at_size mode ≡ true → IsAccessSize bytes
