-- The texts of addressing modes: a name, and behind it its fields in parentheses.
use Rattle.std.specs.Prelude.{ℕ, ℤ, pos, List, [], ◌∷◌, codes, ◌≡◌, true}
use Rattle.std.specs.List.{join_with_byte, AllByRecursion}
use Rattle.a64_base.specs.declared.ir_type.IrType.{IrType}
use Rattle.a64_imms.specs.declared.offset.UImm12Scaled.{UImm12Scaled}
use Rattle.a64_imms.specs.ScaledOffsets.{uimm12_value, uimm12_scale}
use Rattle.a64_inst.specs.declared.mode.AMode.{AMode}
use Rattle.a64_inst.specs.declared.mode.AMode.TheVariants as modes
use Rattle.a64_inst.specs.declared.mode.MemLabel.{MemLabel}
use Rattle.a64_inst.specs.declared.mode.MemLabel.TheVariants as mem_labels
use Rattle.a64_tokens.specs.declared.pair_mode.WrittenPairMode.{WrittenPairMode}
use Rattle.a64_tokens.specs.declared.pair_mode.WrittenPairMode.TheVariants as pair_modes
use Rattle.a64_tokens.specs.declared.label_name.MemLabelName.{MemLabelName}
use Rattle.a64_tokens.specs.declared.label_name.MemLabelName.TheVariants as label_names
use Rattle.a64_read.specs.declared.mode_name.ModeName.{ModeName}
use Rattle.a64_read.specs.declared.mode_name.ModeName.TheVariants as mode_names
use Rattle.a64_read.specs.declared.mode_name.PairModeName.{PairModeName}
use Rattle.a64_read.specs.declared.mode_name.PairModeName.TheVariants as pair_names
use Rattle.a64_tokens.specs.declared.value.Kind.{Kind}
use Rattle.a64_tokens.specs.declared.value.Kind.TheVariants as kinds
use Rattle.a64_tokens.specs.declared.value.Value.{Value}
use Rattle.a64_tokens.specs.declared.value.Value.TheVariants as values
use Rattle.a64_tokens.specs.Fields.{call_text, IsLabel}
use Rattle.a64_read.specs.Heading.{Heading}
use Rattle.a64_read.specs.Parts.{part_texts, IsPart}
use Rattle.a64_tokens.specs.Reads.{IsI32, IsU32}
use Rattle.a64_tokens.specs.Types.{is_scale}

-- ---- modes of one register

abbrev pub mode_heading : ModeName → Heading
mode_heading mode_names.RegReg = record {
  text = codes "RegReg";
  kinds = kinds.Reg ∷ kinds.Reg ∷ [];
}
mode_heading mode_names.RegScaled = record {
  text = codes "RegScaled";
  kinds = kinds.Reg ∷ kinds.Reg ∷ [];
}
mode_heading mode_names.RegScaledExtended = record {
  text = codes "RegScaledExtended";
  kinds = kinds.Reg ∷ kinds.Reg ∷ kinds.Extend ∷ [];
}
mode_heading mode_names.RegExtended = record {
  text = codes "RegExtended";
  kinds = kinds.Reg ∷ kinds.Reg ∷ kinds.Extend ∷ [];
}
mode_heading mode_names.Unscaled = record {
  text = codes "Unscaled";
  kinds = kinds.Reg ∷ kinds.Offset9 ∷ [];
}
mode_heading mode_names.UnsignedOffset = record {
  text = codes "UnsignedOffset";
  kinds = kinds.Reg ∷ kinds.I64 ∷ kinds.Type ∷ [];
}
mode_heading mode_names.Label = record {
  text = codes "Label";
  kinds = kinds.MemLabelName ∷ kinds.I64 ∷ [];
}
mode_heading mode_names.SPPreIndexed = record {
  text = codes "SPPreIndexed";
  kinds = kinds.Offset9 ∷ [];
}
mode_heading mode_names.SPPostIndexed = record {
  text = codes "SPPostIndexed";
  kinds = kinds.Offset9 ∷ [];
}
mode_heading mode_names.FPOffset = record { text = codes "FPOffset"; kinds = kinds.I64 ∷ [] }
mode_heading mode_names.SPOffset = record { text = codes "SPOffset"; kinds = kinds.I64 ∷ [] }
mode_heading mode_names.IncomingArg = record { text = codes "IncomingArg"; kinds = kinds.I64 ∷ [] }
mode_heading mode_names.SlotOffset = record { text = codes "SlotOffset"; kinds = kinds.I64 ∷ [] }
mode_heading mode_names.RegOffset = record {
  text = codes "RegOffset";
  kinds = kinds.Reg ∷ kinds.I64 ∷ [];
}
mode_heading mode_names.Const = record { text = codes "Const"; kinds = kinds.U32 ∷ [] }

abbrev pub mode_name_text : ModeName → List ℕ
mode_name_text name = (mode_heading name).text

abbrev pub mode_kinds : ModeName → List Kind
mode_kinds name = (mode_heading name).kinds

-- an unsigned offset is its value and the type that scales it
abbrev pub scaled_parts : UImm12Scaled → ℤ × IrType
scaled_parts imm = (pos (uimm12_value imm), uimm12_scale imm)

abbrev pub IsScaled : UImm12Scaled → Type 0
IsScaled imm = is_scale (uimm12_scale imm) ≡ true

-- an address in the code is the name of its variant, and a number
abbrev pub mem_label_parts : MemLabel → MemLabelName × ℤ
mem_label_parts (mem_labels.PCRel offset) = (label_names.PCRel, offset)
mem_label_parts (mem_labels.Mach label) = (label_names.Mach, pos label.0)
mem_label_parts (mem_labels.Pool addr) = (label_names.Pool, pos addr.0)

abbrev pub IsMemLabel : MemLabel → Type 0
IsMemLabel (mem_labels.PCRel offset) = IsI32 offset
IsMemLabel (mem_labels.Mach label) = IsLabel label
IsMemLabel (mem_labels.Pool addr) = IsU32 addr.0

-- the name of a mode, and its fields
pub record ModeParts : Type 0 where
  pub name : ModeName
  pub fields : List Value

abbrev pub mode_parts : AMode → ModeParts
mode_parts (modes.RegReg rn rm) = record {
  name = mode_names.RegReg;
  fields = values.Reg rn ∷ values.Reg rm ∷ [];
}
mode_parts (modes.RegScaled rn rm) = record {
  name = mode_names.RegScaled;
  fields = values.Reg rn ∷ values.Reg rm ∷ [];
}
mode_parts (modes.RegScaledExtended rn rm extendop) = record {
  name = mode_names.RegScaledExtended;
  fields = values.Reg rn ∷ values.Reg rm ∷ values.Extend extendop ∷ [];
}
mode_parts (modes.RegExtended rn rm extendop) = record {
  name = mode_names.RegExtended;
  fields = values.Reg rn ∷ values.Reg rm ∷ values.Extend extendop ∷ [];
}
mode_parts (modes.Unscaled rn simm9) = record {
  name = mode_names.Unscaled;
  fields = values.Reg rn ∷ values.Offset9 simm9 ∷ [];
}
mode_parts (modes.UnsignedOffset rn uimm12) = record {
  name = mode_names.UnsignedOffset;
  fields = values.Reg rn ∷ values.I64 (scaled_parts uimm12).0 ∷ values.Type (scaled_parts uimm12).1
      ∷ [];
}
mode_parts (modes.Label label) = record {
  name = mode_names.Label;
  fields = values.MemLabelName (mem_label_parts label).0 ∷ values.I64 (mem_label_parts label).1
      ∷ [];
}
mode_parts (modes.SPPreIndexed simm9) = record {
  name = mode_names.SPPreIndexed;
  fields = values.Offset9 simm9 ∷ [];
}
mode_parts (modes.SPPostIndexed simm9) = record {
  name = mode_names.SPPostIndexed;
  fields = values.Offset9 simm9 ∷ [];
}
mode_parts (modes.FPOffset off) = record {
  name = mode_names.FPOffset;
  fields = values.I64 off ∷ [];
}
mode_parts (modes.SPOffset off) = record {
  name = mode_names.SPOffset;
  fields = values.I64 off ∷ [];
}
mode_parts (modes.IncomingArg off) = record {
  name = mode_names.IncomingArg;
  fields = values.I64 off ∷ [];
}
mode_parts (modes.SlotOffset off) = record {
  name = mode_names.SlotOffset;
  fields = values.I64 off ∷ [];
}
mode_parts (modes.RegOffset rn off) = record {
  name = mode_names.RegOffset;
  fields = values.Reg rn ∷ values.I64 off ∷ [];
}
mode_parts (modes.Const addr) = record { name = mode_names.Const; fields = values.U32 addr.0 ∷ [] }

abbrev pub mode_name_of : AMode → ModeName
mode_name_of mode = (mode_parts mode).name

abbrev pub mode_fields : AMode → List Value
mode_fields mode = (mode_parts mode).fields

-- what a mode asks beside that its fields have texts
abbrev pub IsOwnMode : AMode → Type 0
IsOwnMode (modes.UnsignedOffset rn uimm12) = IsScaled uimm12
IsOwnMode (modes.Label label) = IsMemLabel label
IsOwnMode _ = Unit {0}

abbrev pub mode_text : AMode → List ℕ
mode_text mode =
    call_text
    (mode_name_text (mode_name_of mode), join_with_byte 44 (part_texts (mode_fields mode)))

abbrev pub IsMode : AMode → Type 0
IsMode mode = AllByRecursion IsPart (mode_fields mode) × IsOwnMode mode

-- ---- modes of a pair, as a line has them

abbrev pub pair_heading : PairModeName → Heading
pair_heading pair_names.SignedOffset = record {
  text = codes "SignedOffset";
  kinds = kinds.Reg ∷ kinds.I64 ∷ [];
}
pair_heading pair_names.SPPreIndexed = record {
  text = codes "SPPreIndexed";
  kinds = kinds.I64 ∷ [];
}
pair_heading pair_names.SPPostIndexed = record {
  text = codes "SPPostIndexed";
  kinds = kinds.I64 ∷ [];
}

abbrev pub pair_name_text : PairModeName → List ℕ
pair_name_text name = (pair_heading name).text

abbrev pub pair_kinds : PairModeName → List Kind
pair_kinds name = (pair_heading name).kinds

-- the name of a mode, and its fields
pub record PairParts : Type 0 where
  pub name : PairModeName
  pub fields : List Value

abbrev pub pair_parts : WrittenPairMode → PairParts
pair_parts (pair_modes.SignedOffset reg offset) = record {
  name = pair_names.SignedOffset;
  fields = values.Reg reg ∷ values.I64 offset ∷ [];
}
pair_parts (pair_modes.SPPreIndexed offset) = record {
  name = pair_names.SPPreIndexed;
  fields = values.I64 offset ∷ [];
}
pair_parts (pair_modes.SPPostIndexed offset) = record {
  name = pair_names.SPPostIndexed;
  fields = values.I64 offset ∷ [];
}

abbrev pub pair_name_of : WrittenPairMode → PairModeName
pair_name_of mode = (pair_parts mode).name

abbrev pub pair_fields : WrittenPairMode → List Value
pair_fields mode = (pair_parts mode).fields

abbrev pub IsOwnPair : WrittenPairMode → Type 0
IsOwnPair mode = Unit {0}

abbrev pub pair_text : WrittenPairMode → List ℕ
pair_text mode =
    call_text
    (pair_name_text (pair_name_of mode), join_with_byte 44 (part_texts (pair_fields mode)))

abbrev pub IsPairMode : WrittenPairMode → Type 0
IsPairMode mode = AllByRecursion IsPart (pair_fields mode) × IsOwnPair mode
