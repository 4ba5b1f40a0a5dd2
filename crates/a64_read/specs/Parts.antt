-- Fields that may stand with commas between, in a field that is made of them.
use Rattle.std.specs.Prelude.{ℕ, Bool, true, false, List, [], map}
use Rattle.std.specs.Fmt.{decimal, signed_decimal}
use Rattle.a64_tokens.specs.declared.value.Kind.{Kind}
use Rattle.a64_tokens.specs.declared.value.Kind.TheVariants as kinds
use Rattle.a64_tokens.specs.declared.value.Value.{Value}
use Rattle.a64_tokens.specs.declared.value.Value.TheVariants as values
use Rattle.a64_tokens.specs.Fields.{reg_text, IsReg, size_text, offset9_text, IsSImm9}
use Rattle.a64_tokens.specs.Operators.{bool_text, cond_text, extend_text, mem_label_name_text}
use Rattle.a64_tokens.specs.Reads.{Always, IsU8, IsU32, IsI64}
use Rattle.a64_tokens.specs.Types.{type_text}

-- the kinds of such fields
abbrev pub is_part : Kind → Bool
is_part kinds.Reg = true
is_part kinds.Extend = true
is_part kinds.U32 = true
is_part kinds.I64 = true
is_part kinds.Offset9 = true
is_part kinds.Type = true
is_part kinds.MemLabelName = true
is_part kinds.Size = true
is_part kinds.Cond = true
is_part kinds.Bool = true
is_part kinds.U8 = true
is_part _ = false

-- the text of such a field
abbrev pub part_text : Value → List ℕ
part_text (values.Reg x) = reg_text x
part_text (values.Extend x) = extend_text x
part_text (values.U32 x) = decimal x
part_text (values.I64 x) = signed_decimal x
part_text (values.Offset9 x) = offset9_text x
part_text (values.Type x) = type_text x
part_text (values.MemLabelName x) = mem_label_name_text x
part_text (values.Size x) = size_text x
part_text (values.Cond x) = cond_text x
part_text (values.Bool x) = bool_text x
part_text (values.U8 x) = decimal x
part_text _ = []

-- such a field that has a text
abbrev pub IsPart : Value → Type 0
IsPart (values.Reg x) = IsReg x
IsPart (values.Extend x) = Always x
IsPart (values.U32 x) = IsU32 x
IsPart (values.I64 x) = IsI64 x
IsPart (values.Offset9 x) = IsSImm9 x
IsPart (values.Type x) = Always x
IsPart (values.MemLabelName x) = Always x
IsPart (values.Size x) = Always x
IsPart (values.Cond x) = Always x
IsPart (values.Bool x) = Always x
IsPart (values.U8 x) = IsU8 x
IsPart _ = ⊥

abbrev pub part_texts : List Value → List (List ℕ)
part_texts parts = map part_text parts
