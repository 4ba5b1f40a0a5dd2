-- What the kinds of label uses of A64 code mean.
use Rattle.std.specs.Prelude.{ℕ, ℤ, pos, ◌*ℤ◌, ◌+◌, ◌*◌, ◌-◌, ◌^◌, Bool, true, false, nat_eq}
use Rattle.std.specs.Prelude.{if◌then◌else◌, [], ◌∷◌, Option, None, Some}
use Rattle.std.specs.Ordering.{int_eq}
use Rattle.a64_base.specs.declared.entity.Reloc.{Reloc}
use Rattle.a64_base.specs.declared.entity.Reloc.TheVariants as relocs
use Rattle.a64_words.specs.Word.{signed, field_bits, mask_of}
use Rattle.a64_buffer.specs.Kinds.{Kinds}
use Rattle.a64_label_use.specs.declared.label_use.LabelUse.{LabelUse}
use Rattle.a64_label_use.specs.declared.label_use.LabelUse.TheVariants as uses

-- the bits of the word that have the distance
abbrev pub mask_for : LabelUse → ℕ
mask_for uses.Branch14 = mask_of 5 14
mask_for uses.Branch19 = mask_of 5 19
mask_for uses.Branch26 = mask_of 0 26
mask_for uses.Ldr19 = mask_of 5 19
mask_for uses.Adr21 = mask_of 5 19 + mask_of 29 2
mask_for uses.PCRel32 = 2 ^ 32 - 1

-- the signed distance in bytes that a word says
abbrev pub distance_in : LabelUse → ℕ → ℤ
distance_in uses.Branch14 word = signed 14 (field_bits 5 14 word) *ℤ pos 4
distance_in uses.Branch19 word = signed 19 (field_bits 5 19 word) *ℤ pos 4
distance_in uses.Branch26 word = signed 26 (field_bits 0 26 word) *ℤ pos 4
distance_in uses.Ldr19 word = signed 19 (field_bits 5 19 word) *ℤ pos 4
distance_in uses.Adr21 word = signed 21 (field_bits 5 19 word * 4 + field_bits 29 2 word)
distance_in uses.PCRel32 word = signed 32 word

-- how far ahead a label may be
abbrev pub forward_range : LabelUse → ℕ
forward_range uses.Branch14 = 2 ^ 15 - 1
forward_range uses.Branch19 = 2 ^ 20 - 1
forward_range uses.Branch26 = 2 ^ 27 - 1
forward_range uses.Ldr19 = 2 ^ 20 - 1
forward_range uses.Adr21 = 2 ^ 20 - 1
forward_range uses.PCRel32 = 2 ^ 31 - 1

-- how far behind a label may be
abbrev pub backward_range : LabelUse → ℕ
backward_range uses.Branch14 = 2 ^ 15
backward_range uses.Branch19 = 2 ^ 20
backward_range uses.Branch26 = 2 ^ 27
backward_range uses.Ldr19 = 2 ^ 20
backward_range uses.Adr21 = 2 ^ 20
backward_range uses.PCRel32 = 2 ^ 31

-- whether the distance is added to the word
abbrev pub adds_distance : LabelUse → Bool
adds_distance uses.Branch14 = false
adds_distance uses.Branch19 = false
adds_distance uses.Branch26 = false
adds_distance uses.Ldr19 = false
adds_distance uses.Adr21 = false
adds_distance uses.PCRel32 = true

-- whether the distance counts words
abbrev pub counts_in_words : LabelUse → Bool
counts_in_words uses.Branch14 = true
counts_in_words uses.Branch19 = true
counts_in_words uses.Branch26 = true
counts_in_words uses.Ldr19 = true
counts_in_words uses.Adr21 = false
counts_in_words uses.PCRel32 = false

-- whether a veneer can lead a use on to a label that is too far
abbrev pub has_veneer : LabelUse → Bool
has_veneer uses.Branch14 = true
has_veneer uses.Branch19 = true
has_veneer uses.Branch26 = true
has_veneer uses.Ldr19 = false
has_veneer uses.Adr21 = false
has_veneer uses.PCRel32 = false

-- how soon a use wants its veneer
abbrev pub urgency_of : LabelUse → ℕ
urgency_of uses.Branch14 = 1
urgency_of uses.Branch19 = 2
urgency_of uses.Branch26 = 3
urgency_of uses.Ldr19 = 2
urgency_of uses.Adr21 = 0
urgency_of uses.PCRel32 = 0

-- the ranges by urgency
abbrev pub urgency_range : ℕ → ℕ
urgency_range urgency =
    if nat_eq urgency 1 then 2 ^ 15 - 1 else if nat_eq urgency 2 then 2 ^ 20 - 1 else 2 ^ 27 - 1

-- the use that a relocation is: a call of a symbol alone, with no addend
abbrev pub relocated_use : Reloc → ℤ → Option LabelUse
relocated_use relocs.Arm64Call addend = if int_eq addend (pos 0) then Some uses.Branch26 else None
relocated_use _ addend = None

abbrev pub label_kinds : Kinds LabelUse
label_kinds = record {
  mask = mask_for;
  field = distance_in;
  forward = forward_range;
  backward = backward_range;
  adds = adds_distance;
  counts_words = counts_in_words;
  veneers = has_veneer;
  urgency = urgency_of;
  range = urgency_range;
  jump = uses.Branch26;
  jump_word = 0x14000000;
  far_words = 0x98000090 ∷ 0x10000071 ∷ 0x8b110210 ∷ 0xd61f0200 ∷ [];
  far_use = uses.PCRel32;
  trap_word = 0xc11f;
  relocated = relocated_use;
}
