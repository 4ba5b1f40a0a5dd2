-- The kinds of label uses of A64 code keep the laws of kinds.
use Rattle.std.specs.Prelude.{ℕ, ◌-◌, ◌^◌, ◌≡◌, ◌<◌, ◌≤◌, IsTrue, refl}
use Rattle.std.proofs.Common.{arith}
use Rattle.a64_words.specs.Word.{signed}
use Rattle.a64_buffer.specs.Kinds.{IsLawful}
use Rattle.a64_label_use.specs.declared.label_use.LabelUse.{LabelUse}
use Rattle.a64_label_use.specs.declared.label_use.LabelUse.TheVariants as uses
use Rattle.a64_label_use.specs.LabelUses.{mask_for, distance_in, adds_distance, has_veneer}
use Rattle.a64_label_use.specs.LabelUses.{urgency_of, urgency_range, forward_range, backward_range}
use Rattle.a64_label_use.specs.LabelUses.{label_kinds}

pub label_kinds_lawful : IsLawful label_kinds
label_kinds_lawful = record {
  whole_mask = mask;
  whole_field = field;
  urgency_most = most;
  veneer_urgency = some;
  urgent_replaces = replaces;
  jump_veneers = refl;
  jump_urgency = refl;
  far_adds = refl;
  far_urgency = refl;
  far_forward = refl;
  one_range = range;
  range_second = omega arith;
  range_third = omega arith;
  third_of_first = omega arith;
  third_of_second = omega arith;
  third_least = omega arith;
  third_short = omega arith;
  backward_more = behind;
  far_length = omega arith;
}
  where
    mask : (kind : LabelUse) → IsTrue (adds_distance kind) → mask_for kind ≡ 2 ^ 32 - 1
    mask uses.Branch14 adds = absurd cc
    mask uses.Branch19 adds = absurd cc
    mask uses.Branch26 adds = absurd cc
    mask uses.Ldr19 adds = absurd cc
    mask uses.Adr21 adds = absurd cc
    mask uses.PCRel32 adds = refl

    field : (kind : LabelUse) → IsTrue (adds_distance kind) → (word : ℕ) → word < 2 ^ 32
        → distance_in kind word ≡ signed 32 word
    field uses.Branch14 adds word fits = absurd cc
    field uses.Branch19 adds word fits = absurd cc
    field uses.Branch26 adds word fits = absurd cc
    field uses.Ldr19 adds word fits = absurd cc
    field uses.Adr21 adds word fits = absurd cc
    field uses.PCRel32 adds word fits = refl

    most : (kind : LabelUse) → urgency_of kind ≤ 3
    most uses.Branch14 = omega arith
    most uses.Branch19 = omega arith
    most uses.Branch26 = omega arith
    most uses.Ldr19 = omega arith
    most uses.Adr21 = omega arith
    most uses.PCRel32 = omega arith

    some : (kind : LabelUse) → IsTrue (has_veneer kind) → 1 ≤ urgency_of kind
    some uses.Branch14 veneer = omega arith
    some uses.Branch19 veneer = omega arith
    some uses.Branch26 veneer = omega arith
    some uses.Ldr19 veneer = absurd cc
    some uses.Adr21 veneer = absurd cc
    some uses.PCRel32 veneer = absurd cc

    replaces : (kind : LabelUse) → 1 ≤ urgency_of kind → IsTrue (adds_distance kind) → ⊥
    replaces uses.Branch14 urgent adds = cc
    replaces uses.Branch19 urgent adds = cc
    replaces uses.Branch26 urgent adds = cc
    replaces uses.Ldr19 urgent adds = cc
    replaces uses.Adr21 urgent adds = omega (arith, urgent)
    replaces uses.PCRel32 urgent adds = omega (arith, urgent)

    range : (kind : LabelUse) → 1 ≤ urgency_of kind
        → forward_range kind ≡ urgency_range (urgency_of kind)
    range uses.Branch14 urgent = refl
    range uses.Branch19 urgent = refl
    range uses.Branch26 urgent = refl
    range uses.Ldr19 urgent = refl
    range uses.Adr21 urgent = absurd (omega (arith, urgent))
    range uses.PCRel32 urgent = absurd (omega (arith, urgent))

    behind : (kind : LabelUse) → forward_range kind ≤ backward_range kind
    behind uses.Branch14 = omega arith
    behind uses.Branch19 = omega arith
    behind uses.Branch26 = omega arith
    behind uses.Ldr19 = omega arith
    behind uses.Adr21 = omega arith
    behind uses.PCRel32 = omega arith
