-- Room that was made by islands.
use Rattle.std.proofs.Common.{ℕ, ◌≡◌, ◌+◌, ◌^◌, List, Option, None, Some, ap, inl, inr, ◌∙◌, arith}
use Rattle.std.proofs.lemmas.Bool.{cases_lt}
use Rattle.a64_buffer.specs.Buffer.{Buffer, end_of}
use Rattle.a64_buffer.specs.Classes.{owed, Fits}
use Rattle.a64_buffer.specs.declared.force.ForceVeneers.TheVariants.{No, Yes}
use Rattle.a64_buffer.proofs.Rooms.{none_room}
use Rattle.a64_label_use.specs.declared.label_use.LabelUse.{LabelUse}
use Rattle.a64_label_use.specs.LabelLaws.{label_kinds_lawful}
use Rattle.a64_label_use.specs.LabelUses.{label_kinds}
use Rattle.a64_inst.specs.declared.emission.EmitFlags.{EmitFlags}
use Rattle.a64_inst.specs.declared.frame.FrameLayout.{FrameLayout}
use Rattle.a64_inst.specs.declared.inst.Inst.{Inst}
use Rattle.a64_cells.specs.Shapes.{Cell}
use Rattle.a64_emit.specs.Emission.{Puts}
use Rattle.a64_emit.specs.Rooms.{HasRoomFor, most_added}
use Rattle.a64_assembler.specs.declared.error.EmitterError.{EmitterError}
use Rattle.a64_assembler.specs.declared.error.EmitterError.TheVariants.{BadInstruction, LabelBoundTwice, UnknownLabel, UnboundLabel, OutOfReach, TooLarge, TooMany, OutOfMemory}
use Rattle.a64_assembler.specs.Emitting.{Emission, WritesIsland, MakesRoom, IsTooLargeFor, IsRoomCause, IsFaultless, IsEmitCause}

module _ (frame : FrameLayout) (flags : EmitFlags) (inst : Inst) where
  -- the bound labels stay
  pub labels_stay : (b b' : Buffer LabelUse) → MakesRoom frame flags inst b b' → b'.labels ≡ b.labels
  labels_stay b b' h = elim h [
    | inl same ↦ (cc)
    | inr islands ↦ elim islands [
      | inl one ↦ one.1.labels
      | inr two ↦ two.2.1.labels ∙ two.1.1.labels
    ]
  ]

  -- the constants stay
  pub constants_stay : (b b' : Buffer LabelUse) → MakesRoom frame flags inst b b' → b'.constants ≡ b.constants
  constants_stay b b' h = elim h [
    | inl same ↦ (cc)
    | inr islands ↦ elim islands [
      | inl one ↦ one.1.later.constants
      | inr two ↦ two.2.1.later.constants ∙ two.1.1.later.constants
    ]
  ]

-- what puts cells at the end, or an island at a place for one, keeps both too
pub put_labels : (asked : Option ℕ) (cells : List Cell) (b b' : Buffer LabelUse) → Puts asked cells b b' → b'.labels ≡ b.labels
put_labels None cells b b' h = ap (λ (x : Buffer LabelUse). x.labels) h
put_labels (Some space) cells b b' h = elim h [
  | inl stays ↦ ap (λ (x : Buffer LabelUse). x.labels) stays.1
  | inr writes ↦ writes.1.labels
]

pub put_constants : (asked : Option ℕ) (cells : List Cell) (b b' : Buffer LabelUse) → Puts asked cells b b' → b'.constants ≡ b.constants
put_constants None cells b b' h = ap (λ (x : Buffer LabelUse). x.constants) h
put_constants (Some space) cells b b' h = elim h [
  | inl stays ↦ ap (λ (x : Buffer LabelUse). x.constants) stays.1
  | inr writes ↦ writes.1.later.constants
]

-- behind an island that gives veneers to all uses there is room for anything
pub forced_room : (b b' : Buffer LabelUse) (more : ℕ) → WritesIsland Yes b b' → Fits label_kinds b' more
forced_room b b' more h = elim h.promotion.outcome [
  | inl left ↦ absurd (let e : Yes ≡ No = left.unforced in cc)
  | inr given ↦ none_room label_kinds label_kinds_lawful (end_of b') b'.uses more given.closed
]

-- where an instruction has no room behind such an island, the code is too large for it
pub too_large : (frame : FrameLayout) (flags : EmitFlags) (b between b' : Buffer LabelUse) (inst : Inst) → WritesIsland No b between → WritesIsland Yes between b' → (HasRoomFor frame flags b' inst → ⊥) → IsTooLargeFor b (most_added frame flags inst)
too_large frame flags b between b' inst first second none = elim (cases_lt (end_of b' + owed label_kinds b' + most_added frame flags inst) (2 ^ 31)) [
  | inl short ↦ absurd (none (record { room = short; fits = λ e. forced_room between b' (most_added frame flags inst) second }))
  | inr long ↦ omega (arith, long, first.owed, second.owed)
]

-- why no room was made for an instruction without a fault is why it was not emitted
pub emit_cause : (inst : Inst) (e e' : Emission) (error : EmitterError) → IsFaultless inst e → IsRoomCause e.code (most_added e.state.frame e.flags inst) error → MakesRoom e.state.frame e.flags inst e.code e'.code → e' ≡ record e { code = e'.code } → IsEmitCause inst e e' error
emit_cause inst e e' (BadInstruction fault) good cause made rest = absurd cause
emit_cause inst e e' (LabelBoundTwice label) good cause made rest = cause
emit_cause inst e e' (UnknownLabel label) good cause made rest = cause
emit_cause inst e e' (UnboundLabel label) good cause made rest = cause
emit_cause inst e e' (OutOfReach label) good cause made rest = cause
emit_cause inst e e' TooLarge good cause made rest = (good, cause, made, rest)
emit_cause inst e e' TooMany good cause made rest = cause
emit_cause inst e e' OutOfMemory good cause made rest = good
