-- Code to which instructions are emitted one after another, and what their emission is told beside
-- them.
use Rattle.std.specs.Prelude.{
  ℕ,
  ◌≡◌,
  ◌⊎◌,
  ◌+◌,
  ◌^◌,
  ◌≤◌,
  ◌<◌,
  Bool,
  true,
  false,
  All,
  List,
  [],
  ◌∷◌,
  ◌++◌,
  None,
  Some,
  Result,
  OnOk,
  IfErr,
  IsSome,
  is_some,
  slice_index_or,
  ⊤,
}
use Rattle.std.specs.Ordering.{nat_cmp}
use Rattle.std.specs.FinMap.{FinMap, get}
use Rattle.a64_base.specs.declared.entity.MachLabel.{MachLabel}
use Rattle.a64_buffer.specs.declared.force.ForceVeneers.{ForceVeneers}
use Rattle.a64_buffer.specs.declared.force.ForceVeneers.TheVariants.{No, Yes}
use Rattle.a64_buffer.specs.Buffer.{
  Buffer,
  end_of,
  new_buffer,
  IsBound,
  IsDirect,
  IsFirstUnbound,
  IsFirstUnreached,
}
use Rattle.a64_buffer.specs.Classes.{owed}
use Rattle.a64_buffer.specs.Islands.{HasIsland}
use Rattle.a64_inst.specs.declared.emission.EmitFlags.{EmitFlags}
use Rattle.a64_inst.specs.declared.frame.FrameLayout.{FrameLayout}
use Rattle.a64_inst.specs.declared.inst.Inst.{Inst}
use Rattle.a64_inst.specs.Faults.{inst_fault}
use Rattle.a64_inst.specs.State.{State}
use Rattle.a64_operand.specs.declared.virtuals.VirtualRegisters.TheVariants.{Refused}
use Rattle.a64_label_use.specs.declared.label_use.LabelUse.{LabelUse}
use Rattle.a64_label_use.specs.LabelUses.{label_kinds}
use Rattle.a64_emit.specs.Emission.{Emits}
use Rattle.a64_emit.specs.Rooms.{most_added, HasRoomFor}
use Rattle.a64_assembler.specs.Assembly.{nothing, IsFull}
use Rattle.a64_assembler.specs.declared.error.EmitterError.{EmitterError}
use Rattle.a64_assembler.specs.declared.error.EmitterError.TheVariants.{
  BadInstruction,
  LabelBoundTwice,
  UnknownLabel,
  UnboundLabel,
  OutOfReach,
  TooLarge,
  TooMany,
  OutOfMemory,
}

-- the code so far, the settings, what emission keeps between instructions, and how many labels were
-- given out
pub record Emission : Type 0 where
  pub code : Buffer LabelUse
  pub flags : EmitFlags
  pub state : State
  pub labels : ℕ

-- the labels that are marked are bound, and no others
abbrev pub AreBound : List Bool → FinMap nat_cmp ℕ → Type 0
AreBound marks labels = (k : ℕ) → slice_index_or marks k false ≡ is_some (get labels k)

-- no code, over these constants: no frame, and no setting is on
abbrev pub begun : FinMap nat_cmp (List ℕ) → Emission
begun constants = record {
  code = new_buffer constants;
  flags = nothing.flags;
  state = record { frame = nothing.frame; map = None };
  labels = 0;
}

-- an island was written at the end, with a jump over it: behind it what is open still reaches over
-- the worst case of an instruction
abbrev pub WritesIsland : ForceVeneers → Buffer LabelUse → Buffer LabelUse → Type 0
WritesIsland force b b' = HasIsland label_kinds 172 force true b b'

-- why no island was written: with it the code could reach 2^31 bytes, or memory was missing
abbrev pub IsIslandCause : Buffer LabelUse → EmitterError → Type 0
IsIslandCause b TooLarge = 2 ^ 31 ≤ end_of b + owed label_kinds b + 4
IsIslandCause b OutOfMemory = ⊤
IsIslandCause b _ = ⊥

module _ (frame : FrameLayout) (flags : EmitFlags) (inst : Inst) where
  -- an island was written where there was no room for an instruction
  abbrev pub WritesIslandFor : ForceVeneers → Buffer LabelUse → Buffer LabelUse → Type 0
  WritesIslandFor force b b' = (HasRoomFor frame flags b inst → ⊥) × WritesIsland force b b'

  -- room was made for an instruction: no island was written, or one, or two, each where there was
  -- no room for it; the second gives veneers to all uses that wait
  abbrev pub MakesRoom : Buffer LabelUse → Buffer LabelUse → Type 0
  MakesRoom b b' =
      (b' ≡ b)
      ⊎ WritesIslandFor No b b'
      ⊎ ((between : Buffer LabelUse) × WritesIslandFor No b between
      × WritesIslandFor Yes between b')

-- with so many bytes, with what the open uses may add, and with two islands' jumps the code could
-- reach 2^31 bytes
abbrev pub IsTooLargeFor : Buffer LabelUse → ℕ → Type 0
IsTooLargeFor b more = 2 ^ 31 ≤ end_of b + owed label_kinds b + more + 8

-- why no room was made for so many bytes
abbrev pub IsRoomCause : Buffer LabelUse → ℕ → EmitterError → Type 0
IsRoomCause b more TooLarge = IsTooLargeFor b more
IsRoomCause b more OutOfMemory = ⊤
IsRoomCause b more _ = ⊥

-- an instruction has no fault of its own under what emission is told beside it
abbrev pub IsFaultless : Inst → Emission → Type 0
IsFaultless inst e = inst_fault e.state.frame e.flags e.code.constants Refused inst ≡ None

-- why an instruction was not emitted: it is wrong by itself, and nothing has changed; or else the
-- code could become too large, and all that has changed is that room was made; or memory was
-- missing
abbrev pub IsEmitCause : Inst → Emission → Emission → EmitterError → Type 0
IsEmitCause inst e e' (BadInstruction fault) =
    (inst_fault e.state.frame e.flags e.code.constants Refused inst ≡ Some fault) × (e' ≡ e)
IsEmitCause inst e e' TooLarge =
    IsFaultless inst e
    × IsTooLargeFor e.code (most_added e.state.frame e.flags inst)
    × MakesRoom e.state.frame e.flags inst e.code e'.code
    × (e' ≡ record e { code = e'.code })
IsEmitCause inst e e' OutOfMemory = IsFaultless inst e
IsEmitCause inst e e' _ = ⊥

-- an instruction's words stand behind the room that was made for it; a map of the stack that was
-- kept for it is gone
pub record IsEmitted (inst : Inst) (e e' : Emission) : Type 0 where
  pub between : Buffer LabelUse
  pub made : MakesRoom e.state.frame e.flags inst e.code between
  pub room : HasRoomFor e.state.frame e.flags between inst
  pub emits : Emits e.flags e.state inst between e'.code
  pub rest : e' ≡ record e { code = e'.code; state = record e.state { map = None } }

-- what emitting an instruction leaves
pub record EmitsOne {T : Type 0} (inst : Inst) (result : Result T EmitterError) (e e' : Emission) :
    Type 0 where
  pub ok : OnOk result (IsEmitted inst e e')
  pub cause : IfErr result (IsEmitCause inst e e')

-- instructions were emitted one after another
abbrev pub AreEmitted : List Inst → Emission → Emission → Type 0
AreEmitted [] e e' = e' ≡ e
AreEmitted (inst ∷ insts) e e' =
    (between : Emission) × IsEmitted inst e between × AreEmitted insts between e'

-- why not all of some instructions were emitted: some first ones were, and the next one was not
pub record IsStopped (insts : List Inst) (e e' : Emission) (error : EmitterError) : Type 0 where
  pub first' : List Inst
  pub inst : Inst
  pub rest : List Inst
  pub between : Emission
  pub split : insts ≡ first' ++ inst ∷ rest
  pub emitted : AreEmitted first' e between
  pub cause : IsEmitCause inst between e' error

-- what emitting instructions one after another leaves
pub record EmitsAll {T : Type 0} (insts : List Inst) (result : Result T EmitterError)
    (e e' : Emission) : Type 0 where
  pub ok : OnOk result (AreEmitted insts e e')
  pub cause : IfErr result (IsStopped insts e e')

-- why a label was not bound
abbrev pub IsBindCause : MachLabel → Emission → EmitterError → Type 0
IsBindCause label e (LabelBoundTwice bound) = (bound ≡ label) × IsSome (get e.code.labels label.0)
IsBindCause label e (UnknownLabel unknown) = (unknown ≡ label) × (e.labels ≤ label.0)
IsBindCause label e OutOfMemory = ⊤
IsBindCause label e _ = ⊥

-- why no label was given out
abbrev pub IsLabelCause : Emission → EmitterError → Type 0
IsLabelCause e TooMany = IsFull e.labels 1
IsLabelCause e OutOfMemory = ⊤
IsLabelCause e _ = ⊥

-- each label that is used is bound, and is within reach of the uses that can have no veneer
abbrev pub HasItsLabels : Buffer LabelUse → Type 0
HasItsLabels b = All (IsBound b.labels) b.uses × All (IsDirect label_kinds b.labels) b.uses

-- how far the code could reach, in bytes
abbrev pub most_bytes : Buffer LabelUse → ℕ
most_bytes b = end_of b + owed label_kinds b

-- why code was not finished: the first of these that applies, and memory was missing where none of
-- the others does
abbrev pub IsFinishCause : Buffer LabelUse → EmitterError → Type 0
IsFinishCause b (UnboundLabel label) = IsFirstUnbound b (Some label)
IsFinishCause b (OutOfReach label) =
    All (IsBound b.labels) b.uses × IsFirstUnreached label_kinds b (Some label)
IsFinishCause b TooLarge = HasItsLabels b × (2 ^ 31 ≤ most_bytes b)
IsFinishCause b OutOfMemory = HasItsLabels b × (most_bytes b < 2 ^ 31)
IsFinishCause b _ = ⊥
