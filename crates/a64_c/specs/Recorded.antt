-- What the call with all records answers.
use Rattle.std.specs.Prelude.{ℕ, ◌≡◌, ◌⊎◌, List, Bool, map, length, pos}
use Rattle.a64_buffer.specs.declared.force.ForceVeneers.{ForceVeneers}
use Rattle.a64_emit.specs.declared.code.Code.{Code}
use Rattle.a64_c.specs.declared.answer.Refusal.{Refusal}
use Rattle.a64_c.specs.declared.record.LabelPlace.{LabelPlace}
use Rattle.a64_c.specs.declared.record.Island.{Island}
use Rattle.a64_c.specs.declared.record.Relocation.{Relocation}
use Rattle.a64_c.specs.declared.record.Trap.{Trap}
use Rattle.a64_c.specs.declared.record.PatchableCall.{PatchableCall}
use Rattle.a64_c.specs.declared.record.StackMap.{StackMap}
use Rattle.a64_c.specs.declared.recording.Counts.{Counts}
use Rattle.a64_c.specs.Answers.{force_of, answer_of, IsCause, IsCodeOf}
use Rattle.a64_c.specs.Records.{over, label_place_of, island_of, relocation_of, trap_of}
use Rattle.a64_c.specs.Records.{patchable_call_of, stack_map_of}

-- what stands in the caller's buffers
pub record Rooms : Type 0 where
  pub bytes : List ℕ
  pub items : List ℕ
  pub labels : List LabelPlace
  pub islands : List Island
  pub relocations : List Relocation
  pub traps : List Trap
  pub calls : List ℕ
  pub patchable_calls : List PatchableCall
  pub stack_maps : List StackMap

abbrev pub rooms :
    List ℕ → List ℕ → List LabelPlace → List Island → List Relocation → List Trap → List ℕ
    → List PatchableCall → List StackMap → Rooms
rooms bytes items labels islands relocations traps calls patchable_calls stack_maps = record {
  bytes = bytes;
  items = items;
  labels = labels;
  islands = islands;
  relocations = relocations;
  traps = traps;
  calls = calls;
  patchable_calls = patchable_calls;
  stack_maps = stack_maps;
}

-- the buffers with code and its records at their fronts
abbrev pub written : Code → Rooms → Rooms
written code before = record {
  bytes = over code.bytes.items before.bytes;
  items = over code.places.items before.items;
  labels = over (map label_place_of code.labels.items) before.labels;
  islands = over (map island_of code.islands.items) before.islands;
  relocations = over (map relocation_of code.relocs.items) before.relocations;
  traps = over (map trap_of code.traps.items) before.traps;
  calls = over code.calls.items before.calls;
  patchable_calls = over (map patchable_call_of code.patchable.items) before.patchable_calls;
  stack_maps = over (map stack_map_of code.maps.items) before.stack_maps;
}

-- how much there is of each
abbrev pub counts_of : Code → Counts
counts_of code = record {
  status = pos 0;
  subject = 0;
  bytes = length code.bytes.items;
  items = length code.places.items;
  labels = length code.labels.items;
  islands = length code.islands.items;
  pool = code.pool;
  relocations = length code.relocs.items;
  traps = length code.traps.items;
  calls = length code.calls.items;
  patchable_calls = length code.patchable.items;
  stack_maps = length code.maps.items;
}

abbrev pub refused_counts : Refusal → Counts
refused_counts refusal = record {
  status = (answer_of refusal).status;
  subject = (answer_of refusal).subject;
  bytes = 0;
  items = 0;
  labels = 0;
  islands = 0;
  pool = 0;
  relocations = 0;
  traps = 0;
  calls = 0;
  patchable_calls = 0;
  stack_maps = 0;
}

-- the text has code, and it and its records are written
pub record IsWritten (text : List ℕ) (force : ForceVeneers) (before after : Rooms) (counts : Counts)
    : Type 0 where
  pub code : Code
  pub made : IsCodeOf text force code
  pub all : after ≡ written code before
  pub counted : counts ≡ counts_of code

-- the text has none, and the buffers are as they were
pub record IsUnwritten (text : List ℕ) (force : ForceVeneers) (before after : Rooms)
    (counts : Counts) : Type 0 where
  pub refusal : Refusal
  pub cause : IsCause text force refusal
  pub told : counts ≡ refused_counts refusal
  pub untouched : after ≡ before

abbrev pub IsRecorded : List ℕ → Bool → Rooms → Rooms → Counts → Type 0
IsRecorded text force before after counts =
    IsWritten text (force_of force) before after counts
    ⊎ IsUnwritten text (force_of force) before after counts
