-- What emission does to a buffer.
use Rattle.std.specs.Prelude.{ℕ, pos, ◌≡◌, ◌⊎◌, ◌+◌, ◌*◌, ◌/◌, ◌%◌, ◌^◌, ◌<◌, ◌≤◌, true, List, []}
use Rattle.std.specs.Prelude.{◌∷◌, ◌++◌, map, take, length, slice_index, slice_index_or, Option}
use Rattle.std.specs.Prelude.{None, Some, IsSome, MatchOption, Result, OnOk, OnErr}
use Rattle.std.specs.Ordering.{nat_cmp}
use Rattle.std.specs.FinMap.{FinMap, insert}
use Rattle.a64_base.specs.declared.entity.MachLabel.{MachLabel}
use Rattle.a64_base.specs.declared.entity.Reloc.TheVariants.{Arm64Call}
use Rattle.a64_base.specs.declared.entity.TrapCode.{TrapCode}
use Rattle.a64_base.specs.declared.entity.UserStackMap.{UserStackMap}
use Rattle.a64_inst.specs.declared.emission.EmitFlags.{EmitFlags}
use Rattle.a64_inst.specs.declared.frame.FrameLayout.{FrameLayout}
use Rattle.a64_inst.specs.declared.inst.Inst.{Inst}
use Rattle.a64_operand.specs.declared.virtuals.VirtualRegisters.TheVariants.{Refused}
use Rattle.a64_inst.specs.Faults.{inst_fault}
use Rattle.a64_inst.specs.State.{State}
use Rattle.a64_buffer.specs.declared.site.Use.{Use}
use Rattle.a64_buffer.specs.Buffer.{Records, Buffer, end_of, made_use, closed_at, IsFree}
use Rattle.a64_buffer.specs.Classes as classes
use Rattle.a64_buffer.specs.Islands.{HasIsland}
use Rattle.a64_buffer.specs.declared.force.ForceVeneers.TheVariants.{No}
use Rattle.a64_cells.specs.declared.callee.Callee.{Callee}
use Rattle.a64_cells.specs.declared.callee.Callee.TheVariants.{Symbol, Address}
use Rattle.a64_label_use.specs.declared.label_use.LabelUse.{LabelUse}
use Rattle.a64_cells.specs.declared.site.Site.{Site}
use Rattle.a64_label_use.specs.LabelUses.{label_kinds}
use Rattle.a64_cells.specs.Shapes.{Cell}
use Rattle.a64_cells.specs.Cells.{cell_word, inst_cells, kept_cells}
use Rattle.a64_emit.specs.Bounds.{asked_of}
use Rattle.a64_emit.specs.Layout.{placed, relocs_in, calls_in, patchable_in, maps_in, traps_in}
use Rattle.a64_emit.specs.Layout.{records_in, more_records}

-- ---- what emitting an instruction does

-- the use that a cell at a place is, where it is one
abbrev pub use_at : FinMap nat_cmp ℕ → ℕ → Option Site → List (Use LabelUse)
use_at labels place None = []
use_at labels place (Some site) = made_use label_kinds labels place site.target site.kind ∷ []

-- the uses of cells that stand from a place on
abbrev pub uses_from : FinMap nat_cmp ℕ → ℕ → List Cell → List (Use LabelUse)
uses_from labels place [] = []
uses_from labels place (c ∷ cs) = use_at labels place c.site ++ uses_from labels (place + 4) cs

-- a buffer with cells at its end
abbrev pub appended : Buffer LabelUse → List Cell → Buffer LabelUse
appended b cells = record b {
  words = b.words ++ map cell_word cells;
  uses = b.uses ++ uses_from b.labels (end_of b) cells;
  traps = b.traps ++ traps_in (placed (end_of b) cells);
  records = more_records b.records (records_in (placed (end_of b) cells));
}

-- a buffer with a trap recorded at a place, where there is one
abbrev pub trapped : Option TrapCode → Buffer LabelUse → ℕ → Buffer LabelUse
trapped None b place = b
trapped (Some code) b place = record b { traps = b.traps ++ (place, code) ∷ [] }

-- a buffer with the symbol of a call recorded at its end, where the call goes to one
abbrev pub linked : Callee → Buffer LabelUse → Buffer LabelUse
linked (Symbol name) b = record b {
  records = record b.records {
    relocs = b.records.relocs ++ (end_of b, Arm64Call, name, pos 0) ∷ [];
  };
}
linked (Address reg) b = b

-- a buffer with a map of the stack recorded at its end, where there is one
abbrev pub mapped : Option UserStackMap → Buffer LabelUse → Buffer LabelUse
mapped None b = b
mapped (Some kept) b = record b {
  records = record b.records {
    maps = b.records.maps ++ (end_of b, kept) ∷ [];
  };
}

-- a buffer that has got the first so many of some words
pub record PutsInPart (b b' : Buffer LabelUse) (words : List ℕ) : Type 0 where
  pub count : ℕ
  pub few : count ≤ length words
  pub is : b' ≡ record b { words = b.words ++ take count words }

-- a first part of some cells: the words of the first so many, and their uses, but maybe not that of
-- the last of these words; what is recorded at them, and maybe at the next word: traps, and
-- relocations; and what is recorded behind them, but maybe not all of it
pub record Parts (cells : List Cell) : Type 0 where
  pub count : ℕ
  pub used : ℕ
  pub last : (used ≡ count) ⊎ (used + 1 ≡ count)
  pub marked : ℕ
  pub next : (marked ≡ count) ⊎ (marked ≡ count + 1)
  pub related : ℕ
  pub next_related : (related ≡ count) ⊎ (related ≡ count + 1)
  pub called : ℕ
  pub called_few : called ≤ count
  pub patched : ℕ
  pub patched_few : patched ≤ count
  pub mapped : ℕ
  pub mapped_few : mapped ≤ count

-- what a first part of cells, which stand from a place on, records beside traps
abbrev pub part_records : ℕ → (cells : List Cell) → Parts cells → Records
part_records place cells part = record {
  relocs = relocs_in (placed place (take part.related cells));
  calls = calls_in (placed place (take part.called cells));
  patchable = patchable_in (placed place (take part.patched cells));
  maps = maps_in (placed place (take part.mapped cells));
}

-- a buffer that has got a first part of some cells, and no island
pub record IsAppendedInPart (b b' : Buffer LabelUse) (cells : List Cell) : Type 0 where
  pub part : Parts cells
  pub words : b'.words ≡ b.words ++ map cell_word (take part.count cells)
  pub uses : b'.uses ≡ b.uses ++ uses_from b.labels (end_of b) (take part.used cells)
  pub traps : b'.traps ≡ b.traps ++ traps_in (placed (end_of b) (take part.marked cells))
  pub records : b'.records ≡ more_records b.records (part_records (end_of b) cells part)
  pub labels : b'.labels ≡ b.labels
  pub constants : b'.constants ≡ b.constants
  pub islands : b'.islands ≡ b.islands

-- an island was written where the space needed one, and else nothing
abbrev pub IslandsIfNeeded : ℕ → Buffer LabelUse → Buffer LabelUse → Type 0
IslandsIfNeeded space b b' =
    (classes.Fits label_kinds b space × (b' ≡ b))
    ⊎ ((classes.Fits label_kinds b space → ⊥) × HasIsland label_kinds space No true b b')

-- cells were put at the end; or an island where one is needed, at a place for one
abbrev pub Puts : Option ℕ → List Cell → Buffer LabelUse → Buffer LabelUse → Type 0
Puts None cells b b' = b' ≡ appended b cells
Puts (Some space) cells b b' = IslandsIfNeeded space b b'

-- an instruction was emitted: its cells stand at the end; or, where it is a place for an island,
-- one that is needed
abbrev pub Emits : EmitFlags → State → Inst → Buffer LabelUse → Buffer LabelUse → Type 0
Emits flags state inst b b' =
    Puts (asked_of inst) (kept_cells state.frame flags inst state.map) b b'

-- an instruction was emitted in part
abbrev pub EmitsInPart : EmitFlags → State → Inst → Buffer LabelUse → Buffer LabelUse → Type 0
EmitsInPart flags state inst b b' =
    IsAppendedInPart b b' (kept_cells state.frame flags inst state.map)

-- there is room for cells at the end of the buffer
abbrev pub HasRoom : Buffer LabelUse → List Cell → Type 0
HasRoom b cells = end_of b + 4 * length cells < 2 ^ 31

-- with cells at the end, all open uses still reach what they get in an island behind these cells
abbrev pub CellsFit : Buffer LabelUse → List Cell → Type 0
CellsFit b cells =
    classes.HasRoom label_kinds (end_of b)
    (b.uses ++ uses_from b.labels (end_of b) cells)
    (4 * length cells)

-- cells can be put at the end: there is room for them, and the open uses still reach
pub record CanPut (b : Buffer LabelUse) (cells : List Cell) : Type 0 where
  pub room : HasRoom b cells
  pub fits : CellsFit b cells

-- what a call leaves that puts cells: they stand at the end, or where it failed, a first part of
-- them
pub record PutsCells {T E : Type 0} (result : Result T E) (b b' : Buffer LabelUse)
    (cells : List Cell) : Type 0 where
  pub ok : OnOk result (b' ≡ appended b cells)
  pub err : OnErr result (IsAppendedInPart b b' cells)

-- there is room for an island
abbrev pub HasIslandRoom : Buffer LabelUse → Type 0
HasIslandRoom b = end_of b + classes.owed label_kinds b + 4 < 2 ^ 31

-- an instruction without a fault of its own, and room for its cells, or for its island
pub record IsReady (b : Buffer LabelUse) (frame : FrameLayout) (flags : EmitFlags) (inst : Inst) :
    Type 0 where
  pub room : HasRoom b (inst_cells frame flags inst)
  pub island : IsSome (asked_of inst) → HasIslandRoom b
  pub fits : CellsFit b (inst_cells frame flags inst)
  pub good : inst_fault frame flags b.constants Refused inst ≡ None

-- a label was bound to the end
abbrev pub Binds : MachLabel → Buffer LabelUse → Buffer LabelUse → Type 0
Binds label b b' = b' ≡ record b {
  uses = map (closed_at label_kinds label.0 (end_of b)) b.uses;
  labels = insert b.labels label.0 (end_of b);
}

-- ---- what items leave in a buffer

-- a use of a buffer: its place, its kind and its target
abbrev pub site_of : Use LabelUse → ℕ × Site
site_of u = (u.offset, record { kind = u.kind; target = u.target })

-- one of the uses stands at the place
pub record HasUse (uses : List (Use LabelUse)) (place : ℕ) (site : Site) : Type 0 where
  pub index : ℕ
  pub within : index < length uses
  pub is : (d : Use LabelUse) → site_of (slice_index_or uses index d) ≡ (place, site)

-- a cell stands at its place: its word was put there, and it is the use that it names, or none
pub record IsPut (b : Buffer LabelUse) (s : ℕ × Cell) : Type 0 where
  pub aligned : s.0 % 4 ≡ 0
  pub inside : s.0 + 4 ≤ end_of b
  pub word : slice_index b.words (s.0 / 4) ≡ cell_word s.1
  pub site : MatchOption s.1.site (IsFree b.uses s.0) (HasUse b.uses s.0)
