-- Units that are linked, as a whole.
use Rattle.std.specs.Prelude.{ℕ, pos, ◌≡◌, ◌⊎◌, ◌+◌, ◌*◌, ◌<◌, ◌≤◌, ◌+ℤ◌, ◌↔◌, IsTrue, List, map}
use Rattle.std.specs.Prelude.{length, None, Some}
use Rattle.std.specs.List.{Contains, filter, flat_map, enumerate_from}
use Rattle.std.specs.List.Sorted.{IsStrictlyIncreasing}
use Rattle.a64_base.specs.declared.entity.ExternalName.{ExternalName}
use Rattle.a64_rows.specs.declared.row_table.Row.TheVariants as rows
use Rattle.a64_rows.specs.Forms.{Matches}
use Rattle.a64_words.specs.Word.{StandAt}
use Rattle.a64_plan.specs.JumpMachine.{Machine, wrapped, Arrives}
use Rattle.a64_label_use.specs.declared.label_use.LabelUse.TheVariants.{Branch26}
use Rattle.a64_label_use.specs.LabelUses.{distance_in}
use Rattle.a64_label_use.specs.FarJumps.{Loaded, IsAt, fetched}
use Rattle.a64_link.specs.declared.error.LinkError.{LinkError}
use Rattle.a64_link.specs.declared.error.LinkError.TheVariants.{OutOfMemory}
use Rattle.a64_link.specs.declared.unit.Unit.{Unit}
use Rattle.a64_link.specs.declared.unit.Symbol.{Symbol}
use Rattle.a64_link.specs.declared.unit.Linked.{Linked}
use Rattle.a64_link.specs.Units.{Relocation, is_call, size, span, near, symbol_of}
use Rattle.a64_link.specs.Layout.{AreStarts, IsUnit, Defines, is_far, end_before, start_of}
use Rattle.a64_link.specs.Layout.{thunk_of}
use Rattle.a64_link.specs.Linking.{word_at, IsReloc, AreLinked}
use Rattle.a64_link.specs.Faults.{fault_of}

-- units are refused: for want of memory, or for what is wrong with them
abbrev pub IsRefusal : List Unit → LinkError → Type 0
IsRefusal units error = (error ≡ OutOfMemory) ⊎ (fault_of units ≡ Some error)

-- ---- where things stand

module _ (units : List Unit) (starts : List ℕ) where
  -- a symbol stands at a place: its unit's start, and its own place in the unit behind that
  pub record IsSymbolAt (name : ExternalName) (place : ℕ) : Type 0 where
    pub unit : ℕ
    pub own : ℕ
    pub defined : Defines units unit name own
    pub is : place ≡ start_of starts unit + own

  -- the thunks of the unit of this number: one for each call that has one, in the order of its
  -- relocations
  abbrev pub thunks_in : ℕ → Unit → List ℕ
  thunks_in i unit =
      map (λ (e : ℕ × Relocation). thunk_of units starts i unit e.0)
      (filter (λ (e : ℕ × Relocation). is_far units i e.1) (enumerate_from 0 unit.relocs.items))

  -- the thunks of all units, in order
  abbrev pub all_thunks : List ℕ
  all_thunks = flat_map (λ (e : ℕ × Unit). thunks_in e.0 e.1) (enumerate_from 0 units)

  -- a place is in the words of a unit
  pub record IsInUnit (place : ℕ) : Type 0 where
    pub number : ℕ
    pub unit : Unit
    pub is : IsUnit units number unit
    pub from : start_of starts number ≤ place
    pub before : place < start_of starts number + size unit

  -- a place is in the five words of a thunk
  pub record IsInThunk (place : ℕ) : Type 0 where
    pub number : ℕ
    pub unit : Unit
    pub is : IsUnit units number unit
    pub call : ℕ
    pub reloc : Relocation
    pub reloc_is : IsReloc unit call reloc
    pub far : IsTrue (is_far units number reloc)
    pub from : thunk_of units starts number unit call ≤ place
    pub before : place < thunk_of units starts number unit call + 20

  -- a place is in the gap in front of a unit
  pub record IsInGap (place : ℕ) : Type 0 where
    pub number : ℕ
    pub within : number < length units
    pub from : end_before units starts number ≤ place
    pub before : place < start_of starts number

  abbrev pub IsSomewhere : ℕ → Type 0
  IsSomewhere place = IsInUnit place ⊎ (IsInThunk place ⊎ IsInGap place)

-- ---- the linked layout, whole

pub record IsLinked (units : List Unit) (base : ℕ) (linked : Linked) : Type 0 where
  -- nothing is wrong with the units, and so each symbol has one definition
  pub faultless : fault_of units ≡ None
  pub once : (name : ExternalName) (s : Symbol)
      → (symbol_of units name ≡ Some s) ↔ Defines units s.unit name s.place
  -- where units start, and which words stand there
  pub starts : AreStarts units linked.starts.items
  pub words : AreLinked units base linked.starts.items linked.words.items (length units)
  -- the symbols that are defined, each at its place, by number
  pub symbols_ordered : IsStrictlyIncreasing
      (map (λ (e : ExternalName × ℕ). e.0.0) linked.symbols.items)
  pub symbols : (name : ExternalName) (place : ℕ)
      → Contains linked.symbols.items (name, place)
      ↔ IsSymbolAt units linked.starts.items name place
  -- the thunks, by place
  pub thunks : linked.thunks.items ≡ all_thunks units linked.starts.items
  pub thunks_ordered : IsStrictlyIncreasing linked.thunks.items
  -- there is nothing else
  pub everything : (q : ℕ) → q < length linked.words.items
      → IsSomewhere units linked.starts.items (4 * q)

-- ---- where calls lead

-- a relocation of a unit, both of these numbers, is a call to a symbol that the unit of another
-- number defines, at a place of its own
pub record IsCallTo (units : List Unit) (i : ℕ) (unit : Unit) (k : ℕ) (r : Relocation) (j own : ℕ)
    : Type 0 where
  pub unit_is : IsUnit units i unit
  pub reloc_is : IsReloc unit k r
  pub call : IsTrue (is_call r.1)
  pub defined : Defines units j r.2 own

-- the branch at a place of words leads to another place: its field of 26 bits, as a signed number,
-- times 4 is the distance
abbrev pub BranchesTo : List ℕ → ℕ → ℕ → Type 0
BranchesTo words place stop = pos place +ℤ distance_in Branch26 (word_at words place) ≡ pos stop

-- wherever the words are loaded, a machine that stands at a place of theirs is at another place
-- after four steps, and of its registers only x16 and x17 may have changed
abbrev pub RunsTo : List ℕ → ℕ → ℕ → Type 0
RunsTo words place stop =
    (code : Loaded) (old : Machine) → StandAt code.bytes 0 words → IsAt code old place
    → Arrives (fetched code) old (wrapped (code.base + stop))

-- the branch at a place leads to a thunk that is listed, and from there the machine runs to the
-- goal
pub record GoesThrough (linked : Linked) (thunk place goal : ℕ) : Type 0 where
  pub listed : Contains linked.thunks.items thunk
  pub branches : BranchesTo linked.words.items place thunk
  pub runs : RunsTo linked.words.items thunk goal

-- the word of a call, at a place, is a branch, which leads to the call's goal by itself where the
-- span of the two units is near, and else through a thunk of its own
pub record CallArrives (units : List Unit) (linked : Linked) (i : ℕ) (unit : Unit) (k : ℕ)
    (j place goal : ℕ) : Type 0 where
  pub branch : Matches rows.Branch26 (word_at linked.words.items place)
  pub straight : span units i j ≤ near → BranchesTo linked.words.items place goal
  pub through : near < span units i j
      → GoesThrough linked (thunk_of units linked.starts.items i unit k) place goal

-- each call leads to where its symbol is defined
abbrev pub CallsArrive : List Unit → Linked → Type 0
CallsArrive units linked =
    (i : ℕ) (unit : Unit) (k : ℕ) (r : Relocation) (j own : ℕ) → IsCallTo units i unit k r j own
    → CallArrives units linked i unit k j (start_of linked.starts.items i + r.0)
    (start_of linked.starts.items j + own)
