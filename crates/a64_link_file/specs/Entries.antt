-- The lines of a file of units.
use Rattle.std.specs.Prelude.{ℕ, ℤ, ◌≡◌, ◌+◌, ◌*◌, ◌^◌, ◌<◌, ◌≤◌, Bool, true, false, List, [], ◌∷◌}
use Rattle.std.specs.Prelude.{◌++◌, codes, length, map, replicate, Option, Some, None, MatchOption}
use Rattle.std.specs.Prelude.{option_map, Result, IfOk, ⊤}
use Rattle.std.specs.Fmt.{decimal}
use Rattle.std.specs.Option.{option_to_list}
use Rattle.a64_base.specs.declared.entity.ExternalName.{ExternalName}
use Rattle.a64_base.specs.declared.entity.Reloc as kinds
use Rattle.a64_lines.specs.Entries.{SaysBut}
use Rattle.a64_lines.specs.Lines as Lines
use Rattle.a64_link.specs.declared.unit.Unit.{Unit}
use Rattle.a64_link_file.specs.declared.entry.Entry.{Entry}
use Rattle.a64_link_file.specs.declared.entry.Entry.TheVariants as entries
use Rattle.a64_link_file.specs.declared.entry.Part.{Part}
use Rattle.a64_link_file.specs.declared.entry.Part.TheVariants.{Define, Word, Space, Reloc}
use Rattle.a64_link_file.specs.declared.file.LinkFile.{LinkFile}
use Rattle.a64_lines.specs.declared.error.LinesError.{LinesError}
use Rattle.a64_tokens.specs.Hex.{hex_word}
use Rattle.a64_tokens.specs.Reads.{IsU32, IsU64}
use Rattle.a64_reloc.specs.Halves.{pair_text}
use Rattle.a64_reloc.specs.Relocs.{IsReloc, reloc_line}

-- ---- lines

abbrev pub base_line : ℕ → List ℕ
base_line base = codes "base " ++ decimal base

-- a symbol by its number
abbrev pub name_text : ExternalName → List ℕ
name_text name = decimal name.0

abbrev pub define_line : ExternalName × ℕ → List ℕ
define_line definition = codes "define " ++ pair_text name_text decimal definition

abbrev pub word_line : ℕ × ℕ → List ℕ
word_line placed = codes "word " ++ pair_text decimal hex_word placed

abbrev pub space_line : ℕ → List ℕ
space_line count = codes "space " ++ decimal count

abbrev pub part_line : Part → List ℕ
part_line (Define definition) = define_line definition
part_line (Word placed) = word_line placed
part_line (Space count) = space_line count
part_line (Reloc reloc) = reloc_line reloc

-- the line of an entry
abbrev pub entry_line : Entry → List ℕ
entry_line (entries.Base base) = base_line base
entry_line entries.Unit = codes "unit"
entry_line (entries.Inside part) = part_line part

-- what an entry says is a number of its kind; no line makes more than 67,108,864 words zero
abbrev pub IsDefine : ExternalName × ℕ → Type 0
IsDefine definition = IsU32 definition.0.0 × IsU32 definition.1

abbrev pub IsWord : ℕ × ℕ → Type 0
IsWord placed = IsU32 placed.0 × IsU32 placed.1

abbrev pub IsSpace : ℕ → Type 0
IsSpace count = (1 ≤ count) × (count ≤ 67108864)

abbrev pub IsPart : Part → Type 0
IsPart (Define definition) = IsDefine definition
IsPart (Word placed) = IsWord placed
IsPart (Space count) = IsSpace count
IsPart (Reloc reloc) = IsReloc reloc

abbrev pub IsEntry : Entry → Type 0
IsEntry (entries.Base base) = IsU64 base
IsEntry entries.Unit = ⊤
IsEntry (entries.Inside part) = IsPart part

-- what lines begin with that tell something else, as those of a report do; they mean nothing here
abbrev pub passed_words : List (List ℕ)
passed_words =
    codes "item " ∷ codes "label " ∷ codes "island " ∷ codes "pool " ∷ codes "trap " ∷ codes "call "
    ∷ codes "patchable " ∷ codes "map " ∷ []

-- ---- what they say

-- the words, definitions and relocations of a unit
pub record UnitContents : Type 0 where
  pub words : List ℕ
  pub defines : List (ExternalName × ℕ)
  pub relocs : List (ℕ × kinds.Reloc × ExternalName × ℤ)

-- what a file says
pub record Contents : Type 0 where
  pub base : ℕ
  pub units : List UnitContents

abbrev pub unit_contents : Unit → UnitContents
unit_contents unit = record {
  words = unit.words.items;
  defines = unit.defines.items;
  relocs = unit.relocs.items;
}

abbrev pub contents_of : LinkFile → Contents
contents_of file = record { base = file.base; units = map unit_contents file.units.items }

-- what was said so far: the base, and whether one was given; the units before the one in which the
-- lines are, and that one, where one has begun; and how many words all have
pub record State : Type 0 where
  pub base : ℕ
  pub given : Bool
  pub done : List UnitContents
  pub current : Option UnitContents
  pub total : ℕ

-- before the first line
abbrev pub nothing : State
nothing = record { base = 0; given = false; done = []; current = None; total = 0 }

-- how many words an entry brings
abbrev pub words_brought : Part → ℕ
words_brought (Define definition) = 0
words_brought (Word placed) = 1
words_brought (Space count) = count
words_brought (Reloc reloc) = 0

-- a word stands at the place behind those of its unit
abbrev pub StandsBehind : UnitContents → Part → Type 0
StandsBehind unit (Word placed) = placed.0 ≡ 4 * length unit.words
StandsBehind unit _ = ⊤

-- an entry may stand there: a base where none was given, and what is inside a unit where one has
-- begun, as long as all units have fewer than 2 ^ 29 words with it
abbrev pub MayStand : State → Entry → Type 0
MayStand state (entries.Base base) = state.given ≡ false
MayStand state entries.Unit = ⊤
MayStand state (entries.Inside part) =
    MatchOption state.current ⊥
    (λ unit. StandsBehind unit part × (state.total + words_brought part < 2 ^ 29))

-- what a unit says with the entry too
abbrev pub with_part : Part → UnitContents → UnitContents
with_part (Define definition) unit = record unit { defines = unit.defines ++ definition ∷ [] }
with_part (Word placed) unit = record unit { words = unit.words ++ placed.1 ∷ [] }
with_part (Space count) unit = record unit { words = unit.words ++ replicate count 0 }
with_part (Reloc reloc) unit = record unit { relocs = unit.relocs ++ reloc ∷ [] }

abbrev pub no_words : UnitContents
no_words = record { words = []; defines = []; relocs = [] }

-- the unit in which the lines are is one of those before
abbrev pub closed : State → State
closed state = record state { done = state.done ++ option_to_list state.current; current = None }

-- what is said with the entry too
abbrev pub said : Entry → State → State
said (entries.Base base) old = record old { base = base; given = true }
said entries.Unit old = record (closed old) { current = Some no_words }
said (entries.Inside part) old =
    record old {
      current = option_map (with_part part) old.current;
      total = old.total + words_brought part;
    }

-- what the file says of which the lines are
abbrev pub contents_told : State → Contents
contents_told state = record { base = state.base; units = (closed state).done }

-- what a line says
abbrev pub says : List ℕ → State → State → Type 0
says = SaysBut IsEntry entry_line MayStand said passed_words

-- the bytes are this file
abbrev pub IsLinkFile : List ℕ → LinkFile → Type 0
IsLinkFile bytes file =
    (state : State) × Lines.IsFile says nothing bytes state
    × (contents_of file ≡ contents_told state)

-- what reading answers, in both directions
pub record AnswersFile (bytes : List ℕ) (result : Result LinkFile LinesError) : Type 0 where
  pub state : State
  pub answers : Lines.Answers says bytes nothing (Lines.told_by (λ _. state) result)
  pub file : IfOk result (λ file. contents_of file ≡ contents_told state)
