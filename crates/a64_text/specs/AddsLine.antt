-- What taking a line into the state of the reader does.
use Rattle.std.specs.Prelude.{◌≡◌, ◌↔◌, ◌++◌, [], ◌∷◌, codes, List, ℕ, Bool, true, false, Option}
use Rattle.std.specs.Prelude.{Some, None, IfSome, IsSomeAnd}
use Rattle.std.proofs.Common.{Bor}
use Rattle.std.specs.BTreeSet.{BTreeSet, contains}
use Rattle.std.specs.List.{Contains, cons_option}
use Rattle.std.specs.declared.cmp.Ordering.{Ordering}
use Rattle.a64_inst.specs.declared.inst.Inst.{Inst}
use Rattle.a64_inst.specs.declared.item.Item.{Item}
use Rattle.a64_inst.specs.declared.item.Item.TheVariants.{Emit}
use Rattle.a64_text.specs.declared.entry.Entry.{Entry}
use Rattle.a64_text.specs.declared.entry.Entry.TheVariants as entries
use Rattle.a64_text.specs.declared.entry.OnceName.{OnceName}
use Rattle.a64_text.specs.declared.name.Name.{Name}
use Rattle.a64_text.specs.declared.state.ReaderState.{ReaderState}
use Rattle.a64_tokens.specs.declared.value.Value.{Value}
use Rattle.a64_text.specs.contracts.entry.OnceNameOrd.TheImpl as order
use Rattle.a64_tokens.specs.Reads.{Reads}
use Rattle.a64_tokens.specs.Splitting.{lines_of, first_line, lines_behind, of_text}
use Rattle.a64_text.specs.Tokens.{fields_of, line_of, name_of, IsEntry, IsPlain}
use Rattle.a64_text.specs.Makes.{Makes}
use Rattle.a64_text.specs.States.{contents_of, once_name, said, State, MayStand, state_after}

-- the order in which the reader keeps the names
abbrev pub once_cmp : OnceName → OnceName → Ordering
once_cmp = (order.ghosts).cmp

-- the set has these names and no others
abbrev pub HasNames : BTreeSet OnceName → List OnceName → Type 0
HasNames set names = (name : OnceName) → (contains once_cmp set name ≡ true) ↔ Contains names name

-- the reader's state is what was said
pub record Holds (reader : ReaderState) (state : State) : Type 0 where
  pub file : contents_of reader.file ≡ state.file
  pub given : HasNames reader.given state.given

-- true: the set had not the name, and has it now. False: it had the name
abbrev pub AddsName : BTreeSet OnceName → BTreeSet OnceName → Option OnceName → Bool → Type 0
AddsName old new name true =
    (names : List OnceName) → HasNames old names
    → IfSome name (λ n. ¬ Contains names n) × HasNames new (cons_option name names)
AddsName old new name false =
    (names : List OnceName) → HasNames old names → IsSomeAnd name (Contains names)

-- the line is the entry and no other, which may stand there; the state is now the one behind it
pub record Added (old new : ReaderState) (line : List ℕ) (entry : Entry) : Type 0 where
  pub read : Reads IsEntry line_of line (Some entry)
  pub stands : (state : State) → Holds old state → MayStand state entry
  pub holds : (state : State) → Holds old state → Holds new (state_after state entry)

-- no entry that the line is may stand there
abbrev pub AddsNothing : ReaderState → List ℕ → Type 0
AddsNothing old line =
    (e : Entry) → IsEntry e → line ≡ line_of e → (state : State) → Holds old state
    → ¬ MayStand state e

-- the entry is taken into the state. True: it may stand there. False: it may not, or there is none
abbrev pub AddsEntry : Option Entry → ReaderState → ReaderState → Bool → Type 0
AddsEntry None old new made = made ≡ false
AddsEntry (Some entry) old new made =
    AddsName old.given new.given (once_name entry) made
    × (made ≡ true → contents_of new.file ≡ said entry (contents_of old.file))

-- so is the entry that the name makes of the fields, where it makes one
abbrev pub AddsMade : Name → List Value → ReaderState → ReaderState → Bool → Type 0
AddsMade name values old new made =
    (r : Option Entry) × Makes name values r × AddsEntry r old new made

-- the last item is taken off: it was this instruction without a map, or else another item, or there
-- was none
abbrev pub PopsInst : List Item → List Item → Option Inst → Type 0
PopsInst old new (Some inst) = old ≡ new ++ Emit inst None ∷ []
PopsInst old new None = (items : List Item) (inst : Inst) → old ≡ items ++ Emit inst None ∷ [] → ⊥

-- true: the last item was taken off the file, and its instruction is one more that is restored.
-- False: the last item is no instruction without a map, or there is none
abbrev pub RestoresLast : ReaderState → ReaderState → Bool → Type 0
RestoresLast old new true =
    (items : List Item) × (inst : Inst) × (old.file.items.items ≡ items ++ Emit inst None ∷ [])
    × (new.given ≡ old.given)
    × (contents_of new.file
    ≡ said (entries.Restore inst) (record (contents_of old.file) { items = items }))
RestoresLast old new false = PopsInst old.file.items.items new.file.items.items None

-- true: the instruction of this name with these fields is taken into the state as one that is
-- restored. False: there is none without a map
abbrev pub AddsRestored : Name → List Value → ReaderState → ReaderState → Bool → Type 0
AddsRestored name values old new true =
    (inst : Inst) × Makes name values (Some (entries.Item (Emit inst None)))
    × AddsEntry (Some (entries.Restore inst)) old new true
AddsRestored name values old new false =
    (inst : Inst) → IsPlain (entries.Item (Emit inst None))
    → name_of (entries.Item (Emit inst None)) ≡ name
    → fields_of (entries.Item (Emit inst None)) ≡ values → (state : State) → ¬ Holds old state

-- what the name makes of the fields is taken into the state, as one that is restored where the flag
-- says so
abbrev pub AddsNamed : Bool → Name → List Value → ReaderState → ReaderState → Bool → Type 0
AddsNamed false name values old new made = AddsMade name values old new made
AddsNamed true name values old new made = AddsRestored name values old new made

-- what stands behind the word of instructions that are restored, where the text begins with it
abbrev pub IsBehindRestore : List ℕ → Option (Bor (List ℕ)) → Type 0
IsBehindRestore text None = (rest : List ℕ) → text ≡ codes "restore " ++ rest → ⊥
IsBehindRestore text (Some rest) = text ≡ codes "restore " ++ rest.now

-- Some: the first line of the text is taken into the state, and these are the lines behind it.
-- None: it is no entry that may stand there
abbrev pub AddsLine : ReaderState → ReaderState → List ℕ → Option (Option (Bor (List ℕ))) → Type 0
AddsLine old new text (Some lines) =
    ((entry : Entry) × Added old new (first_line text) entry)
    × (of_text lines_of lines ≡ lines_behind text)
AddsLine old new text None = AddsNothing old (first_line text)
