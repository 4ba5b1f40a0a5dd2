-- An item that is put behind the others is an entry that is taken into the state.
use Rattle.std.proofs.Common.{◌≡◌, ◌∙◌, ℕ, Bool, true, false, List, ◌++◌, Option, Some, None, refl, sym, ap, subst}
use Rattle.std.proofs.lemmas.Bool.{false≢true}
use Rattle.std.specs.Prelude.{codes, Result, Ok, Err, IfOk}
use Rattle.std.specs.Global.{Vec}
use Rattle.a64_inst.specs.declared.item.Item.{Item}
use Rattle.a64_text.specs.declared.entry.Entry.{Entry}
use Rattle.a64_text.specs.declared.entry.Entry.TheVariants as entries
use Rattle.a64_text.specs.declared.name.Name.{Name}
use Rattle.a64_text.specs.declared.state.ReaderState.{ReaderState}
use Rattle.a64_tokens.specs.declared.value.Value.{Value}
use Rattle.a64_text.specs.AddsLine.{Added, AddsName, AddsNothing, AddsEntry, AddsMade}
use Rattle.a64_text.specs.Puts.{PutsEntry, Puts}
use Rattle.a64_tokens.specs.Reads.{Reads}
use Rattle.a64_text.specs.States.{contents_of, once_name, said}
use Rattle.a64_text.specs.Tokens.{line_of, IsEntry}
use Rattle.a64_text.proofs.Givens.{added, not_added, no_entry}
use Rattle.a64_text.proofs.LineReads.{line_made, ReadsLine}
use Rattle.a64_text.proofs.Restores.{plain_read}

pub all_ok : {X E : Type 0} (P Q : X → Type 0) → ((x : X) → P x → Q x) → (r : Result X E) → IfOk r P → IfOk r Q
all_ok P Q f (Ok x) h = f x h
all_ok P Q f (Err e) h = tt

-- the states differ in their items at most
module _ (old new : ReaderState) (given : new.given ≡ old.given) (same : contents_of new.file ≡ record (contents_of old.file) { items = new.file.items.items }) where
  nothing_given : (made : Bool) → made ≡ true → AddsName old.given new.given None made
  nothing_given made is = subst (λ (b : Bool). AddsName old.given new.given None b) (sym is) (λ names h. (tt, rw given h))

  adds_put : (r : Option Entry) (made : Bool) → PutsEntry r old.file.items.items new.file.items.items made → AddsEntry r old new made
  adds_put None made h = h.0
  adds_put (Some (entries.Item item)) made h = (nothing_given made h.0, λ is. same ∙ ap (λ (items : List Item). record (contents_of old.file) { items = items }) h.1)
  adds_put (Some (entries.Constant addr bytes)) made h = absurd h
  adds_put (Some (entries.Frame field bytes)) made h = absurd h
  adds_put (Some (entries.Flag flag)) made h = absurd h
  adds_put (Some (entries.Restore inst)) made h = absurd h

  pub put_adds : (name its_name : Name) (values : List Value) (items : List Item) (made : Bool) → name ≡ its_name → items ≡ old.file.items.items → Puts its_name values items new.file.items.items made → AddsMade name values old new made
  put_adds name its_name values items made is stay h =
      let puts = subst (λ (l : List Item). Puts its_name values l new.file.items.items made) stay h in
      subst (λ (n : Name). AddsMade n values old new made) (sym is) (puts.0, puts.1, adds_put puts.0 made puts.2)

-- so is what a name adds, where room was made for an item that did not come
module _ (old new : ReaderState) (items : Vec Item) (made : Bool) (stay : items.items ≡ old.file.items.items) where
  room_made : (r : Option Entry) → AddsEntry r (record old { file = record old.file { items = items } }) new made → AddsEntry r old new made
  room_made None h = h
  room_made (Some entry) h = (h.0, λ yes. h.1 yes ∙ ap (λ (l : List Item). said entry (record (contents_of old.file) { items = l })) stay)

  pub others_add : (name its_name : Name) (values : List Value) → name ≡ its_name → AddsMade its_name values (record old { file = record old.file { items = items } }) new made → AddsMade name values old new made
  others_add name its_name values is h = subst (λ (n : Name). AddsMade n values old new made) (sym is) (h.0, h.1, room_made h.0 h.2)

-- ---- a line

module _ (line : List ℕ) (old new : ReaderState) (made : Bool) where
  adds_true : (r : Option Entry) → Reads IsEntry line_of line r → AddsEntry r old new made → made ≡ true → (e : Entry) × Added old new line e
  adds_true None read h is = absurd (false≢true (sym h ∙ is))
  adds_true (Some entry) read h is = added old new line entry (once_name entry) made read refl h.0 is (h.1 is)

  adds_false : (r : Option Entry) → Reads IsEntry line_of line r → AddsEntry r old new made → made ≡ false → AddsNothing old line
  adds_false None read h is = no_entry old line read
  adds_false (Some entry) read h is = not_added old new.given line entry (once_name entry) made read refl h.0 is

  module _ (other : (rest : List ℕ) → line ≡ codes "restore " ++ rest → ⊥) (name : Name) (values fields : List Value) (reads : ReadsLine line (Some (name, values))) (same : fields ≡ values) (adds : AddsMade name fields old new made) where
    read : Reads IsEntry line_of line adds.0
    read = plain_read line other adds.0 (line_made line name values fields adds.0 adds.0 reads same refl adds.1)

    pub line_added : made ≡ true → (e : Entry) × Added old new line e
    line_added is = adds_true adds.0 read adds.2 is

    pub line_refused : made ≡ false → AddsNothing old line
    line_refused is = adds_false adds.0 read adds.2 is
