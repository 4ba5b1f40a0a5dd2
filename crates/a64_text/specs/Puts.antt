-- What the items become where a name and the fields behind it make an item.
use Rattle.std.specs.Prelude.{◌≡◌, ◌++◌, Bool, true, false, List, [], ◌∷◌, Option, Some, None}
use Rattle.a64_inst.specs.declared.item.Item.{Item}
use Rattle.a64_text.specs.declared.entry.Entry.{Entry}
use Rattle.a64_text.specs.declared.entry.Entry.TheVariants as entries
use Rattle.a64_text.specs.declared.name.Name.{Name}
use Rattle.a64_tokens.specs.declared.value.Value.{Value}
use Rattle.a64_text.specs.Makes.{Makes}

-- true: the entry's item stands behind the old ones. False: there is no entry, and the items are
-- the old ones
abbrev pub PutsEntry : Option Entry → List Item → List Item → Bool → Type 0
PutsEntry None old new made = (made ≡ false) × (new ≡ old)
PutsEntry (Some (entries.Item item)) old new made = (made ≡ true) × (new ≡ old ++ item ∷ [])
PutsEntry (Some (entries.Constant addr bytes)) old new made = ⊥
PutsEntry (Some (entries.Frame field bytes)) old new made = ⊥
PutsEntry (Some (entries.Flag flag)) old new made = ⊥
PutsEntry (Some (entries.Restore inst)) old new made = ⊥

-- the entry that the name makes of the fields, where it makes one, is an item and is put behind the
-- others
abbrev pub Puts : Name → List Value → List Item → List Item → Bool → Type 0
Puts name values old new made = (r : Option Entry) × Makes name values r × PutsEntry r old new made
