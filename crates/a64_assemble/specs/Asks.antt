-- What an element does to a buffer that may write islands.
use Rattle.std.specs.Prelude.{ℕ, ◌≡◌, ◌⊎◌, ◌+◌, ◌-◌, ◌^◌, ◌<◌, Bool, true, List, [], ◌∷◌, Option}
use Rattle.std.specs.Prelude.{None, Some}
use Rattle.std.specs.FinMap.{get}
use Rattle.a64_buffer.specs.declared.force.ForceVeneers.{ForceVeneers}
use Rattle.a64_buffer.specs.declared.force.ForceVeneers.TheVariants.{No, Yes}
use Rattle.a64_buffer.specs.Buffer.{Buffer, end_of}
use Rattle.a64_buffer.specs.Classes.{owed, Fits}
use Rattle.a64_buffer.specs.Sound.{IsWhole}
use Rattle.a64_buffer.specs.Islands.{HasIsland}
use Rattle.a64_label_use.specs.declared.label_use.LabelUse.{LabelUse}
use Rattle.a64_label_use.specs.LabelUses.{label_kinds}
use Rattle.a64_cells.specs.Shapes.{Cell}
use Rattle.a64_emit.specs.Emission.{appended, Binds}
use Rattle.a64_assemble.specs.Elements.{Element, Binding, Words, Asking, growth_in, whole_in}
use Rattle.a64_assemble.specs.Elements.{IsCompact, next_room, room_of}

-- an island was written, because it was needed, or asked for by force while some use waited;
-- another setting says whether it gives veneers to all far uses by force, and one whether it begins
-- with a jump
pub record Writes (distance : ℕ) (asked force : ForceVeneers) (jump : Bool)
    (b b' : Buffer LabelUse) : Type 0 where
  pub cause : (Fits label_kinds b distance → ⊥)
      ⊎ ((asked ≡ Yes) × (Fits label_kinds b (2 ^ 32 - 1) → ⊥))
  pub island : HasIsland label_kinds distance force jump b b'

-- none was, since none was needed, nor asked for by force while some use waited
pub record Leaves (distance : ℕ) (asked : ForceVeneers) (b b' : Buffer LabelUse) : Type 0 where
  pub fits : Fits label_kinds b distance
  pub unforced : asked ≡ Yes → Fits label_kinds b (2 ^ 32 - 1)
  pub same : b' ≡ b

-- room for so many bytes was asked for
pub record Asks (distance : ℕ) (asked force : ForceVeneers) (jump : Bool)
    (b b' : Buffer LabelUse) : Type 0 where
  pub whole : IsWhole label_kinds b
  pub outcome : Writes distance asked force jump b b' ⊎ Leaves distance asked b b'

-- before the next words an island comes only where it is needed, with a jump where execution may
-- come to it
abbrev pub AsksNext : ForceVeneers → Bool → Option ℕ → Buffer LabelUse → Buffer LabelUse → Type 0
AsksNext force goes_on None b b' = b' ≡ b
AsksNext force goes_on (Some distance) b b' = Asks distance No force goes_on b b'

-- words were put, and then the room was asked for that is needed next
abbrev pub PutsWords : ForceVeneers → Bool → List Cell → List Element → Buffer LabelUse
    → Buffer LabelUse → Type 0
PutsWords force goes_on [] rest b b' = b' ≡ b
PutsWords force goes_on (c ∷ cs) rest b b' =
    AsksNext force goes_on (next_room rest) (appended b (c ∷ cs)) b'

-- what an element in front of the rest did to a buffer
abbrev pub Moves : ForceVeneers → Element → List Element → Buffer LabelUse → Buffer LabelUse
    → Type 0
Moves force (Binding label) rest b b' = Binds (record { 0 = label }) b b'
Moves force (Words goes_on cells) rest b b' = PutsWords force goes_on cells rest b b'
Moves force (Asking space) rest b b' = Asks space force force true b b'

-- the label that an element binds, if it binds one, is not bound yet
abbrev pub IsFreeToBind : Buffer LabelUse → Element → Type 0
IsFreeToBind b (Binding label) = get b.labels label ≡ None
IsFreeToBind b (Words goes_on cells) = Unit {0}
IsFreeToBind b (Asking space) = Unit {0}

-- behind words there is room for what follows them, without an island
abbrev pub HasNextRoom : List Cell → List Element → Buffer LabelUse → Type 0
HasNextRoom [] rest b = Unit {0}
HasNextRoom (c ∷ cs) rest b =
    (distance : ℕ) → next_room rest ≡ Some distance
    → Fits label_kinds (appended b (c ∷ cs)) distance

-- the same of an element: no island is needed behind it, nor forced while some use waits
abbrev pub NeedsNone : ForceVeneers → Element → List Element → Buffer LabelUse → Type 0
NeedsNone force (Binding label) rest b = Unit {0}
NeedsNone force (Words goes_on cells) rest b = HasNextRoom cells rest b
NeedsNone force (Asking space) rest b =
    Fits label_kinds b space × (force ≡ Yes → Fits label_kinds b (2 ^ 32 - 1))

-- what an element in front of the rest needs of a buffer
pub record MayMove (x : Element) (rest : List Element) (b : Buffer LabelUse) : Type 0 where
  pub whole : IsWhole label_kinds b
  pub fits : Fits label_kinds b (room_of (x ∷ rest))
  pub short : end_of b + owed label_kinds b + growth_in x < 2 ^ 31
  pub compact : IsCompact x
  pub unbound : IsFreeToBind b x
  pub rest_short : whole_in rest < 2 ^ 31
