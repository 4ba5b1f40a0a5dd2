-- What stands in linked code.
use Rattle.std.specs.Prelude.{ℕ, pos, ◌≡◌, ◌⊎◌, ◌+◌, ◌*◌, ◌/◌, ◌%◌, ◌<◌, ◌≤◌, ◌^◌, ◌+ℤ◌}
use Rattle.std.specs.Prelude.{if◌then◌else◌, IsTrue, MatchBool, List, [], ◌∷◌, ◌++◌, length, get_or}
use Rattle.std.specs.Prelude.{slice_set, Some}
use Rattle.std.specs.Ordering.{nat_cmp}
use Rattle.std.specs.FinMap.{FinMap}
use Rattle.a64_base.specs.declared.entity.ExternalName.{ExternalName}
use Rattle.a64_imms.specs.Offsets.{residue}
use Rattle.a64_words.specs.Word.{signed, outside, mask_of}
use Rattle.a64_label_use.specs.declared.label_use.LabelUse.TheVariants.{Branch26}
use Rattle.a64_label_use.specs.LabelUses.{distance_in}
use Rattle.a64_label_use.specs.FarJumps.{LeadFar}
use Rattle.a64_link.specs.declared.unit.Unit.{Unit}
use Rattle.a64_link.specs.declared.unit.Symbol.{Symbol}
use Rattle.a64_link.specs.Units.{Relocation, is_call, size, room, near, symbol_of}
use Rattle.a64_link.specs.Layout.{AreSums, AreSymbols, AreStarts, IsUnit, start_of, goal_of}
use Rattle.a64_link.specs.Layout.{thunk_of, stop_of, is_far, end_before}

-- the word at a place
abbrev pub word_at : List ℕ → ℕ → ℕ
word_at words place = get_or words (place / 4) 0

-- how many bytes a relocation's site has
abbrev pub site_size : Relocation → ℕ
site_size r = if is_call r.1 then 4 else 8

-- ---- what stands at sites

-- a far veneer at a place, which leads to another one
pub record IsThunk (words : List ℕ) (thunk goal : ℕ) : Type 0 where
  pub first : word_at words thunk ≡ 0x98000090
  pub second : word_at words (thunk + 4) ≡ 0x10000071
  pub third : word_at words (thunk + 8) ≡ 0x8b110210
  pub fourth : word_at words (thunk + 12) ≡ 0xd61f0200
  pub says : pos (thunk + 16) +ℤ signed 32 (word_at words (thunk + 16)) ≡ pos goal
  pub runs : LeadFar (thunk + 16) (word_at words (thunk + 16)) goal

-- a branch at a place keeps what is outside of its field, and leads to another place
pub record IsBranch (before after place goal : ℕ) : Type 0 where
  pub rest : outside (mask_of 0 26) after ≡ outside (mask_of 0 26) before
  pub leads : pos place +ℤ distance_in Branch26 after ≡ pos goal

-- ---- what putting a relocation does

-- a branch was made to lead from a place to another
pub record IsLed (old new : List ℕ) (at place goal : ℕ) : Type 0 where
  pub word : ℕ
  pub is : new ≡ slice_set old at word
  pub branch : IsBranch (get_or old at 0) word place goal

-- a thunk was put behind words
pub record IsThunkPut (old new : List ℕ) (goal : ℕ) : Type 0 where
  pub last : ℕ
  pub is : new ≡ old ++ 0x98000090 ∷ 0x10000071 ∷ 0x8b110210 ∷ 0xd61f0200 ∷ last ∷ []
  pub says : pos (4 * length old + 16) +ℤ signed 32 last ≡ pos goal
  pub runs : LeadFar (4 * length old + 16) last goal

pub record IsFarPut (old new : List ℕ) (at place goal : ℕ) : Type 0 where
  pub mid : List ℕ
  pub put : IsThunkPut old mid goal
  pub led : IsLed mid new at place (4 * length old)

pub record IsAddressPut (old new : List ℕ) (at value : ℕ) : Type 0 where
  pub low : ℕ
  pub high : ℕ
  pub is : new ≡ slice_set (slice_set old at low) (at + 1) high
  pub value_is : low + 2 ^ 32 * high ≡ value

-- ---- what may be linked

-- the relocation of this number of a unit
pub record IsReloc (unit : Unit) (k : ℕ) (r : Relocation) : Type 0 where
  pub within : k < length unit.relocs.items
  pub is : (d : Relocation) → get_or unit.relocs.items k d ≡ r

-- a site has whole words of its unit
pub record IsSite (unit : Unit) (r : Relocation) : Type 0 where
  pub aligned : r.0 % 4 ≡ 0
  pub within : r.0 + site_size r ≤ size unit

-- two sites have no byte in common
abbrev pub AreApart : Relocation → Relocation → Type 0
AreApart a b = (a.0 + site_size a ≤ b.0) ⊎ (b.0 + site_size b ≤ a.0)

module _ (units : List Unit) where
  -- a symbol stands at a word of its unit
  pub record IsPlaced (symbol : Symbol) : Type 0 where
    pub aligned : symbol.place % 4 ≡ 0
    pub within : (unit : Unit) → IsUnit units symbol.unit unit → symbol.place < size unit

  -- nothing is wrong with the relocations of a unit
  pub record AreSites (unit : Unit) : Type 0 where
    pub sites : (k : ℕ) (r : Relocation) → IsReloc unit k r → IsSite unit r
    pub apart : (j k : ℕ) (a b : Relocation) → j < k → IsReloc unit j a → IsReloc unit k b
        → AreApart a b
    pub known : (k : ℕ) (r : Relocation) → IsReloc unit k r
        → (s : Symbol) × (symbol_of units r.2 ≡ Some s)
    pub near : (k : ℕ) (r : Relocation) → IsReloc unit k r → IsTrue (is_call r.1) → room unit ≤ near

  pub record AreLinkable : Type 0 where
    pub placed : (name : ExternalName) (s : Symbol) → symbol_of units name ≡ Some s → IsPlaced s
    pub sites : (i : ℕ) (unit : Unit) → IsUnit units i unit → AreSites unit

  -- what is known of units that are linked
  pub record IsPlan (sums : List ℕ) (symbols : FinMap nat_cmp Symbol) (starts : List ℕ)
      : Type 0 where
    pub sums_are : AreSums units sums
    pub symbols_are : AreSymbols units symbols
    pub starts_are : AreStarts units starts
    pub linkable : AreLinkable

  -- a call stands in words, by the starts of units
  pub record CallStands (starts words : List ℕ) (i : ℕ) (unit : Unit) (k : ℕ) (r : Relocation)
      (s : Symbol) : Type 0 where
    pub branch : IsBranch (word_at unit.words.items r.0) (word_at words (start_of starts i + r.0))
        (start_of starts i + r.0) (stop_of units starts i unit k r s)
    pub thunk : IsTrue (is_far units i r)
        → IsThunk words (thunk_of units starts i unit k) (goal_of starts s)

  module _ (base : ℕ) (starts : List ℕ) where
    -- the number that stands at the site of an address
    abbrev pub address_of : Relocation → Symbol → ℕ
    address_of r s = residue (2 ^ 64) (pos (base + goal_of starts s) +ℤ r.3)

    abbrev pub AddressStands : List ℕ → ℕ → Relocation → Symbol → Type 0
    AddressStands words i r s =
        word_at words (start_of starts i + r.0)
        + 2 ^ 32 * word_at words (start_of starts i + r.0 + 4) ≡ address_of r s

    abbrev pub SiteStands : List ℕ → ℕ → Unit → ℕ → Relocation → Symbol → Type 0
    SiteStands words i unit k r s =
        MatchBool (is_call r.1) (CallStands starts words i unit k r s) (AddressStands words i r s)

    -- a place of a unit is none of a site of its first so many relocations
    abbrev pub IsPlain : Unit → ℕ → ℕ → Type 0
    IsPlain unit n place =
        (k : ℕ) (r : Relocation) → k < n → IsReloc unit k r
        → (place < r.0) ⊎ (r.0 + site_size r ≤ place)

    -- the words of a unit stand at its start, with the first so many of its relocations
    pub record StandsSoFar (words : List ℕ) (i : ℕ) (unit : Unit) (n : ℕ) : Type 0 where
      pub plain : (q : ℕ) → q < length unit.words.items → IsPlain unit n (4 * q)
          → word_at words (start_of starts i + 4 * q) ≡ get_or unit.words.items q 0
      pub sites : (k : ℕ) (r : Relocation) (s : Symbol) → k < n → IsReloc unit k r
          → symbol_of units r.2 ≡ Some s → SiteStands words i unit k r s

    -- a relocation of the unit of this number was put
    abbrev pub IsPutFor : ℕ → Relocation → Symbol → List ℕ → List ℕ → Type 0
    IsPutFor i r s old new =
        MatchBool (is_call r.1)
        (MatchBool (is_far units i r)
        (IsFarPut old new ((start_of starts i + r.0) / 4) (start_of starts i + r.0)
        (goal_of starts s))
        (IsLed old new ((start_of starts i + r.0) / 4) (start_of starts i + r.0)
        (goal_of starts s)))
        (IsAddressPut old new ((start_of starts i + r.0) / 4) (address_of r s))

    pub record IsPut (i : ℕ) (r : Relocation) (old new : List ℕ) : Type 0 where
      pub symbol : Symbol
      pub known : symbol_of units r.2 ≡ Some symbol
      pub put : IsPutFor i r symbol old new

    -- ---- a unit, and all units

    -- the unit of this number was put behind words, with the first so many of its relocations:
    -- zeros up to its start, its words, the thunks so far
    pub record IsUnitPut (i : ℕ) (unit : Unit) (old words : List ℕ) (n : ℕ) : Type 0 where
      pub behind : 4 * length old ≤ start_of starts i
      pub long : 4 * length words ≡ thunk_of units starts i unit n
      pub front : (q : ℕ) → q < length old → get_or words q 0 ≡ get_or old q 0
      pub gap : (q : ℕ) → length old ≤ q → 4 * q < start_of starts i → get_or words q 0 ≡ 0
      pub stands : StandsSoFar words i unit n

    -- the first so many units stand, and nothing else: words that are no site are those of the
    -- unit, sites hold what they should, and the gaps are zero
    pub record AreLinked (words : List ℕ) (n : ℕ) : Type 0 where
      pub long : 4 * length words ≡ end_before units starts n
      pub within : (i : ℕ) (unit : Unit) → i < n → IsUnit units i unit
          → thunk_of units starts i unit (length unit.relocs.items) ≤ 4 * length words
      pub gaps : (i : ℕ) → i < n → (q : ℕ) → end_before units starts i ≤ 4 * q
          → 4 * q < start_of starts i → get_or words q 0 ≡ 0
      pub stands : (i : ℕ) (unit : Unit) → i < n → IsUnit units i unit
          → StandsSoFar words i unit (length unit.relocs.items)
