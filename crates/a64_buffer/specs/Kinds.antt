-- What the kinds of label uses of a machine mean.
use Rattle.std.specs.Prelude.{ℕ, ℤ, pos, ◌+ℤ◌, Bool, IsTrue, ◌≡◌, ◌+◌, ◌-◌, ◌*◌, ◌%◌, ◌^◌, ◌<◌}
use Rattle.std.specs.Prelude.{◌≤◌, nat_eq, if◌then◌else◌, MatchBool, List, length, Option}
use Rattle.a64_base.specs.declared.entity.Reloc.{Reloc}
use Rattle.a64_words.specs.Word.{signed, word_at, StandAt}

-- the meanings of a type of kinds; distances and ranges are bytes
pub record Kinds (K : Type 0) : Type 0 where
  -- the bits of the word that a use of the kind may change
  pub mask : K → ℕ
  -- the signed distance that the word says
  pub field : K → ℕ → ℤ
  -- how far ahead and how far behind the place may be
  pub forward : K → ℕ
  pub backward : K → ℕ
  -- whether the distance is added to the word
  pub adds : K → Bool
  -- whether the word counts the distance in words
  pub counts_words : K → Bool
  -- whether a use of the kind may lead to a veneer in place of its label
  pub veneers : K → Bool
  -- how soon a use of the kind wants a word in an island: 1 is soonest, 3 last, and 0 never
  pub urgency : K → ℕ
  -- how far ahead of it the place of a use may be, by its urgency from 1 to 3
  pub range : ℕ → ℕ
  -- the kind of a jump, and its word before a distance is in it
  pub jump : K
  pub jump_word : ℕ
  -- the words of a far veneer but for its last, and the kind of that one
  pub far_words : List ℕ
  pub far_use : K
  -- the word that traps
  pub trap_word : ℕ
  -- the kind that a relocation with an addend is
  pub relocated : Reloc → ℤ → Option K

-- a place is in a use's range, both ends included
pub record IsWithin (forward backward use_offset place : ℕ) : Type 0 where
  pub ahead : place ≤ use_offset + forward
  pub behind : use_offset ≤ place + backward

module _ {K : Type 0} (r : Kinds K) where
  -- the finished word of a use, whose word was put as `put`, leads to a place
  abbrev pub GoesTo : K → ℕ → ℕ → ℕ → ℕ → Type 0
  GoesTo kind put word use_offset place =
      MatchBool (r.adds kind)
      ((word + use_offset) % 2 ^ 32 ≡ (put + place) % 2 ^ 32)
      (pos use_offset +ℤ r.field kind word ≡ pos place)

  -- what the word of a use says once it leads to a place: the distance; where the kind adds, the
  -- word as it was put and the distance, as a signed number
  abbrev pub SaysDistance : K → ℕ → ℕ → ℕ → ℕ → Type 0
  SaysDistance kind put word use_offset place =
      MatchBool (r.adds kind)
      (r.field kind word ≡ signed 32 ((put + place + (2 ^ 32 - use_offset)) % 2 ^ 32))
      (pos use_offset +ℤ r.field kind word ≡ pos place)

  -- how many bytes a veneer of the kind has
  abbrev pub veneer_bytes : K → ℕ
  veneer_bytes kind = if nat_eq (r.urgency kind) 3 then 4 * length r.far_words + 4 else 4

  -- the bytes of a veneer that is one jump word, and the use that it is
  pub record IsJumpVeneer (offset : ℕ) (new : List ℕ) (use' : ℕ × K) : Type 0 where
    pub word : word_at new 0 ≡ r.jump_word
    pub is : use' ≡ (offset, r.jump)

  -- the bytes of a far veneer, whose last word stays as it was, and the use which that is
  pub record IsFarVeneer (offset : ℕ) (old new : List ℕ) (use' : ℕ × K) : Type 0 where
    pub words : StandAt new 0 r.far_words
    pub last : word_at new (4 * length r.far_words) ≡ word_at old (4 * length r.far_words)
    pub is : use' ≡ (offset + 4 * length r.far_words, r.far_use)

  abbrev pub IsVeneer : K → ℕ → List ℕ → List ℕ → ℕ × K → Type 0
  IsVeneer kind offset old new use' =
      MatchBool (nat_eq (r.urgency kind) 3) (IsFarVeneer offset old new use')
      (IsJumpVeneer offset new use')

  -- the laws of the kinds
  pub record IsLawful : Type 0 where
    -- a kind that adds has the whole word as its mask, and the whole word as a signed number is
    -- what it says
    pub whole_mask : (kind : K) → IsTrue (r.adds kind) → r.mask kind ≡ 2 ^ 32 - 1
    pub whole_field : (kind : K) → IsTrue (r.adds kind) → (word : ℕ) → word < 2 ^ 32
        → r.field kind word ≡ signed 32 word
    -- urgency and veneers agree
    pub urgency_most : (kind : K) → r.urgency kind ≤ 3
    pub veneer_urgency : (kind : K) → IsTrue (r.veneers kind) → 1 ≤ r.urgency kind
    pub urgent_replaces : (kind : K) → 1 ≤ r.urgency kind → IsTrue (r.adds kind) → ⊥
    pub jump_veneers : IsTrue (r.veneers r.jump)
    pub jump_urgency : r.urgency r.jump ≡ 3
    pub far_adds : IsTrue (r.adds r.far_use)
    pub far_urgency : r.urgency r.far_use ≡ 0
    pub far_forward : r.forward r.far_use ≡ 2 ^ 31 - 1
    -- ranges grow with urgency, the last is far the longest, and none is longer ahead than behind
    pub one_range : (kind : K) → 1 ≤ r.urgency kind → r.forward kind ≡ r.range (r.urgency kind)
    pub range_second : r.range 1 ≤ r.range 2
    pub range_third : r.range 2 ≤ r.range 3
    pub third_of_first : 8 * r.range 1 ≤ r.range 3
    pub third_of_second : 8 * r.range 2 ≤ r.range 3
    pub third_least : 4 ≤ r.range 3
    pub third_short : r.range 3 < 2 ^ 32
    pub backward_more : (kind : K) → r.forward kind ≤ r.backward kind
    -- a far veneer has five words at most
    pub far_length : length r.far_words ≤ 4
