-- How the words of uses come to lead to their stops.
use Rattle.std.specs.Prelude.{ℕ, ◌≡◌, ◌≢◌, ◌⊎◌, ◌↔◌, ◌+◌, ◌*◌, ◌/◌, ◌%◌, ◌<◌, ◌≤◌, List, All}
use Rattle.std.specs.Prelude.{Contains, map, length, slice_index, IfSome, Some}
use Rattle.std.specs.List.Sorted.{IsStrictlyIncreasing}
use Rattle.std.specs.Ordering.{nat_cmp}
use Rattle.std.specs.FinMap.{FinMap, get}
use Rattle.a64_base.specs.declared.entity.MachLabel.{MachLabel}
use Rattle.a64_buffer.specs.declared.site.Use.{Use}
use Rattle.a64_words.specs.Word.{outside, word_at}
use Rattle.a64_buffer.specs.Kinds.{Kinds, IsWithin, GoesTo}
use Rattle.a64_buffer.specs.declared.finish.Finished.{Finished}
use Rattle.a64_buffer.specs.Buffer.{Buffer, IsFree}

-- code that has these words
pub record IsCodeOf (words code : List ℕ) : Type 0 where
  pub same_length : length code ≡ 4 * length words
  pub at : (i : ℕ) → i < length words → word_at code (4 * i) ≡ slice_index words i

-- a list has each label of a map once with its place, by number
pub record Lists (labels : FinMap nat_cmp ℕ) (list : List (MachLabel × ℕ)) : Type 0 where
  pub ordered : IsStrictlyIncreasing (map (λ e. e.0.0) list)
  pub listed : (label : MachLabel) (place : ℕ) → Contains list (label, place)
      ↔ (get labels label.0 ≡ Some place)

module _ {K : Type 0} (r : Kinds K) where
  -- a use of this kind at an offset may lead to a place
  pub record Reaches (kind : K) (offset place : ℕ) : Type 0 where
    pub within : IsWithin (r.forward kind) (r.backward kind) offset place
    pub aligned : place % 4 ≡ offset % 4

  -- a use may lead to its stop, where it has one
  abbrev pub MayLead : Use K → Type 0
  MayLead u = IfSome u.stop (Reaches u.kind u.offset)

  -- the word at an offset was made to lead to a place, and the other words stayed
  pub record Patches (kind : K) (offset place : ℕ) (old new : List ℕ) : Type 0 where
    pub others : (i : ℕ) → i ≢ offset / 4 → slice_index new i ≡ slice_index old i
    pub rest : outside (r.mask kind) (slice_index new (offset / 4))
        ≡ outside (r.mask kind) (slice_index old (offset / 4))
    pub leads : GoesTo r kind (slice_index old (offset / 4)) (slice_index new (offset / 4)) offset
        place

  -- the word at an offset of code was made to lead to a place, and those apart from it stayed
  pub record PatchesCode (kind : K) (offset place : ℕ) (old new : List ℕ) : Type 0 where
    pub others : (p : ℕ) → (p + 4 ≤ offset) ⊎ (offset + 4 ≤ p) → word_at new p ≡ word_at old p
    pub rest : outside (r.mask kind) (word_at new offset)
        ≡ outside (r.mask kind) (word_at old offset)
    pub leads : GoesTo r kind (word_at old offset) (word_at new offset) offset place

  -- the word of a use leads to its stop, where it has one, and is otherwise as it was put
  pub record IsLed (put : ℕ) (u : Use K) (word : ℕ) : Type 0 where
    pub rest : outside (r.mask u.kind) word ≡ outside (r.mask u.kind) put
    pub leads : IfSome u.stop (GoesTo r u.kind put word u.offset)

  -- words in which the given uses lead to their stops, where they have one
  pub record AreSettled (put : List ℕ) (uses : List (Use K)) (words : List ℕ) : Type 0 where
    pub same_length : length words ≡ length put
    pub free : (i : ℕ) → i < length put → IsFree uses (4 * i)
        → slice_index words i ≡ slice_index put i
    pub settled : All
        (λ u. IsLed (slice_index put (u.offset / 4)) u (slice_index words (u.offset / 4))) uses

  -- code of such words
  pub record IsSettledCode (put : List ℕ) (uses : List (Use K)) (code : List ℕ) : Type 0 where
    pub words : List ℕ
    pub settled : AreSettled put uses words
    pub bytes : IsCodeOf words code

  -- code of a buffer in which each use leads to its stop, where it has one
  pub record IsCode (b : Buffer K) (pool : ℕ) (code : Finished) : Type 0 where
    pub words : List ℕ
    pub settled : AreSettled b.words b.uses words
    pub bytes : IsCodeOf words code.bytes.items
    pub labels : Lists b.labels code.labels.items
    pub islands : code.islands.items ≡ b.islands
    pub pool_is : code.pool ≡ pool
    pub traps : code.traps.items ≡ b.traps
    pub relocs : code.relocs.items ≡ b.records.relocs
    pub calls : code.calls.items ≡ b.records.calls
    pub patchable : code.patchable.items ≡ b.records.patchable
    pub maps : code.maps.items ≡ b.records.maps
