-- Parts of code that the buffer itself writes.
use Rattle.std.specs.Prelude.{ℕ, ◌≡◌, ◌+◌, ◌*◌, ◌/◌, ◌<◌, ◌≤◌, List, length, slice_index}
use Rattle.std.specs.Prelude.{slice_index_or}
use Rattle.a64_buffer.specs.declared.site.Use.{Use}
use Rattle.a64_buffer.specs.declared.site.Target.{Target}
use Rattle.a64_buffer.specs.Buffer.{Buffer, end_of, IsFree}

-- so many bytes from a place on lie in one of some areas
pub record InArea (areas : List (ℕ × ℕ)) (place size : ℕ) : Type 0 where
  pub index : ℕ
  pub within : index < length areas
  pub begins : (slice_index_or areas index (0, 0)).0 ≤ place
  pub ends : place + size ≤ (slice_index_or areas index (0, 0)).1

module _ {K : Type 0} where
  -- at a place stands a use of this target and kind
  pub record HasUse (uses : List (Use K)) (place : ℕ) (target : Target) (kind : K) : Type 0 where
    pub index : ℕ
    pub within : index < length uses
    pub offset_is : (d : Use K) → (slice_index_or uses index d).offset ≡ place
    pub target_is : (d : Use K) → (slice_index_or uses index d).target ≡ target
    pub kind_is : (d : Use K) → (slice_index_or uses index d).kind ≡ kind

  -- these words stand from a place on, no use is made on them, and they are the first of so many
  -- bytes of an area
  pub record Stands (b : Buffer K) (areas : List (ℕ
      × ℕ)) (place : ℕ) (words : List ℕ) (size : ℕ) : Type 0 where
    pub at : (i : ℕ) → i < length words → slice_index b.words (place / 4 + i) ≡ slice_index words i
    pub free : (i : ℕ) → i < length words → IsFree b.uses (place + 4 * i)
    pub area : InArea areas place size
    pub long : 4 * length words ≤ size
    pub inside : place + size ≤ end_of b
