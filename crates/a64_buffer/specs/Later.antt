-- What stays true of a buffer as islands are added to it.
use Rattle.std.specs.Prelude.{ℕ, ◌≡◌, ◌⊎◌, ◌<◌, ◌≤◌, List, ◌++◌, length, slice_index}
use Rattle.std.specs.Prelude.{slice_index_or, Some, None, IfSome}
use Rattle.std.specs.Ordering.{nat_cmp}
use Rattle.std.specs.FinMap.{FinMap, get}
use Rattle.a64_base.specs.declared.entity.TrapCode.{TrapCode}
use Rattle.a64_buffer.specs.declared.site.Use.{Use}
use Rattle.a64_buffer.specs.declared.site.Target.TheVariants.{IslandEnd}
use Rattle.a64_buffer.specs.Buffer.{Records, Buffer, end_of, goal_of}
use Rattle.a64_buffer.specs.ByPlace.{AreByPlace}

-- a use later on: the same use; a stop that it has stays, and one that it gets is at the end from
-- which it waited, or behind it
pub record IsSameUse {K : Type 0} (end : ℕ) (u v : Use K) : Type 0 where
  pub offset : v.offset ≡ u.offset
  pub target : v.target ≡ u.target
  pub kind : v.kind ≡ u.kind
  pub kept : (stop : ℕ) → u.stop ≡ Some stop → v.stop ≡ Some stop
  pub later : (stop : ℕ) → u.stop ≡ None → v.stop ≡ Some stop → end ≤ stop

-- traps later on: those of before, and behind them such as stand between the two ends, by place
pub record HasMoreTraps (from to : ℕ) (traps traps' : List (ℕ × TrapCode)) : Type 0 where
  pub more : List (ℕ × TrapCode)
  pub are : traps' ≡ traps ++ more
  pub stand : AreByPlace (λ t. t.0) from to more

-- a list later on: the items of before, and more behind them
pub record HasMore {A : Type 0} (items items' : List A) : Type 0 where
  pub more : List A
  pub are : items' ≡ items ++ more

-- records later on: those of before, and more behind them
pub record HasMoreRecords (records records' : Records) : Type 0 where
  pub relocs : HasMore records.relocs records'.relocs
  pub calls : HasMore records.calls records'.calls
  pub patchable : HasMore records.patchable records'.patchable
  pub maps : HasMore records.maps records'.maps

-- a buffer later on: its words, uses, labels, traps and records stay, new uses stand at a place or
-- behind it, and new traps at its old end or behind it
pub record IsLaterFrom {K : Type 0} (from : ℕ) (b b' : Buffer K) : Type 0 where
  pub end : end_of b ≤ end_of b'
  pub words : (i : ℕ) → i < length b.words → slice_index b'.words i ≡ slice_index b.words i
  pub count : length b.uses ≤ length b'.uses
  pub uses :
      (k : ℕ) (d : Use K) → k < length b.uses
      → IsSameUse (end_of b) (slice_index_or b.uses k d) (slice_index_or b'.uses k d)
  pub fresh :
      (k : ℕ) (d : Use K) → length b.uses ≤ k → k < length b'.uses
      → from ≤ (slice_index_or b'.uses k d).offset
  pub labels :
      (label place : ℕ) → get b.labels label ≡ Some place → get b'.labels label ≡ Some place
  pub constants : b'.constants ≡ b.constants
  pub traps : HasMoreTraps (end_of b) (end_of b') b.traps b'.traps
  pub records : HasMoreRecords b.records b'.records

-- a buffer later on, all of whose new uses stand at its old end or behind it
abbrev pub IsLater : {K : Type 0} → Buffer K → Buffer K → Type 0
IsLater b b' = IsLaterFrom (end_of b) b b'

-- a use that has a stop leads below an end, to its label's place, or, where it is the jump over an
-- island, has that as its target
abbrev pub HasStopBelow : {K : Type 0} → ℕ → FinMap nat_cmp ℕ → Use K → Type 0
HasStopBelow end labels u =
    IfSome u.stop
    (λ stop. (stop < end) ⊎ (goal_of labels u.target ≡ Some stop) ⊎ (u.target ≡ IslandEnd))
