-- What an island leaves.
use Rattle.std.specs.Prelude.{ℕ, ◌≡◌, ◌⊎◌, ◌+◌, ◌≤◌, ◌<◌, Bool, true, false, List, ◌++◌, All}
use Rattle.std.specs.Prelude.{length, slice_index_or, Some, IfSome, IsSome}
use Rattle.std.specs.Ordering.{nat_cmp}
use Rattle.std.specs.FinMap.{FinMap}
use Rattle.a64_buffer.specs.declared.site.Use.{Use}
use Rattle.a64_buffer.specs.declared.site.Target.TheVariants.{IslandEnd}
use Rattle.a64_buffer.specs.declared.force.ForceVeneers.{ForceVeneers}
use Rattle.a64_buffer.specs.declared.force.ForceVeneers.TheVariants.{No, Yes}
use Rattle.a64_buffer.specs.Kinds.{Kinds}
use Rattle.a64_buffer.specs.Buffer.{Buffer, end_of, label_of, goal_of}
use Rattle.a64_buffer.specs.declared.class.Class.TheVariants.{Far}
use Rattle.a64_buffer.specs.Classes.{class, is_open, wants, owed, owed_to, Fits}
use Rattle.a64_buffer.specs.Later.{IsLater}
use Rattle.a64_buffer.specs.Sound.{HasJump, IsWhole}
use Rattle.a64_buffer.specs.Pieces.{front_size, listed, begun, Serves}

module _ {K : Type 0} (r : Kinds K) where
  -- a use that a veneer is, with the target of an older use
  pub record IsVeneerUse (b : Buffer K) (v : Use K) : Type 0 where
    pub parent : ℕ
    pub within : parent < length b.uses
    pub target : (d : Use K) → (slice_index_or b.uses parent d).target ≡ v.target
    pub labelled : IsSome (label_of v.target)
    pub kind : (v.kind ≡ r.jump) ⊎ (v.kind ≡ r.far_use)

  -- a new use of an island: the jump over it, where it has one, or a veneer's
  abbrev pub IsNewUse : Bool → Buffer K → Use K → Type 0
  IsNewUse true b v = ((v.target ≡ IslandEnd) × (v.offset ≡ end_of b)) ⊎ IsVeneerUse b v
  IsNewUse false b v = IsVeneerUse b v

  -- a use of the longest range has no stop from an end on yet, but for its label's place
  abbrev pub FarWaits : ℕ → FinMap nat_cmp ℕ → Use K → Type 0
  FarWaits end labels u =
      class r u ≡ Far → IfSome u.stop (λ stop. (stop < end) ⊎ (goal_of labels u.target ≡ Some stop))

  -- an island before its last part: whatever was open with another urgency, and each constant and
  -- trap, has its stop, and only uses of the longest range are left open
  pub record IsBeforePromotion (jump : Bool) (b w : Buffer K) : Type 0 where
    pub long : end_of b + front_size jump ≤ end_of w
    pub later : IsLater b w
    pub only_far : All (λ u. is_open r u ≡ true → class r u ≡ Far) w.uses
    pub far_waits : All (FarWaits (end_of b) b.labels) w.uses
    pub owed : end_of w + owed r w ≤ end_of b + owed r b + front_size jump

  -- the last part gives each open use of the longest range a veneer, where that is forced, or some
  -- would be out of reach without
  pub record Promotes (distance : ℕ) (force : ForceVeneers) (w b' : Buffer K) : Type 0 where
    pub closed : All (λ u. is_open r u ≡ false) b'.uses
    pub none_new : (k : ℕ) (d : Use K) → length w.uses ≤ k → k < length b'.uses
        → wants (class r (slice_index_or b'.uses k d)) ≡ false
    pub cause : (force ≡ Yes) ⊎ (Fits r w distance → ⊥)

  -- no use is given a veneer in the last part, and none would be out of reach
  pub record LeavesFar (distance : ℕ) (force : ForceVeneers) (w b' : Buffer K) : Type 0 where
    pub unforced : force ≡ No
    pub fits : Fits r w distance
    pub end : end_of b' ≡ end_of w
    pub count : length b'.uses ≡ length w.uses

  -- uses of the longest range are all given veneers, or none is
  pub record IsPromotion (distance : ℕ) (force : ForceVeneers) (jump : Bool) (b b' : Buffer K) :
      Type 0 where
    pub before : Buffer K
    pub is : IsBeforePromotion jump b before
    pub then' : IsLater before b'
    pub outcome : LeavesFar distance force before b' ⊎ Promotes distance force before b'

  -- an island was written at the end, with a jump at its start where one was asked for; else
  -- nothing stands before its contents (`serves`), and where nothing was open nothing was written
  pub record HasIsland (distance : ℕ) (force : ForceVeneers) (jump : Bool) (b b' : Buffer K) : Type
      0 where
    pub long : end_of b + front_size jump ≤ end_of b'
    pub islands : b'.islands ≡ b.islands ++ listed jump (end_of b) (end_of b')
    pub front : jump ≡ true → HasJump b'.uses (end_of b, end_of b')
    pub idle : jump ≡ false → All (λ u. is_open r u ≡ false) b.uses → b' ≡ b
    pub labels : b'.labels ≡ b.labels
    pub records : b'.records ≡ b.records
    pub later : IsLater b b'
    pub given :
        (k : ℕ) (d : Use K) → length b.uses ≤ k → k < length b'.uses
        → IsNewUse jump b (slice_index_or b'.uses k d)
    pub whole : IsWhole r b'
    pub fits : Fits r b' distance
    pub rooms : (more : ℕ) → Fits r b (more + 4) → Fits r b' more
    pub owed : end_of b' + owed r b' ≤ end_of b + owed r b + front_size jump
    pub owed_to : (test : ℕ → Bool) → owed_to r test b' ≤ owed_to r test b
    pub promotion : IsPromotion distance force jump b b'
    pub served : List (Use K)
    pub serves : Serves r b.labels b.constants served (begun r jump b) b'
