-- The open uses of a buffer, by rank and limit.
use Rattle.std.specs.Prelude.{ℕ, ◌≡◌, ◌≢◌, ◌⊎◌, ◌+◌, ◌-◌, ◌^◌, ◌<◌, ◌≤◌, true, List, [], All}
use Rattle.std.specs.Prelude.{Contains, length, slice_index_or, Option, IfSome, MatchOption}
use Rattle.std.specs.declared.cmp.Ordering.{Ordering}
use Rattle.std.specs.Ordering.{nat_cmp, ordering_then}
use Rattle.std.specs.BinaryHeap.{IsHeap, heap_items, heap_len, heap_capacity}
use Rattle.a64_buffer.specs.declared.site.Use.{Use}
use Rattle.a64_buffer.specs.declared.class.Class.{Class}
use Rattle.a64_buffer.specs.declared.class.Class.TheVariants.{Near, Middle, Load, Trapping, Far}
use Rattle.a64_buffer.specs.declared.class.Class.TheVariants.{Direct}
use Rattle.a64_buffer.specs.declared.queue.Queue.{Queue}
use Rattle.a64_buffer.specs.declared.room.Burdens.{Burdens}
use Rattle.a64_buffer.specs.Kinds.{Kinds}
use Rattle.a64_buffer.specs.Classes.{first, second, third, wants, class, rank_of, is_open, burden}

-- the order of entries: how far a limit is from the greatest number of 64 bits, and then the index
abbrev pub entry_cmp : ℕ × ℕ → ℕ × ℕ → Ordering
entry_cmp x y = ordering_then (nat_cmp x.0 y.0) (nat_cmp x.1 y.1)

-- the entry of a use with a limit, with its index
abbrev pub entry_of : ℕ → ℕ → ℕ × ℕ
entry_of limit index = (2 ^ 64 - 1 - limit, index)

abbrev pub entries : Queue → List (ℕ × ℕ)
entries q = heap_items q.strays

-- a queue that differs in its memory at most
pub record IsSameQueue (q q' : Queue) : Type 0 where
  pub limit : q'.limit ≡ q.limit
  pub first : q'.first ≡ q.first
  pub most : q'.most ≡ q.most
  pub next : q'.next ≡ q.next
  pub entries' : entries q' ≡ entries q

-- the queue of the longest range, to which alone islands add, has room for so many strays more
abbrev pub HaveRoomFor : ℕ → List Queue → Type 0
HaveRoomFor count queues =
    (q : Queue)
    → heap_len (slice_index_or queues 4 q).strays + count
    ≤ heap_capacity (slice_index_or queues 4 q).strays

-- a queue lost room for so many strays at most
abbrev pub LosesRoom : ℕ → Queue → Queue → Type 0
LosesRoom count q q' =
    heap_len q'.strays + heap_capacity q.strays
    ≤ heap_len q.strays + heap_capacity q'.strays + count

abbrev pub LoseRoom : ℕ → List Queue → List Queue → Type 0
LoseRoom count queues queues' =
    (rank : ℕ) (q : Queue) → rank < 5
    → LosesRoom count (slice_index_or queues rank q) (slice_index_or queues' rank q)

-- a queue has room for a use with a limit
abbrev pub HasRoomFor : ℕ → Queue → Type 0
HasRoomFor limit q = limit < q.most → heap_len q.strays < heap_capacity q.strays

-- the queue of a class that wants anything has room for a use with a limit
abbrev pub HaveRoomForOne : Class → ℕ → List Queue → Type 0
HaveRoomForOne c limit queues =
    (q : Queue) → wants c ≡ true → HasRoomFor limit (slice_index_or queues (rank_of c) q)

-- a place and the bytes before what each urgency gets are within the limits of all ranks
pub record ReachLimits (from first' second' third' : ℕ) (queues : List Queue) : Type 0 where
  pub near : (q : Queue) → from + first' ≤ (slice_index_or queues 0 q).limit
  pub load : (q : Queue) → from + second' ≤ (slice_index_or queues 1 q).limit
  pub trapping : (q : Queue) → from + second' ≤ (slice_index_or queues 2 q).limit
  pub middle : (q : Queue) → from + second' ≤ (slice_index_or queues 3 q).limit
  pub far : (q : Queue) → from + third' ≤ (slice_index_or queues 4 q).limit

-- the first rank below a limit in whose queue a use is open, with the index of that
pub record IsFoundAt (limit : ℕ) (queues : List Queue) (index rank : ℕ) : Type 0 where
  pub below : rank < limit
  pub some : (q : Queue) → (slice_index_or queues rank q).limit ≢ 2 ^ 64 - 1
  pub index_is : (q : Queue) → (slice_index_or queues rank q).first ≡ index
  pub none : (k : ℕ) (q : Queue) → k < rank → (slice_index_or queues k q).limit ≡ 2 ^ 64 - 1

abbrev pub IsFoundBelow : ℕ → List Queue → Option ℕ → Type 0
IsFoundBelow limit queues result = MatchOption result
    ((k : ℕ) (q : Queue) → k < limit → (slice_index_or queues k q).limit ≡ 2 ^ 64 - 1)
    (λ index. (rank : ℕ) × IsFoundAt limit queues index rank)

-- an index is that of the first stray
abbrev pub IsFirstStray : List (ℕ × ℕ) → Option ℕ → Type 0
IsFirstStray strays result =
    MatchOption result (strays ≡ []) (λ i. (0 < length strays)
    × ((slice_index_or strays 0 (0, 0)).1 ≡ i))

-- the sums show that no use of a class is open
abbrev pub ShowNone : Class → Burdens → Type 0
ShowNone Near b = b.first ≡ 0
ShowNone Load b = b.second ≡ 0
ShowNone Trapping b = b.second ≡ 0
ShowNone Middle b = b.second ≡ 0
ShowNone Far b = b.third ≡ b.second
ShowNone Direct b = b.third ≡ 0

module _ {K : Type 0} (r : Kinds K) where
  -- a class is that of a use, if that is open, and else wants nothing
  pub record IsWaitingClass (u : Use K) (c : Class) : Type 0 where
    pub open' : is_open r u ≡ wants c
    pub is : wants c ≡ true → class r u ≡ c

  -- how far ahead what a use gets may stand
  abbrev pub limit_of : Use K → ℕ
  limit_of u = u.offset + r.forward u.kind

  -- an entry is that of a use of a rank
  pub record IsEntry (rank : ℕ) (uses : List (Use K)) (e : ℕ × ℕ) : Type 0 where
    pub within : e.1 < length uses
    pub limit : (d : Use K) → e.0 + limit_of (slice_index_or uses e.1 d) ≡ 2 ^ 64 - 1
    pub rank_is : (d : Use K) → rank_of (class r (slice_index_or uses e.1 d)) ≡ rank

  -- open uses of a rank from one index up to another have this limit at most
  abbrev pub NoneFarther : ℕ → List (Use K) → ℕ → ℕ → ℕ → Type 0
  NoneFarther rank uses from to limit =
      (j : ℕ) (d : Use K) → from ≤ j → j < to → is_open r (slice_index_or uses j d) ≡ true
      → rank_of (class r (slice_index_or uses j d)) ≡ rank
      → limit_of (slice_index_or uses j d) ≤ limit

  -- a use of a rank, which has a limit, is the next or comes behind it, and none between reaches
  -- farther
  abbrev pub Follows : ℕ → List (Use K) → Option ℕ → ℕ → ℕ → Type 0
  Follows rank uses next index limit =
      MatchOption next ⊥ (λ n. (n ≤ index) × NoneFarther rank uses n index limit)

  -- what is kept of the uses of a rank: no open one has a limit above the most; each that is open
  -- follows the next, or is a stray; and strays, in the order of a heap, are uses of the rank
  pub record Holds (rank : ℕ) (uses : List (Use K)) (most : ℕ) (next : Option ℕ) (strays : List (ℕ
      × ℕ)) : Type 0 where
    pub order : IsHeap entry_cmp strays
    pub within : IfSome next (λ n. n < length uses)
    pub farthest : NoneFarther rank uses 0 (length uses) most
    pub each : (k : ℕ) (d : Use K) → k < length uses → is_open r (slice_index_or uses k d) ≡ true
        → rank_of (class r (slice_index_or uses k d)) ≡ rank
        → Follows rank uses next k (limit_of (slice_index_or uses k d))
        ⊎ Contains strays (entry_of (limit_of (slice_index_or uses k d)) k)
    pub only : All (IsEntry rank uses) strays

  abbrev pub HoldsIn : ℕ → List (Use K) → Queue → Type 0
  HoldsIn rank uses q = Holds rank uses q.most q.next (entries q)

  -- no use from one index up to another is open and of a rank
  abbrev pub NoneWaits : ℕ → List (Use K) → ℕ → ℕ → Type 0
  NoneWaits rank uses from to =
      (j : ℕ) (d : Use K) → from ≤ j → j < to → is_open r (slice_index_or uses j d) ≡ true
      → rank_of (class r (slice_index_or uses j d)) ≢ rank

  -- the first open use of a rank from an index on; `None` where there is none
  abbrev pub IsNextWaiting : ℕ → List (Use K) → ℕ → Option ℕ → Type 0
  IsNextWaiting rank uses from result = MatchOption result
      (NoneWaits rank uses from (length uses))
      (λ i. (from ≤ i) × (i < length uses)
      × ((d : Use K) → is_open r (slice_index_or uses i d) ≡ true)
      × ((d : Use K) → rank_of (class r (slice_index_or uses i d)) ≡ rank)
      × NoneWaits rank uses from i)

  -- the use at an index, where there is one, is open and of a rank
  abbrev pub WaitsAt : ℕ → List (Use K) → Option ℕ → Type 0
  WaitsAt rank uses index =
      IfSome index (λ i. (i < length uses)
      × ((d : Use K) → is_open r (slice_index_or uses i d) ≡ true)
      × ((d : Use K) → rank_of (class r (slice_index_or uses i d)) ≡ rank))

  -- a limit is that of the use at an index, or the greatest number of 64 bits
  abbrev pub IsLimitAt : List (Use K) → Option ℕ → ℕ → Type 0
  IsLimitAt uses index limit =
      MatchOption index (limit ≡ 2 ^ 64 - 1) (λ i. (d : Use K)
      → limit ≡ limit_of (slice_index_or uses i d))

  -- a use, by its index, is the open use of a rank that has the least limit; `None` where none is
  -- open
  abbrev pub IsFirstOf : ℕ → List (Use K) → Option ℕ → Type 0
  IsFirstOf rank uses result = MatchOption result
      (NoneWaits rank uses 0 (length uses))
      (λ i. (i < length uses) × ((d : Use K) → is_open r (slice_index_or uses i d) ≡ true)
      × ((d : Use K) → rank_of (class r (slice_index_or uses i d)) ≡ rank)
      × ((d : Use K)
      → All (λ u. is_open r u ≡ true → rank_of (class r u) ≡ rank
      → limit_of (slice_index_or uses i d) ≤ limit_of u) uses))

  -- a limit is that of an open use of a rank, which has an index
  pub record IsLimitOf (rank : ℕ) (uses : List (Use K)) (limit index : ℕ) : Type 0 where
    pub within : index < length uses
    pub open' : (d : Use K) → is_open r (slice_index_or uses index d) ≡ true
    pub rank_is : (d : Use K) → rank_of (class r (slice_index_or uses index d)) ≡ rank
    pub is : (d : Use K) → limit ≡ limit_of (slice_index_or uses index d)

  -- it is the least limit of the open uses of a rank, or the greatest number of 64 bits where there
  -- is none
  pub record IsLimit (rank : ℕ) (uses : List (Use K)) (limit index : ℕ) : Type 0 where
    pub least : All (λ u. is_open r u ≡ true → rank_of (class r u) ≡ rank → limit ≤ limit_of u) uses
    pub some : (limit ≡ 2 ^ 64 - 1) ⊎ IsLimitOf rank uses limit index

  -- a queue for each rank
  abbrev pub AllHold : List (Use K) → List Queue → Type 0
  AllHold uses queues =
      (rank : ℕ) (q : Queue) → rank < 5 → HoldsIn rank uses (slice_index_or queues rank q)

  -- of which each knows its limit
  abbrev pub AllLimits : List (Use K) → List Queue → Type 0
  AllLimits uses queues =
      (rank : ℕ) (q : Queue) → rank < 5
      → IsLimit rank uses (slice_index_or queues rank q).limit (slice_index_or queues rank q).first

  -- sums are those of the open uses
  pub record AreBurdens (uses : List (Use K)) (b : Burdens) : Type 0 where
    pub first_is : b.first ≡ burden r first uses
    pub second_is : b.second ≡ burden r second uses
    pub third_is : b.third ≡ burden r third uses

  -- what is kept of the uses: the queues, and the sums
  pub record AreWaiting (uses : List (Use K)) (queues : List Queue) (b : Burdens) : Type 0 where
    pub hold : AllHold uses queues
    pub limits : AllLimits uses queues
    pub burdens : AreBurdens uses b
