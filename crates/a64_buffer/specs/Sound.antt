-- What is true of every buffer of code.
use Rattle.std.specs.Prelude.{ℕ, ◌≡◌, ◌≢◌, ◌⊎◌, ◌+◌, ◌*◌, ◌/◌, ◌%◌, ◌^◌, ◌<◌, ◌≤◌, false, IsTrue}
use Rattle.std.specs.Prelude.{List, [], ◌∷◌, All, Any, Contains, length, slice_index}
use Rattle.std.specs.Prelude.{slice_index_or, Some, IfSome, IsSome, IsSomeAnd, MatchOption}
use Rattle.std.specs.Ordering.{nat_cmp}
use Rattle.std.specs.FinMap.{FinMap, get}
use Rattle.a64_base.specs.declared.entity.TrapCode.{TrapCode}
use Rattle.a64_buffer.specs.declared.site.Use.{Use}
use Rattle.a64_buffer.specs.declared.site.Target.{Target}
use Rattle.a64_buffer.specs.declared.site.Target.TheVariants.{Label, Constant, Trap, IslandEnd}
use Rattle.a64_buffer.specs.declared.parts.Parts.{Parts}
use Rattle.a64_words.specs.Word.{words_of}
use Rattle.a64_buffer.specs.Constants.{IsConstant}
use Rattle.a64_buffer.specs.Kinds.{Kinds, IsWithin}
use Rattle.a64_buffer.specs.Buffer.{Buffer, end_of, goal_of, is_within}
use Rattle.a64_buffer.specs.ByPlace.{AreRecordedByPlace}
use Rattle.a64_buffer.specs.Areas.{InArea, HasUse, Stands}
use Rattle.a64_buffer.specs.Classes.{Fits}
use Rattle.a64_buffer.specs.Chain.{constant_of, AreChained}
use Rattle.a64_buffer.specs.Pieces.{BeginsWith}
use Rattle.a64_buffer.specs.Queues.{AreWaiting}

-- what the parts of a buffer are to its callers
abbrev pub seen : {K : Type 0} → Parts K → Buffer K
seen p = record {
  words = p.words.items;
  uses = p.uses.items;
  labels = p.labels;
  islands = p.islands.items;
  traps = p.traps.items;
  constants = p.constants.now;
  records = record {
    relocs = p.records.relocs.items;
    calls = p.records.calls.items;
    patchable = p.records.patchable.items;
    maps = p.records.maps.items;
  };
}

-- the uses of a buffer are in chains
abbrev pub HasChains : {K : Type 0} → Parts K → Type 0
HasChains p = AreChained p.uses.items p.earlier.items p.heads p.loads

-- a use stands on a word of code that ends there
pub record IsPlaced {K : Type 0} (end : ℕ) (u : Use K) : Type 0 where
  pub aligned : u.offset % 4 ≡ 0
  pub inside : u.offset < end

-- no two uses stand on one word
abbrev pub AreApart : {K : Type 0} → List (Use K) → Type 0
AreApart {K} uses =
    (j k : ℕ) (d : Use K) → j < k → k < length uses
    → (slice_index_or uses j d).offset ≢ (slice_index_or uses k d).offset

-- a target is a trap
abbrev pub IsTrap : Target → Type 0
IsTrap (Label label) = ⊥
IsTrap (Constant constant) = ⊥
IsTrap (Trap code) = Unit {0}
IsTrap IslandEnd = ⊥

-- a stop that a use may share with any other: the place of its label, or, where it is the jump over
-- an island, the end of that
abbrev pub IsShared : FinMap nat_cmp ℕ → Target → ℕ → Type 0
IsShared labels target stop = (goal_of labels target ≡ Some stop) ⊎ (target ≡ IslandEnd)

-- uses of two targets may stop at one place: they load one constant, or one of them may share that
-- stop
abbrev pub MayShare : FinMap nat_cmp ℕ → ℕ → Target → Target → Type 0
MayShare labels stop s t =
    (IsSome (constant_of s) × (s ≡ t))
    ⊎ IsShared labels s stop ⊎ IsShared labels t stop

-- no two uses stop at one place, but for loads of one constant, uses that stop at the place of
-- their label, and jumps over islands
abbrev pub HaveOwnStops : {K : Type 0} → FinMap nat_cmp ℕ → List (Use K) → Type 0
HaveOwnStops {K} labels uses =
    (j k stop : ℕ) (d : Use K) → j < k → k < length uses
    → (slice_index_or uses j d).stop ≡ Some stop → (slice_index_or uses k d).stop ≡ Some stop
    → MayShare labels stop (slice_index_or uses j d).target (slice_index_or uses k d).target

-- a use is the jump at the start of an island
abbrev pub IsFront : {K : Type 0} → ℕ × ℕ → Use K → Type 0
IsFront island u = (u.offset ≡ island.0) × (u.target ≡ IslandEnd)

-- an island begins with a jump over it
abbrev pub HasJump : {K : Type 0} → List (Use K) → ℕ × ℕ → Type 0
HasJump uses island = Any (IsFront island) uses

-- a constant that a use loads is there
abbrev pub IsKnown : FinMap nat_cmp (List ℕ) → Target → Type 0
IsKnown constants (Label label) = Unit {0}
IsKnown constants (Constant constant) = IsSomeAnd (get constants constant.0) IsConstant
IsKnown constants (Trap code) = Unit {0}
IsKnown constants IslandEnd = Unit {0}

module _ {K : Type 0} (r : Kinds K) where
  -- the uses of constants and traps are of urgency 2, and over an island leads a jump
  abbrev pub IsKinded : Target → K → Type 0
  IsKinded (Label label) kind = Unit {0}
  IsKinded (Constant constant) kind = r.urgency kind ≡ 2
  IsKinded (Trap code) kind = r.urgency kind ≡ 2
  IsKinded IslandEnd kind = kind ≡ r.jump

  module _ (b : Buffer K) (areas : List (ℕ × ℕ)) where
    -- at a place stands a jump word, which is a use of the target
    pub record IsJump (target : Target) (place : ℕ) : Type 0 where
      pub word : slice_index b.words (place / 4) ≡ r.jump_word
      pub use' : HasUse b.uses place target r.jump
      pub area : InArea areas place 4

    -- from a place on stand the words of a far veneer, of which the last alone is a use, of the
    -- target
    pub record IsFar (target : Target) (place : ℕ) : Type 0 where
      pub stands : Stands b areas place r.far_words (4 * length r.far_words + 4)
      pub last : slice_index b.words (place / 4 + length r.far_words) ≡ 0
      pub use' : HasUse b.uses (place + 4 * length r.far_words) target r.far_use

    -- at a place stands a copy of a constant
    pub record IsCopy (content : List ℕ) (place : ℕ) : Type 0 where
      pub aligned : place % length content ≡ 0
      pub stands : Stands b areas place (words_of content) (length content)

    -- at a place stands a trap word, which is recorded
    pub record IsTrapWord (code : TrapCode) (place : ℕ) : Type 0 where
      pub stands : Stands b areas place (r.trap_word ∷ []) 4
      pub recorded : Contains b.traps (place, code)

    -- a veneer for a use of this kind: a jump word, or a far veneer
    abbrev pub IsVeneerFor : K → Target → ℕ → Type 0
    IsVeneerFor kind target stop = (r.urgency kind ≢ 3 × IsJump target stop) ⊎ IsFar target stop

    -- what stands where a use stops: its target, or a veneer for it
    abbrev pub LeadsOn : K → Target → ℕ → Type 0
    LeadsOn kind (Label label) stop =
        (get b.labels label.0 ≡ Some stop)
        ⊎ (IsTrue (r.veneers kind) × IsVeneerFor kind (Label label) stop)
    LeadsOn kind (Constant constant) stop =
        IsSomeAnd (get b.constants constant.0) (λ content. IsCopy content stop)
    LeadsOn kind (Trap code) stop = IsTrapWord code stop
    LeadsOn kind IslandEnd stop = stop ≤ end_of b

    pub record IsStop (target : Target) (kind : K) (offset stop : ℕ) : Type 0 where
      pub aligned : stop % 4 ≡ 0
      pub within : IsWithin (r.forward kind) (r.backward kind) offset stop
      pub ahead : (offset < stop) ⊎ (goal_of b.labels target ≡ Some stop)
      pub leads : LeadsOn kind target stop

    -- a use without a stop does not reach its label, if that is bound
    abbrev pub IsRightlyOpen : Target → K → ℕ → Type 0
    IsRightlyOpen target kind offset =
        IfSome (goal_of b.labels target) (λ place. is_within r kind offset place ≡ false)

    abbrev pub IsStoppedOrOpen : Use K → Type 0
    IsStoppedOrOpen u =
        MatchOption u.stop
        (IsRightlyOpen u.target u.kind u.offset)
        (IsStop u.target u.kind u.offset)

    -- the code is short; uses stand apart on words of it, and stop at their targets or at veneers
    -- for them; labels are bound to places of words
    pub record IsSound : Type 0 where
      pub short : end_of b < 2 ^ 31
      pub placed : All (IsPlaced (end_of b)) b.uses
      pub apart : AreApart b.uses
      pub kinded : All (λ u. IsKinded u.target u.kind) b.uses
      pub known : All (λ u. IsKnown b.constants u.target) b.uses
      pub bound :
          (label : ℕ) → IfSome (get b.labels label) (λ place. (place % 4 ≡ 0) × (place ≤ end_of b))
      pub stops : All IsStoppedOrOpen b.uses

  -- the jump at the start of an island leads to its end
  pub record IsOver (b : Buffer K) (island : ℕ × ℕ) (u : Use K) : Type 0 where
    pub word : slice_index b.words (island.0 / 4) ≡ r.jump_word
    pub kind : u.kind ≡ r.jump
    pub stop : u.stop ≡ Some island.1

  -- an island of code that ends there: it is not empty, and begins with a jump, which leads to its
  -- end, or with the piece of a use
  pub record IsIsland (b : Buffer K) (island : ℕ × ℕ) : Type 0 where
    pub aligned : island.0 % 4 ≡ 0
    pub long : island.0 + 4 ≤ island.1
    pub inside : island.1 ≤ end_of b
    pub over : All (λ u. IsFront island u → IsOver b island u) b.uses
    pub begins : HasJump b.uses island ⊎ Any (BeginsWith r b island) b.uses

  -- the islands of code, which stand one behind another
  pub record AreIslands (b : Buffer K) : Type 0 where
    pub each : All (IsIsland b) b.islands
    pub in_order :
        (j k : ℕ) → j < k → k < length b.islands
        → (slice_index_or b.islands j (0, 0)).1 ≤ (slice_index_or b.islands k (0, 0)).0

  -- a buffer between two calls
  pub record IsWhole (b : Buffer K) : Type 0 where
    pub sound : IsSound b b.islands
    pub islands : AreIslands b
    pub fits : Fits r b 0
    pub own_stops : HaveOwnStops b.labels b.uses
    pub recorded : AreRecordedByPlace (end_of b) b.traps b.records

  -- the parts of such a buffer, with its chains of uses, and what is kept of the open ones
  pub record AreSound (p : Parts K) : Type 0 where
    pub whole : IsWhole (seen p)
    pub chained : HasChains p
    pub waiting : AreWaiting r p.uses.items p.queues p.burdens
