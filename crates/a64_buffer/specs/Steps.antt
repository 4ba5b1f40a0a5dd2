-- What gives open uses what they wait for, one after another.
use Rattle.std.specs.Prelude.{ℕ, ◌≡◌, ◌⊎◌, ◌+◌, ◌*◌, ◌^◌, ◌<◌, ◌≤◌, Bool, true, false, ◌&&◌}
use Rattle.std.specs.Prelude.{nat_eq, if◌then◌else◌, List, [], ◌∷◌, ◌++◌, All, map, length, take}
use Rattle.std.specs.Prelude.{slice_index_or, replicate, Option, None, Some, is_none, MatchOption}
use Rattle.std.specs.FinMap.{get}
use Rattle.a64_base.specs.declared.entity.TrapCode.{TrapCode}
use Rattle.a64_buffer.specs.declared.site.Use.{Use}
use Rattle.a64_buffer.specs.declared.site.Target.{Target}
use Rattle.a64_buffer.specs.declared.site.Target.TheVariants.{Label, Constant, Trap, IslandEnd}
use Rattle.a64_words.specs.Word.{words_of}
use Rattle.a64_buffer.specs.Kinds.{Kinds}
use Rattle.a64_buffer.specs.Buffer.{Buffer, end_of, made_use}
use Rattle.a64_buffer.specs.Areas.{InArea}
use Rattle.a64_buffer.specs.Chain.{constant_of}
use Rattle.a64_buffer.specs.declared.parts.Parts.{Parts}
use Rattle.a64_buffer.specs.declared.class.Class.{Class}
use Rattle.a64_buffer.specs.declared.class.Class.TheVariants.{Near, Middle, Load, Trapping, Far}
use Rattle.a64_buffer.specs.declared.class.Class.TheVariants.{Direct}
use Rattle.a64_buffer.specs.Classes.{class, rank_of, level_of, cost_in, wants, veneer_uses}
use Rattle.a64_buffer.specs.Classes.{trap_words, is_open, owed, owed_to, weight_of, burden}
use Rattle.a64_buffer.specs.Classes.{range_of, Fits}
use Rattle.a64_buffer.specs.declared.force.ForceVeneers.{ForceVeneers}
use Rattle.a64_buffer.specs.declared.force.ForceVeneers.TheVariants.{No, Yes}
use Rattle.a64_buffer.specs.Later.{IsLater}
use Rattle.a64_buffer.specs.Space.{HasSpace, IsTracked}
use Rattle.a64_buffer.specs.Sound.{seen, AreApart, IsSound}
use Rattle.a64_buffer.specs.Pieces.{padding, listed, AtGoal, key_of, Serves}
use Rattle.a64_buffer.specs.Islands.{IsVeneerUse, FarWaits}

-- a use that stops at a place, where it passes a test
abbrev pub stopped : {K : Type 0} → (Use K → Bool) → ℕ → Use K → Use K
stopped test place u = record u { stop = if test u then Some place else u.stop }

-- the use that stands at a place
abbrev pub stands_at : {K : Type 0} → ℕ → Use K → Bool
stands_at place u = nat_eq u.offset place

-- the jump of an island that begins at a place, where it has one
abbrev pub is_jump_at : {K : Type 0} → Bool → ℕ → Use K → Bool
is_jump_at jump place u = jump && stands_at place u

-- the use at an index stands at a place, and loads no constant
pub record StandsAt {K : Type 0} (index place : ℕ) (uses : List (Use K)) : Type 0 where
  pub within : index < length uses
  pub offset : (d : Use K) → (slice_index_or uses index d).offset ≡ place
  pub no_load : (d : Use K) → constant_of (slice_index_or uses index d).target ≡ None

-- the jump of an island that begins at a place, where it has one, stops at its end
abbrev pub EndsJump : {K : Type 0} → Bool → ℕ → ℕ → List (Use K) → List (Use K) → Type 0
EndsJump jump start end us us' = AreApart us → us' ≡ map (stopped (is_jump_at jump start) end) us

-- an open use of a constant
abbrev pub is_load_of : ℕ → Target → Bool
is_load_of constant (Label label) = false
is_load_of constant (Constant c) = nat_eq c.0 constant
is_load_of constant (Trap code) = false
is_load_of constant IslandEnd = false

abbrev pub waits_for : {K : Type 0} → ℕ → Use K → Bool
waits_for constant u = is_load_of constant u.target && is_none u.stop

-- words and uses were added, and the uses that pass a test stop at a place
pub record Adds {K : Type 0} (test : Use K
    → Bool) (place : ℕ) (added : List ℕ) (fresh : List (Use K)) (traps : List (ℕ
    × TrapCode)) (b b' : Buffer K) : Type 0 where
  pub words : b'.words ≡ b.words ++ added
  pub uses : b'.uses ≡ map (stopped test place) b.uses ++ fresh
  pub labels : b'.labels ≡ b.labels
  pub islands : b'.islands ≡ b.islands
  pub traps_are : b'.traps ≡ b.traps ++ traps
  pub constants : b'.constants ≡ b.constants
  pub records : b'.records ≡ b.records

-- a use stands behind as many uses as there were
abbrev pub AddsUse : {K : Type 0} → List (Use K) → List (Use K) → Use K → Type 0
AddsUse us us' u = us' ≡ take (length us) us' ++ u ∷ []

-- and so it does, where one is answered; else there are as many uses as there were
abbrev pub MayAddUse : {K : Type 0} → List (Use K) → List (Use K) → Option (Use K) → Type 0
MayAddUse us us' result = MatchOption result (length us' ≡ length us) (AddsUse us us')

-- an island from a place on is ended
abbrev pub ended : {K : Type 0} → Bool → ℕ → Buffer K → Buffer K
ended jump start b = record b {
  uses = map (stopped (is_jump_at jump start) (end_of b)) b.uses;
  islands = b.islands ++ listed jump start (end_of b);
}

-- and so is one in code whose uses stand apart
abbrev pub EndsIsland : {K : Type 0} → Bool → ℕ → Buffer K → Buffer K → Type 0
EndsIsland jump start b b' = AreApart b.uses → b' ≡ ended jump start b

-- all code is one area
abbrev pub everywhere : List (ℕ × ℕ)
everywhere = (0, 2 ^ 32) ∷ []

-- some areas hold what stands from a place on
abbrev pub HoldFrom : List (ℕ × ℕ) → ℕ → Type 0
HoldFrom areas from =
    (place size : ℕ) → from ≤ place → place + size ≤ 2 ^ 32 → InArea areas place size

module _ {K : Type 0} (r : Kinds K) where
  -- a branch to a label gets a jump word at the end
  abbrev pub GivesJump : Use K → Buffer K → Buffer K → Type 0
  GivesJump u b b' =
      Adds (stands_at u.offset) (end_of b) (r.jump_word
      ∷ []) (made_use r b.labels (end_of b) u.target r.jump ∷ []) [] b b'

  -- or a far veneer
  abbrev pub GivesFar : Use K → Buffer K → Buffer K → Type 0
  GivesFar u b b' =
      Adds (stands_at u.offset) (end_of b) (r.far_words ++ 0
      ∷ []) (made_use r b.labels (end_of b + 4 * length r.far_words) u.target r.far_use
      ∷ []) [] b b'

  -- all open uses of a constant get a copy of it at the end
  abbrev pub GivesCopy : ℕ → List ℕ → Buffer K → Buffer K → Type 0
  GivesCopy constant content b b' =
      Adds (waits_for constant) (end_of b + 4 * padding (end_of b) (length content))
      (replicate (padding (end_of b) (length content)) 0 ++ words_of content) [] [] b b'

  -- a use of a trap gets a trap word at the end
  abbrev pub GivesTrap : Use K → TrapCode → Buffer K → Buffer K → Type 0
  GivesTrap u code b b' =
      Adds (stands_at u.offset) (end_of b) (r.trap_word ∷ []) [] ((end_of b, code) ∷ []) b b'

  -- an open use of a class gets what it waits for
  abbrev pub GivesClass : Class → Use K → Buffer K → Buffer K → Type 0
  GivesClass Near u b b' = GivesJump u b b'
  GivesClass Middle u b b' = GivesJump u b b'
  GivesClass Far u b b' = GivesFar u b b'
  GivesClass Load u b b' = elim u.target [
    | Label label ↦ ⊥
    | Constant constant ↦ MatchOption (get b.constants constant.0) ⊥
        (λ content. GivesCopy constant.0 content b b')
    | Trap code ↦ ⊥
    | IslandEnd ↦ ⊥
  ]
  GivesClass Trapping u b b' =
      elim u.target [
        | Label label ↦ ⊥
        | Constant constant ↦ ⊥
        | Trap code ↦ GivesTrap u code b b'
        | IslandEnd ↦ ⊥
      ]
  GivesClass Direct u b b' = ⊥

  -- inside an island its jump stands already, if it has one: each open use reaches what it gets, if
  -- the rest of the island begins so many bytes behind the end
  pub record Within (end : ℕ) (uses : List (Use K)) (more : ℕ) : Type 0 where
    pub rooms : All (λ u. is_open r u ≡ true
        → end + more + burden r (level_of (class r u)) uses
        ≤ u.offset + range_of r (level_of (class r u))) uses

  -- a part of an island: what is open still reaches as far behind the end as it did
  pub record IsPart (b b' : Buffer K) : Type 0 where
    pub later : IsLater b b'
    pub labels : b'.labels ≡ b.labels
    pub islands : b'.islands ≡ b.islands
    pub records : b'.records ≡ b.records
    pub rooms : (more : ℕ) → Within (end_of b) b.uses more → Within (end_of b') b'.uses more
    pub owed : end_of b' + owed r b' ≤ end_of b + owed r b
    pub owed_to : (test : ℕ → Bool) → owed_to r test b' ≤ owed_to r test b

  -- an open use of a class got what it waited for, in a part of an island, which needs no more
  -- memory than was kept for it: other classes are spared, and what is added waits for no more than
  -- a far veneer
  pub record HasGiven (areas : List (ℕ × ℕ)) (given_class : Class) (b b' : Buffer K) : Type 0 where
    pub part : IsPart b b'
    pub sound : IsSound r b' areas
    pub longer : end_of b < end_of b'
    pub uses : length b'.uses + weight_of r veneer_uses b'.uses
        ≤ length b.uses + weight_of r veneer_uses b.uses
    pub traps : length b'.traps + weight_of r trap_words b'.uses
        ≤ length b.traps + weight_of r trap_words b.uses
    pub spared : (k : ℕ) (d : Use K) → k < length b.uses
        → (class r (slice_index_or b.uses k d) ≡ given_class → ⊥)
        → slice_index_or b'.uses k d ≡ slice_index_or b.uses k d
    pub given : (k : ℕ) (d : Use K) → length b.uses ≤ k → k < length b'.uses
        → IsVeneerUse r b (slice_index_or b'.uses k d)
    pub waits : (k : ℕ) (d : Use K) → length b.uses ≤ k → k < length b'.uses
        → AtGoal b.labels (slice_index_or b'.uses k d)
    pub fars : (k : ℕ) (d : Use K) → length b.uses ≤ k → k < length b'.uses
        → is_open r (slice_index_or b'.uses k d) ≡ true → class r (slice_index_or b'.uses k d) ≡ Far
    pub last : given_class ≡ Far → (k : ℕ) (d : Use K) → length b.uses ≤ k → k < length b'.uses
        → wants (class r (slice_index_or b'.uses k d)) ≡ false

  -- the open use that comes first, which is of a class, got its piece
  pub record ServesNext (given_class : Class) (b b' : Buffer K) : Type 0 where
    pub served : Use K
    pub class_is : class r served ≡ given_class
    pub index : ℕ
    pub within : index < length b.uses
    pub here : (d : Use K) → slice_index_or b'.uses index d ≡ served
    pub waited : (d : Use K) → is_open r (slice_index_or b.uses index d) ≡ true
    pub least : All (λ v. is_open r v ≡ true → key_of r served ≤ key_of r v) b.uses
    pub serves : Serves r b.labels b.constants (served ∷ []) b b'

  -- and so in all areas that hold what is added
  pub record GivesAll (given_class : Class) (b b' : Buffer K) : Type 0 where
    pub given : HasGiven everywhere given_class b b'
    pub sound_in : (areas : List (ℕ × ℕ)) → IsSound r b areas → HoldFrom areas (end_of b)
        → IsSound r b' areas
    pub next : ServesNext given_class b b'

  -- the use at an index is of a class
  abbrev pub IsOfClass : Class → List (Use K) → ℕ → Type 0
  IsOfClass c uses index = (d : Use K) → class r (slice_index_or uses index d) ≡ c

  -- and it got what it waited for, where it came first
  abbrev pub GivesUse : ℕ → Buffer K → Buffer K → Type 0
  GivesUse index b b' = (d : Use K) → GivesAll (class r (slice_index_or b.uses index d)) b b'

  -- a buffer in which open uses may be given what they wait for
  pub record MayWrite (b : Buffer K) : Type 0 where
    pub sound : IsSound r b everywhere
    pub room : Within (end_of b) b.uses 0
    pub short : end_of b + owed r b < 2 ^ 31

  -- open uses were given what they waited for, one after another; what is open still comes behind
  -- them in the order of islands
  pub record IsWriting (limit : ℕ) (b b' : Buffer K) : Type 0 where
    pub idle : end_of b' ≡ end_of b → b' ≡ b
    pub served : List (Use K)
    pub serves : Serves r b.labels b.constants served b b'
    pub ahead : All (λ u. All (λ v. is_open r v ≡ true → key_of r u < key_of r v) b'.uses) served
    pub part : IsPart b b'
    pub sound : IsSound r b' everywhere
    pub sound_in : (areas : List (ℕ × ℕ)) → IsSound r b areas → HoldFrom areas (end_of b)
        → IsSound r b' areas
    pub traps : length b'.traps + weight_of r trap_words b'.uses
        ≤ length b.traps + weight_of r trap_words b.uses
    pub given : (k : ℕ) (d : Use K) → length b.uses ≤ k → k < length b'.uses
        → IsVeneerUse r b (slice_index_or b'.uses k d)
    pub direct : (k : ℕ) (d : Use K) → k < length b.uses
        → wants (class r (slice_index_or b.uses k d)) ≡ false
        → slice_index_or b'.uses k d ≡ slice_index_or b.uses k d
    pub far_waits : limit ≤ 4 → (end : ℕ) → All (FarWaits r end b.labels) b.uses
        → All (FarWaits r end b.labels) b'.uses
    pub only_last : All (λ u. is_open r u ≡ true → class r u ≡ Far) b.uses
        → All (λ u. is_open r u ≡ true → class r u ≡ Far) b'.uses
        × ((k : ℕ) (d : Use K) → length b.uses ≤ k → k < length b'.uses
        → wants (class r (slice_index_or b'.uses k d)) ≡ false)

  -- all open uses below a rank got what they waited for
  pub record Writes (limit : ℕ) (b b' : Buffer K) : Type 0 where
    pub writing : IsWriting limit b b'
    pub done : All (λ u. is_open r u ≡ true → limit ≤ rank_of (class r u)) b'.uses

  -- the open uses of the longest range were given veneers, or none of them
  abbrev pub WritesFar : ℕ → ForceVeneers → Buffer K → Buffer K → Type 0
  WritesFar distance force b b' =
      ((b' ≡ b) × (force ≡ No) × Fits r b distance)
      ⊎ (Writes 5 b b' × ((force ≡ Yes) ⊎ (Fits r b distance → ⊥)))

  -- the open use that comes first, of a rank below a limit; `None` where there is none
  abbrev pub IsNextOpen : ℕ → List (Use K) → Option ℕ → Type 0
  IsNextOpen limit uses result =
      MatchOption result
      (All (λ u. is_open r u ≡ true → limit * 2 ^ 32 ≤ key_of r u) uses)
      (λ i. (i < length uses)
      × ((d : Use K)
      → (is_open r (slice_index_or uses i d) ≡ true)
      × (key_of r (slice_index_or uses i d) < limit * 2 ^ 32)
      × All (λ u. is_open r u ≡ true → key_of r (slice_index_or uses i d) ≤ key_of r u) uses))

  -- an open use reaches so many bytes and what comes before what it gets
  abbrev pub UseHasRoom : ℕ → ℕ → ℕ → ℕ → Use K → Type 0
  UseHasRoom from first' second' third' u =
      is_open r u ≡ true
      → from + cost_in (level_of (class r u)) first' second' third' ≤ u.offset + r.forward u.kind

-- what is needed to give an open use what it waits for
pub record IsReady {K : Type 0} (r : Kinds K) (p : Parts K) (index : ℕ) : Type 0 where
  pub within : index < length p.uses.items
  pub least : (d : Use K)
      → All (λ u. is_open r u ≡ true
      → key_of r (slice_index_or p.uses.items index d) ≤ key_of r u) p.uses.items
  pub next : (d : Use K)
      → (is_open r (slice_index_or p.uses.items index d) ≡ true)
      × All (λ u. is_open r u ≡ true
      → rank_of (class r (slice_index_or p.uses.items index d)) ≤ rank_of (class r u)) p.uses.items
  pub may : MayWrite r (seen p)
  pub space : HasSpace r p
  pub tracked : IsTracked r p
