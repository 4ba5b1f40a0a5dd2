-- What stands in islands and in the pool, and in which order.
use Rattle.std.specs.Prelude.{ℕ, ◌≡◌, ◌≢◌, ◌⊎◌, ◌+◌, ◌*◌, ◌-◌, ◌/◌, ◌%◌, ◌^◌, ◌<◌, ◌≤◌, Bool, true}
use Rattle.std.specs.Prelude.{false, ◌||◌, nat_lt, if◌then◌else◌, List, [], ◌∷◌, ◌++◌, All, Any}
use Rattle.std.specs.Prelude.{map, length, slice_index, slice_index_or, replicate, None, Some}
use Rattle.std.specs.Prelude.{IfSome, IsSome}
use Rattle.std.specs.Option.{unwrap_or}
use Rattle.std.specs.List.{AllPairs, flat_map}
use Rattle.std.specs.Ordering.{nat_cmp}
use Rattle.std.specs.FinMap.{FinMap, get}
use Rattle.a64_base.specs.declared.entity.TrapCode.{TrapCode}
use Rattle.a64_buffer.specs.declared.site.Use.{Use}
use Rattle.a64_buffer.specs.declared.site.Target.{Target}
use Rattle.a64_buffer.specs.declared.site.Target.TheVariants.{Label, Constant, Trap, IslandEnd}
use Rattle.a64_buffer.specs.declared.class.Class.{Class}
use Rattle.a64_buffer.specs.declared.class.Class.TheVariants.{Near, Middle, Load, Trapping, Far}
use Rattle.a64_buffer.specs.declared.class.Class.TheVariants.{Direct}
use Rattle.a64_words.specs.Word.{words_of}
use Rattle.a64_buffer.specs.Kinds.{Kinds}
use Rattle.a64_buffer.specs.Buffer.{Buffer, end_of, goal_of, is_within, IsFree}
use Rattle.a64_buffer.specs.Chain.{constant_of}
use Rattle.a64_buffer.specs.Classes.{class, rank_of, wants, is_open}

-- how many zero words bring a place to a multiple of a size of 4, 8 or 16 bytes
abbrev pub padding : ℕ → ℕ → ℕ
padding place size = (size - place % size) % size / 4

-- the bytes of the constant that a target is
abbrev pub content_of : FinMap nat_cmp (List ℕ) → Target → List ℕ
content_of constants (Label label) = []
content_of constants (Constant constant) = unwrap_or (get constants constant.0) []
content_of constants (Trap code) = []
content_of constants IslandEnd = []

-- the trap that a trap word at a place is
abbrev pub trap_at : Target → ℕ → List (ℕ × TrapCode)
trap_at (Label label) place = []
trap_at (Constant constant) place = []
trap_at (Trap code) place = (place, code) ∷ []
trap_at IslandEnd place = []

-- the words of a copy of some bytes, from a place on: zero words up to a multiple of their number,
-- and the bytes
abbrev pub copy_words : List ℕ → ℕ → List ℕ
copy_words content place = replicate (padding place (length content)) 0 ++ words_of content

-- a use has its stop by the piece of a served use: its own, or the copy of its constant
abbrev pub StopsWith : {K : Type 0} → Use K → Use K → Type 0
StopsWith v u =
    (v ≡ u) ⊎ (IsSome (constant_of u.target) × (v.target ≡ u.target) × (v.stop ≡ u.stop))

-- a use that stops at its label, if anywhere
abbrev pub AtGoal : {K : Type 0} → FinMap nat_cmp ℕ → Use K → Type 0
AtGoal labels u = IfSome u.stop (λ stop. goal_of labels u.target ≡ Some stop)

-- a use has no stop, or has it at its label's place or by the piece of one of the served uses
abbrev pub IsAnswered : {K : Type 0} → FinMap nat_cmp ℕ → List (Use K) → Use K → Type 0
IsAnswered labels served u = AtGoal labels u ⊎ Any (StopsWith u) served

-- how many bytes the jump at the start of an island takes, where it has one
abbrev pub front_size : Bool → ℕ
front_size jump = if jump then 4 else 0

-- the island from one place to another, which is none where it has neither a jump nor contents
abbrev pub listed : Bool → ℕ → ℕ → List (ℕ × ℕ)
listed jump begin end = if jump || nat_lt begin end then (begin, end) ∷ [] else []

-- a use, but for its stop
abbrev pub site_of : {K : Type 0} → Use K → ℕ × Target × K
site_of u = (u.offset, u.target, u.kind)

module _ {K : Type 0} (r : Kinds K) where
  -- uses in the order of islands: by rank, then by place
  abbrev pub key_of : Use K → ℕ
  key_of u = rank_of (class r u) * 2 ^ 32 + u.offset

  -- the jump at the start of an island, whose end is not known yet
  abbrev pub over_use : ℕ → Use K
  over_use place = record { offset = place; target = IslandEnd; kind = r.jump; stop = None }

  -- the word of that jump and its use, where an island has one
  abbrev pub front_words : Bool → List ℕ
  front_words jump = if jump then r.jump_word ∷ [] else []

  abbrev pub front_uses : Bool → ℕ → List (Use K)
  front_uses jump place = if jump then over_use place ∷ [] else []

  -- an island is begun: its jump stands at the end, where it has one
  abbrev pub begun : Bool → Buffer K → Buffer K
  begun jump b = record b {
    words = b.words ++ front_words jump;
    uses = b.uses ++ front_uses jump (end_of b);
  }

  -- one use is served before another: it comes first in the order of islands, and no constant is
  -- copied twice
  abbrev pub ComesBefore : Use K → Use K → Type 0
  ComesBefore u v = (key_of u < key_of v) × (IsSome (constant_of u.target) → u.target ≢ v.target)

  -- the uses that the words are which a use of a class gets: a jump word, and the last word of a
  -- far veneer
  abbrev pub sites_for : Class → Target → ℕ → List (ℕ × Target × K)
  sites_for Near target place = (place, target, r.jump) ∷ []
  sites_for Middle target place = (place, target, r.jump) ∷ []
  sites_for Load target place = []
  sites_for Trapping target place = []
  sites_for Far target place = (place + 4 * length r.far_words, target, r.far_use) ∷ []
  sites_for Direct target place = []

  module _ (constants : FinMap nat_cmp (List ℕ)) where
    -- the words that a use of a class gets from a place on
    abbrev pub words_for : Class → Target → ℕ → List ℕ
    words_for Near target place = r.jump_word ∷ []
    words_for Middle target place = r.jump_word ∷ []
    words_for Load target place = copy_words (content_of constants target) place
    words_for Trapping target place = r.trap_word ∷ []
    words_for Far target place = r.far_words ++ 0 ∷ []
    words_for Direct target place = []

    -- where it stops then
    abbrev pub stop_for : Class → Target → ℕ → ℕ
    stop_for Near target place = place
    stop_for Middle target place = place
    stop_for Load target place = place + 4 * padding place (length (content_of constants target))
    stop_for Trapping target place = place
    stop_for Far target place = place
    stop_for Direct target place = place

    -- a piece is a use, and the place from which on its words stand
    abbrev pub piece_words : ℕ × Use K → List ℕ
    piece_words piece = words_for (class r piece.1) piece.1.target piece.0

    abbrev pub piece_traps : ℕ × Use K → List (ℕ × TrapCode)
    piece_traps piece = trap_at piece.1.target piece.0

    abbrev pub piece_sites : ℕ × Use K → List (ℕ × Target × K)
    piece_sites piece = sites_for (class r piece.1) piece.1.target piece.0

    -- the use of a piece stops there
    abbrev pub StopsAtPiece : ℕ × Use K → Type 0
    StopsAtPiece piece = piece.1.stop ≡ Some (stop_for (class r piece.1) piece.1.target piece.0)

    -- pieces for some uses, one behind another from a place on, with nothing between
    abbrev pub pieces : ℕ → List (Use K) → List (ℕ × Use K)
    pieces place [] = []
    pieces place (u ∷ us) =
        (place, u) ∷ pieces (place + 4 * length (words_for (class r u) u.target place)) us

  -- an island begins with the piece of a use, which stops there, while its label stands elsewhere:
  -- what stands in front of a copy are zero words, which are no uses
  pub record BeginsWith (b : Buffer K) (island : ℕ × ℕ) (u : Use K) : Type 0 where
    pub wanted : wants (class r u) ≡ true
    pub stop : ℕ
    pub stops : u.stop ≡ Some stop
    pub at_piece : stop ≡ stop_for b.constants (class r u) u.target island.0
    pub inside : stop < island.1
    pub elsewhere : goal_of b.labels u.target ≢ Some stop
    pub zeros :
        (i : ℕ) → island.0 ≤ 4 * i → 4 * i < stop
        → (slice_index b.words i ≡ 0) × IsFree b.uses (4 * i)

  -- a use that has got a piece: it was open before, or was made since, and its label is unbound or
  -- out of its range
  pub record IsServed (labels : FinMap nat_cmp ℕ) (b b' : Buffer K) (u : Use K) : Type 0 where
    pub index : ℕ
    pub within : index < length b'.uses
    pub is : (d : Use K) → slice_index_or b'.uses index d ≡ u
    pub waited : (d : Use K) → index < length b.uses
        → is_open r (slice_index_or b.uses index d) ≡ true
    pub wants_one : wants (class r u) ≡ true
    pub far_off : IfSome (goal_of labels u.target) (λ place. is_within r u.kind u.offset place
        ≡ false)
    pub stops : IsSome u.stop

  -- no use of the same constant that waited stands before a use
  abbrev pub IsFirst : List (Use K) → Use K → Type 0
  IsFirst uses u =
      IsSome (constant_of u.target)
      → All (λ v. is_open r v ≡ true → v.target ≡ u.target → u.offset ≤ v.offset) uses

  -- the words that were added are the pieces of some uses, in the order of islands, and nothing
  -- else: each of these uses had waited and stops at its piece, the new uses are those of these
  -- words, each trap word is recorded, each constant has one copy, at its first use, what had
  -- waited and has a stop now has it by one of these pieces, and a new use has it so or at its
  -- label's place
  pub record Serves (labels : FinMap nat_cmp ℕ) (constants : FinMap nat_cmp (List ℕ))
      (served : List (Use K)) (b b' : Buffer K) : Type 0 where
    pub words : b'.words
        ≡ b.words ++ flat_map (piece_words constants) (pieces constants (end_of b) served)
    pub traps_are : b'.traps
        ≡ b.traps ++ flat_map (piece_traps constants) (pieces constants (end_of b) served)
    pub uses_are : map site_of b'.uses
        ≡ map site_of b.uses
        ++ flat_map (piece_sites constants) (pieces constants (end_of b) served)
    pub stops : All (StopsAtPiece constants) (pieces constants (end_of b) served)
    pub in_order : AllPairs ComesBefore served
    pub first' : All (IsFirst b.uses) served
    pub waited : All (IsServed labels b b') served
    pub copied : All (λ u. IsSome (constant_of u.target)
        → All (λ v. v.target ≡ u.target → IsSome v.stop) b'.uses) served
    pub answered : (k : ℕ) (d : Use K) → k < length b.uses
        → is_open r (slice_index_or b.uses k d) ≡ true → IsSome (slice_index_or b'.uses k d).stop
        → Any (StopsWith (slice_index_or b'.uses k d)) served
    pub new_answered :
        (k : ℕ) (d : Use K) → length b.uses ≤ k → k < length b'.uses
        → IsAnswered labels served (slice_index_or b'.uses k d)
