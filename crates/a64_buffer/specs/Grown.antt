-- Buffers that a client fills step by step, with islands where they are needed.
use Rattle.std.specs.Prelude.{ℕ, ◌≡◌, ◌⊎◌, ◌+◌, ◌^◌, ◌<◌, ◌≤◌, true, false, List, [], ◌∷◌, ◌++◌}
use Rattle.std.specs.Prelude.{All, None, IfSome, IsSome, IsSomeAnd}
use Rattle.std.specs.Ordering.{nat_cmp}
use Rattle.std.specs.FinMap.{FinMap, get}
use Rattle.a64_buffer.specs.declared.site.Use.{Use}
use Rattle.a64_buffer.specs.declared.site.Target.{Target}
use Rattle.a64_buffer.specs.declared.force.ForceVeneers.TheVariants.{No}
use Rattle.a64_buffer.specs.Constants.{IsConstant}
use Rattle.a64_buffer.specs.Kinds.{Kinds}
use Rattle.a64_buffer.specs.Buffer.{Buffer, end_of, label_of, made_use}
use Rattle.a64_buffer.specs.Classes.{owed, Fits}
use Rattle.a64_buffer.specs.Islands.{HasIsland}

-- the numbers below a count have constants
abbrev pub AreThere : ℕ → FinMap nat_cmp (List ℕ) → Type 0
AreThere count constants =
    (number : ℕ) → number < count → IsSomeAnd (get constants number) IsConstant

module _ {K : Type 0} (r : Kinds K) where
  -- an island was written if one was needed before so many bytes, and else nothing changed
  abbrev pub MakesRoom : ℕ → Buffer K → Buffer K → Type 0
  MakesRoom distance b b' = ((b' ≡ b) × Fits r b distance) ⊎ HasIsland r distance No true b b'

  -- a word was added at the end, which is a use, behind an island where one was needed
  pub record AddsUse (word : ℕ) (target : Target) (kind : K) (b b' : Buffer K) : Type 0 where
    pub before : Buffer K
    pub room : MakesRoom 32 b before
    pub is : b'
        ≡ record before {
          words = before.words ++ word ∷ [];
          uses = before.uses ++ made_use r before.labels (end_of before) target kind ∷ [];
        }

  -- a use of a label below a number, which may have a veneer, or reaches all code; or of something
  -- else
  abbrev pub IsEasy : ℕ → Use K → Type 0
  IsEasy count u =
      IfSome (label_of u.target) (λ label. (label < count)
      × (r.veneers u.kind ≡ false → 2 ^ 31 ≤ r.forward u.kind + 1))

  -- a buffer between two lengths, the greater of which counts what is owed, with uses of labels
  -- below a count, and in which the labels are bound that are below the next one
  pub record IsGrown (least most count next : ℕ) (b : Buffer K) : Type 0 where
    pub long : least ≤ end_of b
    pub short : end_of b + owed r b ≤ most
    pub easy : All (IsEasy count) b.uses
    pub bound : (label : ℕ) → label < next → IsSome (get b.labels label)
    pub unbound : (label : ℕ) → next ≤ label → get b.labels label ≡ None

  -- a buffer that grew by so many bytes at most, which count what is owed, without more uses of
  -- labels than the veneers of those before
  pub record GrowsBy (more : ℕ) (b b' : Buffer K) : Type 0 where
    pub long : end_of b ≤ end_of b'
    pub short : end_of b' + owed r b' ≤ end_of b + owed r b + more
    pub easy : (count : ℕ) → All (IsEasy count) b.uses → All (IsEasy count) b'.uses
    pub labels : b'.labels ≡ b.labels
    pub constants : b'.constants ≡ b.constants
