-- Room in the vectors of a buffer for all that its open uses may want.
use Rattle.std.specs.Prelude.{ℕ, ◌≡◌, ◌+◌, ◌*◌, ◌≤◌, List, length, vec_capacity}
use Rattle.std.specs.Ordering.{nat_cmp}
use Rattle.std.specs.FinMap.{FinMap}
use Rattle.a64_buffer.specs.declared.room.Burdens.{Burdens}
use Rattle.a64_buffer.specs.declared.site.Use.{Use}
use Rattle.a64_buffer.specs.declared.parts.Parts.{Parts}
use Rattle.a64_buffer.specs.Kinds.{Kinds}
use Rattle.a64_buffer.specs.Buffer.{end_of}
use Rattle.a64_buffer.specs.Classes.{veneer_uses, trap_words, weight_of, owed}
use Rattle.a64_buffer.specs.Chain.{AreChained}
use Rattle.a64_buffer.specs.Queues.{HaveRoomFor, AllHold, AllLimits, AreBurdens}
use Rattle.a64_buffer.specs.Sound.{seen}

-- the capacities stayed, and that for words at least
pub record SameRoom {K : Type 0} (p p' : Parts K) : Type 0 where
  pub words : p.words.capacity ≤ p'.words.capacity
  pub uses : vec_capacity p'.uses ≡ vec_capacity p.uses
  pub earlier : vec_capacity p'.earlier ≡ vec_capacity p.earlier
  pub traps : vec_capacity p'.traps ≡ vec_capacity p.traps
  pub islands : vec_capacity p'.islands ≡ vec_capacity p.islands

-- each vector has room for what all open uses add to it
pub record HasSpace {K : Type 0} (r : Kinds K) (p : Parts K) : Type 0 where
  pub words : end_of (seen p) + owed r (seen p) ≤ 4 * p.words.capacity
  pub uses : length p.uses.items + weight_of r veneer_uses p.uses.items ≤ vec_capacity p.uses
  pub earlier : length p.uses.items + weight_of r veneer_uses p.uses.items ≤ vec_capacity p.earlier
  pub traps : length p.traps.items + weight_of r trap_words p.uses.items ≤ vec_capacity p.traps

-- the queue of the longest range has room for all that islands add to it, and for so many uses more
abbrev pub HasVeneerRoom : {K : Type 0} → Kinds K → Parts K → ℕ → Type 0
HasVeneerRoom r p more = HaveRoomFor (weight_of r veneer_uses p.uses.items + more) p.queues

-- uses are in chains, and the sums are those of the open ones
pub record AreTracked {K : Type 0} (r : Kinds K) (uses : List (Use K)) (earlier : List ℕ)
    (heads loads : FinMap nat_cmp ℕ) (sums : Burdens) : Type 0 where
  pub chained : AreChained uses earlier heads loads
  pub burdens : AreBurdens r uses sums

abbrev pub IsTracked : {K : Type 0} → Kinds K → Parts K → Type 0
IsTracked r p = AreTracked r p.uses.items p.earlier.items p.heads p.loads p.burdens

-- a use was given what it waited for, of which the queues do not know yet
pub record KeepsQueues {K : Type 0} (r : Kinds K) (p p' : Parts K) : Type 0 where
  pub tracked : IsTracked r p'
  pub queues : p'.queues ≡ p.queues
  pub room : SameRoom p p'

-- what waits is kept: in chains, sums and queues, with room in that of the longest range for all
-- that islands add to it, and for so many uses more
pub record IsKept {K : Type 0} (r : Kinds K) (p : Parts K) (more : ℕ) : Type 0 where
  pub tracked : IsTracked r p
  pub hold : AllHold r p.uses.items p.queues
  pub limits : AllLimits r p.uses.items p.queues
  pub queued : HasVeneerRoom r p more

-- and it is kept still, in the room that there was
pub record Keeps {K : Type 0} (r : Kinds K) (p p' : Parts K) : Type 0 where
  pub kept : IsKept r p' 0
  pub room : SameRoom p p'

-- and besides for the jump of an island, and for the island
pub record HasSpaceForMore {K : Type 0} (r : Kinds K) (p : Parts K) : Type 0 where
  pub words : end_of (seen p) + owed r (seen p) + 4 ≤ 4 * p.words.capacity
  pub uses : length p.uses.items + weight_of r veneer_uses p.uses.items + 1 ≤ vec_capacity p.uses
  pub earlier : length p.uses.items + weight_of r veneer_uses p.uses.items + 1
      ≤ vec_capacity p.earlier
  pub traps : length p.traps.items + weight_of r trap_words p.uses.items ≤ vec_capacity p.traps
  pub islands : length p.islands.items + 1 ≤ vec_capacity p.islands
