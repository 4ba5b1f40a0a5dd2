-- What finished code is to its callers.
use Rattle.std.specs.Prelude.{ℕ, ◌≡◌, ◌⊎◌, ◌+◌, ◌*◌, ◌/◌, ◌<◌, ◌≤◌, Bool, List, [], ◌∷◌, ◌++◌, All}
use Rattle.std.specs.Prelude.{Any, length, slice_index, slice_index_or, IfSome, MatchOption}
use Rattle.a64_buffer.specs.declared.site.Use.{Use}
use Rattle.a64_buffer.specs.declared.site.Target.TheVariants.{IslandEnd}
use Rattle.a64_buffer.specs.declared.finish.Finished.{Finished}
use Rattle.a64_buffer.specs.declared.force.ForceVeneers.{ForceVeneers}
use Rattle.a64_words.specs.Word.{outside, word_at}
use Rattle.a64_buffer.specs.Kinds.{Kinds, GoesTo}
use Rattle.a64_buffer.specs.Buffer.{Buffer, end_of, IsFree}
use Rattle.a64_buffer.specs.ByPlace.{AreRecordedByPlace}
use Rattle.a64_buffer.specs.Classes.{trap_words, weight_of, owed}
use Rattle.a64_buffer.specs.Later.{IsLater}
use Rattle.a64_buffer.specs.Sound.{HasJump, HaveOwnStops, IsSound, IsWhole}
use Rattle.a64_buffer.specs.Pieces.{BeginsWith, Serves, front_size}
use Rattle.a64_buffer.specs.Islands.{IsVeneerUse, HasIsland}
use Rattle.a64_buffer.specs.Leads.{TargetLeads}
use Rattle.a64_buffer.specs.Settled.{Lists}
use Rattle.a64_buffer.specs.Held.{HoldsArea}

module _ {K : Type 0} (r : Kinds K) where
  -- a jump word from one place to the other
  pub record JumpsOver (bytes : List ℕ) (island : ℕ × ℕ) : Type 0 where
    pub word : outside (r.mask r.jump) (word_at bytes island.0)
        ≡ outside (r.mask r.jump) r.jump_word
    pub goes : GoesTo r r.jump r.jump_word (word_at bytes island.0) island.0 island.1

  -- the finished word of a use: as it was put outside of the kind's field, and leading to the use's
  -- stop
  pub record IsSettled (put : ℕ) (u : Use K) (word : ℕ) : Type 0 where
    pub rest : outside (r.mask u.kind) word ≡ outside (r.mask u.kind) put
    pub stops : IfSome u.stop (λ stop. GoesTo r u.kind put word u.offset stop)

  -- finished code: the buffer as it is with the pool at its end, each word of which stands where it
  -- was put, and each use of which leads to its target; each island begins with a jump over it, or
  -- with what a use leads to
  pub record IsFinished (b : Buffer K) (code : Finished) : Type 0 where
    pub final : Buffer K
    pub sound : IsSound r b b.islands
    pub later : IsLater b final
    pub labels_kept : final.labels ≡ b.labels
    pub records_kept : final.records ≡ b.records
    pub longest : end_of final ≤ end_of b + owed r b
    pub few_traps : length final.traps ≤ length b.traps + weight_of r trap_words b.uses
    pub same_length : length code.bytes.items ≡ end_of final
    pub free : (i : ℕ) → i < length final.words → IsFree final.uses (4 * i)
        → word_at code.bytes.items (4 * i) ≡ slice_index final.words i
    pub settled : All
        (λ u. IsSettled (slice_index final.words (u.offset / 4)) u
        (word_at code.bytes.items u.offset)) final.uses
    pub leads :
        All (λ u. MatchOption u.stop
        (u.target ≡ IslandEnd)
        (TargetLeads r code.bytes.items (b.islands ++ (end_of b, end_of final) ∷ [])
        b.labels b.constants code.traps.items u.kind u.target)) final.uses
    pub given :
        (k : ℕ) (d : Use K) → length b.uses ≤ k → k < length final.uses
        → IsVeneerUse r b (slice_index_or final.uses k d)
    pub served : List (Use K)
    pub serves : Serves r b.labels b.constants served b final
    pub own_stops : HaveOwnStops b.labels final.uses
    pub recorded : AreRecordedByPlace (end_of final) final.traps final.records
    pub final_sound : IsSound r final (b.islands ++ (end_of b, end_of final) ∷ [])
    pub jumps : All (λ island. HasJump b.uses island → JumpsOver code.bytes.items island) b.islands
    pub begins :
        All (λ island. HasJump b.uses island ⊎ Any (BeginsWith r final island) final.uses)
        b.islands
    pub pool_holds :
        HoldsArea r code.bytes.items b.constants final.uses b.labels b.labels
        (end_of b) (end_of b) (end_of final)
    pub islands_hold :
        (distance : ℕ) (force : ForceVeneers) (jump : Bool) (m w : Buffer K)
        → IsWhole r m → HasIsland r distance force jump m w → IsLater w b
        → HoldsArea r code.bytes.items b.constants final.uses m.labels b.labels
        (end_of m) (end_of m + front_size jump) (end_of w)
    pub labels : Lists b.labels code.labels.items
    pub islands : code.islands.items ≡ b.islands
    pub pool : code.pool ≡ end_of b
    pub traps : code.traps.items ≡ final.traps
    pub relocs : code.relocs.items ≡ b.records.relocs
    pub calls : code.calls.items ≡ b.records.calls
    pub patchable : code.patchable.items ≡ b.records.patchable
    pub maps : code.maps.items ≡ b.records.maps
