-- What a buffer of code is to its callers.
use Rattle.std.specs.Prelude.{ℕ, ℤ, ◌≡◌, ◌≢◌, ◌⊎◌, ◌*◌, ◌+◌, ◌<◌, ◌≤◌, ◌&&◌, Bool, false, nat_eq}
use Rattle.std.specs.Prelude.{nat_le, if◌then◌else◌, List, [], ◌∷◌, ◌++◌, All, length, Option}
use Rattle.std.specs.Prelude.{None, Some, is_none, option_and_then, IsSome, IfSome, IsSomeAnd}
use Rattle.std.specs.Prelude.{MatchOption, Any}
use Rattle.std.specs.Option.{option_eq}
use Rattle.std.specs.Ordering.{nat_cmp}
use Rattle.std.specs.FinMap.{FinMap, get, empty}
use Rattle.a64_base.specs.declared.entity.ExternalName.{ExternalName}
use Rattle.a64_base.specs.declared.entity.MachLabel.{MachLabel}
use Rattle.a64_base.specs.declared.entity.Reloc.{Reloc}
use Rattle.a64_base.specs.declared.entity.TrapCode.{TrapCode}
use Rattle.a64_base.specs.declared.entity.UserStackMap.{UserStackMap}
use Rattle.a64_buffer.specs.declared.site.Target.{Target}
use Rattle.a64_buffer.specs.declared.site.Target.TheVariants.{Label, Constant, Trap, IslandEnd}
use Rattle.a64_buffer.specs.declared.site.Use.{Use}
use Rattle.a64_buffer.specs.Kinds.{Kinds, IsWithin}

-- what is recorded at places of the code, in the order in which it came: relocations with their
-- kinds, names and addends; the places behind calls; those behind patchable calls, with the calls'
-- lengths in bytes; and the stack maps by the places behind their calls
pub record Records : Type 0 where
  pub relocs : List (ℕ × Reloc × ExternalName × ℤ)
  pub calls : List ℕ
  pub patchable : List (ℕ × ℕ)
  pub maps : List (ℕ × UserStackMap)

-- nothing is recorded
abbrev pub no_records : Records
no_records = record { relocs = []; calls = []; patchable = []; maps = [] }

-- the words as they were put, those of islands included; the uses in the order in which they were
-- made, veneers included; the places of the bound labels by their numbers; the islands, where each
-- begins and ends; the traps with their codes, those recorded and the trap words of islands, in the
-- order in which they came; the bytes of the constants by their numbers; and what else is recorded
pub record Buffer (K : Type 0) : Type 0 where
  pub words : List ℕ
  pub uses : List (Use K)
  pub labels : FinMap nat_cmp ℕ
  pub islands : List (ℕ × ℕ)
  pub traps : List (ℕ × TrapCode)
  pub constants : FinMap nat_cmp (List ℕ)
  pub records : Records

-- the length of the code, in bytes
abbrev pub end_of : {K : Type 0} → Buffer K → ℕ
end_of b = 4 * length b.words

-- a buffer without code
abbrev pub new_buffer : {K : Type 0} → FinMap nat_cmp (List ℕ) → Buffer K
new_buffer constants = record {
  words = [];
  uses = [];
  labels = empty;
  islands = [];
  traps = [];
  constants = constants;
  records = no_records;
}

-- the number of the label that a target is, where it is one
abbrev pub label_of : Target → Option ℕ
label_of (Label label) = Some label.0
label_of (Constant constant) = None
label_of (Trap code) = None
label_of IslandEnd = None

-- whether a target is the label of a number
abbrev pub leads_to : ℕ → Target → Bool
leads_to label target = option_eq (λ m n. nat_eq m n) (label_of target) (Some label)

-- the place of the label that a target is, where it is one and bound
abbrev pub goal_of : FinMap nat_cmp ℕ → Target → Option ℕ
goal_of labels target = option_and_then (λ label. get labels label) (label_of target)

-- no use stands at a place
abbrev pub IsFree : {K : Type 0} → List (Use K) → ℕ → Type 0
IsFree uses place = All (λ u. u.offset ≢ place) uses

-- a place is in none of some areas
abbrev pub IsOutside : List (ℕ × ℕ) → ℕ → Type 0
IsOutside areas place = All (λ area. (place < area.0) ⊎ (area.1 ≤ place)) areas

-- the label of a use is bound; a use of something else asks for none
abbrev pub IsBound : {K : Type 0} → FinMap nat_cmp ℕ → Use K → Type 0
IsBound labels u = IfSome (label_of u.target) (λ label. IsSome (get labels label))

-- a use's label, which is not bound; `None` where it is bound, or the use is of something else
abbrev pub IsUnboundOf : {K : Type 0} → FinMap nat_cmp ℕ → Use K → Option MachLabel → Type 0
IsUnboundOf labels u result =
    MatchOption result
    (IsBound labels u)
    (λ label. (label_of u.target ≡ Some label.0) × (get labels label.0 ≡ None))

-- the label of a use is bound, or of this number at least
abbrev pub IsBoundOrFrom : {K : Type 0} → FinMap nat_cmp ℕ → ℕ → Use K → Type 0
IsBoundOrFrom labels least u =
    IfSome (label_of u.target) (λ label. get labels label ≡ None → least ≤ label)

-- the used label of least number that is not bound
abbrev pub IsFirstUnbound : {K : Type 0} → Buffer K → Option MachLabel → Type 0
IsFirstUnbound {K} b result =
    MatchOption result
    (All (IsBound b.labels) b.uses)
    (λ label. (get b.labels label.0 ≡ None)
    × Any (λ u. label_of u.target ≡ Some label.0) b.uses
    × All (IsBoundOrFrom b.labels label.0) b.uses)

module _ {K : Type 0} (r : Kinds K) where
  -- a place is in the range of a use of this kind at an offset
  abbrev pub is_within : K → ℕ → ℕ → Bool
  is_within kind offset place =
      nat_le place (offset + r.forward kind) && nat_le offset (place + r.backward kind)

  -- the place, where it is in range
  abbrev pub reached : K → ℕ → ℕ → Option ℕ
  reached kind offset place = if is_within kind offset place then Some place else None

  -- where a use stops that is made now: at its label, where that is bound in its range
  abbrev pub stop_of : FinMap nat_cmp ℕ → K → ℕ → Target → Option ℕ
  stop_of labels kind offset target =
      option_and_then (λ place. reached kind offset place) (goal_of labels target)

  -- a use that is made now
  abbrev pub made_use : FinMap nat_cmp ℕ → ℕ → Target → K → Use K
  made_use labels offset target kind = record {
    offset = offset;
    target = target;
    kind = kind;
    stop = stop_of labels kind offset target;
  }

  -- a use once its label is bound to a place: it stops there, where it has no stop and reaches it
  abbrev pub closed_at : ℕ → ℕ → Use K → Use K
  closed_at label place u = record u {
    stop =
        if leads_to label u.target && is_none u.stop then reached u.kind u.offset place else u.stop;
  }

  -- the label of a use is bound in its range; a use of something else asks for none
  abbrev pub IsReached : FinMap nat_cmp ℕ → Use K → Type 0
  IsReached labels u =
      IfSome (label_of u.target)
      (λ label. IsSomeAnd (get labels label)
      (λ place. IsWithin (r.forward u.kind) (r.backward u.kind) u.offset place))

  -- a use that can have no veneer reaches its label
  abbrev pub IsDirect : FinMap nat_cmp ℕ → Use K → Type 0
  IsDirect labels u = r.veneers u.kind ≡ false → IsReached labels u

  -- the label of a use that can have no veneer and does not reach it, where the use is such a one
  abbrev pub IsUnreachedOf : FinMap nat_cmp ℕ → Use K → Option MachLabel → Type 0
  IsUnreachedOf labels u result =
      MatchOption result
      (IsDirect labels u)
      (λ label. (label_of u.target ≡ Some label.0) × (IsDirect labels u → ⊥))

  -- this use is the first that can have no veneer and does not reach its label
  pub record IsFirstUnreachedAt (labels : FinMap nat_cmp ℕ) (uses : List (Use K)) (label : ℕ) :
      Type 0 where
    pub before : List (Use K)
    pub site : Use K
    pub after : List (Use K)
    pub split : uses ≡ before ++ site ∷ after
    pub direct : All (IsDirect labels) before
    pub leads : label_of site.target ≡ Some label
    pub unreached : IsDirect labels site → ⊥

  -- the label of the first such use, where there is one
  abbrev pub IsFirstUnreached : Buffer K → Option MachLabel → Type 0
  IsFirstUnreached b result =
      MatchOption result (All (IsDirect b.labels) b.uses)
      (λ label. IsFirstUnreachedAt b.labels b.uses label.0)
