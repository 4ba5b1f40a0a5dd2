-- Stops stay stops as a buffer grows.
use Rattle.std.proofs.Common.{ℕ, ◌≡◌, ◌+◌, ◌*◌, ◌/◌, ◌%◌, ◌<◌, ◌≤◌, List, length, get_or, Option, None, Some, All, ◌∙◌, subst, sym, arith, inl, inr, nat_cmp}
use Rattle.std.specs.Option.{IsSomeAnd, MatchOption}
use Rattle.std.specs.List.{Contains}
use Rattle.std.specs.FinMap.{FinMap, get}
use Rattle.a64_base.specs.declared.entity.TrapCode.{TrapCode}
use Rattle.a64_buffer.specs.declared.site.Use.{Use}
use Rattle.a64_buffer.specs.declared.site.Target.{Target}
use Rattle.a64_buffer.specs.declared.site.Target.TheVariants.{Label, Constant, Trap, IslandEnd}
use Rattle.a64_buffer.specs.Kinds.{Kinds}
use Rattle.a64_buffer.specs.Buffer.{Buffer, end_of, goal_of, IsFree}
use Rattle.a64_buffer.specs.Areas.{InArea, HasUse, Stands}
use Rattle.a64_buffer.specs.Sound.{IsPlaced, IsJump, IsFar, IsCopy, LeadsOn, IsStop, IsRightlyOpen, IsStoppedOrOpen}

-- the goals of before are goals still
pub goal_stays : (labels labels' : FinMap nat_cmp ℕ) → ((label place : ℕ) → get labels label ≡ Some place → get labels' label ≡ Some place) → (t : Target) (place : ℕ) → goal_of labels t ≡ Some place → goal_of labels' t ≡ Some place
goal_stays labels labels' stays (Label l) place e = stays l.0 place e
goal_stays labels labels' stays (Constant n) place e = absurd (let z : None ≡ Some place = e in cc)
goal_stays labels labels' stays (Trap c) place e = absurd (let z : None ≡ Some place = e in cc)
goal_stays labels labels' stays IslandEnd place e = absurd (let z : None ≡ Some place = e in cc)

-- a use that has a stop rightly stops there
pub stands_there : {K : Type 0} (r : Kinds K) (b : Buffer K) (areas : List (ℕ × ℕ)) → All (IsStoppedOrOpen r b areas) b.uses → (k stop : ℕ) (d : Use K) → k < length b.uses → (get_or b.uses k d).stop ≡ Some stop → IsStop r b areas (get_or b.uses k d).target (get_or b.uses k d).kind (get_or b.uses k d).offset stop
stands_there r b areas stops k stop d h e = subst (λ o. MatchOption o (IsRightlyOpen r b areas (get_or b.uses k d).target (get_or b.uses k d).kind (get_or b.uses k d).offset) (IsStop r b areas (get_or b.uses k d).target (get_or b.uses k d).kind (get_or b.uses k d).offset)) e (stops k d h)

-- the second buffer has all that the first has, and its areas hold what lay in those of the first
pub record Grows {K : Type 0} (b b' : Buffer K) (areas areas' : List (ℕ × ℕ)) : Type 0 where
  pub end : end_of b ≤ end_of b'
  pub words : (i : ℕ) → i < length b.words → get_or b'.words i 0 ≡ get_or b.words i 0
  pub uses : (place : ℕ) (target : Target) (kind : K) → HasUse b.uses place target kind → HasUse b'.uses place target kind
  pub free : (place : ℕ) → place < end_of b → InArea areas place 4 → IsFree b.uses place → IsFree b'.uses place
  pub labels : (label place : ℕ) → get b.labels label ≡ Some place → get b'.labels label ≡ Some place
  pub constants : b'.constants ≡ b.constants
  pub traps : (t : ℕ × TrapCode) → Contains b.traps t → Contains b'.traps t
  pub moves : (place size : ℕ) → place + size ≤ end_of b → InArea areas place size → InArea areas' place size

module _ {K : Type 0} (r : Kinds K) (b b' : Buffer K) (areas areas' : List (ℕ × ℕ)) (placed : All (IsPlaced (end_of b)) b.uses) (grows : Grows b b' areas areas') where
  -- a use stands inside
  pub use_inside : (d : Use K) (place : ℕ) (target : Target) (kind : K) → HasUse b.uses place target kind → (place % 4 ≡ 0) × (place < end_of b)
  use_inside d place target kind h =
      let p : IsPlaced (end_of b) (get_or b.uses h.index d) = placed h.index d h.within in
      (omega (arith, p.aligned, h.offset_is d), omega (arith, p.inside, h.offset_is d))

  pub stands_stays : (place size : ℕ) (words : List ℕ) → Stands b areas place words size → Stands b' areas' place words size
  stands_stays place size words s = record {
    at = λ i h. grows.words (place / 4 + i) (omega (arith, s.long, s.inside)) ∙ s.at i h;
    free = λ i h. grows.free (place + 4 * i) (omega (arith, s.long, s.inside)) (record { index = s.area.index; within = s.area.within; begins = let x = s.area.begins in omega arith; ends = let x = s.area.ends in omega (arith, s.long) }) (s.free i h);
    area = grows.moves place size s.inside s.area;
    long = s.long;
    inside = omega (arith, s.inside, grows.end);
  }

  jump_stays : (d : Use K) (target : Target) (place : ℕ) → IsJump r b areas target place → IsJump r b' areas' target place
  jump_stays d target place j =
      let i : (place % 4 ≡ 0) × (place < end_of b) = use_inside d place target r.jump j.use' in
      record {
        word = grows.words (place / 4) (omega arith) ∙ j.word;
        use' = grows.uses place target r.jump j.use';
        area = grows.moves place 4 (omega arith) j.area;
      }

  far_stays : (d : Use K) (target : Target) (place : ℕ) → place % 4 ≡ 0 → IsFar r b areas target place → IsFar r b' areas' target place
  far_stays d target place al f =
      let i : ((place + 4 * length r.far_words) % 4 ≡ 0) × (place + 4 * length r.far_words < end_of b) = use_inside d (place + 4 * length r.far_words) target r.far_use f.use' in
      record {
        stands = stands_stays place (4 * length r.far_words + 4) r.far_words f.stands;
        last = grows.words (place / 4 + length r.far_words) (omega arith) ∙ f.last;
        use' = grows.uses (place + 4 * length r.far_words) target r.far_use f.use';
      }

  some_and : {P Q : List ℕ → Type 0} (o : Option (List ℕ)) → ((c : List ℕ) → P c → Q c) → IsSomeAnd o P → IsSomeAnd o Q
  some_and None f h = h
  some_and (Some c) f h = f c h

  leads_stay : (d : Use K) (target : Target) (kind : K) (stop : ℕ) → stop % 4 ≡ 0 → LeadsOn r b areas kind target stop → LeadsOn r b' areas' kind target stop
  leads_stay d (Label label) kind stop al h = elim h [
    | inl e ↦ inl (grows.labels label.0 stop e)
    | inr v ↦ inr (v.0, elim v.1 [ inl j ↦ inl (j.0, jump_stays d (Label label) stop j.1) | inr f ↦ inr (far_stays d (Label label) stop al f) ])
  ]
  leads_stay d (Constant constant) kind stop al h =
      subst (λ m. IsSomeAnd (get m constant.0) (λ c. IsCopy r b' areas' c stop)) (sym grows.constants)
      (some_and (get b.constants constant.0) (λ c q. record { aligned = q.aligned; stands = stands_stays stop _ _ q.stands }) h)
  leads_stay d (Trap code) kind stop al h = record { stands = stands_stays stop 4 _ h.stands; recorded = grows.traps (stop, code) h.recorded }
  leads_stay d IslandEnd kind stop al h = omega (arith, grows.end)

  pub stop_stays : (d : Use K) (target : Target) (kind : K) (offset stop : ℕ) → IsStop r b areas target kind offset stop → IsStop r b' areas' target kind offset stop
  stop_stays d target kind offset stop s = record { aligned = s.aligned; within = s.within; ahead = elim s.ahead [ inl lt ↦ inl lt | inr goal ↦ inr (goal_stays b.labels b'.labels grows.labels target stop goal) ]; leads = leads_stay d target kind stop s.aligned s.leads }
