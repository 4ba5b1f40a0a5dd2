-- What makes code finished.
use Rattle.std.proofs.Common.{ℕ, ◌≡◌, ◌+◌, ◌-◌, ◌*◌, ◌/◌, ◌%◌, ◌^◌, ◌<◌, ◌≤◌, ◌&&◌, Bool, true, false, suc, List, [], ◌∷◌, ◌++◌, length, get_or, Option, Some, None, IfSome, All, refl, sym, ◌∙◌, ap, subst, arith, inl, inr}
use Rattle.std.specs.Prelude.{IsSome, IsSomeAnd, MatchOption, is_none}
use Rattle.std.specs.Option.{option_and_then}
use Rattle.std.specs.FinMap.{get}
use Rattle.std.proofs.lemmas.Bool.{false≢true, cases_lt}
use Rattle.a64_words.specs.Word.{outside, word_at, words_of, StandAt}
use Rattle.a64_buffer.specs.declared.site.Use.{Use}
use Rattle.a64_buffer.specs.declared.site.Target.{Target}
use Rattle.a64_buffer.specs.declared.site.Target.TheVariants.{Label, Constant, Trap, IslandEnd}
use Rattle.a64_buffer.specs.declared.finish.Finished.{Finished}
use Rattle.a64_buffer.specs.declared.force.ForceVeneers.{ForceVeneers}
use Rattle.a64_buffer.specs.Kinds.{Kinds, IsLawful, IsWithin, GoesTo}
use Rattle.a64_buffer.specs.Buffer.{Buffer, end_of, label_of, goal_of, is_within, IsFree, IsBound, IsReached}
use Rattle.a64_buffer.specs.Areas.{InArea, Stands}
use Rattle.a64_buffer.specs.Classes.{wants, label_class, class, class_of, is_open, owed}
use Rattle.a64_buffer.specs.Later.{IsSameUse, IsLater}
use Rattle.a64_buffer.specs.Sound.{IsPlaced, AreApart, IsJump, IsFar, IsCopy, IsStop, IsRightlyOpen, HasJump, IsSound, IsWhole, IsOver, IsIsland}
use Rattle.a64_buffer.specs.Islands.{IsVeneerUse, HasIsland}
use Rattle.a64_buffer.specs.Pieces.{begun, front_size}
use Rattle.a64_buffer.specs.Held.{HoldsArea}
use Rattle.a64_buffer.specs.Steps.{Writes, MayWrite, everywhere}
use Rattle.a64_buffer.specs.Leads.{FarAt, Arrives, JumpAt, LabelLeads, TargetLeads}
use Rattle.a64_buffer.specs.Settled.{IsCodeOf, Reaches, MayLead, IsLed, AreSettled, Lists, IsCode}
use Rattle.a64_buffer.specs.Finished.{JumpsOver, IsSettled, IsFinished}
use Rattle.a64_buffer.proofs.ByPlace.{recorded_later}
use Rattle.a64_buffer.proofs.Growth.{stands_there}
use Rattle.a64_buffer.proofs.Rooms.{label_wants}
use Rattle.a64_buffer.proofs.OwnStops.{own_later}
use Rattle.a64_buffer.proofs.Islands.{sound_beside, in_everywhere, open_areas, open_hold, more_areas, close_areas, begun_end, Keeps, later_keeps, begins_stay, island_stays}
use Rattle.a64_buffer.proofs.Emitting.{all_closed, stops_below}
use Rattle.a64_buffer.proofs.Fronts.{within_is}
use Rattle.a64_buffer.proofs.Held.{holds_area, island_written, pool_written}

one_place : (o : Option ℕ) (g h : ℕ) → o ≡ Some g → o ≡ Some h → g ≡ h
one_place o g h p q = cc

-- words that stand one behind another in bytes
pub stand_at : (bytes fixed : List ℕ) (place : ℕ) → ((i : ℕ) → i < length fixed → word_at bytes (place + 4 * i) ≡ get_or fixed i 0) → StandAt bytes place fixed
stand_at bytes [] place h = tt
stand_at bytes (w ∷ ws) place h =
    let e : place + 4 * 0 ≡ place = omega arith in (
      ap (word_at bytes) (sym e) ∙ h 0 (omega arith),
      stand_at bytes ws (place + 4) (λ i l.
          let n : place + 4 + 4 * i ≡ place + 4 * (i + 1) = omega arith in
          ap (word_at bytes) n ∙ (h (i + 1) (omega arith) ∙ get_next w ws i)),
    )
  where
    get_next : (w : ℕ) (ws : List ℕ) (i : ℕ) → get_or (w ∷ ws) (i + 1) 0 ≡ get_or ws i 0
    get_next w ws i = let e : i + 1 ≡ suc i = omega arith in ap (λ n. get_or (w ∷ ws) n 0) e

-- a buffer whose pool may be written
pub may_finish : {K : Type 0} (r : Kinds K) (b : Buffer K) → IsWhole r b → end_of b + owed r b < 2 ^ 31 → MayWrite r b
may_finish r b whole short = record {
  sound = sound_beside r b b.islands b.records b.islands everywhere whole.sound (λ p size h i. in_everywhere (end_of b) p size whole.sound.short h);
  room = record { rooms = λ k d w o. let x = whole.fits.rooms k d w o in omega arith };
  short = short;
}

module _ {K : Type 0} (r : Kinds K) (law : IsLawful r) (b m : Buffer K) (whole : IsWhole r b) (w : Writes r 5 b m) (bound : All (IsBound b.labels) b.uses) (direct : All (λ u. r.veneers u.kind ≡ false → IsReached r b.labels u) b.uses) where
  later : IsLater b m
  later = w.writing.part.later

  labels_are : m.labels ≡ b.labels
  labels_are = w.writing.part.labels

  sound : IsSound r m (open_areas r law b)
  sound = w.writing.sound_in (open_areas r law b) (sound_beside r b b.islands b.records b.islands (open_areas r law b) whole.sound (λ p size h i. more_areas r law b (end_of b, 2 ^ 32) p size i)) (open_hold r law b)

  -- ---- each label that is used is bound, and each use of a label stops

  bound_old : (k : ℕ) (d : Use K) (label : ℕ) → k < length b.uses → label_of (get_or b.uses k d).target ≡ Some label → (g : ℕ) × (get b.labels label ≡ Some g)
  bound_old k d label h e = some (get b.labels label) (subst (λ o. IfSome o (λ l. IsSome (get b.labels l))) e (bound k d h))
    where
      some : (o : Option ℕ) → IsSome o → (g : ℕ) × (o ≡ Some g)
      some None h = absurd (false≢true h)
      some (Some g) h = (g, refl)

  label_place : (k : ℕ) (d : Use K) (label : ℕ) → k < length m.uses → label_of (get_or m.uses k d).target ≡ Some label → (g : ℕ) × (get b.labels label ≡ Some g)
  label_place k d label h e = elim (cases_lt k (length b.uses)) [
    | inl lt ↦ bound_old k d label lt (ap label_of (sym (later.uses k d lt).target) ∙ e)
    | inr ge ↦
        let v : IsVeneerUse r b (get_or m.uses k d) = w.writing.given k d ge h in
        bound_old v.parent d label v.within (ap label_of (v.target d) ∙ e)
  ]

  place_low : (label g : ℕ) → get b.labels label ≡ Some g → g ≤ end_of b
  place_low label g e = (subst (λ o. IfSome o (λ p. (p % 4 ≡ 0) × (p ≤ end_of b))) e (whole.sound.bound label)).1

  in_range : (k : ℕ) (d : Use K) (label g : ℕ) → k < length m.uses → label_of (get_or m.uses k d).target ≡ Some label → get b.labels label ≡ Some g → r.veneers (get_or m.uses k d).kind ≡ false → IsWithin (r.forward (get_or m.uses k d).kind) (r.backward (get_or m.uses k d).kind) (get_or m.uses k d).offset g
  in_range k d label g h e at no_veneer = elim (cases_lt k (length b.uses)) [
    | inl lt ↦
        let same : IsSameUse (end_of b) (get_or b.uses k d) (get_or m.uses k d) = later.uses k d lt in
        let reached : IsReached r b.labels (get_or b.uses k d) = direct k d lt (ap r.veneers (sym same.kind) ∙ no_veneer) in
        let there : IsSomeAnd (get b.labels label) (λ p. IsWithin (r.forward (get_or b.uses k d).kind) (r.backward (get_or b.uses k d).kind) (get_or b.uses k d).offset p) = subst (λ o. IfSome o (λ l. IsSomeAnd (get b.labels l) (λ p. IsWithin (r.forward (get_or b.uses k d).kind) (r.backward (get_or b.uses k d).kind) (get_or b.uses k d).offset p))) (ap label_of (sym same.target) ∙ e) reached in
        let within : IsWithin (r.forward (get_or b.uses k d).kind) (r.backward (get_or b.uses k d).kind) (get_or b.uses k d).offset g = subst (λ o. IsSomeAnd o (λ p. IsWithin (r.forward (get_or b.uses k d).kind) (r.backward (get_or b.uses k d).kind) (get_or b.uses k d).offset p)) at there in
        subst (λ o. IsWithin (r.forward (get_or m.uses k d).kind) (r.backward (get_or m.uses k d).kind) o g) (sym same.offset) (subst (λ kind. IsWithin (r.forward kind) (r.backward kind) (get_or b.uses k d).offset g) (sym same.kind) within)
    | inr ge ↦
        let v : IsVeneerUse r b (get_or m.uses k d) = w.writing.given k d ge h in
        let p : IsPlaced (end_of m) (get_or m.uses k d) = sound.placed k d h in
        let low : g ≤ end_of b = place_low label g at in
        elim v.kind [
          | inl jump ↦ absurd (false≢true (sym no_veneer ∙ (ap r.veneers jump ∙ law.jump_veneers)))
          | inr far ↦
              let forward : r.forward (get_or m.uses k d).kind ≡ 2 ^ 31 - 1 = ap r.forward far ∙ law.far_forward in
              record { ahead = omega (arith, forward, whole.sound.short); behind = omega (arith, forward, law.backward_more (get_or m.uses k d).kind, p.inside, sound.short) }
        ]
  ]

  -- a use of a label stops
  stops : (k : ℕ) (d : Use K) (label : ℕ) → k < length m.uses → label_of (get_or m.uses k d).target ≡ Some label → (t : ℕ) × ((get_or m.uses k d).stop ≡ Some t)
  stops k d label h e = go (get_or m.uses k d).stop refl
    where
      closed : is_open r (get_or m.uses k d) ≡ false
      closed = all_closed r m.uses w.done k d h

      not_wanting : (target : Target) (kind : K) (l : ℕ) → label_of target ≡ Some l → wants (class_of r target kind) ≡ false → r.veneers kind ≡ false
      not_wanting (Label x) kind l q n = by (r.veneers kind) (r.urgency kind) n
        where
          by : (v : Bool) (n : ℕ) → wants (label_class v n) ≡ false → v ≡ false
          by true n q = absurd (false≢true (sym q ∙ label_wants n))
          by false n q = refl
      not_wanting (Constant c) kind l q n = absurd (let z : None ≡ Some l = q in cc)
      not_wanting (Trap c) kind l q n = absurd (let z : None ≡ Some l = q in cc)
      not_wanting IslandEnd kind l q n = absurd (let z : None ≡ Some l = q in cc)

      go : (o : Option ℕ) → (get_or m.uses k d).stop ≡ o → (t : ℕ) × (o ≡ Some t)
      go (Some t) q = (t, refl)
      go None q =
          let n : wants (class r (get_or m.uses k d)) ≡ false = unwanted (wants (class r (get_or m.uses k d))) (ap (λ s. wants (class r (get_or m.uses k d)) && is_none s) (sym q) ∙ closed) in
          let g = label_place k d label h e in
          let there : goal_of m.labels (get_or m.uses k d).target ≡ Some g.0 = ap (λ ls. goal_of ls (get_or m.uses k d).target) labels_are ∙ (ap (λ o. option_and_then (λ l. get b.labels l) o) e ∙ g.1) in
          let open' : IsRightlyOpen r m (open_areas r law b) (get_or m.uses k d).target (get_or m.uses k d).kind (get_or m.uses k d).offset = subst (λ o. MatchOption o (IsRightlyOpen r m (open_areas r law b) (get_or m.uses k d).target (get_or m.uses k d).kind (get_or m.uses k d).offset) (IsStop r m (open_areas r law b) (get_or m.uses k d).target (get_or m.uses k d).kind (get_or m.uses k d).offset)) q (sound.stops k d h) in
          let out : is_within r (get_or m.uses k d).kind (get_or m.uses k d).offset g.0 ≡ false = subst (λ o. IfSome o (λ p. is_within r (get_or m.uses k d).kind (get_or m.uses k d).offset p ≡ false)) there open' in
          absurd (false≢true (sym out ∙ within_is r (get_or m.uses k d).kind (get_or m.uses k d).offset g.0 (in_range k d label g.0 h e g.1 (not_wanting (get_or m.uses k d).target (get_or m.uses k d).kind label e n))))
        where
          unwanted : (x : Bool) → (x && true) ≡ false → x ≡ false
          unwanted true q = absurd (false≢true (sym q))
          unwanted false q = refl

  -- each use may lead to its stop
  pub all_lead : All (MayLead r) m.uses
  all_lead k d h = go (get_or m.uses k d).stop (sound.stops k d h)
    where
      go : (o : Option ℕ) → MatchOption o (IsRightlyOpen r m (open_areas r law b) (get_or m.uses k d).target (get_or m.uses k d).kind (get_or m.uses k d).offset) (IsStop r m (open_areas r law b) (get_or m.uses k d).target (get_or m.uses k d).kind (get_or m.uses k d).offset) → IfSome o (Reaches r (get_or m.uses k d).kind (get_or m.uses k d).offset)
      go None s = tt
      go (Some t) s = record { within = s.within; aligned = s.aligned ∙ sym (sound.placed k d h).aligned }

  pub final_placed : All (IsPlaced (end_of m)) m.uses
  final_placed = sound.placed

  pub final_apart : AreApart m.uses
  final_apart = sound.apart

  -- ---- the finished words

  module _ (words bytes : List ℕ) (t : AreSettled r m.words m.uses words) (c : IsCodeOf words bytes) where
    pub word_free : (i : ℕ) → i < length m.words → IsFree m.uses (4 * i) → word_at bytes (4 * i) ≡ get_or m.words i 0
    word_free i h f = c.at i (omega (arith, t.same_length)) ∙ t.free i h f

    led : (k : ℕ) (d : Use K) → k < length m.uses → IsLed r (get_or m.words ((get_or m.uses k d).offset / 4) 0) (get_or m.uses k d) (word_at bytes (get_or m.uses k d).offset)
    led k d h =
        let u : Use K = get_or m.uses k d in
        let p : IsPlaced (end_of m) u = sound.placed k d h in
        let whole' : 4 * (u.offset / 4) ≡ u.offset = omega (arith, p.aligned) in
        subst (IsLed r (get_or m.words (u.offset / 4) 0) u) (sym (c.at (u.offset / 4) (omega (arith, p.inside, t.same_length))) ∙ ap (word_at bytes) whole') (t.settled k d h)

    -- where a use goes that stops
    goes : (k : ℕ) (d : Use K) (stop : ℕ) → k < length m.uses → (get_or m.uses k d).stop ≡ Some stop → GoesTo r (get_or m.uses k d).kind (get_or m.words ((get_or m.uses k d).offset / 4) 0) (word_at bytes (get_or m.uses k d).offset) (get_or m.uses k d).offset stop
    goes k d stop h e = subst (λ o. IfSome o (GoesTo r (get_or m.uses k d).kind (get_or m.words ((get_or m.uses k d).offset / 4) 0) (word_at bytes (get_or m.uses k d).offset) (get_or m.uses k d).offset)) e (led k d h).leads

    stop_is : (k : ℕ) (d : Use K) (stop : ℕ) → k < length m.uses → (get_or m.uses k d).stop ≡ Some stop → IsStop r m (open_areas r law b) (get_or m.uses k d).target (get_or m.uses k d).kind (get_or m.uses k d).offset stop
    stop_is k d stop h e = stands_there r m (open_areas r law b) sound.stops k stop d h e

    abbrev areas : List (ℕ × ℕ)
    areas = b.islands ++ (end_of b, end_of m) ∷ []

    closes : (p size : ℕ) → p + size ≤ end_of m → InArea (open_areas r law b) p size → InArea areas p size
    closes p size h i = close_areas r law b (end_of m) p size h i

    stands : (place size : ℕ) (fixed : List ℕ) → place % 4 ≡ 0 → Stands m (open_areas r law b) place fixed size → StandAt bytes place fixed
    stands place size fixed al s = stand_at bytes fixed place (λ i l.
        let e : place + 4 * i ≡ 4 * (place / 4 + i) = omega arith in
        ap (word_at bytes) e ∙ (word_free (place / 4 + i) (omega (arith, s.long, s.inside)) (subst (IsFree m.uses) e (s.free i l)) ∙ s.at i l))

    -- ---- veneers

    module _ (label : ℕ) (goal : ℕ) (at : get b.labels label ≡ Some goal) where
      goal_is : (stop : ℕ) → get m.labels label ≡ Some stop → stop ≡ goal
      goal_is stop e = one_place (get b.labels label) stop goal (ap (λ m. get m label) (sym labels_are) ∙ e) at

      -- a use of the label that may not have a veneer stops at the label
      straight : (target : Target) (kind : K) (offset stop : ℕ) → label_of target ≡ Some label → r.veneers kind ≡ false → IsStop r m (open_areas r law b) target kind offset stop → stop ≡ goal
      straight (Label l) kind offset stop e n s = elim s.leads [
        | inl g ↦ goal_is stop (ap (get m.labels) (let z : label ≡ l.0 = cc (sym e) in z) ∙ g)
        | inr v ↦ absurd (false≢true (sym n ∙ v.0))
      ]
      straight (Constant x) kind offset stop e n s = absurd (let z : None ≡ Some label = e in cc)
      straight (Trap x) kind offset stop e n s = absurd (let z : None ≡ Some label = e in cc)
      straight IslandEnd kind offset stop e n s = absurd (let z : None ≡ Some label = e in cc)

      far_straight : r.veneers r.far_use ≡ false
      far_straight = go (r.veneers r.far_use) refl
        where
          go : (v : Bool) → r.veneers r.far_use ≡ v → v ≡ false
          go true e = absurd (let z = law.veneer_urgency r.far_use e in omega (arith, z, law.far_urgency))
          go false e = refl

      far_at : (target : Target) (place : ℕ) → label_of target ≡ Some label → place % 4 ≡ 0 → IsFar r m (open_areas r law b) target place → FarAt r bytes areas b.labels b.constants m.traps place goal
      far_at target place e al f =
          let d : Use K = record { offset = 0; target = IslandEnd; kind = r.jump; stop = None } in
          let i : ℕ = f.use'.index in
          let is_label : label_of (get_or m.uses i d).target ≡ Some label = ap label_of (f.use'.target_is d) ∙ e in
          let stop = stops i d label f.use'.within is_label in
          let there : stop.0 ≡ goal = straight (get_or m.uses i d).target (get_or m.uses i d).kind (get_or m.uses i d).offset stop.0 is_label (ap r.veneers (f.use'.kind_is d) ∙ far_straight) (stop_is i d stop.0 f.use'.within stop.1) in
          let go = goes i d stop.0 f.use'.within stop.1 in
          let at' : (place + 4 * length r.far_words) / 4 ≡ place / 4 + length r.far_words = omega arith in
          let put : get_or m.words ((get_or m.uses i d).offset / 4) 0 ≡ 0 = ap (λ n. get_or m.words (n / 4) 0) (f.use'.offset_is d) ∙ (ap (λ n. get_or m.words n 0) at' ∙ f.last) in
          record {
            area = closes place (4 * length r.far_words + 4) f.stands.inside f.stands.area;
            words = stands place (4 * length r.far_words + 4) r.far_words al f.stands;
            last = subst (λ n. GoesTo r r.far_use 0 (word_at bytes n) n goal) (f.use'.offset_is d)
                (subst (λ kind. GoesTo r kind 0 (word_at bytes (get_or m.uses i d).offset) (get_or m.uses i d).offset goal) (f.use'.kind_is d)
                (subst (λ p. GoesTo r (get_or m.uses i d).kind p (word_at bytes (get_or m.uses i d).offset) (get_or m.uses i d).offset goal) put
                (subst (GoesTo r (get_or m.uses i d).kind (get_or m.words ((get_or m.uses i d).offset / 4) 0) (word_at bytes (get_or m.uses i d).offset) (get_or m.uses i d).offset) there go)));
          }

      arrives : (target : Target) (kind : K) (offset stop : ℕ) → label_of target ≡ Some label → r.urgency kind ≡ 3 → IsStop r m (open_areas r law b) target kind offset stop → Arrives r bytes areas b.labels b.constants m.traps stop goal
      arrives (Label l) kind offset stop e three s = elim s.leads [
        | inl g ↦ inl (goal_is stop (ap (get m.labels) (let z : label ≡ l.0 = cc (sym e) in z) ∙ g))
        | inr v ↦ elim v.1 [
          | inl j ↦ absurd (j.0 three)
          | inr f ↦ inr (far_at (Label l) stop e s.aligned f)
        ]
      ]
      arrives (Constant x) kind offset stop e three s = absurd (let z : None ≡ Some label = e in cc)
      arrives (Trap x) kind offset stop e three s = absurd (let z : None ≡ Some label = e in cc)
      arrives IslandEnd kind offset stop e three s = absurd (let z : None ≡ Some label = e in cc)

      jump_at : (target : Target) (place : ℕ) → label_of target ≡ Some label → IsJump r m (open_areas r law b) target place → JumpAt r bytes areas b.labels b.constants m.traps place goal
      jump_at target place e j =
          let d : Use K = record { offset = 0; target = IslandEnd; kind = r.jump; stop = None } in
          let i : ℕ = j.use'.index in
          let p : IsPlaced (end_of m) (get_or m.uses i d) = sound.placed i d j.use'.within in
          let is_label : label_of (get_or m.uses i d).target ≡ Some label = ap label_of (j.use'.target_is d) ∙ e in
          let stop = stops i d label j.use'.within is_label in
          let put : get_or m.words ((get_or m.uses i d).offset / 4) 0 ≡ r.jump_word = ap (λ n. get_or m.words (n / 4) 0) (j.use'.offset_is d) ∙ j.word in
          record {
            area = closes place 4 (omega (arith, p.inside, p.aligned, j.use'.offset_is d)) j.area;
            word = subst (λ n. outside (r.mask r.jump) (word_at bytes n) ≡ outside (r.mask r.jump) r.jump_word) (j.use'.offset_is d)
                (subst (λ kind. outside (r.mask kind) (word_at bytes (get_or m.uses i d).offset) ≡ outside (r.mask kind) r.jump_word) (j.use'.kind_is d)
                ((led i d j.use'.within).rest ∙ ap (outside (r.mask (get_or m.uses i d).kind)) put));
            next = stop.0;
            goes = subst (λ n. GoesTo r r.jump r.jump_word (word_at bytes n) n stop.0) (j.use'.offset_is d)
                (subst (λ kind. GoesTo r kind r.jump_word (word_at bytes (get_or m.uses i d).offset) (get_or m.uses i d).offset stop.0) (j.use'.kind_is d)
                (subst (λ q. GoesTo r (get_or m.uses i d).kind q (word_at bytes (get_or m.uses i d).offset) (get_or m.uses i d).offset stop.0) put (goes i d stop.0 j.use'.within stop.1)));
            arrives = arrives (get_or m.uses i d).target (get_or m.uses i d).kind (get_or m.uses i d).offset stop.0 is_label (ap r.urgency (j.use'.kind_is d) ∙ law.jump_urgency) (stop_is i d stop.0 j.use'.within stop.1);
          }

      label_leads : (target : Target) (kind : K) (offset stop : ℕ) → label_of target ≡ Some label → IsStop r m (open_areas r law b) target kind offset stop → LabelLeads r bytes areas b.labels b.constants m.traps kind stop goal
      label_leads (Label l) kind offset stop e s = elim s.leads [
        | inl g ↦ inl (goal_is stop (ap (get m.labels) (let z : label ≡ l.0 = cc (sym e) in z) ∙ g))
        | inr v ↦ inr (
          v.0,
          elim v.1 [
            | inl j ↦ inr (j.0, jump_at (Label l) stop e j.1)
            | inr f ↦ inl (far_at (Label l) stop e s.aligned f)
          ],
        )
      ]
      label_leads (Constant x) kind offset stop e s = absurd (let z : None ≡ Some label = e in cc)
      label_leads (Trap x) kind offset stop e s = absurd (let z : None ≡ Some label = e in cc)
      label_leads IslandEnd kind offset stop e s = absurd (let z : None ≡ Some label = e in cc)

    -- ---- all uses

    target_leads : (k : ℕ) (d : Use K) → k < length m.uses → (target : Target) (stop : ℕ) → (get_or m.uses k d).target ≡ target → IsStop r m (open_areas r law b) target (get_or m.uses k d).kind (get_or m.uses k d).offset stop → TargetLeads r bytes areas b.labels b.constants m.traps (get_or m.uses k d).kind target stop
    target_leads k d h (Label l) stop e s =
        let g = label_place k d l.0 h (ap label_of e) in
        subst (λ o. IsSomeAnd o (LabelLeads r bytes areas b.labels b.constants m.traps (get_or m.uses k d).kind stop)) (sym g.1) (label_leads l.0 g.0 g.1 (Label l) (get_or m.uses k d).kind (get_or m.uses k d).offset stop refl s)
    target_leads k d h (Constant x) stop e s =
        subst (λ cs. IsSomeAnd (get cs x.0) (λ content. (stop % length content ≡ 0) × InArea areas stop (length content) × StandAt bytes stop (words_of content))) later.constants
        (copy (get m.constants x.0) s.leads)
      where
        copy : (o : Option (List ℕ)) → IsSomeAnd o (λ content. IsCopy r m (open_areas r law b) content stop) → IsSomeAnd o (λ content. (stop % length content ≡ 0) × InArea areas stop (length content) × StandAt bytes stop (words_of content))
        copy None h = h
        copy (Some content) h = (h.aligned, closes stop (length content) h.stands.inside h.stands.area, stands stop (length content) (words_of content) s.aligned h.stands)
    target_leads k d h (Trap x) stop e s = (closes stop 4 s.leads.stands.inside s.leads.stands.area, (stands stop 4 (r.trap_word ∷ []) s.aligned s.leads.stands).0, s.leads.recorded)
    target_leads k d h IslandEnd stop e s = tt

    -- a use without a stop begins an island
    no_stop : (k : ℕ) (d : Use K) → k < length m.uses → (target : Target) → (get_or m.uses k d).target ≡ target → (get_or m.uses k d).stop ≡ None → target ≡ IslandEnd
    no_stop k d h (Label l) e n = absurd (let s = stops k d l.0 h (ap label_of e) in let z : None ≡ Some s.0 = sym n ∙ s.1 in cc)
    no_stop k d h (Constant x) e n = absurd (false≢true (sym (all_closed r m.uses w.done k d h) ∙ (ap (λ s. wants (class r (get_or m.uses k d)) && is_none s) n ∙ ap (λ t. wants (class_of r t (get_or m.uses k d).kind) && true) e)))
    no_stop k d h (Trap x) e n = absurd (false≢true (sym (all_closed r m.uses w.done k d h) ∙ (ap (λ s. wants (class r (get_or m.uses k d)) && is_none s) n ∙ ap (λ t. wants (class_of r t (get_or m.uses k d).kind) && true) e)))
    no_stop k d h IslandEnd e n = refl

    all_targets : All (λ u. MatchOption u.stop (u.target ≡ IslandEnd) (TargetLeads r bytes areas b.labels b.constants m.traps u.kind u.target)) m.uses
    all_targets k d h = go (get_or m.uses k d).stop refl
      where
        go : (o : Option ℕ) → (get_or m.uses k d).stop ≡ o → MatchOption o ((get_or m.uses k d).target ≡ IslandEnd) (TargetLeads r bytes areas b.labels b.constants m.traps (get_or m.uses k d).kind (get_or m.uses k d).target)
        go None e = no_stop k d h (get_or m.uses k d).target refl e
        go (Some s) e = target_leads k d h (get_or m.uses k d).target s refl (stop_is k d s h e)

    keeps : Keeps b m
    keeps = later_keeps r b m whole.islands later labels_are

    -- the jumps over islands lead to their ends
    jumps_over : All (λ island. HasJump b.uses island → JumpsOver r bytes island) b.islands
    jumps_over k d h (index, e, within, is, front) =
        let i : IsIsland r m (get_or b.islands k d) = island_stays r b m k d h keeps (whole.islands.each k d h) in
        let same : IsSameUse (end_of b) e (get_or m.uses index e) = subst (λ (u : Use K). IsSameUse (end_of b) u (get_or m.uses index e)) is (later.uses index e within) in
        let inside : index < length m.uses = omega (arith, within, later.count) in
        let offset_is : (get_or m.uses index e).offset ≡ (get_or b.islands k d).0 = same.offset ∙ front.0 in
        let over : IsOver r m (get_or b.islands k d) (get_or m.uses index e) = i.over index e inside (offset_is, same.target ∙ front.1) in
        let put : get_or m.words ((get_or m.uses index e).offset / 4) 0 ≡ r.jump_word = ap (λ n. get_or m.words (n / 4) 0) offset_is ∙ over.word in
        record {
          word = subst (λ n. outside (r.mask r.jump) (word_at bytes n) ≡ outside (r.mask r.jump) r.jump_word) (offset_is)
              (subst (λ kind. outside (r.mask kind) (word_at bytes (get_or m.uses index e).offset) ≡ outside (r.mask kind) r.jump_word) (over.kind)
              ((led index e inside).rest ∙ ap (outside (r.mask (get_or m.uses index e).kind)) put));
          goes = subst (λ n. GoesTo r r.jump r.jump_word (word_at bytes n) n (get_or b.islands k d).1) (offset_is)
              (subst (λ kind. GoesTo r kind r.jump_word (word_at bytes (get_or m.uses index e).offset) (get_or m.uses index e).offset (get_or b.islands k d).1) (over.kind)
              (subst (λ q. GoesTo r (get_or m.uses index e).kind q (word_at bytes (get_or m.uses index e).offset) (get_or m.uses index e).offset (get_or b.islands k d).1) put (goes index e (get_or b.islands k d).1 inside (over.stop))));
        }

    -- ---- what stands in the pool and in the islands

    all_settled : All (λ u. IsSettled r (get_or m.words (u.offset / 4) 0) u (word_at bytes u.offset)) m.uses
    all_settled k d h = record { rest = (led k d h).rest; stops = (led k d h).leads }

    pool_held : HoldsArea r bytes b.constants m.uses b.labels b.labels (end_of b) (end_of b) (end_of m)
    pool_held =
        subst (λ ls. HoldsArea r bytes b.constants m.uses b.labels ls (end_of b) (end_of b) (end_of m)) labels_are
        (holds_area r b.constants bytes (open_areas r law b) b b m m w.writing.served (pool_written r b m w.writing.served whole.sound sound.placed later w.writing.serves (λ k d ge h. (w.writing.given k d ge h).labelled)) sound word_free all_settled)

    island_held : (distance : ℕ) (force : ForceVeneers) (jump : Bool) (n v : Buffer K) → IsWhole r n → HasIsland r distance force jump n v → IsLater v b → HoldsArea r bytes b.constants m.uses n.labels b.labels (end_of n) (end_of n + front_size jump) (end_of v)
    island_held distance force jump n v whole' has since =
        subst (λ ls. HoldsArea r bytes b.constants m.uses n.labels ls (end_of n) (end_of n + front_size jump) (end_of v)) labels_are
        (subst (λ from. HoldsArea r bytes b.constants m.uses n.labels m.labels (end_of n) from (end_of v)) (begun_end r jump n)
        (holds_area r b.constants bytes (open_areas r law b) n (begun r jump n) v m has.served (island_written r distance force jump n v b m whole' has since later) sound word_free all_settled))

    pub finished : (code : Finished) → code.bytes.items ≡ bytes → Lists b.labels code.labels.items → code.pool ≡ end_of b → code.islands.items ≡ b.islands → code.traps.items ≡ m.traps → code.relocs.items ≡ b.records.relocs → code.calls.items ≡ b.records.calls → code.patchable.items ≡ b.records.patchable → code.maps.items ≡ b.records.maps → IsFinished r b code
    finished code bytes_are labels pool islands traps relocs calls patchable maps = record {
      final = m;
      sound = whole.sound;
      later = later;
      labels_kept = labels_are;
      records_kept = w.writing.part.records;
      longest = omega (arith, w.writing.part.owed);
      few_traps = omega (arith, w.writing.traps);
      same_length = ap length bytes_are ∙ (c.same_length ∙ ap (λ n. 4 * n) t.same_length);
      free = λ i h f. ap (λ bs. word_at bs (4 * i)) bytes_are ∙ word_free i h f;
      settled = λ k d h. subst (λ bs. IsSettled r (get_or m.words ((get_or m.uses k d).offset / 4) 0) (get_or m.uses k d) (word_at bs (get_or m.uses k d).offset)) (sym bytes_are) (all_settled k d h);
      leads = subst (λ ts. All (λ u. MatchOption u.stop (u.target ≡ IslandEnd) (TargetLeads r code.bytes.items areas b.labels b.constants ts u.kind u.target)) m.uses) (sym traps)
          (subst (λ bs. All (λ u. MatchOption u.stop (u.target ≡ IslandEnd) (TargetLeads r bs areas b.labels b.constants m.traps u.kind u.target)) m.uses) (sym bytes_are) all_targets);
      given = w.writing.given;
      served = w.writing.served;
      serves = w.writing.serves;
      own_stops = own_later r (open_areas r law b) w.writing.served b m w.writing.serves later labels_are sound (stops_below r b b.islands whole.sound) whole.own_stops;
      recorded = recorded_later b m later w.writing.part.records whole.recorded;
      final_sound = sound_beside r m m.islands m.records (open_areas r law b) areas sound closes;
      jumps = subst (λ bs. All (λ island. HasJump b.uses island → JumpsOver r bs island) b.islands) (sym bytes_are) jumps_over;
      begins = λ k d h.
          let i : IsIsland r b (get_or b.islands k d) = whole.islands.each k d h in
          elim i.begins [ inl jump ↦ inl jump | inr piece ↦ inr (begins_stay r b m k d h keeps i.inside piece) ];
      pool_holds = subst (λ bs. HoldsArea r bs b.constants m.uses b.labels b.labels (end_of b) (end_of b) (end_of m)) (sym bytes_are) pool_held;
      islands_hold = λ distance force jump n v whole' has since. subst (λ bs. HoldsArea r bs b.constants m.uses n.labels b.labels (end_of n) (end_of n + front_size jump) (end_of v)) (sym bytes_are) (island_held distance force jump n v whole' has since);
      labels = labels;
      islands = islands;
      pool = pool;
      traps = traps;
      relocs = relocs;
      calls = calls;
      patchable = patchable;
      maps = maps;
    }

-- and that is what the buffer with its pool makes
pub code_finished : {K : Type 0} (r : Kinds K) (law : IsLawful r) (b m : Buffer K) (whole : IsWhole r b) (w : Writes r 5 b m) → All (IsBound b.labels) b.uses → All (λ u. r.veneers u.kind ≡ false → IsReached r b.labels u) b.uses → (code : Finished) → IsCode r m (end_of b) code → IsFinished r b code
code_finished r law b m whole w bound direct code c =
    finished r law b m whole w bound direct c.words code.bytes.items c.settled c.bytes code refl (subst (λ ls. Lists ls code.labels.items) w.writing.part.labels c.labels) c.pool_is (c.islands ∙ w.writing.part.islands) c.traps
    (c.relocs ∙ ap (λ rs. rs.relocs) w.writing.part.records) (c.calls ∙ ap (λ rs. rs.calls) w.writing.part.records) (c.patchable ∙ ap (λ rs. rs.patchable) w.writing.part.records) (c.maps ∙ ap (λ rs. rs.maps) w.writing.part.records)
