-- What an island that was written leaves.
use Rattle.std.proofs.Common.{ℕ, ◌≡◌, ◌≢◌, ◌⊎◌, ◌+◌, ◌*◌, ◌/◌, ◌^◌, ◌<◌, ◌≤◌, Bool, true, false, cond, List, [], ◌∷◌, ◌++◌, All, Any, map, length, get_or, Option, None, Some, refl, sym, ap, ◌∙◌, subst, arith, inl, inr}
use Rattle.std.specs.Prelude.{IfSome, IsSome, IsSomeAnd, MatchOption, ◌&&◌, ◌||◌, nat_lt, is_none, sum_by}
use Rattle.std.specs.FinMap.{get}
use Rattle.std.proofs.lemmas.Bool.{cases_lt, cases_eq, false≢true, eqb-true, eq-eqb, ltb-true, ltb-false, le-ltb}
use Rattle.std.proofs.lemmas.List.{append-nil, get_or_push, get_or-map, length-map}
use Rattle.std.proofs.lemmas.List.Elements.{All-map, All-append}
use Rattle.std.proofs.lemmas.List.Sums.{sum_by-append, sum_by-cons}
use Rattle.a64_buffer.specs.declared.site.Use.{Use}
use Rattle.a64_buffer.specs.declared.site.Target.{Target}
use Rattle.a64_buffer.specs.declared.site.Target.TheVariants.{Label, Constant, Trap, IslandEnd}
use Rattle.a64_buffer.specs.declared.class.Class.{Class}
use Rattle.a64_buffer.specs.declared.class.Class.TheVariants.{Near, Middle, Load, Trapping, Far, Direct}
use Rattle.a64_buffer.specs.declared.force.ForceVeneers.{ForceVeneers}
use Rattle.a64_buffer.specs.Kinds.{Kinds, IsLawful}
use Rattle.a64_buffer.specs.Buffer.{Buffer, end_of, label_of, goal_of}
use Rattle.a64_buffer.specs.Classes.{third, level_of, range_of, wants, rank_of, cost, class, is_open, weigh, weigh_label, burden, owed, owed_to, HasRoom, Fits}
use Rattle.a64_buffer.specs.Later.{IsSameUse, IsLater, HasStopBelow}
use Rattle.a64_buffer.specs.Constants.{IsConstant}
use Rattle.a64_buffer.specs.Sound.{MayShare, HaveOwnStops, HasJump, IsPlaced, IsKnown, IsCopy, IsStop, IsRightlyOpen, IsSound, IsWhole, IsIsland}
use Rattle.a64_buffer.specs.Chain.{constant_of}
use Rattle.a64_buffer.specs.Islands.{IsVeneerUse, IsNewUse, FarWaits, IsBeforePromotion, Promotes, LeavesFar, HasIsland}
use Rattle.a64_buffer.specs.Steps.{stopped, is_jump_at, StandsAt, Adds, IsPart, HoldFrom, Writes, WritesFar, ended}
use Rattle.a64_buffer.specs.Pieces.{front_size, listed, over_use, front_uses, begun, ComesBefore, BeginsWith, Serves}
use Rattle.a64_buffer.proofs.Pays.{label_is}
use Rattle.a64_buffer.proofs.Growth.{Grows, use_inside}
use Rattle.a64_buffer.proofs.Rooms.{open_wants, room_from, none_room, less_room}
use Rattle.a64_buffer.proofs.Adding.{added_later, added_sound, old_use}
use Rattle.a64_buffer.proofs.Laters.{same_records, later_beside, later_trans}
use Rattle.a64_buffer.proofs.Serving.{open_none, serves_none, served_behind, serves_join, sites_stopped}
use Rattle.a64_buffer.proofs.OwnStops.{own_later}
use Rattle.a64_buffer.proofs.Fronts.{begins_with}
use Rattle.a64_buffer.proofs.Writing.{part_none}
use Rattle.a64_buffer.proofs.ByPlace.{none_placed, recorded_later}
use Rattle.a64_buffer.proofs.Costs.{none_open}
use Rattle.a64_buffer.proofs.Memory.{same_buffer}
use Rattle.a64_buffer.proofs.Islands.{map_none, sound_beside, front_all, front_short, begun_end, begun_old, begun_new, begun_has, begun_jumps, begun_none, begun_later, begun_sound, begun_sound_in, begun_weight, begun_within, open_areas, open_hold, close_areas, jump_reach, islands_more}

-- ---- where a use stops

module _ {K : Type 0} (r : Kinds K) (b : Buffer K) (areas : List (ℕ × ℕ)) (s : IsSound r b areas) where
  -- at its label, or before the end
  pub stop_settled : (d : Use K) (label : ℕ) (target : Target) (kind : K) (offset stop : ℕ) → label_of target ≡ Some label → IsStop r b areas target kind offset stop → (stop < end_of b) ⊎ (goal_of b.labels target ≡ Some stop)
  stop_settled d label (Label l) kind offset stop e h = elim h.leads [
    | inl g ↦ inr g
    | inr v ↦ inl (elim v.1 [
      | inl j ↦ (use_inside r b b areas areas s.placed same d stop (Label l) r.jump j.1.use').1
      | inr f ↦ let z = (use_inside r b b areas areas s.placed same d (stop + 4 * length r.far_words) (Label l) r.far_use f.use').1 in omega arith
    ])
  ]
    where
      same : Grows b b areas areas
      same = record { end = omega arith; words = λ i h. refl; uses = λ p t k h. h; free = λ p h i f. f; labels = λ l p e. e; constants = refl; traps = λ t h. h; moves = λ p size h i. i }
  stop_settled d label (Constant c) kind offset stop e h = absurd (let z : None ≡ Some label = e in cc)
  stop_settled d label (Trap c) kind offset stop e h = absurd (let z : None ≡ Some label = e in cc)
  stop_settled d label IslandEnd kind offset stop e h = absurd (let z : None ≡ Some label = e in cc)

  -- far uses have not stopped behind the end
  pub fars_wait : All (FarWaits r (end_of b) b.labels) b.uses
  fars_wait k d h is_far =
      let u : Use K = get_or b.uses k d in
      let label = label_is r u.target u.kind (inr (inr is_far)) in
      go u.stop (s.stops k d h) label.0 label.1
    where
      go : (o : Option ℕ) → MatchOption o (IsRightlyOpen r b areas (get_or b.uses k d).target (get_or b.uses k d).kind (get_or b.uses k d).offset) (IsStop r b areas (get_or b.uses k d).target (get_or b.uses k d).kind (get_or b.uses k d).offset) → (label : ℕ) → label_of (get_or b.uses k d).target ≡ Some label → IfSome o (λ stop. (stop < end_of b) ⊎ (goal_of b.labels (get_or b.uses k d).target ≡ Some stop))
      go None q label e = tt
      go (Some t) q label e = stop_settled d label (get_or b.uses k d).target (get_or b.uses k d).kind (get_or b.uses k d).offset t e q

  -- whatever has a stop has it below the end, or at its label
  pub stops_below : All (HasStopBelow (end_of b) b.labels) b.uses
  stops_below k d h = go (get_or b.uses k d).target (get_or b.uses k d).kind (get_or b.uses k d).offset (get_or b.uses k d).stop (s.known k d h) (s.stops k d h)
    where
      sized : (content : List ℕ) → IsConstant content → 0 < length content
      sized content c = elim c [ inl e ↦ omega arith | inr t ↦ elim t [ inl e ↦ omega arith | inr e ↦ omega arith ] ]

      copied : (o : Option (List ℕ)) (stop : ℕ) → IsSomeAnd o IsConstant → IsSomeAnd o (λ content. IsCopy r b areas content stop) → stop < end_of b
      copied None stop c q = absurd q
      copied (Some content) stop c q = omega (arith, q.stands.inside, sized content c)

      go : (target : Target) (kind : K) (offset : ℕ) (o : Option ℕ) → IsKnown b.constants target → MatchOption o (IsRightlyOpen r b areas target kind offset) (IsStop r b areas target kind offset) → IfSome o (λ stop. (stop < end_of b) ⊎ (goal_of b.labels target ≡ Some stop) ⊎ (target ≡ IslandEnd))
      go target kind offset None c q = tt
      go (Label l) kind offset (Some t) c q = elim (stop_settled d l.0 (Label l) kind offset t refl q) [ inl low ↦ inl low | inr e ↦ inr (inl e) ]
      go (Constant n) kind offset (Some t) c q = inl (copied (get b.constants n.0) t c q.leads)
      go (Trap code) kind offset (Some t) c q = inl (omega (arith, q.leads.stands.inside))
      go IslandEnd kind offset (Some t) c q = inr (inr refl)

-- ---- uses that stop weigh less

module _ {K : Type 0} (r : Kinds K) (test : Use K → Bool) (place : ℕ) where
  stopped_open : (u : Use K) → is_open r (stopped test place u) ≡ true → is_open r u ≡ true
  stopped_open u = go (wants (class r u)) (test u) u.stop
    where
      go : (c e : Bool) (p : Option ℕ) → (c && is_none (cond e (Some place) p)) ≡ true → (c && is_none p) ≡ true
      go false e p o = o
      go true false p o = o
      go true true p o = absurd (false≢true o)

  stopped_weigh : (w : Class → ℕ) (u : Use K) → weigh r w (stopped test place u) ≤ weigh r w u
  stopped_weigh w u = go (wants (class r u)) (test u) u.stop
    where
      go : (c e : Bool) (p : Option ℕ) → cond (c && is_none (cond e (Some place) p)) (w (class r u)) 0 ≤ cond (c && is_none p) (w (class r u)) 0
      go false e p = omega arith
      go true false p = omega arith
      go true true p = omega arith

  stopped_label : (t : ℕ → Bool) (u : Use K) → weigh_label r t (stopped test place u) ≤ weigh_label r t u
  stopped_label t u = go (label_of u.target) (stopped_weigh (cost third) u)
    where
      go : (o : Option ℕ) → weigh r (cost third) (stopped test place u) ≤ weigh r (cost third) u → elim o [ None ↦ 0 | Some label ↦ cond (t label) (weigh r (cost third) (stopped test place u)) 0 ] ≤ elim o [ None ↦ 0 | Some label ↦ cond (t label) (weigh r (cost third) u) 0 ]
      go None h = omega arith
      go (Some label) h = either (t label)
        where
          either : (c : Bool) → cond c (weigh r (cost third) (stopped test place u)) 0 ≤ cond c (weigh r (cost third) u) 0
          either true = h
          either false = omega arith

  sums_fall : (f : Use K → ℕ) → ((u : Use K) → f (stopped test place u) ≤ f u) → (us : List (Use K)) → sum_by f (map (stopped test place) us) ≤ sum_by f us
  sums_fall f h [] = omega arith
  sums_fall f h (u ∷ us) = omega (arith, sum_by-cons f u us, sum_by-cons f (stopped test place u) (map (stopped test place) us), h u, sums_fall f h us)

  pub stopped_room : (end more : ℕ) (us : List (Use K)) → HasRoom r end us more → HasRoom r end (map (stopped test place) us) more
  stopped_room end more us h = record {
    rooms = All-map (λ (u : Use K). is_open r u ≡ true → end + more + 4 + burden r (level_of (class r u)) (map (stopped test place) us) ≤ u.offset + range_of r (level_of (class r u))) (stopped test place) us
        (λ k d w o. let x = h.rooms k d w (stopped_open (get_or us k d) o) in omega (arith, sums_fall (weigh r (cost (level_of (class r (get_or us k d))))) (stopped_weigh (cost (level_of (class r (get_or us k d))))) us));
  }

  pub stopped_owed : (us : List (Use K)) → burden r third (map (stopped test place) us) ≤ burden r third us
  stopped_owed us = sums_fall (weigh r (cost third)) (stopped_weigh (cost third)) us

  pub stopped_owed_to : (t : ℕ → Bool) (us : List (Use K)) → sum_by (weigh_label r t) (map (stopped test place) us) ≤ sum_by (weigh_label r t) us
  stopped_owed_to t us = sums_fall (weigh_label r t) (stopped_label t) us

  pub stopped_closed : (us : List (Use K)) → All (λ u. is_open r u ≡ false) us → All (λ u. is_open r u ≡ false) (map (stopped test place) us)
  stopped_closed us h = All-map (λ (u : Use K). is_open r u ≡ false) (stopped test place) us (λ k d w. closed (is_open r (stopped test place (get_or us k d))) (λ o. false≢true (sym (h k d w) ∙ stopped_open (get_or us k d) o)))
    where
      closed : (o : Bool) → (o ≡ true → ⊥) → o ≡ false
      closed true n = absurd (n refl)
      closed false n = refl

far_by_rank : (c : Class) → wants c ≡ true → 4 ≤ rank_of c → c ≡ Far
far_by_rank Near w h = absurd (omega arith)
far_by_rank Middle w h = absurd (omega arith)
far_by_rank Load w h = absurd (omega arith)
far_by_rank Trapping w h = absurd (omega arith)
far_by_rank Far w h = refl
far_by_rank Direct w h = absurd (false≢true w)

none_by_rank : (c : Class) → wants c ≡ true → 5 ≤ rank_of c → ⊥
none_by_rank Near w h = omega arith
none_by_rank Middle w h = omega arith
none_by_rank Load w h = omega arith
none_by_rank Trapping w h = omega arith
none_by_rank Far w h = omega arith
none_by_rank Direct w h = false≢true w

pub all_closed : {K : Type 0} (r : Kinds K) (us : List (Use K)) → All (λ u. is_open r u ≡ true → 5 ≤ rank_of (class r u)) us → All (λ u. is_open r u ≡ false) us
all_closed r us h k d l = closed (is_open r (get_or us k d)) refl
  where
    closed : (o : Bool) → is_open r (get_or us k d) ≡ o → o ≡ false
    closed true e = absurd (none_by_rank (class r (get_or us k d)) (open_wants r (get_or us k d) e) (h k d l e))
    closed false e = refl

-- the last part of an island, whether anything is given in it or not
record LastPart {K : Type 0} (r : Kinds K) (w m : Buffer K) : Type 0 where
  idle : end_of m ≡ end_of w → m ≡ w
  served : List (Use K)
  serves : Serves r w.labels w.constants served w m
  old : (k : ℕ) (d : Use K) (h : k < length served) → (serves.waited k d h).index < length w.uses
  part : IsPart r w m
  sound_in : (areas : List (ℕ × ℕ)) → IsSound r w areas → HoldFrom areas (end_of w) → IsSound r m areas
  given : (k : ℕ) (d : Use K) → length w.uses ≤ k → k < length m.uses → IsVeneerUse r w (get_or m.uses k d)
  direct : (k : ℕ) (d : Use K) → k < length w.uses → wants (class r (get_or w.uses k d)) ≡ false → get_or m.uses k d ≡ get_or w.uses k d

last_part : {K : Type 0} (r : Kinds K) (distance : ℕ) (force : ForceVeneers) (w m : Buffer K) → All (λ u. is_open r u ≡ true → class r u ≡ Far) w.uses → WritesFar r distance force w m → LastPart r w m
last_part r distance force w m only_far far = elim far [
  | inl none ↦ subst (LastPart r w) (sym none.0) (record { idle = λ e. refl; served = []; serves = serves_none r w.labels w.constants w w refl refl refl (λ k d h o s. open_none r (get_or w.uses k d) o s); old = λ k d h. absurd (omega arith); part = part_none r w; sound_in = λ areas s h. s; given = λ k d h l. absurd (omega arith); direct = λ k d h n. refl })
  | inr all ↦ record {
    idle = all.0.writing.idle;
    served = all.0.writing.served;
    serves = all.0.writing.serves;
    old = λ k d h.
        let q = all.0.writing.serves.waited k d h in
        elim (cases_lt q.index (length w.uses)) [
          | inl lt ↦ lt
          | inr ge ↦
              let n : wants (class r (get_or m.uses q.index d)) ≡ false = (all.0.writing.only_last only_far).1 q.index d ge q.within in
              absurd (false≢true (sym n ∙ (ap (λ v. wants (class r v)) (q.is d) ∙ q.wants_one)))
        ];
    part = all.0.writing.part;
    sound_in = all.0.writing.sound_in;
    given = all.0.writing.given;
    direct = all.0.writing.direct;
  }
]

-- ---- the whole island

module _ {K : Type 0} (r : Kinds K) (law : IsLawful r) (distance : ℕ) (force : ForceVeneers) (jump : Bool) (b w m : Buffer K) (whole : IsWhole r b) (short : end_of b + owed r b + 4 < 2 ^ 31) (near : Writes r 4 (begun r jump b) w) (far : WritesFar r distance force w m) where
  abbrev start : ℕ
  start = end_of b

  abbrev over : Use K
  over = over_use r (end_of b)

  only_far : All (λ u. is_open r u ≡ true → class r u ≡ Far) w.uses
  only_far k d h o = far_by_rank (class r (get_or w.uses k d)) (open_wants r (get_or w.uses k d) o) (near.done k d h o)

  last : LastPart r w m
  last = last_part r distance force w m only_far far

  -- what stands in front, if anything, stays the jump
  at_w : (k : ℕ) (d : Use K) → length b.uses ≤ k → k < length (begun r jump b).uses → get_or w.uses k d ≡ over
  at_w k d low high = near.writing.direct k d high (ap (λ v. wants (class r v)) (begun_new r jump b k d low high)) ∙ begun_new r jump b k d low high

  at_m : (k : ℕ) (d : Use K) → length b.uses ≤ k → k < length (begun r jump b).uses → get_or m.uses k d ≡ over
  at_m k d low high = last.direct k d (omega (arith, high, near.writing.part.later.count)) (ap (λ v. wants (class r v)) (at_w k d low high)) ∙ at_w k d low high

  over_m : jump ≡ true → (d : Use K) → get_or m.uses (length b.uses) d ≡ over
  over_m j d = at_m (length b.uses) d (omega arith) (begun_has r jump b j)

  count_begun : length (begun r jump b).uses ≤ length m.uses
  count_begun = omega (arith, near.writing.part.later.count, last.part.later.count)

  count_m : jump ≡ true → length b.uses < length m.uses
  count_m j = omega (arith, count_begun, begun_has r jump b j)

  pub stands_m : jump ≡ true → StandsAt (length b.uses) (end_of b) m.uses
  stands_m j = record { within = count_m j; offset = λ d. ap (λ v. v.offset) (over_m j d); no_load = λ d. ap (λ v. constant_of v.target) (over_m j d) }

  ends : end_of m + owed r m ≤ end_of b + owed r b + front_size jump
  ends = omega (arith, last.part.owed, near.writing.part.owed, begun_end r jump b, begun_weight r jump b (cost third))

  starts : start + front_size jump ≤ end_of w
  starts = omega (arith, begun_end r jump b, near.writing.part.later.end)

  islands_are : m.islands ≡ b.islands
  islands_are = last.part.islands ∙ near.writing.part.islands

  pub sound_m : IsSound r m (open_areas r law b)
  sound_m =
      last.sound_in (open_areas r law b)
      (near.writing.sound_in (open_areas r law b) (begun_sound_in r law b jump whole (omega arith)) (λ p size le fits. open_hold r law b p size (omega (arith, begun_end r jump b)) fits))
      (λ p size le fits. open_hold r law b p size (omega (arith, starts)) fits)

  -- the jump gets its end
  abbrev closed : Buffer K
  closed = record m { uses = map (stopped (is_jump_at jump (end_of b)) (end_of m)) m.uses }

  adds : Adds (is_jump_at jump (end_of b)) (end_of m) [] [] [] m closed
  adds = record { words = sym (append-nil m.words); uses = sym (append-nil (map (stopped (is_jump_at jump (end_of b)) (end_of m)) m.uses)); labels = refl; islands = refl; traps_are = sym (append-nil m.traps); constants = refl; records = refl }

  -- only the jump over an island stands at its start
  tested : (k : ℕ) (d : Use K) → is_jump_at jump (end_of b) (get_or m.uses k d) ≡ true → (jump ≡ true) × ((get_or m.uses k d).offset ≡ end_of b)
  tested k d = go jump
    where
      go : (t : Bool) → is_jump_at t (end_of b) (get_or m.uses k d) ≡ true → (t ≡ true) × ((get_or m.uses k d).offset ≡ end_of b)
      go true e = (refl, eqb-true (get_or m.uses k d).offset (end_of b) e)
      go false e = absurd (false≢true e)

  only_over : (k : ℕ) (d : Use K) → k < length m.uses → is_jump_at jump (end_of b) (get_or m.uses k d) ≡ true → k ≡ length b.uses
  only_over k d h e =
      let j = (tested k d e).0 in
      let same : (get_or m.uses k d).offset ≡ (get_or m.uses (length b.uses) d).offset = (tested k d e).1 ∙ ap (λ v. v.offset) (sym (over_m j d)) in
      elim (cases_eq k (length b.uses)) [
        | inl eq ↦ eq
        | inr ne ↦ elim (cases_lt k (length b.uses)) [
          | inl lt ↦ absurd (sound_m.apart k (length b.uses) d lt (count_m j) same)
          | inr ge ↦ absurd (sound_m.apart (length b.uses) k d (omega arith) h (sym same))
        ]
      ]

  is_over : (k : ℕ) (d : Use K) → k < length m.uses → is_jump_at jump (end_of b) (get_or m.uses k d) ≡ true → get_or m.uses k d ≡ over
  is_over k d h e = ap (λ n. get_or m.uses n d) (only_over k d h e) ∙ over_m (tested k d e).0 d

  gives : All (λ u. is_jump_at jump (end_of b) u ≡ true → (u.stop ≡ None) × IsStop r closed (open_areas r law b) u.target u.kind u.offset (end_of m)) m.uses
  gives k d h e = subst (λ (v : Use K). (v.stop ≡ None) × IsStop r closed (open_areas r law b) v.target v.kind v.offset (end_of m)) (sym (is_over k d h e)) (
    refl,
    record { aligned = omega arith; within = record { ahead = omega (arith, ends, front_short r jump, jump_reach r law b whole); behind = omega (arith, starts, last.part.later.end) }; ahead = inl (omega (arith, starts, last.part.later.end, ap front_size (tested k d e).0)); leads = omega arith },
  )

  closed_later : IsLater m closed
  closed_later = added_later r law m closed (open_areas r law b) (is_jump_at jump (end_of b)) (end_of m) [] [] [] sound_m adds (λ k d h. absurd (omega arith)) gives (omega arith) (none_placed (end_of m) (end_of m))

  closed_sound : IsSound r closed (open_areas r law b)
  closed_sound = added_sound r law m closed (open_areas r law b) (is_jump_at jump (end_of b)) (end_of m) [] [] [] sound_m adds (λ k d h. absurd (omega arith)) gives sound_m.short (λ k d h. absurd (omega arith)) (λ j k d lt h. absurd (omega arith)) (λ k d h. absurd (omega arith)) (λ k d h. absurd (omega arith)) (λ k d h. absurd (omega arith))

  -- and the island is closed
  abbrev b' : Buffer K
  b' = ended jump (end_of b) m

  islands_now : (ended jump (end_of b) m).islands ≡ b.islands ++ listed jump (end_of b) (end_of m)
  islands_now = ap (λ (is : List (ℕ × ℕ)). is ++ listed jump (end_of b) (end_of m)) islands_are

  m_later : IsLater m b'
  m_later = later_trans m closed b' closed_later (later_beside closed (m.islands ++ listed jump (end_of b) (end_of m)) m.records (same_records m.records))

  w_later : IsLater w b'
  w_later = later_trans w m b' last.part.later m_later

  b_later : IsLater b b'
  b_later = later_trans b (begun r jump b) b' (begun_later r law jump b b.islands whole.sound) (later_trans (begun r jump b) w b' near.writing.part.later w_later)

  -- the jump has its end
  over_now : (k : ℕ) (d : Use K) → length b.uses ≤ k → k < length (begun r jump b).uses → get_or (ended jump (end_of b) m).uses k d ≡ record over { stop = Some (end_of m) }
  over_now k d low high =
      old_use r law m closed (open_areas r law b) (is_jump_at jump (end_of b)) (end_of m) [] [] [] sound_m adds k d (omega (arith, high, count_begun))
      ∙ (ap (stopped (is_jump_at jump (end_of b)) (end_of m)) (at_m k d low high)
      ∙ (ap (λ t. stopped (is_jump_at t (end_of b)) (end_of m) over) (begun_jumps r jump b k low high)
      ∙ ap (λ t. record over { stop = cond t (Some (end_of m)) None }) (eq-eqb (end_of b) (end_of b) refl)))

  -- the island is listed where it has a jump or contents
  abbrev is_listed : Bool
  is_listed = jump || nat_lt (end_of b) (end_of m)

  now_listed : is_listed ≡ true → (ended jump (end_of b) m).islands ≡ b.islands ++ (end_of b, end_of m) ∷ []
  now_listed e = islands_now ∙ ap (λ (t : Bool). b.islands ++ cond t ((end_of b, end_of m) ∷ []) []) e

  long_one : is_listed ≡ true → end_of b + 4 ≤ end_of m
  long_one = go jump refl
    where
      go : (t : Bool) → jump ≡ t → (t || nat_lt (end_of b) (end_of m)) ≡ true → end_of b + 4 ≤ end_of m
      go true j e = omega (arith, starts, last.part.later.end, ap front_size j)
      go false j e = let x : end_of b < end_of m = ltb-true (end_of b) (end_of m) e in omega arith

  sound_end : is_listed ≡ true → IsSound r b' (ended jump (end_of b) m).islands
  sound_end e = subst (IsSound r b') (sym (now_listed e)) (sound_beside r closed (m.islands ++ listed jump (end_of b) (end_of m)) m.records (open_areas r law b) (b.islands ++ (end_of b, end_of m) ∷ []) closed_sound (λ p size h i. close_areas r law b (end_of m) p size h i))

  -- where nothing was written, nothing has changed
  unchanged : jump ≡ false → end_of m ≤ end_of b → m ≡ b
  unchanged j low =
      let at : end_of (begun r jump b) ≡ end_of b = omega (arith, begun_end r jump b, ap front_size j) in
      last.idle (omega (arith, low, at, near.writing.part.later.end, last.part.later.end))
      ∙ (near.writing.idle (omega (arith, low, at, near.writing.part.later.end, last.part.later.end))
      ∙ (ap (λ t. begun r t b) j ∙ begun_none r b))

  pub ended_same : jump ≡ false → end_of m ≤ end_of b → ended jump (end_of b) m ≡ b
  ended_same j low =
      ap (λ t. ended t (end_of b) m) j
      ∙ (ap (ended false (end_of b)) (unchanged j low)
      ∙ same_buffer _ _ _ _ _ _ _ _ _ _ _ _ _ _ refl (map_none (end_of b) b.uses) refl
      (ap (λ (t : Bool). b.islands ++ cond t ((end_of b, end_of b) ∷ []) []) (le-ltb (end_of b) (end_of b) (omega arith)) ∙ append-nil b.islands) refl refl refl)

  through_begun : (v : Use K) → IsVeneerUse r (begun r jump b) v → IsVeneerUse r b v
  through_begun v h = elim (cases_lt h.parent (length b.uses)) [
    | inl lt ↦ record { parent = h.parent; within = lt; target = λ d. ap (λ v. v.target) (sym (begun_old r jump b h.parent d lt)) ∙ h.target d; labelled = h.labelled; kind = h.kind }
    | inr ge ↦
        let none : IslandEnd ≡ v.target = ap (λ (u : Use K). u.target) (sym (begun_new r jump b h.parent v ge h.within)) ∙ h.target v in
        absurd (false≢true (subst (λ t. IsSome (label_of t)) (sym none) h.labelled))
  ]

  through_w : (v : Use K) → IsVeneerUse r w v → IsVeneerUse r (begun r jump b) v
  through_w v h = elim (cases_lt h.parent (length (begun r jump b).uses)) [
    | inl lt ↦ record { parent = h.parent; within = lt; target = λ d. sym (near.writing.part.later.uses h.parent d lt).target ∙ h.target d; labelled = h.labelled; kind = h.kind }
    | inr ge ↦
        let up : IsVeneerUse r (begun r jump b) (get_or w.uses h.parent v) = near.writing.given h.parent v ge h.within in
        record { parent = up.parent; within = up.within; target = λ d. up.target d ∙ h.target v; labelled = h.labelled; kind = h.kind }
  ]

  same_veneer : (end : ℕ) (u v : Use K) → IsSameUse end u v → IsVeneerUse r b u → IsVeneerUse r b v
  same_veneer end u v same h = record { parent = h.parent; within = h.within; target = λ d. h.target d ∙ sym same.target; labelled = subst (λ t. IsSome (label_of t)) (sym same.target) h.labelled; kind = subst (λ kind. (kind ≡ r.jump) ⊎ (kind ≡ r.far_use)) (sym same.kind) h.kind }

  veneer_now : (k : ℕ) (d : Use K) → length (begun r jump b).uses ≤ k → k < length (ended jump (end_of b) m).uses → IsVeneerUse r b (get_or (ended jump (end_of b) m).uses k d)
  veneer_now k d low high =
      let inside : k < length m.uses = omega (arith, high, length-map m.uses (stopped (is_jump_at jump (end_of b)) (end_of m))) in
      same_veneer (end_of m) (get_or m.uses k d) (get_or (ended jump (end_of b) m).uses k d) (m_later.uses k d inside)
      (elim (cases_lt k (length w.uses)) [
        | inl lt ↦ same_veneer (end_of w) (get_or w.uses k d) (get_or m.uses k d) (last.part.later.uses k d lt) (through_begun (get_or w.uses k d) (near.writing.given k d low lt))
        | inr ge ↦ through_begun (get_or m.uses k d) (through_w (get_or m.uses k d) (last.given k d ge inside))
      ])

  -- it begins with its jump, or with the first piece
  jump_now : jump ≡ true → HasJump (ended jump (end_of b) m).uses (end_of b, end_of m)
  jump_now j =
      let at = over_now (length b.uses) (record over { stop = Some (end_of m) }) (omega arith) (begun_has r jump b j) in
      (length b.uses, record over { stop = Some (end_of m) }, omega (arith, count_m j, m_later.count), at, (refl, refl))

  new_island : is_listed ≡ true → HasJump (ended jump (end_of b) m).uses (end_of b, end_of m) ⊎ Any (BeginsWith r b' (end_of b, end_of m)) (ended jump (end_of b) m).uses → IsIsland r b' (end_of b, end_of m)
  new_island e begins = record {
    aligned = omega arith;
    long = long_one e;
    inside = omega arith;
    over = λ k d h front. elim (cases_lt k (length b.uses)) [
      | inl lt ↦
          let p : IsPlaced (end_of b) (get_or b.uses k d) = whole.sound.placed k d lt in
          absurd (omega (arith, p.inside, (b_later.uses k d lt).offset, front.0))
      | inr ge ↦ elim (cases_lt k (length (begun r jump b).uses)) [
        | inl lt ↦ record {
          word =
              let at : length b.words ≡ end_of b / 4 = omega arith in
              let first' : end_of b / 4 < length (begun r jump b).words = omega (arith, begun_end r jump b, ap front_size (begun_jumps r jump b k ge lt)) in
              (later_trans (begun r jump b) w b' near.writing.part.later w_later).words (end_of b / 4) first'
              ∙ (ap (λ t. get_or (begun r t b).words (end_of b / 4) 0) (begun_jumps r jump b k ge lt) ∙ get_or_push b.words r.jump_word 0 (end_of b / 4) at);
          kind = ap (λ v. v.kind) (over_now k d ge lt);
          stop = ap (λ v. v.stop) (over_now k d ge lt);
        }
        | inr past ↦
            let v : IsVeneerUse r b (get_or (ended jump (end_of b) m).uses k d) = veneer_now k d past h in
            absurd (false≢true (subst (λ t. IsSome (label_of t)) front.1 v.labelled))
      ]
    ];
    begins = begins;
  }

  -- ---- what it leaves

  fits_m : HasRoom r (end_of m) m.uses distance
  fits_m = elim far [
    | inl none ↦ subst (λ (n : Buffer K). HasRoom r (end_of n) n.uses distance) (sym none.0) none.2
    | inr all ↦ none_room r law (end_of m) m.uses distance (all_closed r m.uses all.0.done)
  ]

  fits_now : Fits r b' distance
  fits_now = stopped_room r (is_jump_at jump (end_of b)) (end_of m) (end_of m) distance m.uses fits_m

  rooms_now : (more : ℕ) → Fits r b (more + 4) → Fits r b' more
  rooms_now more h = stopped_room r (is_jump_at jump (end_of b)) (end_of m) (end_of m) more m.uses (room_from r law (end_of m) m.uses more (last.part.rooms (more + 4) (near.writing.part.rooms (more + 4) (begun_within r law jump b (more + 4) h))))

  begun_owed_to : (t : ℕ → Bool) → owed_to r t (begun r jump b) ≡ owed_to r t b
  begun_owed_to t = omega (arith, sum_by-append (weigh_label r t) b.uses (front_uses r jump (end_of b)), go jump)
    where
      go : (j : Bool) → sum_by (weigh_label r t) (front_uses r j (end_of b)) ≡ 0
      go true = omega (arith, sum_by-cons (weigh_label r t) (over_use r (end_of b)) [])
      go false = omega arith

  given_now : (k : ℕ) (d : Use K) → length b.uses ≤ k → k < length (ended jump (end_of b) m).uses → IsNewUse r jump b (get_or (ended jump (end_of b) m).uses k d)
  given_now k d low high = elim (cases_lt k (length (begun r jump b).uses)) [
    | inl lt ↦ over_new jump (get_or (ended jump (end_of b) m).uses k d) (begun_jumps r jump b k low lt) (ap (λ v. v.target) (over_now k d low lt), ap (λ v. v.offset) (over_now k d low lt))
    | inr ge ↦ veneer_new jump (get_or (ended jump (end_of b) m).uses k d) (veneer_now k d ge high)
  ]
    where
      over_new : (t : Bool) (v : Use K) → t ≡ true → (v.target ≡ IslandEnd) × (v.offset ≡ end_of b) → IsNewUse r t b v
      over_new true v j h = inl h
      over_new false v j h = absurd (false≢true j)

      veneer_new : (t : Bool) (v : Use K) → IsVeneerUse r b v → IsNewUse r t b v
      veneer_new true v h = inr h
      veneer_new false v h = h

  before : IsBeforePromotion r jump b w
  before = record {
    long = starts;
    later = later_trans b (begun r jump b) w (begun_later r law jump b b.islands whole.sound) near.writing.part.later;
    only_far = only_far;
    far_waits = near.writing.far_waits (omega arith) (end_of b) (All-append (FarWaits r (end_of b) b.labels) b.uses (front_uses r jump (end_of b)) (fars_wait r b b.islands whole.sound) (front_all r jump (FarWaits r (end_of b) b.labels) (end_of b) (λ e. absurd (let z : Direct ≡ Far = e in cc))));
    owed = omega (arith, near.writing.part.owed, begun_end r jump b, begun_weight r jump b (cost third));
  }

  outcome : LeavesFar r distance force w b' ⊎ Promotes r distance force w b'
  outcome = elim far [
    | inl none ↦ inl (record { unforced = none.1; fits = none.2; end = ap end_of none.0; count = length-map m.uses (stopped (is_jump_at jump (end_of b)) (end_of m)) ∙ ap (λ (n : Buffer K). length n.uses) none.0 })
    | inr all ↦ inr (record {
      closed = stopped_closed r (is_jump_at jump (end_of b)) (end_of m) m.uses (all_closed r m.uses all.0.done);
      none_new = λ k d low high.
          let inside : k < length m.uses = omega (arith, length-map m.uses (stopped (is_jump_at jump (end_of b)) (end_of m))) in
          ap (λ v. wants (class r v)) (get_or-map (stopped (is_jump_at jump (end_of b)) (end_of m)) m.uses k d d inside) ∙ (all.0.writing.only_last only_far).1 k d low inside;
      cause = all.1;
    })
  ]

  -- ---- what stands in it

  last_serves : Serves r b.labels b.constants last.served w m
  last_serves = subst (λ ls. Serves r ls b.constants last.served w m) near.writing.part.labels (subst (λ cs. Serves r w.labels cs last.served w m) near.writing.part.later.constants last.serves)

  cross : (j k : ℕ) (d : Use K) → j < length near.writing.served → k < length last.served → ComesBefore r (get_or near.writing.served j d) (get_or last.served k d)
  cross j k d hj hk =
      let q = last.serves.waited k d hk in
      let v : Use K = get_or last.served k d in
      served_behind r b.labels b.constants (begun r jump b) w m near.writing.served last.served near.writing.serves last_serves near.writing.part.later last.part.later near.writing.ahead q.index (last.old k d hk) v (q.is v) (q.waited v (last.old k d hk)) j d hj

  serves_m : Serves r b.labels b.constants (near.writing.served ++ last.served) (begun r jump b) m
  serves_m = serves_join r b.labels b.constants (begun r jump b) w m near.writing.served last.served near.writing.serves last_serves near.writing.part.later last.part.later (λ k d h l. (last.given k d h l).labelled) cross (λ k d low h n. last.direct k d h n)

  -- its end changes the jump alone, which waits for nothing
  ended_none : (k : ℕ) (d : Use K) → k < length m.uses → is_open r (get_or m.uses k d) ≡ true → IsSome (get_or (ended jump (end_of b) m).uses k d).stop → ⊥
  ended_none k d h o has = go (is_jump_at jump (end_of b) (get_or m.uses k d)) refl
    where
      go : (t : Bool) → is_jump_at jump (end_of b) (get_or m.uses k d) ≡ t → ⊥
      go true e = false≢true (ap (is_open r) (sym (is_over k d h e)) ∙ o)
      go false e =
          let same : (get_or (ended jump (end_of b) m).uses k d).stop ≡ (get_or m.uses k d).stop = ap (λ v. v.stop) (get_or-map (stopped (is_jump_at jump (end_of b)) (end_of m)) m.uses k d d h) ∙ ap (λ t. cond t (Some (end_of m)) (get_or m.uses k d).stop) e in
          open_none r (get_or m.uses k d) o (subst IsSome same has)

  -- and whatever else there is stays
  ended_stays : (k : ℕ) (d : Use K) → k < length m.uses → (jump ≡ true → k ≢ length b.uses) → get_or (ended jump (end_of b) m).uses k d ≡ get_or m.uses k d
  ended_stays k d h other = go (is_jump_at jump (end_of b) (get_or m.uses k d)) refl
    where
      go : (t : Bool) → is_jump_at jump (end_of b) (get_or m.uses k d) ≡ t → get_or (ended jump (end_of b) m).uses k d ≡ get_or m.uses k d
      go true e = absurd (other (tested k d e).0 (only_over k d h e))
      go false e = get_or-map (stopped (is_jump_at jump (end_of b)) (end_of m)) m.uses k d d h ∙ ap (λ t. record (get_or m.uses k d) { stop = cond t (Some (end_of m)) (get_or m.uses k d).stop }) e

  -- so does what waits
  pub ended_waits : (k : ℕ) (d : Use K) → k < length m.uses → rank_of (class r (get_or m.uses k d)) < 5 → get_or (ended jump (end_of b) m).uses k d ≡ get_or m.uses k d
  ended_waits k d h low = ended_stays k d h (λ j e. omega (arith, low, ap (λ n. rank_of (class r (get_or m.uses n d))) e, ap (λ v. rank_of (class r v)) (over_m j d)))

  serves_now : Serves r b.labels b.constants ((near.writing.served ++ last.served) ++ []) (begun r jump b) b'
  serves_now =
      serves_join r b.labels b.constants (begun r jump b) m b' (near.writing.served ++ last.served) [] serves_m
      (serves_none r b.labels b.constants m b' refl refl (sites_stopped (is_jump_at jump (end_of b)) (end_of m) m.uses) ended_none)
      (later_trans (begun r jump b) w m near.writing.part.later last.part.later) m_later
      (λ k d low high. absurd (omega (arith, low, high, length-map m.uses (stopped (is_jump_at jump (end_of b)) (end_of m)))))
      (λ j k d hj hk. absurd (omega arith))
      (λ k d low h n. ended_stays k d h (λ j e. omega (arith, low, e, begun_has r jump b j)))

  begun_own : HaveOwnStops b.labels (begun r jump b).uses
  begun_own j k stop d lt h sj sk = elim (cases_lt k (length b.uses)) [
    | inl inside ↦
        let at_j : get_or (begun r jump b).uses j d ≡ get_or b.uses j d = begun_old r jump b j d (omega arith) in
        let at_k : get_or (begun r jump b).uses k d ≡ get_or b.uses k d = begun_old r jump b k d inside in
        let share : MayShare b.labels stop (get_or b.uses j d).target (get_or b.uses k d).target = whole.own_stops j k stop d lt inside (ap (λ (u : Use K). u.stop) (sym at_j) ∙ sj) (ap (λ (u : Use K). u.stop) (sym at_k) ∙ sk) in
        subst (λ (u : Use K). MayShare b.labels stop u.target (get_or (begun r jump b).uses k d).target) (sym at_j) (subst (λ (u : Use K). MayShare b.labels stop (get_or b.uses j d).target u.target) (sym at_k) share)
    | inr past ↦ inr (inr (inr (ap (λ (u : Use K). u.target) (begun_new r jump b k d past h))))
  ]

  labels_now : (ended jump (end_of b) m).labels ≡ b.labels
  labels_now = last.part.labels ∙ near.writing.part.labels

  own_now : is_listed ≡ true → HaveOwnStops (ended jump (end_of b) m).labels (ended jump (end_of b) m).uses
  own_now e = subst (λ ls. HaveOwnStops ls (ended jump (end_of b) m).uses) (sym labels_now) (
      own_later r (ended jump (end_of b) m).islands ((near.writing.served ++ last.served) ++ []) (begun r jump b) b' serves_now (later_trans (begun r jump b) w b' near.writing.part.later w_later) labels_now (sound_end e)
      (stops_below r (begun r jump b) b.islands (begun_sound r law jump b b.islands whole.sound (omega (arith, short)))) begun_own
      )

  begins_now : is_listed ≡ true → HasJump (ended jump (end_of b) m).uses (end_of b, end_of m) ⊎ Any (BeginsWith r b' (end_of b, end_of m)) (ended jump (end_of b) m).uses
  begins_now e = go jump refl
    where
      go : (t : Bool) → jump ≡ t → HasJump (ended jump (end_of b) m).uses (end_of b, end_of m) ⊎ Any (BeginsWith r b' (end_of b, end_of m)) (ended jump (end_of b) m).uses
      go true j = inl (jump_now j)
      go false j =
          let none : begun r jump b ≡ b = ap (λ t. begun r t b) j ∙ begun_none r b in
          inr (begins_with r (ended jump (end_of b) m).islands ((near.writing.served ++ last.served) ++ []) b b' (subst (λ (x : Buffer K). Serves r b.labels b.constants ((near.writing.served ++ last.served) ++ []) x b') none serves_now) b_later labels_now (sound_end e) whole.sound.placed (omega (arith, long_one e)))

  records_now : b'.records ≡ b.records
  records_now = last.part.records ∙ near.writing.part.records

  whole_now : IsWhole r b'
  whole_now = go is_listed refl
    where
      neither : (t : Bool) → (t || nat_lt (end_of b) (end_of m)) ≡ false → (t ≡ false) × (end_of m ≤ end_of b)
      neither true e = absurd (false≢true (sym e))
      neither false e = (refl, ltb-false (end_of b) (end_of m) e)

      go : (t : Bool) → is_listed ≡ t → IsWhole r b'
      go true e = record { sound = sound_end e; islands = islands_more r b b' (end_of m) b_later labels_now (now_listed e) whole.islands (new_island e (begins_now e)); fits = less_room r law (end_of m) (ended jump (end_of b) m).uses distance 0 (omega arith) fits_now; own_stops = own_now e; recorded = recorded_later b b' b_later records_now whole.recorded }
      go false e = let n = neither jump e in subst (IsWhole r) (sym (ended_same n.0 n.1)) whole

  pub island_made : HasIsland r distance force jump b (ended jump (end_of b) m)
  island_made = record {
    long = omega (arith, starts, last.part.later.end);
    islands = islands_now;
    front = jump_now;
    idle = λ j none. ended_same j (omega (arith, ends, ap front_size j, none_open r (cost third) b.uses none));
    labels = labels_now;
    records = records_now;
    later = b_later;
    given = given_now;
    whole = whole_now;
    fits = fits_now;
    rooms = rooms_now;
    owed = omega (arith, ends, stopped_owed r (is_jump_at jump (end_of b)) (end_of m) m.uses);
    owed_to = λ t. omega (arith, stopped_owed_to r (is_jump_at jump (end_of b)) (end_of m) t m.uses, last.part.owed_to t, near.writing.part.owed_to t, begun_owed_to t);
    promotion = record { before = w; is = before; then' = w_later; outcome = outcome };
    served = (near.writing.served ++ last.served) ++ [];
    serves = serves_now;
  }
