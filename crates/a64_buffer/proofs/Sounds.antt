-- What each call leaves whole.
use Rattle.std.proofs.Common.{ℕ, ◌≡◌, ◌≢◌, ◌⊎◌, ◌+◌, ◌*◌, ◌%◌, ◌^◌, ◌<◌, ◌≤◌, ◌&&◌, Bool, true, false, cond, nat_le, List, [], ◌∷◌, ◌++◌, length, get_or, map, Option, None, Some, IfSome, is_none, refl, sym, ◌∙◌, ap, subst, arith, inl, inr, nat_cmp}
use Rattle.std.specs.Prelude.{MatchOption}
use Rattle.std.specs.Option.{option_and_then}
use Rattle.std.specs.FinMap.{FinMap, get, insert, get-empty}
use Rattle.std.proofs.lemmas.Bool.{cases_eq, cases_lt, false≢true, leb-true, and_parts}
use Rattle.std.proofs.lemmas.List.{length_push, length-append, length-map, append-nil, get_or_append_left, get_or_push, get_or-map}
use Rattle.std.proofs.lemmas.List.Elements.{All-push, All-map}
use Rattle.std.proofs.lemmas.List.Sums.{sum_by-cons}
use Rattle.a64_base.specs.declared.entity.TrapCode.{TrapCode}
use Rattle.a64_buffer.specs.declared.site.Use.{Use}
use Rattle.a64_buffer.specs.declared.site.Target.{Target}
use Rattle.a64_buffer.specs.declared.site.Target.TheVariants.{Label, Constant, Trap, IslandEnd}
use Rattle.a64_buffer.specs.declared.class.Class.{Class}
use Rattle.a64_buffer.specs.Kinds.{Kinds, IsLawful}
use Rattle.a64_buffer.specs.Buffer.{Records, Buffer, end_of, new_buffer, label_of, leads_to, goal_of, is_within, reached, made_use, closed_at, IsFree, IsOutside}
use Rattle.a64_buffer.specs.Classes.{level_of, wants, cost, class, is_open, weigh, weight_of, burden, range_of, HasRoom, Fits}
use Rattle.a64_buffer.specs.ByPlace.{AreRecordedByPlace}
use Rattle.a64_buffer.specs.Later.{IsSameUse, IsLaterFrom, IsLater}
use Rattle.a64_buffer.specs.Sound.{IsPlaced, IsShared, MayShare, HaveOwnStops, IsKinded, IsKnown, IsStop, IsRightlyOpen, IsStoppedOrOpen, IsWhole}
use Rattle.a64_buffer.specs.Steps.{stopped, Adds}
use Rattle.a64_buffer.proofs.Labels.{get_here, get_other}
use Rattle.a64_buffer.proofs.Uses.{apart_push, apart_map, leads_same, leads_other}
use Rattle.a64_buffer.proofs.Growth.{Grows, stop_stays}
use Rattle.a64_buffer.proofs.Adding.{added_later, added_sound}
use Rattle.a64_buffer.proofs.Giving.{made_stop, made_goal}
use Rattle.a64_buffer.proofs.Laters.{same_use, same_records}
use Rattle.a64_buffer.proofs.ByPlace.{none_placed, one_placed, same_traps, none_recorded, recorded_later}
use Rattle.a64_buffer.proofs.Islands.{map_none, sound_beside, Keeps, later_keeps, islands_stay}

module _ {K : Type 0} (r : Kinds K) where
  -- binding a label makes no use weigh more
  closed_weigh : (label place : ℕ) (w : Class → ℕ) (u : Use K) → weigh r w (closed_at r label place u) ≤ weigh r w u
  closed_weigh label place w u = go (wants (class r u)) (leads_to label u.target) u.stop (reached r u.kind u.offset place)
    where
      inner : (n : Option ℕ) → cond (is_none n) (w (class r u)) 0 ≤ w (class r u)
      inner None = omega arith
      inner (Some t) = omega arith

      go : (x c : Bool) (o n : Option ℕ) → cond (x && is_none (cond (c && is_none o) n o)) (w (class r u)) 0 ≤ cond (x && is_none o) (w (class r u)) 0
      go false c o n = omega arith
      go true true None n = inner n
      go true false None n = omega arith
      go true true (Some s) n = omega arith
      go true false (Some s) n = omega arith

  pub bind_weight : (label place : ℕ) (w : Class → ℕ) (us : List (Use K)) → weight_of r w (map (closed_at r label place) us) ≤ weight_of r w us
  bind_weight label place w [] = omega arith
  bind_weight label place w (u ∷ us) = omega (arith, sum_by-cons (weigh r w) u us, sum_by-cons (weigh r w) (closed_at r label place u) (map (closed_at r label place) us), closed_weigh label place w u, bind_weight label place w us)

  pub whole_empty : (constants : FinMap nat_cmp (List ℕ)) → IsWhole r (new_buffer constants)
  whole_empty constants = record {
    sound = record {
      short = omega arith;
      placed = λ k d h. absurd (omega arith);
      apart = λ j k d h i. absurd (omega arith);
      kinded = λ k d h. absurd (omega arith);
      known = λ k d h. absurd (omega arith);
      bound = λ label. rw (get-empty nat_cmp label) tt;
      stops = λ k d h. absurd (omega arith);
    };
    islands = record { each = λ k d h. absurd (omega arith); in_order = λ j k h i. absurd (omega arith) };
    fits = record { rooms = λ k d h. absurd (omega arith) };
    own_stops = λ j k stop d lt h. absurd (omega arith);
    recorded = none_recorded 0;
  }

  module _ (law : IsLawful r) (b : Buffer K) (whole : IsWhole r b) where
    -- ---- more words

    module _ (added : List ℕ) where
      abbrev put : Buffer K
      put = record b { words = b.words ++ added }

      put_end : end_of put ≡ end_of b + 4 * length added
      put_end = omega (arith, length-append b.words added)

      adds : Adds (λ (v : Use K). false) (end_of b) added [] [] b put
      adds = record { words = refl; uses = sym (append-nil (map (stopped (λ (v : Use K). false) (end_of b)) b.uses) ∙ map_none (end_of b) b.uses); labels = refl; islands = refl; traps_are = sym (append-nil b.traps); constants = refl; records = refl }

      pub put_later : IsLater b (record b { words = b.words ++ added })
      put_later = added_later r law b put b.islands (λ v. false) (end_of b) added [] [] whole.sound adds (λ k d h. absurd (omega arith)) (λ k d h e. absurd (false≢true e)) (omega arith) (none_placed (end_of b) (end_of put))

      pub whole_put : end_of b + 4 * length added < 2 ^ 31 → Fits r b (4 * length added) → IsWhole r (record b { words = b.words ++ added })
      whole_put short fits = record {
        sound = added_sound r law b put b.islands (λ v. false) (end_of b) added [] [] whole.sound adds (λ k d h. absurd (omega arith)) (λ k d h e. absurd (false≢true e)) (omega (arith, put_end)) (λ k d h. absurd (omega arith)) (λ j k d lt h. absurd (omega arith)) (λ k d h. absurd (omega arith)) (λ k d h. absurd (omega arith)) (λ k d h. absurd (omega arith));
        islands = islands_stay r b put (later_keeps r b put whole.islands put_later refl) refl whole.islands;
        fits = record { rooms = λ k d w o. let x = fits.rooms k d w o in omega (arith, put_end) };
        own_stops = whole.own_stops;
        recorded = recorded_later b put put_later refl whole.recorded;
      }

    -- ---- one more trap

    module _ (code : TrapCode) where
      abbrev trapped : Buffer K
      trapped = record b { traps = b.traps ++ (end_of b, code) ∷ [] }

      adds_trap : Adds (λ (v : Use K). false) (end_of b) [] [] ((end_of b, code) ∷ []) b trapped
      adds_trap = record { words = sym (append-nil b.words); uses = sym (append-nil (map (stopped (λ (v : Use K). false) (end_of b)) b.uses) ∙ map_none (end_of b) b.uses); labels = refl; islands = refl; traps_are = refl; constants = refl; records = refl }

      pub trap_later : IsLater b (record b { traps = b.traps ++ (end_of b, code) ∷ [] })
      trap_later = added_later r law b trapped b.islands (λ v. false) (end_of b) [] [] ((end_of b, code) ∷ []) whole.sound adds_trap (λ k d h. absurd (omega arith)) (λ k d h e. absurd (false≢true e)) (omega arith) (one_placed (end_of b) (end_of b) (end_of b, code) (omega arith) (omega arith))

      pub whole_trap : IsWhole r (record b { traps = b.traps ++ (end_of b, code) ∷ [] })
      whole_trap = record {
        sound = added_sound r law b trapped b.islands (λ v. false) (end_of b) [] [] ((end_of b, code) ∷ []) whole.sound adds_trap (λ k d h. absurd (omega arith)) (λ k d h e. absurd (false≢true e)) whole.sound.short (λ k d h. absurd (omega arith)) (λ j k d lt h. absurd (omega arith)) (λ k d h. absurd (omega arith)) (λ k d h. absurd (omega arith)) (λ k d h. absurd (omega arith));
        islands = islands_stay r b trapped (later_keeps r b trapped whole.islands trap_later refl) refl whole.islands;
        fits = record { rooms = λ k d w o. whole.fits.rooms k d w o };
        own_stops = whole.own_stops;
        recorded = recorded_later b trapped trap_later refl whole.recorded;
      }

    -- ---- more records

    module _ (records : Records) (recorded : AreRecordedByPlace (end_of b) b.traps records) where
      pub whole_records : IsWhole r (record b { records = records })
      whole_records = record {
        sound = sound_beside r b b.islands records b.islands b.islands whole.sound (λ p size h i. i);
        islands = islands_stay r b (record b { records = records }) (record { end = omega arith; words = λ i h. refl; count = omega arith; uses = λ k d h. same_use (end_of b) (get_or b.uses k d); fresh = λ k d low high. absurd (omega arith); constants = refl; labels = λ q place e. inl e }) refl whole.islands;
        fits = record { rooms = λ k d w o. whole.fits.rooms k d w o };
        own_stops = whole.own_stops;
        recorded = recorded;
      }

    -- ---- one more use

    module _ (offset : ℕ) (target : Target) (kind : K) where
      abbrev made : Use K
      made = made_use r b.labels offset target kind

      abbrev used : Buffer K
      used = record b { uses = b.uses ++ made_use r b.labels offset target kind ∷ [] }

      kept_use : (k : ℕ) (d : Use K) → k < length b.uses → get_or (b.uses ++ made_use r b.labels offset target kind ∷ []) k d ≡ get_or b.uses k d
      kept_use k d h = get_or_append_left b.uses (made_use r b.labels offset target kind ∷ []) d k h

      used_same : (k : ℕ) (d : Use K) → k < length b.uses → IsSameUse (end_of b) (get_or b.uses k d) (get_or used.uses k d)
      used_same k d h = subst (IsSameUse (end_of b) (get_or b.uses k d)) (sym (kept_use k d h)) (same_use (end_of b) (get_or b.uses k d))

      used_keeps : IsOutside b.islands offset → Keeps b used
      used_keeps outside = record { end = omega arith; words = λ i h. refl; count = omega (arith, length_push b.uses made); uses = used_same; fresh = λ k d low high. let at : length b.uses ≡ k = omega (arith, low, high, length_push b.uses made) in subst (λ (u : Use K). IsOutside b.islands u.offset) (sym (get_or_push b.uses made d k at)) outside; constants = refl; labels = λ q place e. inl e }

      used_grows : IsOutside b.islands offset → Grows b used b.islands b.islands
      used_grows outside = record {
        end = omega arith;
        words = λ i h. refl;
        uses = λ p t q h. record {
          index = h.index;
          within = omega (arith, h.within, length_push b.uses made);
          offset_is = λ d. ap (λ v. v.offset) (kept_use h.index d h.within) ∙ h.offset_is d;
          target_is = λ d. ap (λ v. v.target) (kept_use h.index d h.within) ∙ h.target_is d;
          kind_is = λ d. ap (λ v. v.kind) (kept_use h.index d h.within) ∙ h.kind_is d;
        };
        free = λ p lt i f. All-push (λ (v : Use K). v.offset ≢ p) b.uses made f (λ e. elim (outside i.index (0, 0) i.within) [ inl low ↦ (let x = i.begins in omega arith) | inr high ↦ (let x = i.ends in omega arith) ]);
        labels = λ l p e. e;
        constants = refl;
        traps = λ t h. h;
        moves = λ p size h i. i;
      }

      pub used_later : IsLaterFrom offset b (record b { uses = b.uses ++ made_use r b.labels offset target kind ∷ [] })
      used_later = record {
        end = omega arith;
        words = λ i h. refl;
        count = omega (arith, length_push b.uses made);
        uses = used_same;
        fresh = λ k d low high.
            let at : length b.uses ≡ k = omega (arith, low, high, length_push b.uses made) in
            omega (arith, ap (λ (v : Use K). v.offset) (get_or_push b.uses made d k at));
        labels = λ l p e. e;
        constants = refl;
        traps = same_traps (end_of b) (end_of b) b.traps;
        records = same_records b.records;
      }

      used_own : HaveOwnStops b.labels (b.uses ++ made_use r b.labels offset target kind ∷ [])
      used_own j k stop d lt h sj sk = elim (cases_lt k (length b.uses)) [
        | inl inside ↦
            let at_j = kept_use j d (omega arith) in
            let at_k = kept_use k d inside in
            let share : MayShare b.labels stop (get_or b.uses j d).target (get_or b.uses k d).target = whole.own_stops j k stop d lt inside (ap (λ (u : Use K). u.stop) (sym at_j) ∙ sj) (ap (λ (u : Use K). u.stop) (sym at_k) ∙ sk) in
            subst (λ (u : Use K). MayShare b.labels stop u.target (get_or used.uses k d).target) (sym at_j) (subst (λ (u : Use K). MayShare b.labels stop (get_or b.uses j d).target u.target) (sym at_k) share)
        | inr past ↦
            let at : length b.uses ≡ k = omega (arith, past, h, length_push b.uses made) in
            let is : get_or (b.uses ++ made_use r b.labels offset target kind ∷ []) k d ≡ made = get_or_push b.uses made d k at in
            let goal : goal_of b.labels target ≡ Some stop = subst (λ o. IfSome o (λ stop. goal_of b.labels target ≡ Some stop)) (ap (λ (u : Use K). u.stop) (sym is) ∙ sk) (made_goal r b.labels offset target kind) in
            inr (inr (inl (subst (λ (u : Use K). goal_of b.labels u.target ≡ Some stop) (sym is) goal)))
      ]

      pub whole_use : offset % 4 ≡ 0 → offset < end_of b → IsFree b.uses offset → IsOutside b.islands offset → IsKinded r target kind → IsKnown b.constants target → Fits r (record b { uses = b.uses ++ made_use r b.labels offset target kind ∷ [] }) 0 → IsWhole r (record b { uses = b.uses ++ made_use r b.labels offset target kind ∷ [] })
      whole_use aligned inside free outside kinded known fits = record {
        sound = record {
          short = whole.sound.short;
          placed = All-push (IsPlaced (end_of b)) b.uses made whole.sound.placed (record { aligned = aligned; inside = inside });
          apart = apart_push b.uses made whole.sound.apart free;
          kinded = All-push (λ (u : Use K). IsKinded r u.target u.kind) b.uses made whole.sound.kinded kinded;
          known = All-push (λ (u : Use K). IsKnown b.constants u.target) b.uses made whole.sound.known known;
          bound = whole.sound.bound;
          stops = All-push (IsStoppedOrOpen r used b.islands) b.uses made (λ k d h. old (get_or b.uses k d) (get_or b.uses k d).stop (whole.sound.stops k d h)) (made_stop r used b.islands (λ label. aligned_label (get b.labels label) (whole.sound.bound label)) offset target kind);
        };
        islands = islands_stay r b used (used_keeps outside) refl whole.islands;
        fits = fits;
        own_stops = used_own;
        recorded = whole.recorded;
      }
        where
          old : (u : Use K) (o : Option ℕ) → MatchOption o (IsRightlyOpen r b b.islands u.target u.kind u.offset) (IsStop r b b.islands u.target u.kind u.offset) → MatchOption o (IsRightlyOpen r used b.islands u.target u.kind u.offset) (IsStop r used b.islands u.target u.kind u.offset)
          old u None h = h
          old u (Some t) h = stop_stays r b used b.islands b.islands whole.sound.placed (used_grows outside) u u.target u.kind u.offset t h

          aligned_label : (o : Option ℕ) → IfSome o (λ p. (p % 4 ≡ 0) × (p ≤ end_of b)) → IfSome o (λ p. p % 4 ≡ 0)
          aligned_label None h = h
          aligned_label (Some p) h = h.0

    -- ---- one more bound label

    module _ (label : ℕ) (unbound : get b.labels label ≡ None) where
      abbrev bound' : Buffer K
      bound' = record b { uses = map (closed_at r label (end_of b)) b.uses; labels = insert b.labels label (end_of b) }

      closed_use : (k : ℕ) (d : Use K) → k < length b.uses → get_or (map (closed_at r label (end_of b)) b.uses) k d ≡ closed_at r label (end_of b) (get_or b.uses k d)
      closed_use k d h = get_or-map (closed_at r label (end_of b)) b.uses k d d h

      still : (q place : ℕ) → get b.labels q ≡ Some place → get (insert b.labels label (end_of b)) q ≡ Some place
      still q place e = elim (cases_eq q label) [
        | inl same ↦ absurd (let z : None ≡ Some place = sym unbound ∙ (ap (get b.labels) (sym same) ∙ e) in cc)
        | inr ne ↦ get_other b.labels label (end_of b) q ne ∙ e
      ]

      bind_grows : Grows b bound' b.islands b.islands
      bind_grows = record {
        end = omega arith;
        words = λ i h. refl;
        uses = λ p t q h. record {
          index = h.index;
          within = omega (arith, h.within, length-map b.uses (closed_at r label (end_of b)));
          offset_is = λ d. ap (λ v. v.offset) (closed_use h.index d h.within) ∙ h.offset_is d;
          target_is = λ d. ap (λ v. v.target) (closed_use h.index d h.within) ∙ h.target_is d;
          kind_is = λ d. ap (λ v. v.kind) (closed_use h.index d h.within) ∙ h.kind_is d;
        };
        free = λ p lt i f. All-map (λ (v : Use K). v.offset ≢ p) (closed_at r label (end_of b)) b.uses f;
        labels = still;
        constants = refl;
        traps = λ t h. h;
        moves = λ p size h i. i;
      }

      closed_same : (u : Use K) → IsSameUse (end_of b) u (closed_at r label (end_of b) u)
      closed_same u = record {
        offset = refl;
        target = refl;
        kind = refl;
        kept = λ t e. kept (leads_to label u.target) u.stop t e;
        later = λ t e f. later' (leads_to label u.target) u.stop t e f;
      }
        where
          kept : (c : Bool) (o : Option ℕ) (t : ℕ) → o ≡ Some t → cond (c && is_none o) (reached r u.kind u.offset (end_of b)) o ≡ Some t
          kept c None t e = absurd (let z : None ≡ Some t = e in cc)
          kept true (Some s) t e = e
          kept false (Some s) t e = e

          there : (w : Bool) (t : ℕ) → cond w (Some (end_of b)) None ≡ Some t → end_of b ≤ t
          there true t e = let z : end_of b ≡ t = cc e in omega arith
          there false t e = absurd (let z : None ≡ Some t = e in cc)

          later' : (c : Bool) (o : Option ℕ) (t : ℕ) → o ≡ None → cond (c && is_none o) (reached r u.kind u.offset (end_of b)) o ≡ Some t → end_of b ≤ t
          later' c (Some s) t e f = absurd (let z : None ≡ Some s = sym e in cc)
          later' true None t e f = there (is_within r u.kind u.offset (end_of b)) t f
          later' false None t e f = absurd (let z : None ≡ Some t = f in cc)

      bind_keeps : Keeps b bound'
      bind_keeps = record {
        end = omega arith;
        words = λ i h. refl;
        count = omega (arith, length-map b.uses (closed_at r label (end_of b)));
        uses = λ k d h. subst (IsSameUse (end_of b) (get_or b.uses k d)) (sym (closed_use k d h)) (closed_same (get_or b.uses k d));
        fresh = λ k d low high. absurd (omega (arith, low, high, length-map b.uses (closed_at r label (end_of b))));
        constants = refl;
        labels = λ q place e. elim (cases_eq q label) [
          | inl same ↦
              let z : Some (end_of b) ≡ Some place = sym (ap (get (insert b.labels label (end_of b))) same ∙ get_here b.labels label (end_of b)) ∙ e in
              let at : end_of b ≡ place = cc z in
              inr (omega (arith, at))
          | inr ne ↦ inl (sym (get_other b.labels label (end_of b) q ne) ∙ e)
        ];
      }

      pub bind_later : IsLater b (record b { uses = map (closed_at r label (end_of b)) b.uses; labels = insert b.labels label (end_of b) })
      bind_later = record {
        end = omega arith;
        words = λ i h. refl;
        count = bind_keeps.count;
        uses = bind_keeps.uses;
        fresh = λ k d low high. absurd (omega (arith, low, high, length-map b.uses (closed_at r label (end_of b))));
        labels = still;
        constants = refl;
        traps = same_traps (end_of b) (end_of b) b.traps;
        records = same_records b.records;
      }

      -- where a use stops once the label is bound
      here : (target : Target) (kind : K) (offset : ℕ) → label_of target ≡ Some label → offset < end_of b → MatchOption (reached r kind offset (end_of b)) (IsRightlyOpen r bound' b.islands target kind offset) (IsStop r bound' b.islands target kind offset)
      here (Label l) kind offset e lt = go (is_within r kind offset (end_of b)) refl
        where
          number : l.0 ≡ label
          number = cc e

          at : get (insert b.labels label (end_of b)) l.0 ≡ Some (end_of b)
          at = ap (get (insert b.labels label (end_of b))) number ∙ get_here b.labels label (end_of b)

          go : (t : Bool) → is_within r kind offset (end_of b) ≡ t → MatchOption (cond t (Some (end_of b)) None) (IsRightlyOpen r bound' b.islands (Label l) kind offset) (IsStop r bound' b.islands (Label l) kind offset)
          go true w =
              let q = and_parts (nat_le (end_of b) (offset + r.forward kind)) (nat_le offset (end_of b + r.backward kind)) w in
              record {
                aligned = omega arith;
                within = record { ahead = leb-true (end_of b) (offset + r.forward kind) q.0; behind = leb-true offset (end_of b + r.backward kind) q.1 };
                ahead = inr at;
                leads = inl at;
              }
          go false w = subst (λ o. IfSome o (λ p. is_within r kind offset p ≡ false)) (sym at) w
      here (Constant c) kind offset e lt = absurd (let z : None ≡ Some label = e in cc)
      here (Trap c) kind offset e lt = absurd (let z : None ≡ Some label = e in cc)
      here IslandEnd kind offset e lt = absurd (let z : None ≡ Some label = e in cc)

      -- the goals of other targets stay
      goal_other : (target : Target) → label_of target ≢ Some label → goal_of (insert b.labels label (end_of b)) target ≡ goal_of b.labels target
      goal_other target = go (label_of target)
        where
          go : (o : Option ℕ) → o ≢ Some label → option_and_then (λ l. get (insert b.labels label (end_of b)) l) o ≡ option_and_then (λ l. get b.labels l) o
          go None ne = refl
          go (Some l) ne = get_other b.labels label (end_of b) l (λ e. ne (ap (λ n. Some n) e))

      is_or_not : (o : Option ℕ) → (o ≡ Some label) ⊎ (o ≢ Some label)
      is_or_not None = inr (λ e. cc e)
      is_or_not (Some l) = elim (cases_eq l label) [ inl e ↦ inl (ap (λ n. Some n) e) | inr ne ↦ inr (λ e. ne (cc e)) ]

      closed_stop : (u : Use K) → u.offset < end_of b → IsStoppedOrOpen r b b.islands u → IsStoppedOrOpen r bound' b.islands (closed_at r label (end_of b) u)
      closed_stop u lt h = go (leads_to label u.target) refl u.stop h
        where
          go : (c : Bool) → leads_to label u.target ≡ c → (o : Option ℕ) → MatchOption o (IsRightlyOpen r b b.islands u.target u.kind u.offset) (IsStop r b b.islands u.target u.kind u.offset) → MatchOption (cond (c && is_none o) (reached r u.kind u.offset (end_of b)) o) (IsRightlyOpen r bound' b.islands u.target u.kind u.offset) (IsStop r bound' b.islands u.target u.kind u.offset)
          go true e None h = elim (is_or_not (label_of u.target)) [
            | inl same ↦ here u.target u.kind u.offset same lt
            | inr ne ↦ absurd (false≢true (sym (leads_other label u.target ne) ∙ e))
          ]
          go false e None h = elim (is_or_not (label_of u.target)) [
            | inl same ↦ absurd (false≢true (sym e ∙ leads_same label u.target same))
            | inr ne ↦ subst (λ o. IfSome o (λ p. is_within r u.kind u.offset p ≡ false)) (sym (goal_other u.target ne)) h
          ]
          go true e (Some t) h = stop_stays r b bound' b.islands b.islands whole.sound.placed bind_grows u u.target u.kind u.offset t h
          go false e (Some t) h = stop_stays r b bound' b.islands b.islands whole.sound.placed bind_grows u u.target u.kind u.offset t h

      closed_open : (u : Use K) → is_open r (closed_at r label (end_of b) u) ≡ true → is_open r u ≡ true
      closed_open u = go (wants (class r u)) (leads_to label u.target) u.stop (reached r u.kind u.offset (end_of b))
        where
          go : (x c : Bool) (o n : Option ℕ) → (x && is_none (cond (c && is_none o) n o)) ≡ true → (x && is_none o) ≡ true
          go false c o n e = e
          go true c None n e = refl
          go true true (Some s) n e = e
          go true false (Some s) n e = e

      pub bind_room : (more : ℕ) → Fits r b more → HasRoom r (end_of b) (map (closed_at r label (end_of b)) b.uses) more
      bind_room more h = record {
        rooms = All-map (λ (u : Use K). is_open r u ≡ true → end_of b + more + 4 + burden r (level_of (class r u)) (map (closed_at r label (end_of b)) b.uses) ≤ u.offset + range_of r (level_of (class r u))) (closed_at r label (end_of b)) b.uses
            (λ k d w o. let x = h.rooms k d w (closed_open (get_or b.uses k d) o) in omega (arith, bind_weight label (end_of b) (cost (level_of (class r (get_or b.uses k d)))) b.uses));
      }

      -- a stop is shared still, and one that came now is at the label's place
      shared_still : (target : Target) (stop : ℕ) → IsShared b.labels target stop → IsShared (insert b.labels label (end_of b)) target stop
      shared_still target stop h = elim h [ inl e ↦ inl (go (label_of target) e) | inr e ↦ inr e ]
        where
          go : (o : Option ℕ) → option_and_then (λ l. get b.labels l) o ≡ Some stop → option_and_then (λ l. get (insert b.labels label (end_of b)) l) o ≡ Some stop
          go None e = absurd (let z : None ≡ Some stop = e in cc)
          go (Some l) e = still l stop e

      came_now : (u : Use K) (stop : ℕ) → (closed_at r label (end_of b) u).stop ≡ Some stop → (u.stop ≡ Some stop) ⊎ (goal_of (insert b.labels label (end_of b)) u.target ≡ Some stop)
      came_now u stop = go (leads_to label u.target) refl u.stop
        where
          there : (w : Bool) → cond w (Some (end_of b)) None ≡ Some stop → end_of b ≡ stop
          there true e = cc e
          there false e = absurd (let z : None ≡ Some stop = e in cc)

          go : (c : Bool) → leads_to label u.target ≡ c → (o : Option ℕ) → cond (c && is_none o) (reached r u.kind u.offset (end_of b)) o ≡ Some stop → (o ≡ Some stop) ⊎ (goal_of (insert b.labels label (end_of b)) u.target ≡ Some stop)
          go true e None f = elim (is_or_not (label_of u.target)) [
            | inl same ↦ inr (ap (λ o. option_and_then (λ l. get (insert b.labels label (end_of b)) l) o) same ∙ (get_here b.labels label (end_of b) ∙ ap (λ n. Some n) (there (is_within r u.kind u.offset (end_of b)) f)))
            | inr ne ↦ absurd (false≢true (sym (leads_other label u.target ne) ∙ e))
          ]
          go false e None f = absurd (let z : None ≡ Some stop = f in cc)
          go true e (Some t) f = inl f
          go false e (Some t) f = inl f

      bound_own : HaveOwnStops (insert b.labels label (end_of b)) (map (closed_at r label (end_of b)) b.uses)
      bound_own j k stop d lt h sj sk =
          let inside : k < length b.uses = omega (arith, h, length-map b.uses (closed_at r label (end_of b))) in
          let at_j = closed_use j d (omega arith) in
          let at_k = closed_use k d inside in
          subst (λ (u : Use K). MayShare bound'.labels stop u.target (get_or bound'.uses k d).target) (sym at_j) (subst (λ (u : Use K). MayShare bound'.labels stop (get_or b.uses j d).target u.target) (sym at_k) (
          elim (came_now (get_or b.uses j d) stop (ap (λ (u : Use K). u.stop) (sym at_j) ∙ sj)) [
            | inr goal ↦ inr (inl (inl goal))
            | inl old_j ↦ elim (came_now (get_or b.uses k d) stop (ap (λ (u : Use K). u.stop) (sym at_k) ∙ sk)) [
              | inr goal ↦ inr (inr (inl goal))
              | inl old_k ↦ elim (whole.own_stops j k stop d lt inside old_j old_k) [
                | inl load ↦ inl load
                | inr shared ↦ inr (elim shared [ inl x ↦ inl (shared_still (get_or b.uses j d).target stop x) | inr x ↦ inr (shared_still (get_or b.uses k d).target stop x) ])
              ]
            ]
          ]))

      pub whole_bind : IsWhole r (record b { uses = map (closed_at r label (end_of b)) b.uses; labels = insert b.labels label (end_of b) })
      whole_bind = record {
        sound = record {
          short = whole.sound.short;
          placed = All-map (IsPlaced (end_of b)) (closed_at r label (end_of b)) b.uses (λ k d h. let p : IsPlaced (end_of b) (get_or b.uses k d) = whole.sound.placed k d h in record { aligned = p.aligned; inside = p.inside });
          apart = apart_map (closed_at r label (end_of b)) (λ u. refl) b.uses whole.sound.apart;
          kinded = All-map (λ (u : Use K). IsKinded r u.target u.kind) (closed_at r label (end_of b)) b.uses whole.sound.kinded;
          known = All-map (λ (u : Use K). IsKnown b.constants u.target) (closed_at r label (end_of b)) b.uses whole.sound.known;
          bound = λ q. elim (cases_eq q label) [
            | inl e ↦ subst (λ o. IfSome o (λ p. (p % 4 ≡ 0) × (p ≤ end_of b))) (sym (ap (get (insert b.labels label (end_of b))) e ∙ get_here b.labels label (end_of b))) (omega arith, omega arith)
            | inr ne ↦ subst (λ o. IfSome o (λ p. (p % 4 ≡ 0) × (p ≤ end_of b))) (sym (get_other b.labels label (end_of b) q ne)) (whole.sound.bound q)
          ];
          stops = All-map (IsStoppedOrOpen r bound' b.islands) (closed_at r label (end_of b)) b.uses (λ k d h. closed_stop (get_or b.uses k d) (whole.sound.placed k d h).inside (whole.sound.stops k d h));
        };
        islands = islands_stay r b bound' bind_keeps refl whole.islands;
        fits = bind_room 0 whole.fits;
        own_stops = bound_own;
        recorded = whole.recorded;
      }
