-- What is left where words and uses are added, and some uses stop at a place.
use Rattle.std.proofs.Common.{ℕ, ◌≡◌, ◌≢◌, ◌+◌, ◌-◌, ◌*◌, ◌%◌, ◌^◌, ◌<◌, ◌≤◌, Bool, true, false, cond, List, [], ◌∷◌, ◌++◌, All, map, length, get_or, Option, None, Some, refl, sym, ap, ◌∙◌, subst, arith, inl, inr}
use Rattle.std.specs.Prelude.{◌&&◌, is_none, sum_by, MatchOption, IfSome}
use Rattle.std.specs.List.{Contains}
use Rattle.std.specs.FinMap.{get}
use Rattle.std.proofs.lemmas.Bool.{cases_lt}
use Rattle.std.proofs.lemmas.List.{length-append, length-map, get_or-map, get_or_append_left, get_or-append_right, get_or_default}
use Rattle.std.proofs.lemmas.List.Sums.{sum_by-append, sum_by-cons, get_or-le-sum_by}
use Rattle.std.proofs.lemmas.List.Elements.{All-append, All-map, All-same}
use Rattle.a64_base.specs.declared.entity.TrapCode.{TrapCode}
use Rattle.a64_buffer.specs.declared.site.Use.{Use}
use Rattle.a64_buffer.specs.declared.site.Target.{Target}
use Rattle.a64_buffer.specs.Kinds.{Kinds, IsLawful}
use Rattle.a64_buffer.specs.Buffer.{Buffer, end_of, label_of, goal_of, is_within}
use Rattle.a64_buffer.specs.Areas.{HasUse}
use Rattle.a64_buffer.specs.declared.class.Class.{Class}
use Rattle.a64_buffer.specs.Classes.{Level, third, level_of, wants, cost, class, range_of, is_open, weigh, burden, weigh_label}
use Rattle.a64_buffer.specs.ByPlace.{AreByPlace}
use Rattle.a64_buffer.specs.Later.{IsSameUse, HasMoreRecords, IsLater}
use Rattle.a64_buffer.specs.Sound.{IsPlaced, AreApart, IsKinded, IsKnown, IsStop, IsRightlyOpen, IsStoppedOrOpen, IsSound}
use Rattle.a64_buffer.specs.Steps.{stopped, Adds, Within}
use Rattle.a64_buffer.proofs.Growth.{Grows, stop_stays}
use Rattle.a64_buffer.proofs.Costs.{SomeOpen}
use Rattle.a64_buffer.proofs.Rooms.{next_within, widest}
use Rattle.a64_buffer.proofs.Uses.{apart_map}
use Rattle.a64_buffer.proofs.Laters.{same_records}

-- two lists of uses that stand apart, one behind the other
pub apart_append : {K : Type 0} (end : ℕ) (us vs : List (Use K)) → AreApart us → AreApart vs → All (λ u. u.offset < end) us → All (λ u. end ≤ u.offset) vs → AreApart (us ++ vs)
apart_append end us vs a c low high j k d lt h same =
    elim (cases_lt k (length us)) [
      | inl below ↦
          let first : j < length us = omega arith in
          a j k d lt below (ap (λ v. v.offset) (sym (get_or_append_left us vs d j first)) ∙ (same ∙ ap (λ v. v.offset) (get_or_append_left us vs d k below)))
      | inr past ↦
          let n : length (us ++ vs) ≡ length us + length vs = length-append us vs in
          let last : get_or (us ++ vs) k d ≡ get_or vs (k - length us) d = get_or-append_right us vs (length us) k d refl past in
          elim (cases_lt j (length us)) [
            | inl before ↦
                let x : (get_or us j d).offset < end = low j d before in
                let y : end ≤ (get_or vs (k - length us) d).offset = high (k - length us) d (omega arith) in
                omega (arith, x, y, same, ap (λ v. v.offset) (get_or_append_left us vs d j before), ap (λ v. v.offset) last)
            | inr behind ↦
                c (j - length us) (k - length us) d (omega arith) (omega arith)
                (ap (λ v. v.offset) (sym (get_or-append_right us vs (length us) j d refl behind)) ∙ (same ∙ ap (λ v. v.offset) last))
          ]
    ]

module _ {K : Type 0} (r : Kinds K) (law : IsLawful r) (b b' : Buffer K) (areas : List (ℕ × ℕ)) (test : Use K → Bool) (place : ℕ) (added : List ℕ) (fresh : List (Use K)) (traps : List (ℕ × TrapCode)) (s : IsSound r b areas) (a : Adds test place added fresh traps b b') where
  pub added_end : end_of b' ≡ end_of b + 4 * length added
  added_end = omega (arith, ap length a.words, length-append b.words added)

  pub added_count : length b'.uses ≡ length b.uses + length fresh
  added_count = omega (arith, ap length a.uses, length-append (map (stopped test place) b.uses) fresh, length-map b.uses (stopped test place))

  -- a use that was there, and one that was added
  pub old_use : (k : ℕ) (d : Use K) → k < length b.uses → get_or b'.uses k d ≡ stopped test place (get_or b.uses k d)
  old_use k d h =
      ap (λ us. get_or us k d) a.uses
      ∙ (get_or_append_left (map (stopped test place) b.uses) fresh d k (omega (arith, length-map b.uses (stopped test place))) ∙ get_or-map (stopped test place) b.uses k d d h)

  pub new_use : (k : ℕ) (d : Use K) → length b.uses ≤ k → get_or b'.uses k d ≡ get_or fresh (k - length b.uses) d
  new_use k d h =
      ap (λ us. get_or us k d) a.uses
      ∙ get_or-append_right (map (stopped test place) b.uses) fresh (length b.uses) k d (length-map b.uses (stopped test place)) h

  -- what is true of all uses
  pub all_uses : (P : Use K → Type 0) → All (λ u. P (stopped test place u)) b.uses → All P fresh → All P b'.uses
  all_uses P h f = All-same P b'.uses (map (stopped test place) b.uses ++ fresh) a.uses (All-append P (map (stopped test place) b.uses) fresh (All-map P (stopped test place) b.uses h) f)

  has_use : (at : ℕ) (target : Target) (kind : K) → HasUse b.uses at target kind → HasUse b'.uses at target kind
  has_use at target kind h = record {
    index = h.index;
    within = omega (arith, h.within, added_count);
    offset_is = λ d. ap (λ v. v.offset) (old_use h.index d h.within) ∙ h.offset_is d;
    target_is = λ d. ap (λ v. v.target) (old_use h.index d h.within) ∙ h.target_is d;
    kind_is = λ d. ap (λ v. v.kind) (old_use h.index d h.within) ∙ h.kind_is d;
  }

  kept_word : (i : ℕ) → i < length b.words → get_or b'.words i 0 ≡ get_or b.words i 0
  kept_word i h = ap (λ ws. get_or ws i 0) a.words ∙ get_or_append_left b.words added 0 i h

  kept_trap : (t : ℕ × TrapCode) → Contains b.traps t → Contains b'.traps t
  kept_trap t (k, h, e) = (k, omega (arith, h, ap length a.traps_are, length-append b.traps traps), ap (λ ts. get_or ts k t) a.traps_are ∙ (get_or_append_left b.traps traps t k h ∙ e))

  module _ (behind : All (λ u. end_of b ≤ u.offset) fresh) where
    pub added_grows : Grows b b' areas areas
    added_grows = record {
      end = omega (arith, added_end);
      words = kept_word;
      uses = has_use;
      free = λ at lt i f. all_uses (λ u. u.offset ≢ at) f (λ k d h e. let x : end_of b ≤ (get_or fresh k d).offset = behind k d h in omega arith);
      labels = λ label p e. ap (λ m. get m label) a.labels ∙ e;
      constants = a.constants;
      traps = kept_trap;
      moves = λ p size inside i. i;
    }

    -- each use that passes the test may stop there, and had no stop
    module _ (gives : All (λ u. test u ≡ true → (u.stop ≡ None) × IsStop r b' areas u.target u.kind u.offset place) b.uses) where
      same_use : (u : Use K) → end_of b ≤ place → (test u ≡ true → u.stop ≡ None) → IsSameUse (end_of b) u (stopped test place u)
      same_use u far none = record {
        offset = refl;
        target = refl;
        kind = refl;
        kept = λ t e. go (test u) t none e;
        later = λ t e f. new (test u) t e f;
      }
        where
          go : (c : Bool) (t : ℕ) → (c ≡ true → u.stop ≡ None) → u.stop ≡ Some t → cond c (Some place) u.stop ≡ Some t
          go true t n e = absurd (let z : None ≡ Some t = sym (n refl) ∙ e in cc)
          go false t n e = e

          new : (c : Bool) (t : ℕ) → u.stop ≡ None → cond c (Some place) u.stop ≡ Some t → end_of b ≤ t
          new true t e f = let z : place ≡ t = cc f in omega arith
          new false t e f = absurd (let z : None ≡ Some t = sym e ∙ f in cc)

      pub added_later : end_of b ≤ place → AreByPlace (λ t. t.0) (end_of b) (end_of b') traps → IsLater b b'
      added_later far stand = record {
        end = omega (arith, added_end);
        words = kept_word;
        count = omega (arith, added_count);
        uses = λ k d h. subst (IsSameUse (end_of b) (get_or b.uses k d)) (sym (old_use k d h)) (same_use (get_or b.uses k d) far (λ t. (gives k d h t).0));
        fresh = λ k d h w. let x : end_of b ≤ (get_or fresh (k - length b.uses) d).offset = behind (k - length b.uses) d (omega (arith, added_count)) in omega (arith, ap (λ u. u.offset) (new_use k d h));
        labels = λ label p e. ap (λ m. get m label) a.labels ∙ e;
        constants = a.constants;
        records = subst (HasMoreRecords b.records) (sym a.records) (same_records b.records);
        traps = record { more = traps; are = a.traps_are; stand = stand };
      }

      old_stop : (u : Use K) → (test u ≡ true → (u.stop ≡ None) × IsStop r b' areas u.target u.kind u.offset place) → IsStoppedOrOpen r b areas u → IsStoppedOrOpen r b' areas (stopped test place u)
      old_stop u give h = go (test u) u.stop give h
        where
          go : (c : Bool) (o : Option ℕ) → (c ≡ true → (u.stop ≡ None) × IsStop r b' areas u.target u.kind u.offset place) → MatchOption o (IsRightlyOpen r b areas u.target u.kind u.offset) (IsStop r b areas u.target u.kind u.offset) → MatchOption (cond c (Some place) o) (IsRightlyOpen r b' areas u.target u.kind u.offset) (IsStop r b' areas u.target u.kind u.offset)
          go true o g h = (g refl).1
          go false None g h = subst (λ m. IfSome (goal_of m u.target) (λ p. is_within r u.kind u.offset p ≡ false)) (sym a.labels) h
          go false (Some t) g h = stop_stays r b b' areas areas s.placed added_grows u u.target u.kind u.offset t h

      pub added_sound : end_of b' < 2 ^ 31 → All (IsPlaced (end_of b')) fresh → AreApart fresh → All (λ u. IsKinded r u.target u.kind) fresh → All (λ u. IsKnown b.constants u.target) fresh → All (IsStoppedOrOpen r b' areas) fresh → IsSound r b' areas
      added_sound short placed apart kinded known stops = record {
        short = short;
        placed = all_uses (IsPlaced (end_of b')) (λ k d h. let p : IsPlaced (end_of b) (get_or b.uses k d) = s.placed k d h in record { aligned = p.aligned; inside = omega (arith, p.inside, added_end) }) placed;
        apart = subst AreApart (sym a.uses)
            (apart_append (end_of b) (map (stopped test place) b.uses) fresh (apart_map (stopped test place) (λ u. refl) b.uses s.apart) apart
            (All-map (λ (u : Use K). u.offset < end_of b) (stopped test place) b.uses (λ k d h. (s.placed k d h).inside)) behind);
        kinded = all_uses (λ u. IsKinded r u.target u.kind) s.kinded kinded;
        known = subst (λ m. All (λ u. IsKnown m u.target) b'.uses) (sym a.constants) (all_uses (λ u. IsKnown b.constants u.target) s.known known);
        bound = λ label. subst (λ m. IfSome (get m label) (λ p. (p % 4 ≡ 0) × (p ≤ end_of b'))) (sym a.labels) (weaker (get b.labels label) (s.bound label));
        stops = all_uses (IsStoppedOrOpen r b' areas) (λ k d h. old_stop (get_or b.uses k d) (gives k d h) (s.stops k d h)) stops;
      }
        where
          weaker : (o : Option ℕ) → IfSome o (λ p. (p % 4 ≡ 0) × (p ≤ end_of b)) → IfSome o (λ p. (p % 4 ≡ 0) × (p ≤ end_of b'))
          weaker None h = h
          weaker (Some p) h = (h.0, omega (arith, h.1, added_end))

  -- ---- sums over the uses

  -- where a sum loses what the uses that stop had in it, it falls by what one of them had, but for the uses that are added
  sum_split : (f : Use K → ℕ) → ((u : Use K) → f (stopped test place u) + cond (test u) (f u) 0 ≡ f u) → (us : List (Use K)) → sum_by f (map (stopped test place) us) + sum_by (λ u. cond (test u) (f u) 0) us ≡ sum_by f us
  sum_split f one [] = refl
  sum_split f one (u ∷ us) = omega (arith, sum_by-cons f u us, sum_by-cons f (stopped test place u) (map (stopped test place) us), sum_by-cons (λ u. cond (test u) (f u) 0) u us, one u, sum_split f one us)

  pub sum_after : (f : Use K → ℕ) → ((u : Use K) → f (stopped test place u) + cond (test u) (f u) 0 ≡ f u) → (index : ℕ) (u : Use K) → index < length b.uses → u ≡ get_or b.uses index u → test u ≡ true → sum_by f b'.uses + f u ≤ sum_by f b.uses + sum_by f fresh
  sum_after f one index u h is passes =
      let g : Use K → ℕ = λ u. cond (test u) (f u) 0 in
      let here : g (get_or b.uses index u) ≡ f u = ap g (sym is) ∙ ap (λ t. cond t (f u) 0) passes in
      omega (arith, ap (sum_by f) a.uses, sum_by-append f (map (stopped test place) b.uses) fresh, sum_split f one b.uses, get_or-le-sum_by g b.uses index u h, here)

  no_weight : (w : Bool) (n : ℕ) → cond (w && false) n 0 ≡ 0
  no_weight true n = refl
  no_weight false n = refl

  pub weigh_split : (w : Class → ℕ) (u : Use K) → weigh r w (stopped test place u) + cond (test u) (weigh r w u) 0 ≡ weigh r w u
  weigh_split w u = elim (test u) as (λ c. cond (wants (class r u) && is_none (cond c (Some place) u.stop)) (w (class r u)) 0 + cond c (weigh r w u) 0 ≡ weigh r w u) [
    | true ↦ omega (arith, no_weight (wants (class r u)) (w (class r u)))
    | false ↦ omega arith
  ]

  pub label_split : (t : ℕ → Bool) (u : Use K) → weigh_label r t (stopped test place u) + cond (test u) (weigh_label r t u) 0 ≡ weigh_label r t u
  label_split t u = go (label_of u.target) (weigh_split (cost third) u)
    where
      go : (o : Option ℕ) → weigh r (cost third) (stopped test place u) + cond (test u) (weigh r (cost third) u) 0 ≡ weigh r (cost third) u → elim o [ None ↦ 0 | Some label ↦ cond (t label) (weigh r (cost third) (stopped test place u)) 0 ] + cond (test u) (elim o [ None ↦ 0 | Some label ↦ cond (t label) (weigh r (cost third) u) 0 ]) 0 ≡ elim o [ None ↦ 0 | Some label ↦ cond (t label) (weigh r (cost third) u) 0 ]
      go None e = zeros (test u)
        where
          zeros : (c : Bool) → 0 + cond c 0 0 ≡ 0
          zeros true = refl
          zeros false = refl
      go (Some label) e = either (t label) (test u) e
        where
          either : (c d : Bool) → weigh r (cost third) (stopped test place u) + cond d (weigh r (cost third) u) 0 ≡ weigh r (cost third) u → cond c (weigh r (cost third) (stopped test place u)) 0 + cond d (cond c (weigh r (cost third) u) 0) 0 ≡ cond c (weigh r (cost third) u) 0
          either true d e = e
          either false true e = refl
          either false false e = refl

  -- ---- room

  -- each urgency of which some use is left open has no more before it, counted from the old end
  module _ (later : IsLater b b') (index : ℕ) (u : Use K) (within : index < length b.uses) (is : u ≡ get_or b.uses index u) (open' : is_open r u ≡ true) where
    pub added_rooms : ((l : Level) → SomeOpen r l b'.uses → end_of b' + burden r l b'.uses ≤ end_of b + burden r l b.uses) → All (λ u. is_open r u ≡ true → level_of (class r u) ≡ third) fresh → (more : ℕ) → Within r (end_of b) b.uses more → Within r (end_of b') b'.uses more
    added_rooms lesser thirds more h = record {
      rooms = λ k d w o.
          let l : Level = level_of (class r (get_or b'.uses k d)) in
          let less : end_of b' + burden r l b'.uses ≤ end_of b + burden r l b.uses = lesser l (record { index = k; within = w; here = λ e. (subst (λ v. is_open r v ≡ true) (get_or_default b'.uses k d e w) o, ap (λ v. level_of (class r v)) (sym (get_or_default b'.uses k d e w))) }) in
          elim (cases_lt k (length b.uses)) [
            | inl lt ↦
                let same : get_or b'.uses k d ≡ stopped test place (get_or b.uses k d) = old_use k d lt in
                let x = h.rooms k d lt (was_open (get_or b.uses k d) (subst (λ v. is_open r v ≡ true) same o)) in
                let y : end_of b + more + burden r l b.uses ≤ (get_or b.uses k d).offset + range_of r l = subst (λ (v : Use K). end_of b + more + burden r (level_of (class r v)) b.uses ≤ (get_or b.uses k d).offset + range_of r (level_of (class r v))) (sym same) x in
                omega (arith, less, y, ap (λ v. v.offset) same)
            | inr ge ↦
                let at : end_of b ≤ (get_or b'.uses k d).offset = later.fresh k d ge w in
                let is_new : get_or b'.uses k d ≡ get_or fresh (k - length b.uses) d = new_use k d ge in
                let is_third : l ≡ third = ap (λ v. level_of (class r v)) is_new ∙ thirds (k - length b.uses) d (omega (arith, added_count)) (sym (ap (is_open r) is_new) ∙ o) in
                let own : more + burden r third b.uses ≤ r.range 3 = next_within r law (end_of b) b.uses more u s.placed h (own_room more h) in
                let y : more + burden r l b.uses ≤ range_of r l = subst (λ l. more + burden r l b.uses ≤ range_of r l) (sym is_third) own in
                omega (arith, less, y, at)
          ];
    }
      where
        was_open : (v : Use K) → is_open r (stopped test place v) ≡ true → is_open r v ≡ true
        was_open v o = go (wants (class r v)) (test v) v.stop o
          where
            go : (c e : Bool) (p : Option ℕ) → (c && is_none (cond e (Some place) p)) ≡ true → (c && is_none p) ≡ true
            go false e p o = o
            go true false p o = o
            go true true p o = absurd (let z : false ≡ true = o in cc)

        -- the use that stops says that there is room at all
        own_room : (more : ℕ) → Within r (end_of b) b.uses more → more ≤ r.range 3
        own_room more h =
            let x = h.rooms index u within (ap (is_open r) (sym is) ∙ open') in
            let p : IsPlaced (end_of b) (get_or b.uses index u) = s.placed index u within in
            omega (arith, x, p.inside, widest r law (level_of (class r (get_or b.uses index u))))
