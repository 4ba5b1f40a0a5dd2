-- Open uses are given what they wait for, one after another.
use Rattle.std.proofs.Common.{ℕ, ◌≡◌, ◌⊎◌, ◌+◌, ◌*◌, ◌^◌, ◌<◌, ◌≤◌, Bool, true, false, cond, List, [], ◌∷◌, ◌++◌, All, length, map, get_or, Option, None, Some, refl, sym, ap, ◌∙◌, subst, arith, inl, inr, nat_cmp}
use Rattle.std.specs.Prelude.{IfSome, IsSome, IsSomeAnd, nat_eq}
use Rattle.std.specs.FinMap.{FinMap, get}
use Rattle.std.proofs.lemmas.Bool.{cases_lt, cases_eq, false≢true}
use Rattle.std.proofs.lemmas.List.{get_or_default, length-append, length-map}
use Rattle.std.proofs.lemmas.List.Elements.{All-append, All-cons}
use Rattle.std.proofs.lemmas.List.Sums.{get_or-le-sum_by}
use Rattle.a64_base.specs.declared.entity.MachLabel.{MachLabel}
use Rattle.a64_base.specs.declared.entity.TrapCode.{TrapCode}
use Rattle.a64_base.specs.declared.entity.VCodeConstant.{VCodeConstant}
use Rattle.a64_buffer.specs.declared.site.Use.{Use}
use Rattle.a64_buffer.specs.declared.site.Target.{Target}
use Rattle.a64_buffer.specs.declared.site.Target.TheVariants.{Label, Constant, Trap, IslandEnd}
use Rattle.a64_buffer.specs.declared.class.Class.{Class}
use Rattle.a64_buffer.specs.declared.class.Class.TheVariants.{Near, Middle, Load, Trapping, Far, Direct}
use Rattle.a64_buffer.specs.declared.parts.Parts.{Parts}
use Rattle.a64_buffer.specs.Kinds.{Kinds, IsLawful}
use Rattle.a64_buffer.specs.Constants.{IsConstant}
use Rattle.a64_buffer.specs.Buffer.{Buffer, end_of, label_of, goal_of}
use Rattle.a64_buffer.specs.Areas.{InArea}
use Rattle.a64_buffer.specs.Classes.{third, label_class, wants, rank_of, cost, veneer_uses, class, is_open, weigh, weight_of, owed, class_of}
use Rattle.a64_buffer.specs.Later.{IsSameUse, IsLater}
use Rattle.a64_buffer.specs.Sound.{seen, IsPlaced, AreApart, IsKnown, IsSound}
use Rattle.a64_buffer.specs.Islands.{IsVeneerUse}
use Rattle.a64_buffer.specs.Space.{SameRoom, HasSpace, IsTracked}
use Rattle.a64_buffer.specs.Pieces.{AtGoal, key_of, ComesBefore, Serves}
use Rattle.a64_buffer.specs.Steps.{stopped, waits_for, GivesJump, GivesFar, GivesTrap, GivesCopy, IsPart, everywhere, HoldFrom, ServesNext, GivesAll, MayWrite, IsWriting, IsNextOpen, IsReady}
use Rattle.a64_buffer.proofs.Rooms.{open_wants}
use Rattle.a64_buffer.proofs.Laters.{later_none, later_trans, was_open}
use Rattle.a64_buffer.proofs.Serving.{same_class, same_key, serves_none, served_behind, serves_join, open_none}
use Rattle.a64_buffer.proofs.Pieces.{jump_next, far_next, trap_next, copy_next}
use Rattle.a64_buffer.proofs.Given.{jump_given, far_given, trap_given, copy_given}

module _ {K : Type 0} (r : Kinds K) where
  pub part_none : (b : Buffer K) → IsPart r b b
  part_none b = record { later = later_none b; labels = refl; islands = refl; records = refl; rooms = λ more h. h; owed = omega arith; owed_to = λ t. omega arith }

  pub part_trans : (a b c : Buffer K) → IsPart r a b → IsPart r b c → IsPart r a c
  part_trans a b c p q = record {
    later = later_trans a b c p.later q.later;
    labels = q.labels ∙ p.labels;
    islands = q.islands ∙ p.islands;
    records = q.records ∙ p.records;
    rooms = λ more h. q.rooms more (p.rooms more h);
    owed = omega (arith, p.owed, q.owed);
    owed_to = λ t. omega (arith, p.owed_to t, q.owed_to t);
  }

  -- ---- one step after another

  pub writing_none : (limit : ℕ) (b : Buffer K) → MayWrite r b → IsWriting r limit b b
  writing_none limit b m = record {
    idle = λ e. refl;
    served = [];
    serves = serves_none r b.labels b.constants b b refl refl refl (λ k d h o s. open_none r (get_or b.uses k d) o s);
    ahead = λ k d h. absurd (omega arith);
    part = part_none b;
    sound = m.sound;
    sound_in = λ areas s h. s;
    traps = omega arith;
    given = λ k d h w. absurd (omega arith);
    direct = λ k d h w. refl;
    far_waits = λ l end h. h;
    only_last = λ h. (h, λ k d l w. absurd (omega arith));
  }

  pub may_write_on : (limit : ℕ) (b m : Buffer K) → MayWrite r b → IsWriting r limit b m → MayWrite r m
  may_write_on limit b m may w = record { sound = w.sound; room = w.part.rooms 0 may.room; short = omega (arith, may.short, w.part.owed) }

  not_far : (c : Class) → rank_of c < 4 → c ≡ Far → ⊥
  not_far c h e = omega (arith, ap rank_of e)

  wanting : (c : Class) → rank_of c < 5 → wants c ≡ true
  wanting Near h = refl
  wanting Middle h = refl
  wanting Load h = refl
  wanting Trapping h = refl
  wanting Far h = refl
  wanting Direct h = absurd (omega arith)

  far_or_less : (c : Class) → wants c ≡ true → (c ≡ Far) ⊎ (rank_of c < 4)
  far_or_less Near w = inr (omega arith)
  far_or_less Middle w = inr (omega arith)
  far_or_less Load w = inr (omega arith)
  far_or_less Trapping w = inr (omega arith)
  far_or_less Far w = inl refl
  far_or_less Direct w = absurd (false≢true w)

  pub writing_step : (limit : ℕ) (b m b' : Buffer K) (c : Class) → limit ≤ 5 → IsWriting r limit b m → GivesAll r c m b' → rank_of c < limit → (All (λ u. is_open r u ≡ true → class r u ≡ Far) m.uses → c ≡ Far) → IsWriting r limit b b'
  writing_step limit b m b' c five w g lt last_far =
      let later : IsLater m b' = g.given.part.later in
      record {
        idle = λ e. absurd (omega (arith, e, w.part.later.end, g.given.longer));
        served = w.served ++ g.next.served ∷ [];
        serves = serves_join r b.labels b.constants b m b' w.served (g.next.served ∷ []) w.serves next_serves w.part.later later (λ k d h l. (g.given.given k d h l).labelled)
            (λ j k d hj hk. let z : k ≡ 0 = omega arith in subst (λ n. ComesBefore r (get_or w.served j d) (get_or (g.next.served ∷ []) n d)) (sym z) (behind j d hj))
            (λ k d low h n. unwanting k d h n);
        ahead = All-append (λ (u : Use K). All (λ v. is_open r v ≡ true → key_of r u < key_of r v) b'.uses) w.served (g.next.served ∷ [])
            (λ j d hj k e hk o. omega (arith, (behind j d hj).0, key_next k e hk o))
            (All-cons (λ (u : Use K). All (λ v. is_open r v ≡ true → key_of r u < key_of r v) b'.uses) g.next.served [] key_next (λ k d h. absurd (omega arith)));
        part = part_trans b m b' w.part g.given.part;
        sound = g.given.sound;
        sound_in = λ areas s h. g.sound_in areas (w.sound_in areas s h) (λ p size le fits. h p size (omega (arith, w.part.later.end)) fits);
        traps = omega (arith, w.traps, g.given.traps);
        given = λ k d h l. elim (cases_lt k (length m.uses)) [
          | inl below ↦ stays k d below (w.given k d h below)
          | inr past ↦ through (get_or b'.uses k d) (g.given.given k d past l)
        ];
        far_waits = λ four end h k d l. elim (cases_lt k (length m.uses)) [
          | inl below ↦ λ is_far.
              let was_far : class r (get_or m.uses k d) ≡ Far = sym (same_at k d below) ∙ is_far in
              let same : get_or b'.uses k d ≡ get_or m.uses k d = g.given.spared k d below (λ e. not_far c (omega arith) (sym e ∙ was_far)) in
              subst (λ (v : Use K). IfSome v.stop (λ stop. (stop < end) ⊎ (goal_of b.labels v.target ≡ Some stop))) (sym same) (w.far_waits four end h k d below was_far)
          | inr past ↦ λ far. subst (λ (ls : FinMap nat_cmp ℕ). IfSome (get_or b'.uses k d).stop (λ stop. (stop < end) ⊎ (goal_of ls (get_or b'.uses k d).target ≡ Some stop))) w.part.labels (at_goal end (get_or b'.uses k d) (g.given.waits k d past l))
        ];
        direct = λ k d h n. g.given.spared k d (omega (arith, w.part.later.count)) (λ e. let z : false ≡ true = sym n ∙ (ap (λ v. wants (class r v)) (sym (w.direct k d h n)) ∙ (ap wants e ∙ wanting c (omega arith))) in cc) ∙ w.direct k d h n;
        only_last = λ h. let o = w.only_last h in (
          λ k d l. elim (cases_lt k (length m.uses)) [
            | inl below ↦ old_far k d below (o.0 k d below)
            | inr past ↦ λ q. absurd (let n : wants (class r (get_or b'.uses k d)) ≡ false = g.given.last (last_far o.0) k d past l in open_not (get_or b'.uses k d) q n)
          ],
          λ k d low l. elim (cases_lt k (length m.uses)) [
            | inl below ↦ ap (λ c. wants c) (same_at k d below) ∙ o.1 k d low below
            | inr past ↦ g.given.last (last_far o.0) k d past l
          ],
        );
      }
    where
      -- what wants nothing stays
      unwanting : (k : ℕ) (d : Use K) → k < length m.uses → wants (class r (get_or m.uses k d)) ≡ false → get_or b'.uses k d ≡ get_or m.uses k d
      unwanting k d h n = g.given.spared k d h (λ e. false≢true (sym n ∙ (ap wants e ∙ wanting c (omega arith))))

      n : ServesNext r c m b'
      n = g.next

      next_serves : Serves r b.labels b.constants (g.next.served ∷ []) m b'
      next_serves = subst (λ ls. Serves r ls b.constants (g.next.served ∷ []) m b') w.part.labels (subst (λ cs. Serves r m.labels cs (g.next.served ∷ []) m b') w.part.later.constants g.next.serves)

      behind : (j : ℕ) (d : Use K) → j < length w.served → ComesBefore r (get_or w.served j d) g.next.served
      behind j d hj = served_behind r b.labels b.constants b m b' w.served (g.next.served ∷ []) w.serves next_serves w.part.later g.given.part.later w.ahead n.index n.within n.served (n.here n.served) (n.waited n.served) j d hj

      has_stop : IsSome g.next.served.stop
      has_stop = (g.next.serves.waited 0 g.next.served (omega arith)).stops

      same_next : (d : Use K) → IsSameUse (end_of m) (get_or m.uses n.index d) (get_or b'.uses n.index d)
      same_next d = g.given.part.later.uses n.index d n.within

      served_offset : (d : Use K) → g.next.served.offset ≡ (get_or m.uses n.index d).offset
      served_offset d = ap (λ (v : Use K). v.offset) (sym (n.here d)) ∙ (same_next d).offset

      open_not : (u : Use K) → is_open r u ≡ true → wants (class r u) ≡ false → ⊥
      open_not u o n = let z : false ≡ true = sym n ∙ open_wants r u o in cc

      -- what is open still comes behind the use that was served
      key_next : (k : ℕ) (d : Use K) → k < length b'.uses → is_open r (get_or b'.uses k d) ≡ true → key_of r g.next.served < key_of r (get_or b'.uses k d)
      key_next k d hk o = elim (cases_lt k (length m.uses)) [
        | inl lt ↦
            let same : IsSameUse (end_of m) (get_or m.uses k d) (get_or b'.uses k d) = g.given.part.later.uses k d lt in
            let least : key_of r g.next.served ≤ key_of r (get_or m.uses k d) = n.least k d lt (was_open r (end_of m) (get_or m.uses k d) (get_or b'.uses k d) same o) in
            let key : key_of r (get_or b'.uses k d) ≡ key_of r (get_or m.uses k d) = same_key r (end_of m) (get_or m.uses k d) (get_or b'.uses k d) same in
            let low : (get_or m.uses k d).offset < 2 ^ 31 = short_place k d lt in
            let low' : (get_or m.uses n.index d).offset < 2 ^ 31 = short_place n.index d n.within in
            elim (cases_lt (key_of r g.next.served) (key_of r (get_or m.uses k d))) [
              | inl less ↦ omega (arith, less, key)
              | inr ge ↦
                  let equal : (get_or m.uses n.index d).offset ≡ (get_or m.uses k d).offset = omega (arith, ge, least, low, low', served_offset d) in
                  absurd (elim (cases_eq k n.index) [
                    | inl e ↦ open_none r g.next.served (ap (is_open r) (sym (n.here d)) ∙ (ap (λ i. is_open r (get_or b'.uses i d)) (sym e) ∙ o)) has_stop
                    | inr ne ↦ elim (cases_lt k n.index) [
                      | inl before ↦ w.sound.apart k n.index d before n.within (sym equal)
                      | inr after ↦ w.sound.apart n.index k d (omega arith) lt equal
                    ]
                  ])
            ]
        | inr ge ↦
            let low' : (get_or m.uses n.index d).offset < 2 ^ 31 = short_place n.index d n.within in
            let far : class r (get_or b'.uses k d) ≡ Far = g.given.fars k d ge hk o in
            elim (far_or_less c (ap wants (sym g.next.class_is) ∙ (g.next.serves.waited 0 g.next.served (omega arith)).wants_one)) [
              | inl e ↦ absurd (open_not (get_or b'.uses k d) o (g.given.last e k d ge hk))
              | inr less ↦ omega (arith, less, ap rank_of g.next.class_is, ap rank_of far, low', served_offset d)
            ]
      ]
        where
          short_place : (k : ℕ) (d : Use K) → k < length m.uses → (get_or m.uses k d).offset < 2 ^ 31
          short_place k d h = let p : IsPlaced (end_of m) (get_or m.uses k d) = w.sound.placed k d h in omega (arith, p.inside, w.sound.short)

      same_at : (k : ℕ) (d : Use K) → k < length m.uses → class r (get_or b'.uses k d) ≡ class r (get_or m.uses k d)
      same_at k d below = same_class r (end_of m) (get_or m.uses k d) (get_or b'.uses k d) (g.given.part.later.uses k d below)

      stays : (k : ℕ) (d : Use K) → k < length m.uses → IsVeneerUse r b (get_or m.uses k d) → IsVeneerUse r b (get_or b'.uses k d)
      stays k d below v =
          let same : IsSameUse (end_of m) (get_or m.uses k d) (get_or b'.uses k d) = g.given.part.later.uses k d below in
          record { parent = v.parent; within = v.within; target = λ e. v.target e ∙ sym same.target; labelled = subst (λ t. IsSome (label_of t)) (sym same.target) v.labelled; kind = subst (λ kind. (kind ≡ r.jump) ⊎ (kind ≡ r.far_use)) (sym same.kind) v.kind }

      through : (v : Use K) → IsVeneerUse r m v → IsVeneerUse r b v
      through v h = elim (cases_lt h.parent (length b.uses)) [
        | inl lt ↦ record { parent = h.parent; within = lt; target = λ d. sym (w.part.later.uses h.parent d lt).target ∙ h.target d; labelled = h.labelled; kind = h.kind }
        | inr ge ↦
            let up : IsVeneerUse r b (get_or m.uses h.parent v) = w.given h.parent v ge h.within in
            record { parent = up.parent; within = up.within; target = λ d. up.target d ∙ h.target v; labelled = h.labelled; kind = h.kind }
      ]

      at_goal : (end : ℕ) (v : Use K) → AtGoal m.labels v → IfSome v.stop (λ stop. (stop < end) ⊎ (goal_of m.labels v.target ≡ Some stop))
      at_goal end v h = go v.stop h
        where
          go : (o : Option ℕ) → IfSome o (λ stop. goal_of m.labels v.target ≡ Some stop) → IfSome o (λ stop. (stop < end) ⊎ (goal_of m.labels v.target ≡ Some stop))
          go None h = h
          go (Some t) h = inr h

      old_far : (k : ℕ) (d : Use K) → k < length m.uses → (is_open r (get_or m.uses k d) ≡ true → class r (get_or m.uses k d) ≡ Far) → is_open r (get_or b'.uses k d) ≡ true → class r (get_or b'.uses k d) ≡ Far
      old_far k d below f o =
          let same : IsSameUse (end_of m) (get_or m.uses k d) (get_or b'.uses k d) = g.given.part.later.uses k d below in
          same_at k d below ∙ f (was_open r (end_of m) (get_or m.uses k d) (get_or b'.uses k d) same o)

  -- ---- the next open use

  low_place : (end : ℕ) (u : Use K) → IsPlaced end u → end < 2 ^ 31 → u.offset < 2 ^ 31
  low_place end u p h = omega (arith, p.inside)

  pub next_ranks : (b : Buffer K) (limit index : ℕ) (u : Use K) → IsSound r b everywhere → index < length b.uses → u ≡ get_or b.uses index u → key_of r u < limit * 2 ^ 32 → All (λ v. is_open r v ≡ true → key_of r u ≤ key_of r v) b.uses → (rank_of (class r u) < limit) × All (λ v. is_open r v ≡ true → rank_of (class r u) ≤ rank_of (class r v)) b.uses
  next_ranks b limit index u s h is below least = (
    let e : key_of r u ≡ rank_of (class r u) * 2 ^ 32 + u.offset = refl in omega arith,
    λ k d l o.
        let x : key_of r u ≤ key_of r (get_or b.uses k d) = least k d l o in
        let y : (get_or b.uses k d).offset < 2 ^ 31 = low_place (end_of b) (get_or b.uses k d) (s.placed k d l) s.short in
        omega arith,
  )

  pub none_ranks : (b : Buffer K) (limit : ℕ) → IsSound r b everywhere → All (λ u. is_open r u ≡ true → limit * 2 ^ 32 ≤ key_of r u) b.uses → All (λ u. is_open r u ≡ true → limit ≤ rank_of (class r u)) b.uses
  none_ranks b limit s h k d l o =
      let x : limit * 2 ^ 32 ≤ key_of r (get_or b.uses k d) = h k d l o in
      let y : (get_or b.uses k d).offset < 2 ^ 31 = low_place (end_of b) (get_or b.uses k d) (s.placed k d l) s.short in
      omega arith

-- ---- one use that is ready

-- uses that stop are as many as before
pub stopped_count : {K : Type 0} (test : Use K → Bool) (place : ℕ) (us us' : List (Use K)) → us' ≡ map (stopped test place) us ++ [] → length us' ≡ length us
stopped_count test place us us' e = omega (arith, ap length e, length-append (map (stopped test place) us) [], length-map us (stopped test place))

module _ {K : Type 0} (r : Kinds K) (law : IsLawful r) (p : Parts K) (index : ℕ) (ready : IsReady r p index) (u : Use K) (is : u ≡ get_or p.uses.items index u) where
  open' : is_open r u ≡ true
  open' = ap (is_open r) is ∙ (ready.next u).0

  lowest : All (λ v. is_open r v ≡ true → rank_of (class r u) ≤ rank_of (class r v)) p.uses.items
  lowest = subst (λ (w : Use K). All (λ v. is_open r v ≡ true → rank_of (class r w) ≤ rank_of (class r v)) p.uses.items) (sym is) (ready.next u).1

  least : All (λ v. is_open r v ≡ true → key_of r u ≤ key_of r v) p.uses.items
  least = subst (λ (w : Use K). All (λ v. is_open r v ≡ true → key_of r w ≤ key_of r v) p.uses.items) (sym is) (ready.least u)

  holds : (areas : List (ℕ × ℕ)) → HoldFrom areas (end_of (seen p)) → (place size : ℕ) → end_of (seen p) ≤ place → place + size ≤ end_of (seen p) + 28 → InArea areas place size
  holds areas h place size le fits = h place size le (omega (arith, ready.may.short))

  all_hold : HoldFrom everywhere (end_of (seen p))
  all_hold place size le fits = record { index = 0; within = omega arith; begins = omega arith; ends = omega arith }

  -- what is kept for the use
  pub kept_weight : (w : Class → ℕ) → w (class r u) ≤ weight_of r w p.uses.items
  kept_weight w =
      let one : weigh r w (get_or p.uses.items index u) ≤ weight_of r w p.uses.items = get_or-le-sum_by (weigh r w) p.uses.items index u ready.within in
      omega (arith, ap (weigh r w) is, ap (λ o. cond o (w (class r u)) 0) open')

  pub jump_all : (b' : Buffer K) → (class r u ≡ Near) ⊎ (class r u ≡ Middle) → GivesJump r u (seen p) b' → GivesAll r (class r u) (seen p) b'
  jump_all b' c a = record {
    given = jump_given r law (seen p) b' everywhere ready.may.sound index u ready.within is open' ready.may.room lowest ready.may.short (holds everywhere all_hold) c a;
    sound_in = λ areas s h. (jump_given r law (seen p) b' areas s index u ready.within is open' ready.may.room lowest ready.may.short (holds areas h) c a).sound;
    next = jump_next r law (seen p) b' everywhere ready.may.sound index u ready.within is open' least ready.may.room lowest c a;
  }

  pub far_all : (b' : Buffer K) → class r u ≡ Far → GivesFar r u (seen p) b' → GivesAll r (class r u) (seen p) b'
  far_all b' c a = record {
    given = far_given r law (seen p) b' everywhere ready.may.sound index u ready.within is open' ready.may.room lowest ready.may.short (holds everywhere all_hold) c a;
    sound_in = λ areas s h. (far_given r law (seen p) b' areas s index u ready.within is open' ready.may.room lowest ready.may.short (holds areas h) c a).sound;
    next = far_next r law (seen p) b' everywhere ready.may.sound index u ready.within is open' least ready.may.room lowest c a;
  }

  pub trap_all : (b' : Buffer K) (code : TrapCode) → u.target ≡ Trap code → GivesTrap r u code (seen p) b' → GivesAll r (class r u) (seen p) b'
  trap_all b' code c a = record {
    given = trap_given r law (seen p) b' everywhere ready.may.sound index u ready.within is open' ready.may.room lowest ready.may.short (holds everywhere all_hold) code c a;
    sound_in = λ areas s h. (trap_given r law (seen p) b' areas s index u ready.within is open' ready.may.room lowest ready.may.short (holds areas h) code c a).sound;
    next = trap_next r law (seen p) b' everywhere ready.may.sound index u ready.within is open' least ready.may.room lowest code c a;
  }

  pub copy_all : (b' : Buffer K) (constant : VCodeConstant) (content : List ℕ) → u.target ≡ Constant constant → get (seen p).constants constant.0 ≡ Some content → IsConstant content → GivesCopy r constant.0 content (seen p) b' → GivesAll r (class r u) (seen p) b'
  copy_all b' constant content c known sized a = record {
    given = copy_given r law (seen p) b' everywhere ready.may.sound index u ready.within is open' ready.may.room lowest ready.may.short (holds everywhere all_hold) constant content c known sized a;
    sound_in = λ areas s h. (copy_given r law (seen p) b' areas s index u ready.within is open' ready.may.room lowest ready.may.short (holds areas h) constant content c known sized a).sound;
    next = copy_next r law (seen p) b' everywhere ready.may.sound index u ready.within is open' least constant content c known a;
  }

  -- a constant that the use loads is known
  known_content : (constant : VCodeConstant) → u.target ≡ Constant constant → IsSomeAnd (get (seen p).constants constant.0) IsConstant
  known_content constant e = subst (IsKnown (seen p).constants) (ap (λ (v : Use K). v.target) (sym is) ∙ e) (ready.may.sound.known index u ready.within)

  pub copy_ready : (b' : Buffer K) (constant : VCodeConstant) → u.target ≡ Constant constant → IfSome (get (seen p).constants constant.0) (λ content. GivesCopy r constant.0 content (seen p) b') → GivesAll r (class r u) (seen p) b'
  copy_ready b' constant e g = elim (get (seen p).constants constant.0) as (λ o. get (seen p).constants constant.0 ≡ o → IsSomeAnd o IsConstant → IfSome o (λ content. GivesCopy r constant.0 content (seen p) b') → GivesAll r (class r u) (seen p) b') [
    | None ↦ λ q h g. absurd h
    | Some content ↦ λ q h g. copy_all b' constant content e q h g
  ] refl (known_content constant e) g

  -- no use is added for a constant
  pub copy_count : (b' : Buffer K) (constant : VCodeConstant) → u.target ≡ Constant constant → IfSome (get (seen p).constants constant.0) (λ content. GivesCopy r constant.0 content (seen p) b') → length b'.uses ≡ length p.uses.items
  copy_count b' constant e g = elim (get (seen p).constants constant.0) as (λ o. IsSomeAnd o IsConstant → IfSome o (λ content. GivesCopy r constant.0 content (seen p) b') → length b'.uses ≡ length p.uses.items) [
    | None ↦ λ h g. absurd h
    | Some content ↦ λ h g. stopped_count (waits_for constant.0) _ p.uses.items b'.uses g.uses
  ] (known_content constant e) g

  -- a use of a label that is open is near, middle or far
  pub label_not : (label : ℕ) → label_of u.target ≡ Some label → (class r u ≡ Load) ⊎ (class r u ≡ Trapping) ⊎ (class r u ≡ Direct) → ⊥
  label_not label e h = go u.target e h (open_wants r u open')
    where
      classes : (n : ℕ) → (label_class true n ≡ Load) ⊎ (label_class true n ≡ Trapping) ⊎ (label_class true n ≡ Direct) → ⊥
      classes n h = one (nat_eq n 1) (nat_eq n 2) h
        where
          one : (x y : Bool) → (cond x Near (cond y Middle Far) ≡ Load) ⊎ (cond x Near (cond y Middle Far) ≡ Trapping) ⊎ (cond x Near (cond y Middle Far) ≡ Direct) → ⊥
          one true y h = elim h [ inl e ↦ (let z : Near ≡ Load = e in cc) | inr t ↦ elim t [ inl e ↦ (let z : Near ≡ Trapping = e in cc) | inr e ↦ (let z : Near ≡ Direct = e in cc) ] ]
          one false true h = elim h [ inl e ↦ (let z : Middle ≡ Load = e in cc) | inr t ↦ elim t [ inl e ↦ (let z : Middle ≡ Trapping = e in cc) | inr e ↦ (let z : Middle ≡ Direct = e in cc) ] ]
          one false false h = elim h [ inl e ↦ (let z : Far ≡ Load = e in cc) | inr t ↦ elim t [ inl e ↦ (let z : Far ≡ Trapping = e in cc) | inr e ↦ (let z : Far ≡ Direct = e in cc) ] ]

      by_veneers : (v : Bool) (n : ℕ) → (label_class v n ≡ Load) ⊎ (label_class v n ≡ Trapping) ⊎ (label_class v n ≡ Direct) → wants (label_class v n) ≡ true → ⊥
      by_veneers true n h w = classes n h
      by_veneers false n h w = let z : false ≡ true = w in cc

      go : (t : Target) → label_of t ≡ Some label → (class_of r t u.kind ≡ Load) ⊎ (class_of r t u.kind ≡ Trapping) ⊎ (class_of r t u.kind ≡ Direct) → wants (class_of r t u.kind) ≡ true → ⊥
      go (Label l) e h w = by_veneers (r.veneers u.kind) (r.urgency u.kind) h w
      go (Constant c) e h w = let z : None ≡ Some label = e in cc
      go (Trap c) e h w = let z : None ≡ Some label = e in cc
      go IslandEnd e h w = let z : None ≡ Some label = e in cc

-- ---- one use that is ready, of a class

module _ {K : Type 0} (r : Kinds K) (law : IsLawful r) (p : Parts K) (index : ℕ) (ready : IsReady r p index) (c : Class) (is_class : (d : Use K) → class r (get_or p.uses.items index d) ≡ c) where
  abbrev here : Use K
  here = get_or p.uses.items index (record { offset = 0; target = IslandEnd; kind = r.jump; stop = None })

  is_here : here ≡ get_or p.uses.items index here
  is_here = get_or_default p.uses.items index _ here ready.within

  class_here : class r here ≡ c
  class_here = is_class _

  pub ready_wants : wants c ≡ true
  ready_wants = ap wants (sym class_here) ∙ open_wants r here (open' r law p index ready here is_here)

  -- what is kept for it
  pub kept_for : (w : Class → ℕ) → w c ≤ weight_of r w p.uses.items
  kept_for w = omega (arith, kept_weight r law p index ready here is_here w, ap w class_here)

  pub jump_kept : (c ≡ Near) ⊎ (c ≡ Middle) → (24 ≤ owed r (seen p)) × (2 ≤ weight_of r veneer_uses p.uses.items)
  jump_kept h = elim h [
    | inl e ↦ (omega (arith, kept_for (cost third), ap (cost third) e), omega (arith, kept_for veneer_uses, ap veneer_uses e))
    | inr e ↦ (omega (arith, kept_for (cost third), ap (cost third) e), omega (arith, kept_for veneer_uses, ap veneer_uses e))
  ]

  pub far_kept : c ≡ Far → (20 ≤ owed r (seen p)) × (1 ≤ weight_of r veneer_uses p.uses.items)
  far_kept e = (omega (arith, kept_for (cost third), ap (cost third) e), omega (arith, kept_for veneer_uses, ap veneer_uses e))

  -- what it gets
  pub jump_ready : (b' : Buffer K) → (c ≡ Near) ⊎ (c ≡ Middle) → ((d : Use K) → AreApart p.uses.items → GivesJump r (get_or p.uses.items index d) (seen p) b') → GivesAll r c (seen p) b'
  jump_ready b' h a = subst (λ k. GivesAll r k (seen p) b') class_here (jump_all r law p index ready here is_here b' (subst (λ k. (k ≡ Near) ⊎ (k ≡ Middle)) (sym class_here) h) (a _ ready.may.sound.apart))

  pub far_ready : (b' : Buffer K) → c ≡ Far → ((d : Use K) → AreApart p.uses.items → GivesFar r (get_or p.uses.items index d) (seen p) b') → GivesAll r c (seen p) b'
  far_ready b' e a = subst (λ k. GivesAll r k (seen p) b') class_here (far_all r law p index ready here is_here b' (class_here ∙ e) (a _ ready.may.sound.apart))

  -- a use of a label waits for a veneer
  pub label_waits : (label : MachLabel) → ((d : Use K) → (get_or p.uses.items index d).target ≡ Label label) → (c ≡ Load) ⊎ (c ≡ Trapping) ⊎ (c ≡ Direct) → ⊥
  label_waits label t h = label_not r law p index ready here is_here label.0 (ap label_of (t _)) (subst (λ k. (k ≡ Load) ⊎ (k ≡ Trapping) ⊎ (k ≡ Direct)) (sym class_here) h)

-- the memory that is left is enough for what is left
pub space_after : {K : Type 0} (r : Kinds K) (p p' : Parts K) (c : Class) → HasSpace r p → SameRoom p p' → GivesAll r c (seen p) (seen p') → HasSpace r p'
space_after r p p' c h s g = record {
  words = omega (arith, h.words, s.words, g.given.part.owed);
  uses = omega (arith, h.uses, s.uses, g.given.uses);
  earlier = omega (arith, h.earlier, s.earlier, g.given.uses);
  traps = omega (arith, h.traps, s.traps, g.given.traps);
}

pub less_owed : {K : Type 0} (r : Kinds K) (p p' : Parts K) (c : Class) → GivesAll r c (seen p) (seen p') → owed r (seen p') < owed r (seen p)
less_owed r p p' c g = omega (arith, g.given.longer, g.given.part.owed)

-- ---- the loop

module _ {K : Type 0} (r : Kinds K) (limit : ℕ) (five : limit ≤ 5) (start p : Parts K) (may : MayWrite r (seen start)) (w : IsWriting r limit (seen start) (seen p)) (index : ℕ) (next : IsNextOpen r limit p.uses.items (Some index)) where
  ranks : (d : Use K) → (rank_of (class r (get_or p.uses.items index d)) < limit) × All (λ v. is_open r v ≡ true → rank_of (class r (get_or p.uses.items index d)) ≤ rank_of (class r v)) p.uses.items
  ranks d = next_ranks r (seen p) limit index (get_or p.uses.items index d) w.sound next.0 (get_or_default p.uses.items index d (get_or p.uses.items index d) next.0) (next.1 d).1 (next.1 d).2

  -- the open use that comes first is ready
  pub ready_next : HasSpace r p → IsTracked r p → IsReady r p index
  ready_next space tracked = record {
    within = next.0;
    least = λ d. (next.1 d).2;
    next = λ d. ((next.1 d).0, (ranks d).1);
    may = may_write_on r limit (seen start) (seen p) may w;
    space = space;
    tracked = tracked;
  }

  pub writing_next : (d : Use K) (p' : Parts K) → GivesAll r (class r (get_or p.uses.items index d)) (seen p) (seen p') → IsWriting r limit (seen start) (seen p')
  writing_next d p' g = writing_step r limit (seen start) (seen p) (seen p') (class r (get_or p.uses.items index d)) five w g (ranks d).0 (λ fars. fars index d next.0 (next.1 d).0)

pub same_room_none : {K : Type 0} (p : Parts K) → SameRoom p p
same_room_none p = record { words = omega arith; uses = refl; earlier = refl; traps = refl; islands = refl }

pub same_room_trans : {K : Type 0} (p q s : Parts K) → SameRoom p q → SameRoom q s → SameRoom p s
same_room_trans p q s a c = record { words = omega (arith, a.words, c.words); uses = c.uses ∙ a.uses; earlier = c.earlier ∙ a.earlier; traps = c.traps ∙ a.traps; islands = c.islands ∙ a.islands }
