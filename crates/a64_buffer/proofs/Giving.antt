-- What is left where an open use gets what it waits for, whatever its class.
use Rattle.std.proofs.Common.{ℕ, ◌≡◌, ◌⊎◌, ◌+◌, ◌-◌, ◌*◌, ◌%◌, ◌^◌, ◌<◌, ◌≤◌, Bool, true, false, cond, List, All, length, get_or, Option, None, Some, refl, sym, ap, ◌∙◌, subst, arith, inl, inr, nat_cmp}
use Rattle.std.specs.Prelude.{◌&&◌, is_none, sum_by, nat_le, MatchOption, IfSome}
use Rattle.std.specs.Option.{option_and_then}
use Rattle.std.specs.FinMap.{FinMap, get}
use Rattle.std.proofs.lemmas.Bool.{cases_lt, cases_eq, eqb-true, leb-true, and_parts}
use Rattle.std.proofs.lemmas.List.{length-append, get_or_default}
use Rattle.a64_base.specs.declared.entity.TrapCode.{TrapCode}
use Rattle.a64_buffer.specs.declared.site.Use.{Use}
use Rattle.a64_buffer.specs.declared.site.Target.{Target}
use Rattle.a64_buffer.specs.declared.site.Target.TheVariants.{Label, Constant, Trap, IslandEnd}
use Rattle.a64_buffer.specs.Kinds.{Kinds, IsLawful}
use Rattle.a64_buffer.specs.Buffer.{Buffer, end_of, goal_of, is_within, reached, made_use}
use Rattle.a64_buffer.specs.declared.class.Class.{Class}
use Rattle.a64_buffer.specs.declared.class.Class.TheVariants.{Far}
use Rattle.a64_buffer.specs.Classes.{Level, third, level_of, wants, rank_of, cost, veneer_uses, trap_words, class, range_of, is_open, weigh, weight_of, burden, owed, weigh_label}
use Rattle.a64_buffer.specs.ByPlace.{AreByPlace}
use Rattle.a64_buffer.specs.Later.{IsLater}
use Rattle.a64_buffer.specs.Sound.{IsPlaced, AreApart, IsKinded, IsKnown, IsStop, IsStoppedOrOpen, IsSound}
use Rattle.a64_buffer.specs.Islands.{IsVeneerUse}
use Rattle.a64_buffer.specs.Pieces.{AtGoal}
use Rattle.a64_buffer.specs.Steps.{stopped, stands_at, Adds, Within, HasGiven}
use Rattle.a64_buffer.proofs.Costs.{SomeOpen}
use Rattle.a64_buffer.proofs.Rooms.{open_wants, wanting_range}
use Rattle.a64_buffer.proofs.Adding.{added_end, added_count, old_use, new_use, added_later, added_sound, added_rooms, sum_after, weigh_split, label_split}

-- a use that is made now stops at its label, or does not reach it
pub made_stop : {K : Type 0} (r : Kinds K) (b : Buffer K) (areas : List (ℕ × ℕ)) → ((label : ℕ) → IfSome (get b.labels label) (λ p. p % 4 ≡ 0)) → (offset : ℕ) (target : Target) (kind : K) → IsStoppedOrOpen r b areas (made_use r b.labels offset target kind)
made_stop {K} r b areas bound offset (Label label) kind = go (get b.labels label.0) refl (bound label.0)
  where
    there : (p : ℕ) → get b.labels label.0 ≡ Some p → (p % 4 ≡ 0) → (t : Bool) → is_within r kind offset p ≡ t → MatchOption (cond t (Some p) None) (IfSome (Some p) (λ q. is_within r kind offset q ≡ false)) (IsStop r b areas (Label label) kind offset)
    there p e al true w =
        let both = and_parts (nat_le p (offset + r.forward kind)) (nat_le offset (p + r.backward kind)) w in
        record {
          aligned = al;
          within = record { ahead = leb-true p (offset + r.forward kind) both.0; behind = leb-true offset (p + r.backward kind) both.1 };
          ahead = inr e;
          leads = inl e;
        }
    there p e al false w = w

    go : (o : Option ℕ) → get b.labels label.0 ≡ o → IfSome o (λ p. p % 4 ≡ 0) → IsStoppedOrOpen r b areas (made_use r b.labels offset (Label label) kind)
    go None e h = subst (λ o. MatchOption (option_and_then (λ p. reached r kind offset p) o) (IfSome o (λ q. is_within r kind offset q ≡ false)) (IsStop r b areas (Label label) kind offset)) (sym e) tt
    go (Some p) e h = subst (λ o. MatchOption (option_and_then (λ p. reached r kind offset p) o) (IfSome o (λ q. is_within r kind offset q ≡ false)) (IsStop r b areas (Label label) kind offset)) (sym e) (there p e h (is_within r kind offset p) refl)
made_stop r b areas bound offset (Constant constant) kind = tt
made_stop r b areas bound offset (Trap code) kind = tt
made_stop r b areas bound offset IslandEnd kind = tt

-- and if it stops, then there
pub made_goal : {K : Type 0} (r : Kinds K) (labels : FinMap nat_cmp ℕ) (offset : ℕ) (target : Target) (kind : K) → AtGoal labels (made_use r labels offset target kind)
made_goal r labels offset target kind = go (goal_of labels target)
  where
    there : (p : ℕ) (t : Bool) → IfSome (cond t (Some p) None) (λ stop. Some p ≡ Some stop)
    there p true = refl
    there p false = tt

    go : (o : Option ℕ) → IfSome (option_and_then (λ p. reached r kind offset p) o) (λ stop. o ≡ Some stop)
    go None = tt
    go (Some p) = there p (is_within r kind offset p)

-- the same, where the labels are those of another buffer
pub made_stop_of : {K : Type 0} (r : Kinds K) (b b' : Buffer K) (areas : List (ℕ × ℕ)) → b'.labels ≡ b.labels → ((label : ℕ) → IfSome (get b.labels label) (λ p. (p % 4 ≡ 0) × (p ≤ end_of b))) → (offset : ℕ) (target : Target) (kind : K) → IsStoppedOrOpen r b' areas (made_use r b.labels offset target kind)
made_stop_of r b b' areas same bound offset target kind =
    subst (λ m. IsStoppedOrOpen r b' areas (made_use r m offset target kind)) same
    (made_stop r b' areas (λ label. subst (λ m. IfSome (get m label) (λ p. p % 4 ≡ 0)) (sym same) (weaker (get b.labels label) (bound label))) offset target kind)
  where
    weaker : (o : Option ℕ) → IfSome o (λ p. (p % 4 ≡ 0) × (p ≤ end_of b)) → IfSome o (λ p. p % 4 ≡ 0)
    weaker None h = h
    weaker (Some p) h = h.0

module _ {K : Type 0} (r : Kinds K) (law : IsLawful r) (b b' : Buffer K) (areas : List (ℕ × ℕ)) (s : IsSound r b areas) (index : ℕ) (u : Use K) (within : index < length b.uses) (is : u ≡ get_or b.uses index u) (open' : is_open r u ≡ true) (room : Within r (end_of b) b.uses 0) (lowest : All (λ v. is_open r v ≡ true → rank_of (class r u) ≤ rank_of (class r v)) b.uses) where
  -- the use, as it is known
  pub at_index : (d : Use K) → get_or b.uses index d ≡ u
  at_index d = sym (is ∙ get_or_default b.uses index u d within)

  pub use_placed : IsPlaced (end_of b) u
  use_placed = subst (IsPlaced (end_of b)) (sym is) (s.placed index u within)

  pub use_kinded : IsKinded r u.target u.kind
  use_kinded = subst (λ (v : Use K). IsKinded r v.target v.kind) (sym is) (s.kinded index u within)

  -- the end is in its range
  pub end_reached : end_of b + burden r (level_of (class r u)) b.uses ≤ u.offset + r.forward u.kind
  end_reached =
      let x : end_of b + 0 + burden r (level_of (class r u)) b.uses ≤ u.offset + range_of r (level_of (class r u)) = subst (λ (v : Use K). end_of b + 0 + burden r (level_of (class r v)) b.uses ≤ v.offset + range_of r (level_of (class r v))) (sym is) (room.rooms index u within (ap (is_open r) (sym is) ∙ open')) in
      omega (arith, wanting_range r law u.target u.kind use_kinded (open_wants r u open'))

  -- it is the only one at its place
  pub only_here : (k : ℕ) (d : Use K) → k < length b.uses → stands_at u.offset (get_or b.uses k d) ≡ true → get_or b.uses k d ≡ u
  only_here k d h e =
      let same : (get_or b.uses k d).offset ≡ (get_or b.uses index d).offset = eqb-true (get_or b.uses k d).offset u.offset e ∙ ap (λ v. v.offset) (sym (at_index d)) in
      elim (cases_eq k index) [
        | inl eq ↦ ap (λ n. get_or b.uses n d) eq ∙ at_index d
        | inr ne ↦ elim (cases_lt k index) [
          | inl lt ↦ absurd (s.apart k index d lt within same)
          | inr ge ↦ absurd (s.apart index k d (omega arith) h (sym same))
        ]
      ]

  module _ (test : Use K → Bool) (place : ℕ) (added : List ℕ) (fresh : List (Use K)) (traps : List (ℕ × TrapCode)) (a : Adds test place added fresh traps b b') where
    -- a class of which some use is open afterwards comes no sooner than the use's
    pub open_after : All (λ v. is_open r v ≡ true → class r v ≡ Far) fresh → (l : Level) → SomeOpen r l b'.uses → (c : Class) × (wants c ≡ true) × (level_of c ≡ l) × ((c ≡ Far) ⊎ (rank_of (class r u) ≤ rank_of c))
    open_after fars l o =
        let v : Use K = get_or b'.uses o.index u in
        let v_open : is_open r v ≡ true = (o.here u).0 in (
          class r v,
          open_wants r v v_open,
          (o.here u).1,
          elim (cases_lt o.index (length b.uses)) [
            | inl lt ↦
                let same : v ≡ stopped test place (get_or b.uses o.index u) = old_use r law b b' areas test place added fresh traps s a o.index u lt in
                inr (subst (λ (w : Use K). rank_of (class r u) ≤ rank_of (class r w)) (sym same) (lowest o.index u lt (was_open (get_or b.uses o.index u) (ap (is_open r) (sym same) ∙ v_open))))
            | inr ge ↦
                let new : v ≡ get_or fresh (o.index - length b.uses) u = new_use r law b b' areas test place added fresh traps s a o.index u ge in
                inl (ap (class r) new ∙ fars (o.index - length b.uses) u (omega (arith, o.within, added_count r law b b' areas test place added fresh traps s a)) (ap (is_open r) (sym new) ∙ v_open))
          ],
        )
      where
        was_open : (v : Use K) → is_open r (stopped test place v) ≡ true → is_open r v ≡ true
        was_open v o = go (wants (class r v)) (test v) v.stop o
          where
            go : (c e : Bool) (p : Option ℕ) → (c && is_none (cond e (Some place) p)) ≡ true → (c && is_none p) ≡ true
            go false e p o = o
            go true false p o = o
            go true true p o = absurd (let z : false ≡ true = o in cc)

    module _ (behind : All (λ v. end_of b ≤ v.offset) fresh) (gives : All (λ v. test v ≡ true → (v.stop ≡ None) × IsStop r b' areas v.target v.kind v.offset place) b.uses) (ahead : end_of b ≤ place) (recorded : AreByPlace (λ t. t.0) (end_of b) (end_of b') traps) (passes : test u ≡ true) (some : 0 < length added) (same_class : (k : ℕ) (d : Use K) → k < length b.uses → test (get_or b.uses k d) ≡ true → class r (get_or b.uses k d) ≡ class r u) where
      pub given : end_of b + owed r b < 2 ^ 31 → All (IsPlaced (end_of b')) fresh → AreApart fresh → All (λ v. IsKinded r v.target v.kind) fresh → All (λ v. IsKnown b.constants v.target) fresh → All (IsStoppedOrOpen r b' areas) fresh → All (λ v. is_open r v ≡ true → class r v ≡ Far) fresh → All (λ v. IsVeneerUse r b v) fresh → All (AtGoal b.labels) fresh → (class r u ≡ Far → All (λ v. wants (class r v) ≡ false) fresh) → ((t : ℕ → Bool) → sum_by (weigh_label r t) fresh ≤ weigh_label r t u) → ((l : Level) (c : Class) → wants c ≡ true → level_of c ≡ l → (c ≡ Far) ⊎ (rank_of (class r u) ≤ rank_of c) → 4 * length added + burden r l fresh ≤ cost l (class r u)) → 4 * length added + burden r third fresh ≤ cost third (class r u) → length fresh + weight_of r veneer_uses fresh ≤ veneer_uses (class r u) → length traps + weight_of r trap_words fresh ≤ trap_words (class r u) → HasGiven r areas (class r u) b b'
      given short placed apart kinded known stops fars veneers goals lasts same_label pays pays_third uses traps_fit =
          let end : end_of b' ≡ end_of b + 4 * length added = added_end r law b b' areas test place added fresh traps s a in
          let later : IsLater b b' = added_later r law b b' areas test place added fresh traps s a behind gives ahead recorded in
          let owed_less : end_of b' + owed r b' ≤ end_of b + owed r b = omega (arith, end, loses (cost third), pays_third) in
          record {
            part = record {
              later = later;
              labels = a.labels;
              islands = a.islands;
              records = a.records;
              rooms = added_rooms r law b b' areas test place added fresh traps s a later index u within is open'
                  (λ l o. let c = open_after fars l o in omega (arith, end, loses (cost l), pays l c.0 c.1 c.2 c.3))
                  (λ k d h o. ap level_of (fars k d h o));
              owed = owed_less;
              owed_to = λ t. omega (arith, sum_after r law b b' areas test place added fresh traps s a (weigh_label r t) (label_split r law b b' areas test place added fresh traps s a t) index u within is passes, same_label t);
            };
            sound = added_sound r law b b' areas test place added fresh traps s a behind gives (omega arith) placed apart kinded known stops;
            longer = omega (arith, end, some);
            uses = omega (arith, added_count r law b b' areas test place added fresh traps s a, loses veneer_uses, uses);
            traps = omega (arith, ap length a.traps_are, length-append b.traps traps, loses trap_words, traps_fit);
            spared = λ k d h ne. old_use r law b b' areas test place added fresh traps s a k d h ∙ ap (λ t. record (get_or b.uses k d) { stop = cond t (Some place) (get_or b.uses k d).stop }) (not_true (test (get_or b.uses k d)) (λ t. ne (same_class k d h t)));
            waits = λ k d h w. subst (AtGoal b.labels) (sym (new_use r law b b' areas test place added fresh traps s a k d h)) (goals (k - length b.uses) d (omega (arith, added_count r law b b' areas test place added fresh traps s a)));
            fars = λ k d h w o. ap (class r) (new_use r law b b' areas test place added fresh traps s a k d h) ∙ fars (k - length b.uses) d (omega (arith, added_count r law b b' areas test place added fresh traps s a)) (sym (ap (is_open r) (new_use r law b b' areas test place added fresh traps s a k d h)) ∙ o);
            last = λ e k d h w. ap (λ v. wants (class r v)) (new_use r law b b' areas test place added fresh traps s a k d h) ∙ lasts e (k - length b.uses) d (omega (arith, added_count r law b b' areas test place added fresh traps s a));
            given = λ k d h w. subst (IsVeneerUse r b) (sym (new_use r law b b' areas test place added fresh traps s a k d h)) (veneers (k - length b.uses) d (omega (arith, added_count r law b b' areas test place added fresh traps s a)));
          }
        where
          not_true : (t : Bool) → (t ≡ true → ⊥) → t ≡ false
          not_true true h = absurd (h refl)
          not_true false h = refl

          opened : (w : Class → ℕ) → weigh r w u ≡ w (class r u)
          opened w = ap (λ o. cond o (w (class r u)) 0) open'

          loses : (w : Class → ℕ) → weight_of r w b'.uses + w (class r u) ≤ weight_of r w b.uses + weight_of r w fresh
          loses w = omega (arith, opened w, sum_after r law b b' areas test place added fresh traps s a (weigh r w) (weigh_split r law b b' areas test place added fresh traps s a w) index u within is passes)
