-- What one use gets in an island or the pool.
use Rattle.std.proofs.Common.{ℕ, ◌≡◌, ◌⊎◌, ◌+◌, ◌-◌, ◌*◌, ◌<◌, ◌≤◌, Bool, true, false, cond, List, [], ◌∷◌, ◌++◌, All, Any, map, length, get_or, Option, None, Some, refl, sym, ap, ◌∙◌, subst, arith, inl, inr}
use Rattle.std.specs.Prelude.{IsSome, MatchOption, ◌&&◌, is_none}
use Rattle.std.specs.Option.{unwrap_or}
use Rattle.std.specs.FinMap.{get}
use Rattle.std.proofs.lemmas.Bool.{cases_lt, false≢true, eqb-true, eq-eqb, and_parts}
use Rattle.std.proofs.lemmas.List.{get_or_default, map-append}
use Rattle.std.proofs.lemmas.List.Elements.{All-cons}
use Rattle.a64_base.specs.declared.entity.TrapCode.{TrapCode}
use Rattle.a64_base.specs.declared.entity.VCodeConstant.{VCodeConstant}
use Rattle.a64_buffer.specs.declared.site.Use.{Use}
use Rattle.a64_buffer.specs.declared.site.Target.{Target}
use Rattle.a64_buffer.specs.declared.site.Target.TheVariants.{Label, Constant, Trap, IslandEnd}
use Rattle.a64_buffer.specs.declared.class.Class.TheVariants.{Near, Middle, Load, Far}
use Rattle.a64_buffer.specs.Kinds.{Kinds, IsLawful}
use Rattle.a64_buffer.specs.Buffer.{Buffer, end_of, label_of, made_use}
use Rattle.a64_buffer.specs.Classes.{class, class_of, rank_of, is_open}
use Rattle.a64_buffer.specs.Sound.{IsSound, IsStoppedOrOpen, IsStop, IsRightlyOpen}
use Rattle.a64_buffer.specs.Chain.{constant_of}
use Rattle.a64_buffer.specs.Pieces.{padding, trap_at, copy_words, AtGoal, site_of, key_of, words_for, stop_for, sites_for, piece_words, piece_traps, piece_sites, StopsAtPiece, IsServed, IsFirst, StopsWith}
use Rattle.a64_buffer.specs.Steps.{stopped, stands_at, is_load_of, waits_for, Adds, GivesJump, GivesFar, GivesTrap, GivesCopy, Within, ServesNext}
use Rattle.a64_buffer.proofs.Rooms.{open_wants, open_stop}
use Rattle.a64_buffer.proofs.Adding.{added_count, old_use, new_use}
use Rattle.a64_buffer.proofs.Giving.{made_goal, only_here}
use Rattle.a64_buffer.proofs.Pays.{label_is}
use Rattle.a64_buffer.proofs.Serving.{flat_one, label_no_constant, load_class, sites_stopped}

-- a label is no constant, and no trap
label_constant : (target : Target) (label : ℕ) → label_of target ≡ Some label → IsSome (constant_of target) → ⊥
label_constant target label e c = label_no_constant target (subst IsSome (sym e) refl) c

label_trap : (target : Target) (label place : ℕ) → label_of target ≡ Some label → trap_at target place ≡ []
label_trap (Label l) label place e = refl
label_trap (Constant c) label place e = refl
label_trap (Trap code) label place e = absurd (let z : None ≡ Some label = e in cc)
label_trap IslandEnd label place e = refl

-- a load of the constant is of that target
load_of : (constant : VCodeConstant) (target : Target) → is_load_of constant.0 target ≡ true → target ≡ Constant constant
load_of constant (Label l) e = absurd (let z : false ≡ true = e in cc)
load_of constant (Constant c) e = let same : c.0 ≡ constant.0 = eqb-true c.0 constant.0 e in ap (λ n. Constant (record { 0 = n })) same
load_of constant (Trap code) e = absurd (let z : false ≡ true = e in cc)
load_of constant IslandEnd e = absurd (let z : false ≡ true = e in cc)

module _ {K : Type 0} (r : Kinds K) (law : IsLawful r) (b b' : Buffer K) (areas : List (ℕ × ℕ)) (s : IsSound r b areas) (index : ℕ) (u : Use K) (within : index < length b.uses) (is : u ≡ get_or b.uses index u) (open' : is_open r u ≡ true) (least : All (λ v. is_open r v ≡ true → key_of r u ≤ key_of r v) b.uses) where
  at_index : (d : Use K) → get_or b.uses index d ≡ u
  at_index d = sym (is ∙ get_or_default b.uses index u d within)

  -- the label of the use is unbound, or out of its range
  far_off : IsRightlyOpen r b areas u.target u.kind u.offset
  far_off =
      let h : IsStoppedOrOpen r b areas u = subst (IsStoppedOrOpen r b areas) (sym is) (s.stops index u within) in
      subst (λ o. MatchOption o (IsRightlyOpen r b areas u.target u.kind u.offset) (IsStop r b areas u.target u.kind u.offset)) (open_stop r u open') h

  module _ (test : Use K → Bool) (place : ℕ) (added : List ℕ) (fresh : List (Use K)) (traps : List (ℕ × TrapCode)) (a : Adds test place added fresh traps b b') (passes : test u ≡ true) (words_are : words_for r b.constants (class r u) u.target (end_of b) ≡ added) (traps_are : trap_at u.target (end_of b) ≡ traps) (place_is : stop_for r b.constants (class r u) u.target (end_of b) ≡ place) (only : (k : ℕ) (d : Use K) → k < length b.uses → test (get_or b.uses k d) ≡ true → (get_or b.uses k d ≡ u) ⊎ (IsSome (constant_of u.target) × ((get_or b.uses k d).target ≡ u.target))) (alone : (v : Use K) → IsSome (constant_of u.target) → v.target ≡ u.target → IsSome (stopped test place v).stop) (labelled : All (λ v. IsSome (label_of v.target)) fresh) (sites_are : sites_for r (class r u) u.target (end_of b) ≡ map site_of fresh) (goals : All (AtGoal b.labels) fresh) where
    abbrev served : Use K
    served = record u { stop = Some place }

    served_is : stopped test place u ≡ served
    served_is = ap (λ t. record u { stop = cond t (Some place) u.stop }) passes

    here : (d : Use K) → get_or b'.uses index d ≡ served
    here d = old_use r law b b' areas test place added fresh traps s a index d within ∙ (ap (stopped test place) (at_index d) ∙ served_is)

    copied : IsSome (constant_of u.target) → All (λ v. v.target ≡ u.target → IsSome v.stop) b'.uses
    copied is_constant k d h same = elim (cases_lt k (length b.uses)) [
      | inl lt ↦
          let old : get_or b'.uses k d ≡ stopped test place (get_or b.uses k d) = old_use r law b b' areas test place added fresh traps s a k d lt in
          subst (λ (w : Use K). IsSome w.stop) (sym old) (alone (get_or b.uses k d) is_constant (ap (λ (w : Use K). w.target) (sym old) ∙ same))
      | inr ge ↦
          let new : get_or b'.uses k d ≡ get_or fresh (k - length b.uses) d = new_use r law b b' areas test place added fresh traps s a k d ge in
          absurd (label_no_constant u.target (subst (λ t. IsSome (label_of t)) (ap (λ (w : Use K). w.target) (sym new) ∙ same) (labelled (k - length b.uses) d (omega (arith, h, added_count r law b b' areas test place added fresh traps s a)))) is_constant)
    ]

    answered : (k : ℕ) (d : Use K) → k < length b.uses → is_open r (get_or b.uses k d) ≡ true → IsSome (get_or b'.uses k d).stop → Any (StopsWith (get_or b'.uses k d)) (served ∷ [])
    answered k d h o has =
        let v : Use K = get_or b.uses k d in
        let old : get_or b'.uses k d ≡ stopped test place v = old_use r law b b' areas test place added fresh traps s a k d h in
        let stops : IsSome (stopped test place v).stop = subst (λ (w : Use K). IsSome w.stop) old has in
        let t : test v ≡ true = tested (test v) v.stop (open_stop r v o) stops in
        subst (λ (w : Use K). Any (StopsWith w) (served ∷ [])) (sym old) (
          0,
          served,
          omega arith,
          refl,
          elim (only k d h t) [
            | inl e ↦ inl (ap (stopped test place) e ∙ served_is)
            | inr c ↦ inr (c.0, c.1, ap (λ t. cond t (Some place) v.stop) t)
          ],
        )
      where
        tested : (t : Bool) (o : Option ℕ) → o ≡ None → IsSome (cond t (Some place) o) → t ≡ true
        tested true o e h = refl
        tested false o e h = absurd (false≢true (subst IsSome e h))

    -- all loads of constants are of one class, so the first of all open uses is the first of its constant
    is_first : IsFirst r b.uses served
    is_first is_constant k d h o same =
        let v : Use K = get_or b.uses k d in
        let mine : class r u ≡ Load = load_class r u.target u.kind is_constant in
        let other : class r v ≡ Load = load_class r v.target v.kind (subst (λ t. IsSome (constant_of t)) (sym same) is_constant) in
        let less : key_of r u ≤ key_of r v = least k d h o in
        omega (arith, less, ap rank_of mine, ap rank_of other)

    pub serve_next : ServesNext r (class r u) b b'
    serve_next = record {
      served = served;
      class_is = refl;
      index = index;
      within = within;
      here = here;
      waited = λ d. ap (is_open r) (at_index d) ∙ open';
      least = least;
      serves = record {
        words = a.words ∙ ap (λ ws. b.words ++ ws) (sym (flat_one (piece_words r b.constants) (end_of b, served) ∙ words_are));
        traps_are = a.traps_are ∙ ap (λ ts. b.traps ++ ts) (sym (flat_one (piece_traps r b.constants) (end_of b, served) ∙ traps_are));
        uses_are =
            ap (map site_of) a.uses ∙ (map-append site_of (map (stopped test place) b.uses) fresh
            ∙ (ap (λ ss. ss ++ map site_of fresh) (sites_stopped test place b.uses) ∙ ap (λ ss. map site_of b.uses ++ ss) (sym (flat_one (piece_sites r b.constants) (end_of b, served) ∙ sites_are))));
        first' = All-cons (IsFirst r b.uses) served [] is_first (λ k d h. absurd (omega arith));
        stops = All-cons (StopsAtPiece r b.constants) (end_of b, served) [] (ap (λ n. Some n) (sym place_is)) (λ k d h. absurd (omega arith));
        in_order = λ j k d lt h. absurd (omega arith);
        waited = All-cons (IsServed r b.labels b b') served [] (record {
          index = index;
          within = omega (arith, within, added_count r law b b' areas test place added fresh traps s a);
          is = here;
          waited = λ d lt. ap (is_open r) (at_index d) ∙ open';
          wants_one = open_wants r u open';
          far_off = far_off;
          stops = refl;
        }) (λ k d h. absurd (omega arith));
        copied = All-cons (λ (w : Use K). IsSome (constant_of w.target) → All (λ v. v.target ≡ w.target → IsSome v.stop) b'.uses) served [] copied (λ k d h. absurd (omega arith));
        answered = answered;
        new_answered = λ k d low h. inl (subst (AtGoal b.labels) (sym (new_use r law b b' areas test place added fresh traps s a k d low)) (goals (k - length b.uses) d (omega (arith, h, added_count r law b b' areas test place added fresh traps s a))));
      };
    }

  -- ---- by class

  module _ (room : Within r (end_of b) b.uses 0) (lowest : All (λ v. is_open r v ≡ true → rank_of (class r u) ≤ rank_of (class r v)) b.uses) where
    alike : (k : ℕ) (d : Use K) → k < length b.uses → stands_at u.offset (get_or b.uses k d) ≡ true → (get_or b.uses k d ≡ u) ⊎ (IsSome (constant_of u.target) × ((get_or b.uses k d).target ≡ u.target))
    alike k d h e = inl (only_here r law b b' areas s index u within is open' room lowest k d h e)

    itself : stands_at u.offset u ≡ true
    itself = eq-eqb u.offset u.offset refl

    pub jump_next : (class r u ≡ Near) ⊎ (class r u ≡ Middle) → GivesJump r u b b' → ServesNext r (class r u) b b'
    jump_next c a =
        let label = label_is r u.target u.kind (elim c [ inl e ↦ inl e | inr e ↦ inr (inl e) ]) in
        serve_next (stands_at u.offset) (end_of b) (r.jump_word ∷ []) (made_use r b.labels (end_of b) u.target r.jump ∷ []) [] a itself
        (elim c [ inl e ↦ ap (λ k. words_for r b.constants k u.target (end_of b)) e | inr e ↦ ap (λ k. words_for r b.constants k u.target (end_of b)) e ])
        (label_trap u.target label.0 (end_of b) label.1)
        (elim c [ inl e ↦ ap (λ k. stop_for r b.constants k u.target (end_of b)) e | inr e ↦ ap (λ k. stop_for r b.constants k u.target (end_of b)) e ])
        alike
        (λ v is_constant e. absurd (label_constant u.target label.0 label.1 is_constant))
        (All-cons (λ (v : Use K). IsSome (label_of v.target)) (made_use r b.labels (end_of b) u.target r.jump) [] (subst IsSome (sym label.1) refl) (λ k d h. absurd (omega arith)))
        (elim c [ inl e ↦ ap (λ k. sites_for r k u.target (end_of b)) e | inr e ↦ ap (λ k. sites_for r k u.target (end_of b)) e ])
        (All-cons (AtGoal b.labels) (made_use r b.labels (end_of b) u.target r.jump) [] (made_goal r b.labels (end_of b) u.target r.jump) (λ k d h. absurd (omega arith)))

    pub far_next : class r u ≡ Far → GivesFar r u b b' → ServesNext r (class r u) b b'
    far_next c a =
        let label = label_is r u.target u.kind (inr (inr c)) in
        serve_next (stands_at u.offset) (end_of b) (r.far_words ++ 0 ∷ []) (made_use r b.labels (end_of b + 4 * length r.far_words) u.target r.far_use ∷ []) [] a itself
        (ap (λ k. words_for r b.constants k u.target (end_of b)) c)
        (label_trap u.target label.0 (end_of b) label.1)
        (ap (λ k. stop_for r b.constants k u.target (end_of b)) c)
        alike
        (λ v is_constant e. absurd (label_constant u.target label.0 label.1 is_constant))
        (All-cons (λ (v : Use K). IsSome (label_of v.target)) (made_use r b.labels (end_of b + 4 * length r.far_words) u.target r.far_use) [] (subst IsSome (sym label.1) refl) (λ k d h. absurd (omega arith)))
        (ap (λ k. sites_for r k u.target (end_of b)) c)
        (All-cons (AtGoal b.labels) (made_use r b.labels (end_of b + 4 * length r.far_words) u.target r.far_use) [] (made_goal r b.labels (end_of b + 4 * length r.far_words) u.target r.far_use) (λ k d h. absurd (omega arith)))

    pub trap_next : (code : TrapCode) → u.target ≡ Trap code → GivesTrap r u code b b' → ServesNext r (class r u) b b'
    trap_next code e a =
        serve_next (stands_at u.offset) (end_of b) (r.trap_word ∷ []) [] ((end_of b, code) ∷ []) a itself
        (ap (λ t. words_for r b.constants (class_of r t u.kind) t (end_of b)) e)
        (ap (λ t. trap_at t (end_of b)) e)
        (ap (λ t. stop_for r b.constants (class_of r t u.kind) t (end_of b)) e)
        alike
        (λ v is_constant same. absurd (false≢true (subst (λ t. IsSome (constant_of t)) e is_constant)))
        (λ k d h. absurd (omega arith))
        (ap (λ t. sites_for r (class_of r t u.kind) t (end_of b)) e)
        (λ k d h. absurd (omega arith))

  pub copy_next : (constant : VCodeConstant) (content : List ℕ) → u.target ≡ Constant constant → get b.constants constant.0 ≡ Some content → GivesCopy r constant.0 content b b' → ServesNext r (class r u) b b'
  copy_next constant content e known a =
      serve_next (waits_for constant.0) (end_of b + 4 * padding (end_of b) (length content)) (copy_words content (end_of b)) [] [] a
      (waits u.target u.stop e (open_stop r u open'))
      (ap (λ t. words_for r b.constants (class_of r t u.kind) t (end_of b)) e ∙ ap (λ o. copy_words (unwrap_or o []) (end_of b)) known)
      (ap (λ t. trap_at t (end_of b)) e)
      (ap (λ t. stop_for r b.constants (class_of r t u.kind) t (end_of b)) e ∙ ap (λ o. end_of b + 4 * padding (end_of b) (length (unwrap_or o []))) known)
      (λ k d h t. inr (subst (λ t. IsSome (constant_of t)) (sym e) refl, load_of constant (get_or b.uses k d).target (and_parts (is_load_of constant.0 (get_or b.uses k d).target) (is_none (get_or b.uses k d).stop) t).0 ∙ sym e))
      (λ v is_constant same. stops (end_of b + 4 * padding (end_of b) (length content)) v.target v.stop (same ∙ e))
      (λ k d h. absurd (omega arith))
      (ap (λ t. sites_for r (class_of r t u.kind) t (end_of b)) e)
      (λ k d h. absurd (omega arith))
    where
      waits : (t : Target) (o : Option ℕ) → t ≡ Constant constant → o ≡ None → (is_load_of constant.0 t && is_none o) ≡ true
      waits t o e n = ap (λ t. is_load_of constant.0 t && is_none o) e ∙ (ap (λ c. c && is_none o) (eq-eqb constant.0 constant.0 refl) ∙ ap (λ o. true && is_none o) n)

      stops : (place : ℕ) (t : Target) (o : Option ℕ) → t ≡ Constant constant → IsSome (cond (is_load_of constant.0 t && is_none o) (Some place) o)
      stops place t None e = subst (λ c. IsSome (cond c (Some place) None)) (sym (waits t None e refl)) refl
      stops place t (Some q) e = either (is_load_of constant.0 t && false)
        where
          either : (c : Bool) → IsSome (cond c (Some place) (Some q))
          either true = refl
          either false = refl
