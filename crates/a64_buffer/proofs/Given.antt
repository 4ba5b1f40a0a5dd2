-- What jump words, far veneers, trap words and copies of constants leave.
use Rattle.std.proofs.Common.{ℕ, ◌≡◌, ◌≢◌, ◌⊎◌, ◌+◌, ◌-◌, ◌*◌, ◌/◌, ◌%◌, ◌^◌, ◌<◌, ◌≤◌, Bool, true, false, cond, List, [], ◌∷◌, ◌++◌, All, length, get_or, replicate, Option, None, Some, refl, sym, ap, ◌∙◌, subst, arith, inl, inr, nat_cmp}
use Rattle.std.specs.Prelude.{◌&&◌, is_none, IsSome, IsSomeAnd}
use Rattle.std.specs.FinMap.{FinMap, get}
use Rattle.std.proofs.lemmas.Bool.{eqb-true, eq-eqb, and_parts}
use Rattle.std.proofs.lemmas.List.{length-append, length-replicate, get_or_append_left, get_or-append_right, get_or_push}
use Rattle.std.proofs.lemmas.List.Elements.{All-cons}
use Rattle.std.proofs.lemmas.List.Sums.{get_or-le-sum_by}
use Rattle.a64_base.specs.declared.entity.TrapCode.{TrapCode}
use Rattle.a64_base.specs.declared.entity.VCodeConstant.{VCodeConstant}
use Rattle.a64_buffer.specs.declared.site.Use.{Use}
use Rattle.a64_buffer.specs.declared.site.Target.{Target}
use Rattle.a64_buffer.specs.declared.site.Target.TheVariants.{Label, Constant, Trap, IslandEnd}
use Rattle.a64_words.specs.Word.{words_of}
use Rattle.a64_buffer.specs.Kinds.{Kinds, IsLawful}
use Rattle.a64_buffer.specs.Buffer.{Buffer, end_of, label_of, made_use}
use Rattle.a64_buffer.specs.Constants.{IsConstant}
use Rattle.a64_buffer.specs.Areas.{InArea}
use Rattle.a64_buffer.specs.declared.class.Class.TheVariants.{Near, Middle, Load, Trapping, Far, Direct}
use Rattle.a64_buffer.specs.Classes.{Level, second, third, urgency_number, level_of, wants, rank_of, cost, veneer_uses, trap_words, class, class_of, range_of, is_open, weigh, burden, owed}
use Rattle.a64_buffer.specs.Sound.{IsPlaced, IsKinded, IsKnown, IsJump, IsFar, IsTrapWord, IsCopy, LeadsOn, IsStop, IsSound, IsStoppedOrOpen}
use Rattle.a64_buffer.specs.Islands.{IsVeneerUse}
use Rattle.a64_buffer.specs.Pieces.{padding, AtGoal}
use Rattle.a64_buffer.specs.Steps.{stands_at, is_load_of, waits_for, GivesJump, GivesFar, GivesTrap, GivesCopy, Within, HasGiven}
use Rattle.a64_buffer.proofs.Rooms.{open_wants, open_stop, wanting_urgency, wanting_range}
use Rattle.a64_buffer.proofs.Adding.{added_end, added_count, new_use, all_uses}
use Rattle.a64_buffer.proofs.Giving.{made_stop_of, made_goal, at_index, use_placed, use_kinded, end_reached, only_here, given}
use Rattle.a64_words.proofs.WordLists.{words_short, words_whole}
use Rattle.a64_buffer.proofs.ByPlace.{none_placed, one_placed}
use Rattle.a64_buffer.proofs.Pays.{jump_pays, jump_pays_third, copy_pays, word_pays, far_pays, veneers_of, jump_class, far_class, label_is, weight_one, weight_none, label_one}

one_apart : {K : Type 0} (v : Use K) (j k : ℕ) (d : Use K) → j < k → k < length (v ∷ []) → (get_or (v ∷ []) j d).offset ≢ (get_or (v ∷ []) k d).offset
one_apart v j k d lt h = absurd (omega arith)

-- ---- kinds that have veneers

pub wants_veneer : {K : Type 0} (r : Kinds K) (target : Target) (kind : K) (label : ℕ) → label_of target ≡ Some label → wants (class_of r target kind) ≡ true → r.veneers kind ≡ true
wants_veneer r (Label l) kind label e w = veneers_of (r.veneers kind) (r.urgency kind) w
wants_veneer r (Constant c) kind label e w = absurd (let z : None ≡ Some label = e in cc)
wants_veneer r (Trap c) kind label e w = absurd (let z : None ≡ Some label = e in cc)
wants_veneer r IslandEnd kind label e w = absurd (let z : None ≡ Some label = e in cc)

-- a use of a label that stops at a veneer leads on
veneer_leads : {K : Type 0} (r : Kinds K) (b : Buffer K) (areas : List (ℕ × ℕ)) (target : Target) (kind : K) (label stop : ℕ) → label_of target ≡ Some label → r.veneers kind ≡ true → ((r.urgency kind ≢ 3) × IsJump r b areas target stop) ⊎ IsFar r b areas target stop → LeadsOn r b areas kind target stop
veneer_leads r b areas (Label l) kind label stop e v h = inr (v, h)
veneer_leads r b areas (Constant c) kind label stop e v h = absurd (let z : None ≡ Some label = e in cc)
veneer_leads r b areas (Trap c) kind label stop e v h = absurd (let z : None ≡ Some label = e in cc)
veneer_leads r b areas IslandEnd kind label stop e v h = absurd (let z : None ≡ Some label = e in cc)

label_is_known : (constants : FinMap nat_cmp (List ℕ)) (target : Target) (label : ℕ) → label_of target ≡ Some label → IsKnown constants target
label_is_known constants (Label l) label e = tt
label_is_known constants (Constant c) label e = absurd (let z : None ≡ Some label = e in cc)
label_is_known constants (Trap c) label e = tt
label_is_known constants IslandEnd label e = tt

label_is_kinded : {K : Type 0} (r : Kinds K) (target : Target) (kind : K) (label : ℕ) → label_of target ≡ Some label → IsKinded r target kind
label_is_kinded r (Label l) kind label e = tt
label_is_kinded r (Constant c) kind label e = absurd (let z : None ≡ Some label = e in cc)
label_is_kinded r (Trap c) kind label e = absurd (let z : None ≡ Some label = e in cc)
label_is_kinded r IslandEnd kind label e = absurd (let z : None ≡ Some label = e in cc)

module _ {K : Type 0} (r : Kinds K) (law : IsLawful r) (b b' : Buffer K) (areas : List (ℕ × ℕ)) (s : IsSound r b areas) (index : ℕ) (u : Use K) (within : index < length b.uses) (is : u ≡ get_or b.uses index u) (open' : is_open r u ≡ true) (room : Within r (end_of b) b.uses 0) (lowest : All (λ v. is_open r v ≡ true → rank_of (class r u) ≤ rank_of (class r v)) b.uses) (short : end_of b + owed r b < 2 ^ 31) (holds : (p size : ℕ) → end_of b ≤ p → p + size ≤ end_of b + 28 → InArea areas p size) where
  placed : IsPlaced (end_of b) u
  placed = use_placed r law b b' areas s index u within is open' room lowest

  reach : end_of b + burden r (level_of (class r u)) b.uses ≤ u.offset + r.forward u.kind
  reach = end_reached r law b b' areas s index u within is open' room lowest

  -- the place of a use that gets a word of its own there
  stops_there : (stop : ℕ) → end_of b ≡ stop → LeadsOn r b' areas u.kind u.target stop → (k : ℕ) (d : Use K) → k < length b.uses → stands_at u.offset (get_or b.uses k d) ≡ true → ((get_or b.uses k d).stop ≡ None) × IsStop r b' areas (get_or b.uses k d).target (get_or b.uses k d).kind (get_or b.uses k d).offset stop
  stops_there stop e leads k d h here =
      subst (λ (v : Use K). (v.stop ≡ None) × IsStop r b' areas v.target v.kind v.offset stop) (sym (only_here r law b b' areas s index u within is open' room lowest k d h here)) (
        open_stop r u open',
        record { aligned = omega arith; within = record { ahead = omega (arith, reach); behind = omega (arith, placed.inside) }; ahead = inl (omega (arith, placed.inside)); leads = leads },
      )

  itself : stands_at u.offset u ≡ true
  itself = eq-eqb u.offset u.offset refl

  itself_class : (k : ℕ) (d : Use K) → k < length b.uses → stands_at u.offset (get_or b.uses k d) ≡ true → class r (get_or b.uses k d) ≡ class r u
  itself_class k d h e = ap (class r) (only_here r law b b' areas s index u within is open' room lowest k d h e)

  -- ---- a jump word
  module _ (class_is : (class r u ≡ Near) ⊎ (class r u ≡ Middle)) (a : GivesJump r u b b') where
    abbrev jump : Use K
    jump = made_use r b.labels (end_of b) u.target r.jump

    label : (l : ℕ) × (label_of u.target ≡ Some l)
    label = label_is r u.target u.kind (elim class_is [ inl e ↦ inl e | inr e ↦ inr (inl e) ])

    jump_far : class r jump ≡ Far
    jump_far = jump_class r law u.target label.0 label.1

    jump_end : end_of b' ≡ end_of b + 4 * 1
    jump_end = added_end r law b b' areas (stands_at u.offset) (end_of b) (r.jump_word ∷ []) (jump ∷ []) [] s a

    jump_is : (d : Use K) → get_or b'.uses (length b.uses) d ≡ jump
    jump_is d =
        let z : length b.uses - length b.uses ≡ 0 = omega arith in
        new_use r law b b' areas (stands_at u.offset) (end_of b) (r.jump_word ∷ []) (jump ∷ []) [] s a (length b.uses) d (omega arith) ∙ ap (λ n. get_or (jump ∷ []) n d) z

    is_jump : IsJump r b' areas u.target (end_of b)
    is_jump = record {
      word = let at : length b.words ≡ end_of b / 4 = omega arith in ap (λ ws. get_or ws (end_of b / 4) 0) a.words ∙ get_or_push b.words r.jump_word 0 (end_of b / 4) at;
      use' = record {
        index = length b.uses;
        within = omega (arith, added_count r law b b' areas (stands_at u.offset) (end_of b) (r.jump_word ∷ []) (jump ∷ []) [] s a);
        offset_is = λ d. ap (λ v. v.offset) (jump_is d);
        target_is = λ d. ap (λ v. v.target) (jump_is d);
        kind_is = λ d. ap (λ v. v.kind) (jump_is d);
      };
      area = holds (end_of b) 4 (omega arith) (omega (arith, jump_end));
    }

    not_third : r.urgency u.kind ≢ 3
    not_third e =
        let n : urgency_number (level_of (class r u)) ≡ r.urgency u.kind = wanting_urgency r law u.target u.kind (use_kinded r law b b' areas s index u within is open' room lowest) (open_wants r u open') in
        elim class_is [
          | inl c ↦ (let q : urgency_number (level_of (class r u)) ≡ 1 = ap (λ c. urgency_number (level_of c)) c in omega (arith, n, q, e))
          | inr c ↦ (let q : urgency_number (level_of (class r u)) ≡ 2 = ap (λ c. urgency_number (level_of c)) c in omega (arith, n, q, e))
        ]

    jump_weight : (l : Level) → burden r l (jump ∷ []) ≤ cost l Far
    jump_weight l = omega (arith, weight_one r (cost l) jump, ap (cost l) jump_far)

    pub jump_given : HasGiven r areas (class r u) b b'
    jump_given =
        given r law b b' areas s index u within is open' room lowest (stands_at u.offset) (end_of b) (r.jump_word ∷ []) (jump ∷ []) [] a
        (All-cons (λ (v : Use K). end_of b ≤ v.offset) jump [] (omega arith) (λ k d h. absurd (omega arith)))
        (stops_there (end_of b) refl (veneer_leads r b' areas u.target u.kind label.0 (end_of b) label.1 (wants_veneer r u.target u.kind label.0 label.1 (open_wants r u open')) (inl (not_third, is_jump))))
        (omega arith) (none_placed (end_of b) (end_of b')) itself (omega arith) itself_class short
        (All-cons (IsPlaced (end_of b')) jump [] (record { aligned = omega arith; inside = omega (arith, jump_end) }) (λ k d h. absurd (omega arith)))
        (one_apart jump)
        (All-cons (λ (v : Use K). IsKinded r v.target v.kind) jump [] (label_is_kinded r u.target r.jump label.0 label.1) (λ k d h. absurd (omega arith)))
        (All-cons (λ (v : Use K). IsKnown b.constants v.target) jump [] (label_is_known b.constants u.target label.0 label.1) (λ k d h. absurd (omega arith)))
        (All-cons (IsStoppedOrOpen r b' areas) jump [] (made_stop_of r b b' areas a.labels s.bound (end_of b) u.target r.jump) (λ k d h. absurd (omega arith)))
        (All-cons (λ (v : Use K). is_open r v ≡ true → class r v ≡ Far) jump [] (λ o. jump_far) (λ k d h. absurd (omega arith)))
        (All-cons (IsVeneerUse r b) jump [] (record { parent = index; within = within; target = λ d. ap (λ v. v.target) (at_index r law b b' areas s index u within is open' room lowest d); labelled = subst (λ o. IsSome o) (sym label.1) refl; kind = inl refl }) (λ k d h. absurd (omega arith)))
        (All-cons (AtGoal b.labels) jump [] (made_goal r b.labels (end_of b) u.target r.jump) (λ k d h. absurd (omega arith)))
        (λ e. absurd (elim class_is [ inl n ↦ (let z : Near ≡ Far = sym n ∙ e in cc) | inr m ↦ (let z : Middle ≡ Far = sym m ∙ e in cc) ]))
        (λ t. label_one r t u jump refl (omega (arith, weigh_jump, ap (λ o. cond o (cost third (class r u)) 0) open', jump_pays_third (class r u) class_is)))
        (λ l c w e o. omega (arith, jump_weight l, jump_pays (class r u) c l class_is w e o))
        (omega (arith, jump_weight third, jump_pays_third (class r u) class_is))
        (omega (arith, weight_one r veneer_uses jump, ap veneer_uses jump_far, two))
        (omega (arith, weight_one r trap_words jump, ap trap_words jump_far))
      where
        weigh_jump : weigh r (cost third) (made_use r b.labels (end_of b) u.target r.jump) ≤ 20
        weigh_jump = omega (arith, most (is_open r jump), ap (cost third) jump_far)
          where
            most : (o : Bool) → cond o (cost third (class r jump)) 0 ≤ cost third (class r jump)
            most true = omega arith
            most false = omega arith

        two : 2 ≤ veneer_uses (class r u)
        two = elim class_is [ inl e ↦ subst (λ c. 2 ≤ veneer_uses c) (sym e) (omega arith) | inr e ↦ subst (λ c. 2 ≤ veneer_uses c) (sym e) (omega arith) ]

  -- ---- a far veneer
  module _ (class_is : class r u ≡ Far) (a : GivesFar r u b b') where
    abbrev last' : Use K
    last' = made_use r b.labels (end_of b + 4 * length r.far_words) u.target r.far_use

    far_label : (l : ℕ) × (label_of u.target ≡ Some l)
    far_label = label_is r u.target u.kind (inr (inr class_is))

    last_direct : class r last' ≡ Direct
    last_direct = far_class r law u.target far_label.0 far_label.1

    far_end : end_of b' ≡ end_of b + (4 * length r.far_words + 4)
    far_end = omega (arith, added_end r law b b' areas (stands_at u.offset) (end_of b) (r.far_words ++ 0 ∷ []) (last' ∷ []) [] s a, length-append r.far_words (0 ∷ []))

    last_is : (d : Use K) → get_or b'.uses (length b.uses) d ≡ last'
    last_is d =
        let z : length b.uses - length b.uses ≡ 0 = omega arith in
        new_use r law b b' areas (stands_at u.offset) (end_of b) (r.far_words ++ 0 ∷ []) (last' ∷ []) [] s a (length b.uses) d (omega arith) ∙ ap (λ n. get_or (last' ∷ []) n d) z

    far_word : (i : ℕ) → get_or b'.words (end_of b / 4 + i) 0 ≡ get_or (r.far_words ++ 0 ∷ []) i 0
    far_word i =
        let at : end_of b / 4 + i - length b.words ≡ i = omega arith in
        ap (λ ws. get_or ws (end_of b / 4 + i) 0) a.words
        ∙ (get_or-append_right b.words (r.far_words ++ 0 ∷ []) (length b.words) (end_of b / 4 + i) 0 refl (omega arith) ∙ ap (λ n. get_or (r.far_words ++ 0 ∷ []) n 0) at)

    is_far : IsFar r b' areas u.target (end_of b)
    is_far = record {
      stands = record {
        at = λ i h. far_word i ∙ get_or_append_left r.far_words (0 ∷ []) 0 i h;
        free = λ i h. all_uses r law b b' areas (stands_at u.offset) (end_of b) (r.far_words ++ 0 ∷ []) (last' ∷ []) [] s a (λ v. v.offset ≢ end_of b + 4 * i)
            (λ k d w e. let p : IsPlaced (end_of b) (get_or b.uses k d) = s.placed k d w in omega (arith, p.inside, e))
            (All-cons (λ (v : Use K). v.offset ≢ end_of b + 4 * i) last' [] (λ e. omega (arith, e)) (λ k d h. absurd (omega arith)));
        area = holds (end_of b) (4 * length r.far_words + 4) (omega arith) (omega (arith, law.far_length));
        long = omega arith;
        inside = omega (arith, far_end);
      };
      last = far_word (length r.far_words) ∙ get_or_push r.far_words 0 0 (length r.far_words) refl;
      use' = record {
        index = length b.uses;
        within = omega (arith, added_count r law b b' areas (stands_at u.offset) (end_of b) (r.far_words ++ 0 ∷ []) (last' ∷ []) [] s a);
        offset_is = λ d. ap (λ v. v.offset) (last_is d);
        target_is = λ d. ap (λ v. v.target) (last_is d);
        kind_is = λ d. ap (λ v. v.kind) (last_is d);
      };
    }

    pub far_given : HasGiven r areas (class r u) b b'
    far_given =
        given r law b b' areas s index u within is open' room lowest (stands_at u.offset) (end_of b) (r.far_words ++ 0 ∷ []) (last' ∷ []) [] a
        (All-cons (λ (v : Use K). end_of b ≤ v.offset) last' [] (omega arith) (λ k d h. absurd (omega arith)))
        (stops_there (end_of b) refl (veneer_leads r b' areas u.target u.kind far_label.0 (end_of b) far_label.1 (wants_veneer r u.target u.kind far_label.0 far_label.1 (open_wants r u open')) (inr is_far)))
        (omega arith) (none_placed (end_of b) (end_of b')) itself (omega (arith, length-append r.far_words (0 ∷ []))) itself_class short
        (All-cons (IsPlaced (end_of b')) last' [] (record { aligned = omega arith; inside = omega (arith, far_end) }) (λ k d h. absurd (omega arith)))
        (one_apart last')
        (All-cons (λ (v : Use K). IsKinded r v.target v.kind) last' [] (label_is_kinded r u.target r.far_use far_label.0 far_label.1) (λ k d h. absurd (omega arith)))
        (All-cons (λ (v : Use K). IsKnown b.constants v.target) last' [] (label_is_known b.constants u.target far_label.0 far_label.1) (λ k d h. absurd (omega arith)))
        (All-cons (IsStoppedOrOpen r b' areas) last' [] (made_stop_of r b b' areas a.labels s.bound (end_of b + 4 * length r.far_words) u.target r.far_use) (λ k d h. absurd (omega arith)))
        (All-cons (λ (v : Use K). is_open r v ≡ true → class r v ≡ Far) last' [] (λ o. absurd (let z : false ≡ true = sym (ap wants last_direct) ∙ open_wants r last' o in cc)) (λ k d h. absurd (omega arith)))
        (All-cons (IsVeneerUse r b) last' [] (record { parent = index; within = within; target = λ d. ap (λ v. v.target) (at_index r law b b' areas s index u within is open' room lowest d); labelled = subst (λ o. IsSome o) (sym far_label.1) refl; kind = inr refl }) (λ k d h. absurd (omega arith)))
        (All-cons (AtGoal b.labels) last' [] (made_goal r b.labels (end_of b + 4 * length r.far_words) u.target r.far_use) (λ k d h. absurd (omega arith)))
        (λ e. All-cons (λ (v : Use K). wants (class r v) ≡ false) last' [] (ap wants last_direct) (λ k d h. absurd (omega arith)))
        (λ t. label_one r t u last' refl (omega (arith, no_weigh)))
        (λ l c w e o. omega (arith, length-append r.far_words (0 ∷ []), law.far_length, weight_none r (cost l) last' last_direct, far_pays (class r u) c l class_is w e o))
        (omega (arith, length-append r.far_words (0 ∷ []), law.far_length, weight_none r (cost third) last' last_direct, ap (cost third) class_is))
        (omega (arith, weight_none r veneer_uses last' last_direct, ap veneer_uses class_is))
        (omega (arith, weight_none r trap_words last' last_direct))
      where
        no_weigh : weigh r (cost third) (made_use r b.labels (end_of b + 4 * length r.far_words) u.target r.far_use) ≤ 0
        no_weigh = omega (arith, most (is_open r last'), ap (cost third) last_direct)
          where
            most : (o : Bool) → cond o (cost third (class r last')) 0 ≤ cost third (class r last')
            most true = omega arith
            most false = omega arith

  -- ---- a trap word
  module _ (code : TrapCode) (target_is : u.target ≡ Trap code) (a : GivesTrap r u code b b') where
    trap_class : class r u ≡ Trapping
    trap_class = ap (λ t. class_of r t u.kind) target_is

    trap_end : end_of b' ≡ end_of b + 4 * 1
    trap_end = added_end r law b b' areas (stands_at u.offset) (end_of b) (r.trap_word ∷ []) [] ((end_of b, code) ∷ []) s a

    is_trap : IsTrapWord r b' areas code (end_of b)
    is_trap = record {
      stands = record {
        at = λ i h.
            let z : i ≡ 0 = omega arith in
            let at : length b.words ≡ end_of b / 4 + i = omega arith in
            ap (λ ws. get_or ws (end_of b / 4 + i) 0) a.words ∙ (get_or_push b.words r.trap_word 0 (end_of b / 4 + i) at ∙ ap (λ n. get_or (r.trap_word ∷ []) n 0) (sym z));
        free = λ i h. all_uses r law b b' areas (stands_at u.offset) (end_of b) (r.trap_word ∷ []) [] ((end_of b, code) ∷ []) s a (λ v. v.offset ≢ end_of b + 4 * i)
            (λ k d w e. let p : IsPlaced (end_of b) (get_or b.uses k d) = s.placed k d w in omega (arith, p.inside, e))
            (λ k d h. absurd (omega arith));
        area = holds (end_of b) 4 (omega arith) (omega (arith, trap_end));
        long = omega arith;
        inside = omega (arith, trap_end);
      };
      recorded = (
        length b.traps,
        omega (arith, ap length a.traps_are, length-append b.traps ((end_of b, code) ∷ [])),
        ap (λ ts. get_or ts (length b.traps) (end_of b, code)) a.traps_are ∙ get_or_push b.traps (end_of b, code) (end_of b, code) (length b.traps) refl,
      );
    }

    pub trap_given : HasGiven r areas (class r u) b b'
    trap_given =
        given r law b b' areas s index u within is open' room lowest (stands_at u.offset) (end_of b) (r.trap_word ∷ []) [] ((end_of b, code) ∷ []) a
        (λ k d h. absurd (omega arith))
        (stops_there (end_of b) refl (subst (λ t. LeadsOn r b' areas u.kind t (end_of b)) (sym target_is) is_trap))
        (omega arith) (one_placed (end_of b) (end_of b') (end_of b, code) (omega arith) (omega (arith, trap_end))) itself (omega arith) itself_class short
        (λ k d h. absurd (omega arith)) (λ j k d lt h. absurd (omega arith)) (λ k d h. absurd (omega arith)) (λ k d h. absurd (omega arith)) (λ k d h. absurd (omega arith)) (λ k d h. absurd (omega arith)) (λ k d h. absurd (omega arith)) (λ k d h. absurd (omega arith)) (λ e k d h. absurd (omega arith))
        (λ t. omega arith)
        (λ l c w e o. omega (arith, word_pays (class r u) c l trap_class w e o))
        (omega (arith, ap (cost third) trap_class))
        (omega arith)
        (omega (arith, ap trap_words trap_class))

  -- ---- a copy of a constant
  module _ (constant : VCodeConstant) (content : List ℕ) (target_is : u.target ≡ Constant constant) (known : get b.constants constant.0 ≡ Some content) (sized : IsConstant content) (a : GivesCopy r constant.0 content b b') where
    load_class : class r u ≡ Load
    load_class = ap (λ t. class_of r t u.kind) target_is

    abbrev pad : ℕ
    pad = padding (end_of b) (length content)

    aligned : ((end_of b + 4 * pad) % length content ≡ 0) × (4 * pad + length content ≤ 28) × (length content % 4 ≡ 0) × (0 < length content)
    aligned = elim sized [
      | inl e ↦ with 4 e (omega arith, omega arith, omega arith, omega arith)
      | inr t ↦ elim t [ inl e ↦ with 8 e (omega arith, omega arith, omega arith, omega arith) | inr e ↦ with 16 e (omega arith, omega arith, omega arith, omega arith) ]
    ]
      where
        with : (n : ℕ) → length content ≡ n → ((end_of b + 4 * padding (end_of b) n) % n ≡ 0) × (4 * padding (end_of b) n + n ≤ 28) × (n % 4 ≡ 0) × (0 < n) → ((end_of b + 4 * pad) % length content ≡ 0) × (4 * pad + length content ≤ 28) × (length content % 4 ≡ 0) × (0 < length content)
        with n e h = subst (λ m. ((end_of b + 4 * padding (end_of b) m) % m ≡ 0) × (4 * padding (end_of b) m + m ≤ 28) × (m % 4 ≡ 0) × (0 < m)) (sym e) h

    abbrev added : List ℕ
    added = replicate pad 0 ++ words_of content

    added_length : 4 * length added ≡ 4 * pad + length content
    added_length = omega (arith, length-append (replicate pad 0) (words_of content), length-replicate {A = ℕ} pad 0, words_whole content aligned.2)

    copy_end : end_of b' ≡ end_of b + (4 * pad + length content)
    copy_end = omega (arith, added_end r law b b' areas (waits_for constant.0) (end_of b + 4 * pad) added [] [] s a, added_length)

    is_copy : IsCopy r b' areas content (end_of b + 4 * pad)
    is_copy = record {
      aligned = aligned.0;
      stands = record {
        at = λ i h.
            let at : (end_of b + 4 * pad) / 4 + i ≡ length b.words + (pad + i) = omega arith in
            let in_added : length b.words + (pad + i) - length b.words ≡ pad + i = omega arith in
            let in_words : pad + i - pad ≡ i = omega arith in
            ap (λ n. get_or b'.words n 0) at
            ∙ (ap (λ ws. get_or ws (length b.words + (pad + i)) 0) a.words
            ∙ (get_or-append_right b.words added (length b.words) (length b.words + (pad + i)) 0 refl (omega arith)
            ∙ (ap (λ n. get_or added n 0) in_added
            ∙ (get_or-append_right (replicate pad 0) (words_of content) pad (pad + i) 0 (length-replicate {A = ℕ} pad 0) (omega arith) ∙ ap (λ n. get_or (words_of content) n 0) in_words))));
        free = λ i h. all_uses r law b b' areas (waits_for constant.0) (end_of b + 4 * pad) added [] [] s a (λ v. v.offset ≢ end_of b + 4 * pad + 4 * i)
            (λ k d w e. let p : IsPlaced (end_of b) (get_or b.uses k d) = s.placed k d w in omega (arith, p.inside, e))
            (λ k d h. absurd (omega arith));
        area = holds (end_of b + 4 * pad) (length content) (omega arith) (omega (arith, aligned.1));
        long = words_short content;
        inside = omega (arith, copy_end);
      };
    }

    -- the uses that wait for the constant are loads of it, and have room for the copy
    some_burden : 28 ≤ burden r second b.uses
    some_burden =
        let one : weigh r (cost second) (get_or b.uses index u) ≤ burden r second b.uses = get_or-le-sum_by (weigh r (cost second)) b.uses index u within in
        omega (arith, ap (weigh r (cost second)) is, ap (λ o. cond o (cost second (class r u)) 0) open', ap (cost second) load_class)

    copy_stop : (target : Target) (kind : K) (offset : ℕ) → is_load_of constant.0 target ≡ true → IsKinded r target kind → offset < end_of b → (wants (class_of r target kind) ≡ true → end_of b + 0 + burden r (level_of (class_of r target kind)) b.uses ≤ offset + range_of r (level_of (class_of r target kind))) → IsStop r b' areas target kind offset (end_of b + 4 * pad)
    copy_stop (Label l) kind offset e k p h = absurd (let z : false ≡ true = e in cc)
    copy_stop (Constant c) kind offset e k p h =
        let same : c.0 ≡ constant.0 = eqb-true c.0 constant.0 e in
        let there : get b'.constants c.0 ≡ Some content = ap (λ m. get m c.0) a.constants ∙ (ap (get b.constants) same ∙ known) in
        let x : end_of b + 0 + burden r second b.uses ≤ offset + range_of r second = h refl in
        record {
          aligned = omega (arith);
          within = record { ahead = omega (arith, x, some_burden, wanting_range r law (Constant c) kind k refl, aligned.1); behind = omega arith };
          ahead = inl (omega (arith, p));
          leads = subst (λ o. IsSomeAnd o (λ q. IsCopy r b' areas q (end_of b + 4 * pad))) (sym there) is_copy;
        }
    copy_stop (Trap code) kind offset e k p h = absurd (let z : false ≡ true = e in cc)
    copy_stop IslandEnd kind offset e k p h = absurd (let z : false ≡ true = e in cc)

    load_open : (target : Target) (kind : K) (stop : Option ℕ) → is_load_of constant.0 target ≡ true → is_none stop ≡ true → (wants (class_of r target kind) && is_none stop) ≡ true
    load_open (Label l) kind stop e n = absurd (let z : false ≡ true = e in cc)
    load_open (Constant c) kind stop e n = n
    load_open (Trap code) kind stop e n = absurd (let z : false ≡ true = e in cc)
    load_open IslandEnd kind stop e n = absurd (let z : false ≡ true = e in cc)

    copy_stops : (k : ℕ) (d : Use K) → k < length b.uses → waits_for constant.0 (get_or b.uses k d) ≡ true → ((get_or b.uses k d).stop ≡ None) × IsStop r b' areas (get_or b.uses k d).target (get_or b.uses k d).kind (get_or b.uses k d).offset (end_of b + 4 * pad)
    copy_stops k d h e =
        let v : Use K = get_or b.uses k d in
        let t = and_parts (is_load_of constant.0 v.target) (is_none v.stop) e in
        let o : is_open r v ≡ true = load_open v.target v.kind v.stop t.0 t.1 in (
          open_stop r v o,
          copy_stop v.target v.kind v.offset t.0 (s.kinded k d h) (s.placed k d h).inside (λ w. room.rooms k d h o),
        )

    passes : waits_for constant.0 u ≡ true
    passes = go u.target target_is (open_stop r u open')
      where
        go : (t : Target) → t ≡ Constant constant → u.stop ≡ None → (is_load_of constant.0 t && is_none u.stop) ≡ true
        go t e n = ap (λ t. is_load_of constant.0 t && is_none u.stop) e ∙ (ap (λ c. c && is_none u.stop) (eq-eqb constant.0 constant.0 refl) ∙ ap (λ o. true && is_none o) n)

    copy_class : (k : ℕ) (d : Use K) → k < length b.uses → waits_for constant.0 (get_or b.uses k d) ≡ true → class r (get_or b.uses k d) ≡ class r u
    copy_class k d h e =
        let v : Use K = get_or b.uses k d in
        load_target v.target v.kind (and_parts (is_load_of constant.0 v.target) (is_none v.stop) e).0 ∙ sym load_class
      where
        load_target : (target : Target) (kind : K) → is_load_of constant.0 target ≡ true → class_of r target kind ≡ Load
        load_target (Label l) kind e = absurd (let z : false ≡ true = e in cc)
        load_target (Constant c) kind e = refl
        load_target (Trap code) kind e = absurd (let z : false ≡ true = e in cc)
        load_target IslandEnd kind e = absurd (let z : false ≡ true = e in cc)

    pub copy_given : HasGiven r areas (class r u) b b'
    copy_given =
        given r law b b' areas s index u within is open' room lowest (waits_for constant.0) (end_of b + 4 * pad) added [] [] a
        (λ k d h. absurd (omega arith))
        copy_stops
        (omega arith) (none_placed (end_of b) (end_of b')) passes (omega (arith, added_length, aligned.3)) copy_class short
        (λ k d h. absurd (omega arith)) (λ j k d lt h. absurd (omega arith)) (λ k d h. absurd (omega arith)) (λ k d h. absurd (omega arith)) (λ k d h. absurd (omega arith)) (λ k d h. absurd (omega arith)) (λ k d h. absurd (omega arith)) (λ k d h. absurd (omega arith)) (λ e k d h. absurd (omega arith))
        (λ t. omega arith)
        (λ l c w e o. omega (arith, added_length, aligned.1, copy_pays (class r u) c l load_class w e o))
        (omega (arith, added_length, aligned.1, ap (cost third) load_class))
        (omega arith)
        (omega arith)
