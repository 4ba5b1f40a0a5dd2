-- What stands in the areas of finished code, and for whom.
use Rattle.std.proofs.Common.{ℕ, ◌≡◌, ◌⊎◌, ◌+◌, ◌*◌, ◌/◌, ◌<◌, ◌≤◌, Bool, true, false, List, ◌∷◌, [], ◌++◌, All, Any, map, length, get_or, Option, None, Some, refl, sym, ap, ◌∙◌, subst, arith, inl, inr, nat_cmp, zero, suc, ◌≢◌, ◌%◌}
use Rattle.std.specs.Prelude.{Contains, IfSome, IsSome, ◌&&◌, is_none}
use Rattle.std.specs.List.{flat_map}
use Rattle.std.specs.FinMap.{FinMap}
use Rattle.std.proofs.lemmas.Bool.{cases_lt, false≢true}
use Rattle.std.proofs.lemmas.List.{length-append, length-map, get_or_append_left, get_or-append-add, get_or-map, get_or_default}
use Rattle.std.proofs.lemmas.List.Elements.{Contains-append_right, Contains-append_cases, All-cons, Contains-append_left}
use Rattle.a64_words.specs.Word.{word_at, outside}
use Rattle.a64_buffer.specs.declared.site.Use.{Use}
use Rattle.a64_buffer.specs.declared.site.Target.{Target}
use Rattle.a64_buffer.specs.declared.site.Target.TheVariants.{Label, Constant, Trap, IslandEnd}
use Rattle.a64_buffer.specs.declared.force.ForceVeneers.{ForceVeneers}
use Rattle.a64_buffer.specs.declared.class.Class.{Class}
use Rattle.a64_buffer.specs.declared.class.Class.TheVariants.{Near, Middle, Load, Trapping, Far, Direct}
use Rattle.a64_buffer.specs.Kinds.{Kinds}
use Rattle.a64_buffer.specs.Buffer.{Buffer, end_of, goal_of, label_of, IsFree}
use Rattle.a64_buffer.specs.Chain.{constant_of}
use Rattle.a64_buffer.specs.Classes.{class, class_of, is_open, wants}
use Rattle.a64_buffer.specs.Finished.{IsSettled}
use Rattle.a64_buffer.specs.Held.{HoldsArea, StandsAs, HasPiece}
use Rattle.a64_buffer.specs.Islands.{IsNewUse, HasIsland}
use Rattle.a64_buffer.specs.Later.{IsSameUse, IsLater}
use Rattle.a64_buffer.specs.Pieces.{IsAnswered, IsServed, Serves, StopsWith, begun, front_size, front_uses, over_use, piece_sites, piece_words, pieces, site_of, words_for, sites_for}
use Rattle.a64_buffer.specs.Sound.{IsPlaced, IsSound, IsWhole}
use Rattle.a64_buffer.proofs.Emitting.{stops_below}
use Rattle.a64_buffer.proofs.Growth.{goal_stays, stands_there}
use Rattle.a64_buffer.proofs.Islands.{begun_end, begun_jumps, begun_new, begun_old}
use Rattle.a64_buffer.proofs.Laters.{later_none, later_trans}
use Rattle.a64_buffer.proofs.Serving.{label_no_constant, load_class, same_class, stays_same}
use Rattle.a64_buffer.proofs.Fronts.{sites_from}

-- ---- words that were put, in finished code

module _ {K : Type 0} (r : Kinds K) (constants : FinMap nat_cmp (List ℕ)) (bytes words : List ℕ) (uses : List (Use K)) (word_free : (i : ℕ) → i < length words → IsFree uses (4 * i) → word_at bytes (4 * i) ≡ get_or words i 0) (settled : All (λ u. IsSettled r (get_or words (u.offset / 4) 0) u (word_at bytes u.offset)) uses) where
  abbrev Told : Type 0
  Told = ℕ × Target × K

  -- words were put from a place on, and the uses there are these
  pub record StandFrom (place : ℕ) (put : List ℕ) (sites : List (ℕ × Target × K)) : Type 0 where
    pub aligned : place % 4 ≡ 0
    pub inside : place + 4 * length put ≤ 4 * length words
    pub at : (i : ℕ) → i < length put → get_or words (place / 4 + i) 0 ≡ get_or put i 0
    pub known : (s : ℕ × Target × K) → Contains sites s → Contains (map site_of uses) s
    pub all : (k : ℕ) (d : Use K) → k < length uses → place ≤ (get_or uses k d).offset → (get_or uses k d).offset < place + 4 * length put → Contains sites (site_of (get_or uses k d))

  -- first some words, with uses on them, and then others
  module _ (place : ℕ) (mine others : List ℕ) (sites more : List (ℕ × Target × K)) (s : StandFrom place (mine ++ others) (sites ++ more)) (below : All (λ t. t.0 < place + 4 * length mine) sites) (behind : All (λ t. place + 4 * length mine ≤ t.0) more) where
    long : length (mine ++ others) ≡ length mine + length others
    long = length-append mine others

    pub others_stand : StandFrom (place + 4 * length mine) others more
    others_stand = record {
      aligned = omega (arith, s.aligned);
      inside = omega (arith, s.inside, long);
      at = λ i h.
          let e : (place + 4 * length mine) / 4 + i ≡ place / 4 + (length mine + i) = omega (arith, s.aligned) in
          ap (λ n. get_or words n 0) e ∙ (s.at (length mine + i) (omega (arith, h, long)) ∙ get_or-append-add mine others i 0);
      known = λ t c. s.known t (Contains-append_right sites more t c);
      all = λ k d h low high. elim (Contains-append_cases sites more (site_of (get_or uses k d)) (s.all k d h (omega (arith, low)) (omega (arith, high, long)))) [
        | inl c ↦ absurd (let x = below c.0 (site_of (get_or uses k d)) c.1 in omega (arith, x, ap (λ (t : Told). t.0) c.2, low))
        | inr c ↦ c
      ];
    }

    pub mine_stand : (i : ℕ) → i < length mine → StandsAs r bytes sites (place + 4 * i) (get_or mine i 0)
    mine_stand i h = record {
      free = λ apart. ap (word_at bytes) (sym at) ∙ (word_free (place / 4 + i) (omega (arith, h, long, s.inside, s.aligned)) (none apart) ∙ put);
      used = λ k d l e. used_word (get_or sites k d) (s.known (get_or sites k d) (Contains-append_left sites more (get_or sites k d) (k, l, get_or_default sites k (get_or sites k d) d l))) e;
    }
      where
        put : get_or words (place / 4 + i) 0 ≡ get_or mine i 0
        put = s.at i (omega (arith, h, long)) ∙ get_or_append_left mine others 0 i h

        at : 4 * (place / 4 + i) ≡ place + 4 * i
        at = omega (arith, s.aligned)

        none : All (λ t. t.0 ≢ place + 4 * i) sites → IsFree uses (4 * (place / 4 + i))
        none apart k d l e = elim (Contains-append_cases sites more (site_of (get_or uses k d)) (s.all k d l (omega (arith, e, at)) (omega (arith, e, at, h, long)))) [
          | inl c ↦ apart c.0 (site_of (get_or uses k d)) c.1 (ap (λ (t : Told). t.0) c.2 ∙ (e ∙ at))
          | inr c ↦ (let x = behind c.0 (site_of (get_or uses k d)) c.1 in omega (arith, x, ap (λ (t : Told). t.0) c.2, e, at, h))
        ]

        used_word : (t : ℕ × Target × K) → Contains (map site_of uses) t → t.0 ≡ place + 4 * i → outside (r.mask t.2) (word_at bytes (place + 4 * i)) ≡ outside (r.mask t.2) (get_or mine i 0)
        used_word t c e =
            let d : Use K = record { offset = t.0; target = t.1; kind = t.2; stop = None } in
            let within : c.0 < length uses = omega (arith, c.1, length-map uses (site_of {K = K})) in
            let is : site_of (get_or uses c.0 d) ≡ t = sym (get_or-map site_of uses c.0 d t within) ∙ c.2 in
            let here : outside (r.mask t.2) (word_at bytes t.0) ≡ outside (r.mask t.2) (get_or words (t.0 / 4) 0) =
            subst (λ (x : Told). outside (r.mask x.2) (word_at bytes x.0) ≡ outside (r.mask x.2) (get_or words (x.0 / 4) 0)) is (settled c.0 d within).rest in
            let number : (place + 4 * i) / 4 ≡ place / 4 + i = omega (arith, s.aligned) in
            subst (λ n. outside (r.mask t.2) (word_at bytes n) ≡ outside (r.mask t.2) (get_or words (n / 4) 0)) e here
            ∙ ap (outside (r.mask t.2)) (ap (λ n. get_or words n 0) number ∙ put)

  -- the uses of a piece stand on its words
  sites_below : (c : Class) (t : Target) (place : ℕ) → All (λ s. s.0 < place + 4 * length (words_for r constants c t place)) (sites_for r c t place)
  sites_below Near t place zero d h = omega arith
  sites_below Near t place (suc k) d h = absurd (omega (arith, h))
  sites_below Middle t place zero d h = omega arith
  sites_below Middle t place (suc k) d h = absurd (omega (arith, h))
  sites_below Far t place zero d h = omega (arith, length-append r.far_words (0 ∷ []))
  sites_below Far t place (suc k) d h = absurd (omega (arith, h))
  sites_below Load t place k d h = absurd (omega (arith, h))
  sites_below Trapping t place k d h = absurd (omega (arith, h))
  sites_below Direct t place k d h = absurd (omega (arith, h))

  -- so pieces stand that were put one behind another
  pub pieces_stand : (place : ℕ) (us : List (Use K)) → StandFrom place (flat_map (piece_words r constants) (pieces r constants place us)) (flat_map (piece_sites r constants) (pieces r constants place us)) → All (HasPiece r bytes constants) (pieces r constants place us)
  pieces_stand place [] s = λ k d h. absurd (omega (arith, h))
  pieces_stand place (u ∷ us) s =
      let mine : List ℕ = words_for r constants (class r u) u.target place in
      let sites : List (ℕ × Target × K) = sites_for r (class r u) u.target place in
      let next : ℕ = place + 4 * length mine in
      let others : List ℕ = flat_map (piece_words r constants) (pieces r constants next us) in
      let more : List (ℕ × Target × K) = flat_map (piece_sites r constants) (pieces r constants next us) in
      let below = sites_below (class r u) u.target place in
      let behind = sites_from r constants next us in
      All-cons (HasPiece r bytes constants) (place, u) (pieces r constants next us)
      (mine_stand place mine others sites more s below behind)
      (pieces_stand next us (others_stand place mine others sites more s below behind))

-- ---- uses

some_same : {X : Type 0} {x y : X} → Some x ≡ Some y → x ≡ y
some_same e = cc

-- a fact of whatever an option holds
if_some : {X : Type 0} (P : X → Type 0) (o : Option X) → ((x : X) → o ≡ Some x → P x) → IfSome o P
if_some P None h = tt
if_some P (Some x) h = h x refl

of_some : {X : Type 0} (P : X → Type 0) {o : Option X} {x : X} → o ≡ Some x → IfSome o P → P x
of_some P e h = subst (λ o. IfSome o P) e h

no_end : {K : Type 0} (r : Kinds K) (t : Target) (kind : K) → wants (class_of r t kind) ≡ true → t ≡ IslandEnd → ⊥
no_end r t kind w e = false≢true (sym (ap (λ t. wants (class_of r t kind)) e) ∙ w)

constant_goal : (labels : FinMap nat_cmp ℕ) (t : Target) (place : ℕ) → IsSome (constant_of t) → goal_of labels t ≡ Some place → ⊥
constant_goal labels (Label x) place s e = false≢true s
constant_goal labels (Constant x) place s e = let z : None ≡ Some place = e in cc
constant_goal labels (Trap x) place s e = false≢true s
constant_goal labels IslandEnd place s e = false≢true s

waits : {K : Type 0} (r : Kinds K) (u : Use K) → wants (class r u) ≡ true → u.stop ≡ None → is_open r u ≡ true
waits r u want none = ap (λ o. wants (class r u) && is_none o) none ∙ ap (λ w. w && true) want

same_site : {K : Type 0} {end : ℕ} (u v : Use K) → IsSameUse end u v → site_of v ≡ site_of u
same_site u v same = ap (λ n. (n, v.target, v.kind)) same.offset ∙ (ap (λ t. (u.offset, t, v.kind)) same.target ∙ ap (λ k. (u.offset, u.target, k)) same.kind)

-- pieces were put for uses that waited in m, or were made since, behind start and up to the end of w, and the uses
-- that were made with them stop by them, or at their labels' places
pub record IsWritten {K : Type 0} (r : Kinds K) (constants : FinMap nat_cmp (List ℕ)) (m start w final : Buffer K) (served : List (Use K)) : Type 0 where
  pub serves : Serves r m.labels constants served start w
  pub known : IsLater m final
  pub later : IsLater w final
  pub sound : IsSound r m m.islands
  pub count : length m.uses ≤ length start.uses
  pub started : (k : ℕ) (d : Use K) → k < length m.uses → get_or start.uses k d ≡ get_or m.uses k d
  pub low : All (λ u. u.offset < end_of start) start.uses
  pub placed : All (λ u. u.offset < end_of w) w.uses
  pub new : (k : ℕ) (d : Use K) → length m.uses ≤ k → k < length w.uses → IsSome (constant_of (get_or w.uses k d).target) → ⊥
  pub made : (k : ℕ) (d : Use K) → length m.uses ≤ k → k < length w.uses → wants (class r (get_or w.uses k d)) ≡ true → IsAnswered m.labels served (get_or w.uses k d)

module _ {K : Type 0} (r : Kinds K) (constants : FinMap nat_cmp (List ℕ)) (bytes : List ℕ) (areas : List (ℕ × ℕ)) (m start w final : Buffer K) (served : List (Use K)) (a : IsWritten r constants m start w final served) (sound : IsSound r final areas) (word_free : (i : ℕ) → i < length final.words → IsFree final.uses (4 * i) → word_at bytes (4 * i) ≡ get_or final.words i 0) (settled : All (λ u. IsSettled r (get_or final.words (u.offset / 4) 0) u (word_at bytes u.offset)) final.uses) where
  -- ---- words

  abbrev words_between : List ℕ
  words_between = flat_map (piece_words r constants) (pieces r constants (end_of start) served)

  abbrev sites_between : List (ℕ × Target × K)
  sites_between = flat_map (piece_sites r constants) (pieces r constants (end_of start) served)

  end_is : end_of start + 4 * length words_between ≡ end_of w
  end_is = omega (arith, ap length a.serves.words, length-append start.words words_between)

  -- the uses of w, as they are in the end
  in_final : (t : ℕ × Target × K) → Contains (map site_of w.uses) t → Contains (map site_of final.uses) t
  in_final t c =
      let d : Use K = record { offset = 0; target = t.1; kind = t.2; stop = None } in
      let within : c.0 < length w.uses = omega (arith, c.1, length-map w.uses (site_of {K = K})) in
      let inside : c.0 < length final.uses = omega (arith, within, a.later.count) in (
        c.0,
        omega (arith, inside, length-map final.uses (site_of {K = K})),
        get_or-map site_of final.uses c.0 d t inside
            ∙ (same_site (get_or w.uses c.0 d) (get_or final.uses c.0 d) (a.later.uses c.0 d within)
            ∙ (sym (get_or-map site_of w.uses c.0 d t within) ∙ c.2)),
      )

  written_uses : (k : ℕ) (d : Use K) → k < length final.uses → end_of start ≤ (get_or final.uses k d).offset → (get_or final.uses k d).offset < end_of start + 4 * length words_between → Contains sites_between (site_of (get_or final.uses k d))
  written_uses k d h low high = elim (cases_lt k (length w.uses)) [
    | inr ge ↦ absurd (let x = a.later.fresh k d ge h in omega (arith, x, high, end_is))
    | inl within ↦
        let t : ℕ × Target × K = site_of (get_or final.uses k d) in
        let there : Contains (map site_of w.uses) t = (
          k,
          omega (arith, within, length-map w.uses (site_of {K = K})),
          get_or-map site_of w.uses k d t within ∙ sym (same_site (get_or w.uses k d) (get_or final.uses k d) (a.later.uses k d within)),
        ) in
        elim (Contains-append_cases (map site_of start.uses) sites_between t (subst (λ ss. Contains ss t) a.serves.uses_are there)) [
          | inr c ↦ c
          | inl c ↦
              let old : c.0 < length start.uses = omega (arith, c.1, length-map start.uses (site_of {K = K})) in
              let is : site_of (get_or start.uses c.0 d) ≡ t = sym (get_or-map site_of start.uses c.0 d t old) ∙ c.2 in
              absurd (let x = a.low c.0 d old in omega (arith, x, ap (λ (s : ℕ × Target × K). s.0) is, low))
        ]
  ]

  region : StandFrom r constants bytes final.words final.uses word_free settled (end_of start) words_between sites_between
  region = record {
    aligned = omega arith;
    inside = omega (arith, end_is, a.later.end);
    at = λ i h.
        let e : end_of start / 4 + i ≡ length start.words + i = omega arith in
        ap (λ n. get_or final.words n 0) e
        ∙ (a.later.words (length start.words + i) (omega (arith, h, end_is))
        ∙ (ap (λ ws. get_or ws (length start.words + i) 0) a.serves.words ∙ get_or-append-add start.words words_between i 0));
    known = λ t c. in_final t (subst (λ ss. Contains ss t) (sym a.serves.uses_are) (Contains-append_right (map site_of start.uses) sites_between t c));
    all = written_uses;
  }

  -- ---- the served uses

  -- a use that has its stop in w stays
  kept : (k : ℕ) (d : Use K) → k < length w.uses → IsSome (get_or w.uses k d).stop → get_or final.uses k d ≡ get_or w.uses k d
  kept k d h s = stays_same (end_of w) (get_or w.uses k d) (get_or final.uses k d) (a.later.uses k d h) s

  served_is : (u : Use K) (q : IsServed r m.labels start w u) → get_or final.uses q.index u ≡ u
  served_is u q = kept q.index u q.within (subst (λ (v : Use K). IsSome v.stop) (sym (q.is u)) q.stops) ∙ q.is u

  among : All (λ u. Contains final.uses u) served
  among k d h = let q = a.serves.waited k d h in (q.index, omega (arith, q.within, a.later.count), served_is (get_or served k d) q)

  -- what loads a constant and was served waited in m
  load_placed : (u : Use K) → IsServed r m.labels start w u → IsSome (constant_of u.target) → u.offset < end_of m
  load_placed u q some = elim (cases_lt q.index (length m.uses)) [
    | inl old ↦ omega (arith, (a.sound.placed q.index u old).inside, (a.known.uses q.index u old).offset, ap (λ (v : Use K). v.offset) (served_is u q))
    | inr ge ↦ absurd (a.new q.index u ge q.within (subst (λ (v : Use K). IsSome (constant_of v.target)) (sym (q.is u)) some))
  ]

  -- a stop in m stands before its end, or is the label's place
  before : (k stop : ℕ) (d : Use K) → k < length m.uses → wants (class r (get_or m.uses k d)) ≡ true → (get_or m.uses k d).stop ≡ Some stop → (stop < end_of m) ⊎ (goal_of m.labels (get_or m.uses k d).target ≡ Some stop)
  before k stop d old want e = elim (of_some (λ x. (x < end_of m) ⊎ (goal_of m.labels (get_or m.uses k d).target ≡ Some x) ⊎ ((get_or m.uses k d).target ≡ IslandEnd)) e (stops_below r m m.islands a.sound k d old)) [
    | inl lt ↦ inl lt
    | inr more ↦ elim more [ inl goal ↦ inr goal | inr end ↦ absurd (no_end r (get_or m.uses k d).target (get_or m.uses k d).kind want end) ]
  ]

  open_there : (k : ℕ) (d : Use K) → k < length m.uses → wants (class r (get_or m.uses k d)) ≡ true → (get_or m.uses k d).stop ≡ None → is_open r (get_or start.uses k d) ≡ true
  open_there k d old want none = ap (λ (v : Use K). is_open r v) (a.started k d old) ∙ waits r (get_or m.uses k d) want none

  first_load : All (λ u. IsSome (constant_of u.target) → All (λ v. v.target ≡ u.target → IfSome v.stop (λ stop. end_of m ≤ stop → u.offset ≤ v.offset)) final.uses) served
  first_load k d h some i e l target = if_some (λ stop. end_of m ≤ stop → u.offset ≤ v.offset) v.stop (λ stop stops low. elim (cases_lt i (length m.uses)) [
    | inr ge ↦ omega (arith, a.known.fresh i e ge l, load_placed u q some)
    | inl old ↦ in_m stop stops low old (get_or m.uses i e).stop refl
  ])
    where
      u : Use K
      u = get_or served k d

      v : Use K
      v = get_or final.uses i e

      q : IsServed r m.labels start w (get_or served k d)
      q = a.serves.waited k d h

      in_m : (stop : ℕ) → (get_or final.uses i e).stop ≡ Some stop → end_of m ≤ stop → i < length m.uses → (o : Option ℕ) → (get_or m.uses i e).stop ≡ o → (get_or served k d).offset ≤ (get_or final.uses i e).offset
      in_m stop stops low old o is =
          let same : IsSameUse (end_of m) (get_or m.uses i e) (get_or final.uses i e) = a.known.uses i e old in
          let target_m : (get_or m.uses i e).target ≡ (get_or served k d).target = sym same.target ∙ target in
          let constant : IsSome (constant_of (get_or m.uses i e).target) = subst (λ t. IsSome (constant_of t)) (sym target_m) some in
          let want = ap wants (load_class r (get_or m.uses i e).target (get_or m.uses i e).kind constant) in
          elim o as (λ o. (get_or m.uses i e).stop ≡ o → (get_or served k d).offset ≤ (get_or final.uses i e).offset) [
            | None ↦ λ none.
                let less = a.serves.first' k d h some i e (omega (arith, old, a.count)) (open_there i e old want none) (ap (λ (x : Use K). x.target) (a.started i e old) ∙ target_m) in
                omega (arith, less, ap (λ (x : Use K). x.offset) (a.started i e old), same.offset)
            | Some t ↦ λ has.
                let one : t ≡ stop = some_same (sym (same.kept t has) ∙ stops) in
                absurd (elim (before i t e old want has) [ inl lt ↦ omega (arith, lt, one, low) | inr goal ↦ constant_goal m.labels (get_or m.uses i e).target t constant goal ])
          ] is

  -- ---- what stops there

  module _ (k stop : ℕ) (d : Use K) (within : k < length final.uses) (want : wants (class r (get_or final.uses k d)) ≡ true) (stops : (get_or final.uses k d).stop ≡ Some stop) (low : end_of m ≤ stop) (high : stop < end_of w) where
    abbrev Answers : Type 0
    Answers = (goal_of final.labels (get_or final.uses k d).target ≡ Some stop) ⊎ Any (StopsWith (get_or final.uses k d)) served

    goal_then : (u : Use K) {end s : ℕ} → IsSameUse end u (get_or final.uses k d) → s ≡ stop → goal_of m.labels u.target ≡ Some s → Answers
    goal_then u same one goal = inl (goal_stays m.labels final.labels a.known.labels (get_or final.uses k d).target stop (subst (λ t. goal_of m.labels t ≡ Some stop) (sym same.target) (goal ∙ ap (λ n. Some n) one)))

    piece_then : (inside : k < length w.uses) → (get_or w.uses k d).stop ≡ Some stop → Any (StopsWith (get_or w.uses k d)) served → Answers
    piece_then inside has piece = inr (subst (λ (v : Use K). Any (StopsWith v) served) (sym (kept k d inside (subst IsSome (sym has) refl))) piece)

    -- what had its stop in w waited in m, since else it would stop before, or was made since
    stopped : k < length w.uses → (get_or w.uses k d).stop ≡ Some stop → Answers
    stopped inside has = elim (cases_lt k (length m.uses)) [
      | inl old ↦
          let same : IsSameUse (end_of m) (get_or m.uses k d) (get_or final.uses k d) = a.known.uses k d old in
          let want_m = sym (ap wants (same_class r (end_of m) (get_or m.uses k d) (get_or final.uses k d) same)) ∙ want in
          elim (get_or m.uses k d).stop as (λ o. (get_or m.uses k d).stop ≡ o → Answers) [
            | None ↦ λ none. piece_then inside has (a.serves.answered k d (omega (arith, old, a.count)) (open_there k d old want_m none) (subst IsSome (sym has) refl))
            | Some s ↦ λ was.
                let one : s ≡ stop = some_same (sym (same.kept s was) ∙ stops) in
                elim (before k s d old want_m was) [ inl lt ↦ absurd (omega (arith, lt, one, low)) | inr goal ↦ goal_then (get_or m.uses k d) same one goal ]
          ] refl
      | inr new ↦
          let same : IsSameUse (end_of w) (get_or w.uses k d) (get_or final.uses k d) = a.later.uses k d inside in
          elim (a.made k d new inside (sym (ap wants (same_class r (end_of w) (get_or w.uses k d) (get_or final.uses k d) same)) ∙ want)) [
            | inl goal ↦ goal_then (get_or w.uses k d) same refl (of_some (λ s. goal_of m.labels (get_or w.uses k d).target ≡ Some s) has goal)
            | inr piece ↦ piece_then inside has piece
          ]
    ]

    answers : Answers
    answers = elim (cases_lt k (length w.uses)) [
      | inr later ↦ elim (stands_there r final areas sound.stops k stop d within stops).ahead [
        | inl lt ↦ absurd (let x = a.later.fresh k d later within in omega (arith, x, lt, high))
        | inr goal ↦ inl goal
      ]
      | inl inside ↦
          let same : IsSameUse (end_of w) (get_or w.uses k d) (get_or final.uses k d) = a.later.uses k d inside in
          elim (get_or w.uses k d).stop as (λ o. (get_or w.uses k d).stop ≡ o → Answers) [
            | None ↦ λ none. absurd (let x = same.later stop none stops in omega (arith, x, high))
            | Some t ↦ λ has. stopped inside (has ∙ (sym (same.kept t has) ∙ stops))
          ] refl
    ]

  pub holds_area : HoldsArea r bytes constants final.uses m.labels final.labels (end_of m) (end_of start) (end_of w)
  holds_area = record {
    served = served;
    among = among;
    wanting = λ k d h. (a.serves.waited k d h).wants_one;
    placed = λ k d h. let q = a.serves.waited k d h in subst (λ (v : Use K). v.offset < end_of w) (q.is (get_or served k d)) (a.placed q.index (get_or served k d) q.within);
    far_off = λ k d h. (a.serves.waited k d h).far_off;
    in_order = a.serves.in_order;
    first' = first_load;
    stops = a.serves.stops;
    fills = pieces_stand r constants bytes final.words final.uses word_free settled (end_of start) served region;
    ends = end_is;
    answered = λ k d h want. if_some (λ stop. end_of m ≤ stop → stop < end_of w → (goal_of final.labels (get_or final.uses k d).target ≡ Some stop) ⊎ Any (StopsWith (get_or final.uses k d)) served) (get_or final.uses k d).stop (λ stop e low high. answers k stop d h want e low high);
  }

-- ---- the pool

pub pool_written : {K : Type 0} (r : Kinds K) (b final : Buffer K) (served : List (Use K)) → IsSound r b b.islands → All (IsPlaced (end_of final)) final.uses → IsLater b final → Serves r b.labels b.constants served b final → ((k : ℕ) (d : Use K) → length b.uses ≤ k → k < length final.uses → IsSome (label_of (get_or final.uses k d).target)) → IsWritten r b.constants b b final final served
pool_written r b final served sound placed later serves labelled = record {
  serves = serves;
  known = later;
  later = later_none final;
  sound = sound;
  count = omega arith;
  started = λ k d lt. refl;
  low = λ k d lt. (sound.placed k d lt).inside;
  placed = λ k d lt. (placed k d lt).inside;
  new = λ k d ge lt c. label_no_constant (get_or final.uses k d).target (labelled k d ge lt) c;
  made = λ k d ge lt want. serves.new_answered k d ge lt;
}

-- ---- an island

-- the jump over it stays one
pub over_stays : {K : Type 0} (r : Kinds K) (distance : ℕ) (force : ForceVeneers) (jump : Bool) (m w : Buffer K) → HasIsland r distance force jump m w → (k : ℕ) (d : Use K) → length m.uses ≤ k → k < length (begun r jump m).uses → k < length w.uses → site_of (get_or w.uses k d) ≡ site_of (over_use r (end_of m))
over_stays {K = K} r distance force jump m w has k d low first h =
    let more = flat_map (piece_sites r m.constants) (pieces r m.constants (end_of (begun r jump m)) has.served) in
    sym (get_or-map site_of w.uses k d (site_of d) h)
    ∙ (ap (λ ss. get_or ss k (site_of d)) has.serves.uses_are
    ∙ (get_or_append_left (map site_of (begun r jump m).uses) more (site_of d) k (omega (arith, first, length-map (begun r jump m).uses (site_of {K = K})))
    ∙ (get_or-map site_of (begun r jump m).uses k d (site_of d) first ∙ ap site_of (begun_new r jump m k d low first))))

module _ {K : Type 0} (r : Kinds K) (distance : ℕ) (force : ForceVeneers) (jump : Bool) (m w b final : Buffer K) (whole : IsWhole r m) (has : HasIsland r distance force jump m w) (since : IsLater w b) (later : IsLater b final) where
  not_constant : (t : Bool) (v : Use K) → IsNewUse r t m v → IsSome (constant_of v.target) → ⊥
  not_constant true v new c = elim new [
    | inl over ↦ false≢true (subst (λ t. IsSome (constant_of t)) over.0 c)
    | inr veneer ↦ label_no_constant v.target veneer.labelled c
  ]
  not_constant false v veneer c = label_no_constant v.target veneer.labelled c

  -- the jump in front, which wants nothing, stays
  made_since : (k : ℕ) (d : Use K) → length m.uses ≤ k → k < length w.uses → wants (class r (get_or w.uses k d)) ≡ true → IsAnswered m.labels has.served (get_or w.uses k d)
  made_since k d ge lt want = elim (cases_lt k (length (begun r jump m).uses)) [
    | inr behind ↦ has.serves.new_answered k d behind lt
    | inl first ↦ absurd (false≢true (sym (ap (λ (t : ℕ × Target × K). wants (class_of r t.1 t.2)) (over_stays r distance force jump m w has k d ge first lt)) ∙ want))
  ]

  pub island_written : IsWritten r b.constants m (begun r jump m) w final has.served
  island_written = record {
    serves = subst (λ cs. Serves r m.labels cs has.served (begun r jump m) w) (sym (later_trans m w b has.later since).constants) has.serves;
    known = later_trans m b final (later_trans m w b has.later since) later;
    later = later_trans w b final since later;
    sound = whole.sound;
    count = omega (arith, length-append m.uses (front_uses r jump (end_of m)));
    started = λ k d lt. begun_old r jump m k d lt;
    low = λ k d lt. elim (cases_lt k (length m.uses)) [
      | inl old ↦ omega (arith, (whole.sound.placed k d old).inside, begun_end r jump m, ap (λ (u : Use K). u.offset) (begun_old r jump m k d old))
      | inr new ↦ omega (arith, begun_end r jump m, ap front_size (begun_jumps r jump m k new lt), ap (λ (u : Use K). u.offset) (begun_new r jump m k d new lt))
    ];
    placed = λ k d lt. (has.whole.sound.placed k d lt).inside;
    new = λ k d ge lt c. not_constant jump (get_or w.uses k d) (has.given k d ge lt) c;
    made = made_since;
  }
