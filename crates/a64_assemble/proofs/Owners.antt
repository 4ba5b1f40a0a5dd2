-- Each use that may want something of an island is a cell's, or a jump word that a shorter branch was given.
use Rattle.std.proofs.Common.{ℕ, zero, suc, ◌≡◌, ◌⊎◌, ◌+◌, ◌-◌, ◌*◌, ◌/◌, ◌<◌, ◌≤◌, true, List, [], ◌∷◌, ◌++◌, All, length, get_or, map, take, drop, Option, None, Some, refl, sym, ap, ◌∙◌, subst, arith, inl, inr, Bool}
use Rattle.std.specs.Prelude.{Contains, IsSome, is_some}
use Rattle.std.specs.List.{flat_map}
use Rattle.std.specs.Ordering.{nat_cmp}
use Rattle.std.specs.FinMap.{FinMap}
use Rattle.std.proofs.lemmas.Bool.{cases_lt, false≢true}
use Rattle.std.proofs.lemmas.List.{length-append, length-map, length-take-le, take_more, map-append, get_or_append_left, get_or-append-add, get_or-map}
use Rattle.std.proofs.lemmas.List.Elements.{Contains-append_left, Contains-append_right, Contains-push}
use Rattle.a64_buffer.specs.declared.site.Use.{Use}
use Rattle.a64_buffer.specs.declared.site.Target.{Target}
use Rattle.a64_buffer.specs.declared.site.Target.TheVariants.{Label, Constant, Trap, IslandEnd}
use Rattle.a64_buffer.specs.declared.class.Class.{Class}
use Rattle.a64_buffer.specs.declared.class.Class.TheVariants.{Near, Middle, Load, Trapping, Far, Direct}
use Rattle.a64_buffer.specs.declared.force.ForceVeneers.{ForceVeneers}
use Rattle.a64_buffer.specs.declared.force.ForceVeneers.TheVariants.{No}
use Rattle.a64_buffer.specs.Buffer.{Buffer, end_of, label_of, closed_at}
use Rattle.a64_buffer.specs.Classes.{wants, class, class_of}
use Rattle.a64_buffer.specs.Later.{IsSameUse, IsLater}
use Rattle.a64_buffer.specs.Islands.{HasIsland}
use Rattle.a64_buffer.specs.Pieces as pieces
use Rattle.a64_buffer.proofs.Laters.{later_none}
use Rattle.a64_label_use.specs.declared.label_use.LabelUse.{LabelUse}
use Rattle.a64_label_use.specs.declared.label_use.LabelUse.TheVariants as uses
use Rattle.a64_label_use.specs.LabelUses.{label_kinds}
use Rattle.a64_cells.specs.Shapes.{Cell}
use Rattle.a64_emit.specs.Layout.{placed, standing}
use Rattle.a64_emit.specs.Emission.{site_of, appended}
use Rattle.a64_emit.specs.Contents.{IsCellUse}
use Rattle.a64_assemble.specs.Elements.{Element, Binding, Words, Asking, cells_in, next_room, element_at}
use Rattle.a64_assemble.specs.Asks.{Asks, AsksNext, PutsWords, Moves}
use Rattle.a64_assemble.specs.Owners.{IsOwned, AreOwned}
use Rattle.a64_assemble.proofs.Fronts.{given_use, island_ends, over_stays}
use Rattle.a64_assemble.proofs.Later.{new_from}
use Rattle.a64_assemble.proofs.Moving.{put_later}
use Rattle.a64_emit.proofs.Putting.{no_cell}
use Rattle.a64_assemble.proofs.Rising.{placed_has}
use Rattle.a64_emit.proofs.Sites.{standing-push}
use Rattle.a64_assemble.proofs.Standings.{still}
use Rattle.a64_buffer.proofs.Islands.{begun_end}
use Rattle.a64_buffer.specs.Pieces.{front_size}

-- ---- what stays

abbrev AreMore : {X : Type 0} → List X → List X → Type 0
AreMore {X} xs ys = (x : X) → Contains xs x → Contains ys x

module _ (cells cells' : List (ℕ × Cell)) (b b' : Buffer LabelUse) (more : AreMore cells cells') (later : IsLater b b') (islands : AreMore b.islands b'.islands) where
  same_site : (k : ℕ) (d : Use LabelUse) → k < length b.uses → site_of (get_or b'.uses k d) ≡ site_of (get_or b.uses k d)
  same_site k d h = (still b b' later).uses_kept k d h

  cell_later : (k : ℕ) (d : Use LabelUse) → k < length b.uses → IsCellUse cells (site_of (get_or b.uses k d)) → IsCellUse cells' (site_of (get_or b'.uses k d))
  cell_later k d h c = subst (IsCellUse cells') (sym (same_site k d h)) (c.0, more c.0 c.1, c.2, c.3)

  owned_later : (k : ℕ) (d : Use LabelUse) → k < length b.uses → IsOwned cells b (get_or b.uses k d) → IsOwned cells' b' (get_or b'.uses k d)
  owned_later k d h owned want = elim (owned (ap (λ (s : ℕ × _). wants (class_of label_kinds s.1.target s.1.kind)) (sym (same_site k d h)) ∙ want)) [
    | inl c ↦ inl (cell_later k d h c)
    | inr j ↦
        let same : IsSameUse (end_of b) (get_or b.uses k d) (get_or b'.uses k d) = later.uses k d h in
        let at : (get_or b'.uses k d).offset ≡ (get_or b.uses k d).offset = same.offset in
        let end = later.end in
        inr (record {
          kind = same.kind ∙ j.kind;
          labelled = subst (λ t. IsSome (label_of t)) (sym same.target) j.labelled;
          inside = omega (arith, j.inside, at, end);
          word = ap (λ n. get_or b'.words (n / 4) 0) at ∙ (later.words ((get_or b.uses k d).offset / 4) (omega (arith, j.inside)) ∙ j.word);
          island = j.island;
          listed = islands j.island j.listed;
          from = omega (arith, j.from, at);
          before = omega (arith, j.before, at);
          parent = j.parent;
          within = omega (arith, j.within, later.count);
          short = λ e. elim (j.short e) [ inl s ↦ inl ((later.uses j.parent e j.within).kind ∙ s) | inr s ↦ inr ((later.uses j.parent e j.within).kind ∙ s) ];
          target = λ e. (later.uses j.parent e j.within).target ∙ (j.target e ∙ sym same.target);
          owned = λ e. cell_later j.parent e j.within (j.owned e);
          stops = λ e. (later.uses j.parent e j.within).kept (get_or b.uses k d).offset (j.stops e) ∙ ap (λ n. Some n) (sym at);
        })
  ]

-- ---- the jump words among pieces

abbrev Told : Type 0
Told = ℕ × Target × LabelUse

module _ (constants : FinMap nat_cmp (List ℕ)) where
  abbrev piece_words : ℕ → List (Use LabelUse) → List ℕ
  piece_words place us = flat_map (pieces.piece_words label_kinds constants) (pieces.pieces label_kinds constants place us)

  abbrev piece_sites : ℕ → List (Use LabelUse) → List Told
  piece_sites place us = flat_map (pieces.piece_sites label_kinds constants) (pieces.pieces label_kinds constants place us)

  -- a jump word of a use of one of the shorter urgencies, which stops at it
  pub record IsPieceJump (place : ℕ) (us : List (Use LabelUse)) (t : Told) : Type 0 where
    pub kind : t.2 ≡ uses.Branch26
    pub number : ℕ
    pub inside : number < length (piece_words place us)
    pub place_is : t.0 ≡ place + 4 * number
    pub word : get_or (piece_words place us) number 0 ≡ 0x14000000
    pub served : ℕ
    pub within : served < length us
    pub class_is : (d : Use LabelUse) → (class label_kinds (get_or us served d) ≡ Near) ⊎ (class label_kinds (get_or us served d) ≡ Middle)
    pub target : (d : Use LabelUse) → (get_or us served d).target ≡ t.1
    pub stops : (d : Use LabelUse) → (get_or us served d).stop ≡ Some t.0

  abbrev AllStop : ℕ → List (Use LabelUse) → Type 0
  AllStop place us = All (pieces.StopsAtPiece label_kinds constants) (pieces.pieces label_kinds constants place us)

  -- the last word of a far veneer wants nothing
  far_quiet : (t : Target) (kind : LabelUse) → class_of label_kinds t kind ≡ Far → wants (class_of label_kinds t uses.PCRel32) ≡ true → ⊥
  far_quiet (Label l) kind e w = false≢true w
  far_quiet (Constant c) kind e w = absurd cc
  far_quiet (Trap c) kind e w = absurd cc
  far_quiet IslandEnd kind e w = false≢true w

  module _ (place : ℕ) (u : Use LabelUse) (us : List (Use LabelUse)) where
    abbrev mine : List ℕ
    mine = pieces.words_for label_kinds constants (class label_kinds u) u.target place

    abbrev next : ℕ
    next = place + 4 * length mine

    others : (t : Told) → IsPieceJump next us t → IsPieceJump place (u ∷ us) t
    others t j = record {
      kind = j.kind;
      number = length mine + j.number;
      inside = omega (arith, j.inside, length-append mine (piece_words next us));
      place_is = omega (arith, j.place_is);
      word = get_or-append-add mine (piece_words next us) j.number 0 ∙ j.word;
      served = suc j.served;
      within = omega (arith, j.within);
      class_is = j.class_is;
      target = j.target;
      stops = j.stops;
    }

    jump : AllStop place (u ∷ us) → (c : Class) → class label_kinds u ≡ c → (c ≡ Near) ⊎ (c ≡ Middle) → pieces.words_for label_kinds constants c u.target place ≡ 0x14000000 ∷ [] → pieces.stop_for label_kinds constants c u.target place ≡ place → IsPieceJump place (u ∷ us) (place, u.target, uses.Branch26)
    jump stop c e short words at =
        let one : mine ≡ 0x14000000 ∷ [] = ap (λ c. pieces.words_for label_kinds constants c u.target place) e ∙ words in
        record {
          kind = refl;
          number = 0;
          inside = omega (arith, ap length one, length-append mine (piece_words next us));
          place_is = omega arith;
          word = get_or_append_left mine (piece_words next us) 0 0 (omega (arith, ap length one)) ∙ ap (λ ws. get_or ws 0 0) one;
          served = 0;
          within = omega arith;
          class_is = λ d. elim short [ inl s ↦ inl (e ∙ s) | inr s ↦ inr (e ∙ s) ];
          target = λ d. refl;
          stops = λ d. stop 0 (place, u) (omega arith) ∙ ap (λ n. Some n) (ap (λ c. pieces.stop_for label_kinds constants c u.target place) e ∙ at);
        }

    own : AllStop place (u ∷ us) → (d : Told) → (c : Class) → class label_kinds u ≡ c → (i : ℕ) → i < length (pieces.sites_for label_kinds c u.target place) → wants (class_of label_kinds (get_or (pieces.sites_for label_kinds c u.target place) i d).1 (get_or (pieces.sites_for label_kinds c u.target place) i d).2) ≡ true → IsPieceJump place (u ∷ us) (get_or (pieces.sites_for label_kinds c u.target place) i d)
    own stop d Near e zero h w = jump stop Near e (inl refl) refl refl
    own stop d Near e (suc i) h w = absurd (omega (arith, h))
    own stop d Middle e zero h w = jump stop Middle e (inr refl) refl refl
    own stop d Middle e (suc i) h w = absurd (omega (arith, h))
    own stop d Far e zero h w = absurd (far_quiet u.target u.kind e w)
    own stop d Far e (suc i) h w = absurd (omega (arith, h))
    own stop d Load e i h w = absurd (omega (arith, h))
    own stop d Trapping e i h w = absurd (omega (arith, h))
    own stop d Direct e i h w = absurd (omega (arith, h))

  pub piece_jump : (place : ℕ) (us : List (Use LabelUse)) → AllStop place us → (i : ℕ) (d : Told) → i < length (piece_sites place us) → wants (class_of label_kinds (get_or (piece_sites place us) i d).1 (get_or (piece_sites place us) i d).2) ≡ true → IsPieceJump place us (get_or (piece_sites place us) i d)
  piece_jump place [] stop i d h w = absurd (omega arith)
  piece_jump place (u ∷ us) stop i d h w = elim (cases_lt i (length (pieces.sites_for label_kinds (class label_kinds u) u.target place))) [
    | inl first ↦
        let at : get_or (piece_sites place (u ∷ us)) i d ≡ get_or (pieces.sites_for label_kinds (class label_kinds u) u.target place) i d = get_or_append_left (pieces.sites_for label_kinds (class label_kinds u) u.target place) (piece_sites (next place u us) us) d i first in
        subst (IsPieceJump place (u ∷ us)) (sym at) (own place u us stop d (class label_kinds u) refl i first (subst (λ (t : Told). wants (class_of label_kinds t.1 t.2) ≡ true) at w))
    | inr behind ↦
        let n : ℕ = length (pieces.sites_for label_kinds (class label_kinds u) u.target place) in
        let back : n + (i - n) ≡ i = omega (arith, behind) in
        let at : get_or (piece_sites place (u ∷ us)) i d ≡ get_or (piece_sites (next place u us) us) (i - n) d = ap (λ j. get_or (piece_sites place (u ∷ us)) j d) (sym back) ∙ get_or-append-add (pieces.sites_for label_kinds (class label_kinds u) u.target place) (piece_sites (next place u us) us) (i - n) d in
        let long = length-append (pieces.sites_for label_kinds (class label_kinds u) u.target place) (piece_sites (next place u us) us) in
        subst (IsPieceJump place (u ∷ us)) (sym at) (others place u us (get_or (piece_sites (next place u us) us) (i - n) d) (piece_jump (next place u us) us (λ k e l. stop (suc k) e (omega (arith, l))) (i - n) d (omega (arith, h, behind, long)) (subst (λ (t : Told). wants (class_of label_kinds t.1 t.2) ≡ true) at w)))
  ]

-- a use of a shorter urgency is a shorter branch to a label
pub short_kind : (t : Target) (kind : LabelUse) → (class_of label_kinds t kind ≡ Near) ⊎ (class_of label_kinds t kind ≡ Middle) → IsSome (label_of t) × ((kind ≡ uses.Branch14) ⊎ (kind ≡ uses.Branch19))
short_kind (Label l) uses.Branch14 c = (refl, inl refl)
short_kind (Label l) uses.Branch19 c = (refl, inr refl)
short_kind (Label l) uses.Branch26 c = elim c [ inl e ↦ absurd cc | inr e ↦ absurd cc ]
short_kind (Label l) uses.Ldr19 c = elim c [ inl e ↦ absurd cc | inr e ↦ absurd cc ]
short_kind (Label l) uses.Adr21 c = elim c [ inl e ↦ absurd cc | inr e ↦ absurd cc ]
short_kind (Label l) uses.PCRel32 c = elim c [ inl e ↦ absurd cc | inr e ↦ absurd cc ]
short_kind (Constant n) kind c = elim c [ inl e ↦ absurd cc | inr e ↦ absurd cc ]
short_kind (Trap n) kind c = elim c [ inl e ↦ absurd cc | inr e ↦ absurd cc ]
short_kind IslandEnd kind c = elim c [ inl e ↦ absurd cc | inr e ↦ absurd cc ]

-- ---- an island

module _ {jump : Bool} (cells : List (ℕ × Cell)) (distance : ℕ) (force : ForceVeneers) (m b' : Buffer LabelUse) (has : HasIsland label_kinds distance force jump m b') (owned : All (IsOwned cells m) m.uses) where
  same_cells : AreMore cells cells
  same_cells s h = h

  more_islands : AreMore m.islands b'.islands
  more_islands i h = elim (island_ends jump m b' has) [
    | inl none ↦ subst (λ is. Contains is i) (sym none.1) h
    | inr one ↦ subst (λ is. Contains is i) (sym one.1) (Contains-append_left m.islands ((end_of m, end_of b') ∷ []) i h)
  ]

  -- what has words is listed
  this_island : (place : ℕ) → end_of m ≤ place → place < end_of b' → Contains b'.islands (end_of m, end_of b')
  this_island place low high = elim (island_ends jump m b' has) [
    | inl none ↦ absurd (omega (arith, low, high, none.0))
    | inr one ↦ subst (λ is. Contains is (end_of m, end_of b')) (sym one.1) (Contains-push m.islands (end_of m, end_of b'))
  ]

  -- a use of a shorter urgency is not new, and a cell's
  served_cell : (k : ℕ) (d : Use LabelUse) → k < length b'.uses → (class label_kinds (get_or b'.uses k d) ≡ Near) ⊎ (class label_kinds (get_or b'.uses k d) ≡ Middle) → IsCellUse cells (site_of (get_or b'.uses k d))
  served_cell k d h short = elim (cases_lt k (length m.uses)) [
    | inl old ↦
        let site = same_site cells cells m b' same_cells has.later more_islands k d old in
        let want : wants (class label_kinds (get_or m.uses k d)) ≡ true = ap (λ (s : ℕ × _). wants (class_of label_kinds s.1.target s.1.kind)) (sym site) ∙ short_wants (class label_kinds (get_or b'.uses k d)) short in
        elim (owned k d old want) [
          | inl c ↦ cell_later cells cells m b' same_cells has.later more_islands k d old c
          | inr j ↦ absurd (not_jump (get_or b'.uses k d).target (get_or b'.uses k d).kind ((has.later.uses k d old).kind ∙ j.kind) short)
        ]
    | inr new ↦ elim (given_use jump m (get_or b'.uses k d) (has.given k d new h)) [
      | inl over ↦ absurd (not_over (get_or b'.uses k d).target (get_or b'.uses k d).kind over.0 short)
      | inr v ↦ elim v.kind [
        | inl jump ↦ absurd (not_jump (get_or b'.uses k d).target (get_or b'.uses k d).kind jump short)
        | inr far ↦ absurd (not_far (get_or b'.uses k d).target (get_or b'.uses k d).kind far short)
      ]
    ]
  ]
    where
      short_wants : (c : Class) → (c ≡ Near) ⊎ (c ≡ Middle) → wants c ≡ true
      short_wants c e = elim e [ inl n ↦ ap wants n | inr n ↦ ap wants n ]

      not_jump : (t : Target) (kind : LabelUse) → kind ≡ uses.Branch26 → (class_of label_kinds t kind ≡ Near) ⊎ (class_of label_kinds t kind ≡ Middle) → ⊥
      not_jump t kind e c = elim (short_kind t kind c).1 [ inl f ↦ cc | inr f ↦ cc ]

      not_far : (t : Target) (kind : LabelUse) → kind ≡ uses.PCRel32 → (class_of label_kinds t kind ≡ Near) ⊎ (class_of label_kinds t kind ≡ Middle) → ⊥
      not_far t kind e c = elim (short_kind t kind c).1 [ inl f ↦ cc | inr f ↦ cc ]

      not_over : (t : Target) (kind : LabelUse) → t ≡ IslandEnd → (class_of label_kinds t kind ≡ Near) ⊎ (class_of label_kinds t kind ≡ Middle) → ⊥
      not_over t kind e c = false≢true (sym (ap (λ t. is_some (label_of t)) e) ∙ (short_kind t kind c).0)

  abbrev start : Buffer LabelUse
  start = pieces.begun label_kinds jump m

  started : length m.uses ≤ length start.uses
  started = omega (arith, length-append m.uses (pieces.front_uses label_kinds jump (end_of m)))

  -- what an island gives
  new_owned : (k : ℕ) (d : Use LabelUse) → length start.uses ≤ k → k < length b'.uses → IsOwned cells b' (get_or b'.uses k d)
  new_owned k d low high want =
      let constants : FinMap nat_cmp (List ℕ) = m.constants in
      let from : ℕ = end_of start in
      let front : List Told = map pieces.site_of start.uses in
      let told : Told = (0, IslandEnd, uses.Branch26) in
      let long : length front ≡ length start.uses = length-map start.uses (pieces.site_of {K = LabelUse}) in
      let all = length-append front (piece_sites constants from has.served) in
      let count : length b'.uses ≡ length front + length (piece_sites constants from has.served) = sym (length-map b'.uses (pieces.site_of {K = LabelUse})) ∙ (ap length has.serves.uses_are ∙ all) in
      let back : length front + (k - length front) ≡ k = omega (arith, long, low) in
      let here : get_or (piece_sites constants from has.served) (k - length front) told ≡ pieces.site_of (get_or b'.uses k d) =
      sym (get_or-append-add front (piece_sites constants from has.served) (k - length front) told)
      ∙ (ap (λ n. get_or (front ++ piece_sites constants from has.served) n told) back
      ∙ (ap (λ ss. get_or ss k told) (sym has.serves.uses_are) ∙ get_or-map pieces.site_of b'.uses k d told high)) in
      let wanting : wants (class_of label_kinds (get_or (piece_sites constants from has.served) (k - length front) told).1 (get_or (piece_sites constants from has.served) (k - length front) told).2) ≡ true = ap (λ (t : Told). wants (class_of label_kinds t.1 t.2)) here ∙ want in
      let j : IsPieceJump constants from has.served (pieces.site_of (get_or b'.uses k d)) = subst (IsPieceJump constants from has.served) here (piece_jump constants from has.served has.serves.stops (k - length front) told (omega (arith, back, count, high)) wanting) in
      let q = has.serves.waited j.served d j.within in
      let is : get_or b'.uses q.index d ≡ get_or has.served j.served d = q.is d in
      let end_is : end_of b' ≡ from + 4 * length (piece_words constants from has.served) = omega (arith, ap length has.serves.words, length-append start.words (piece_words constants from has.served)) in
      let starts : from ≡ end_of m + front_size jump = begun_end label_kinds jump m in
      let short = j.class_is d in
      let cell = served_cell q.index d q.within (subst (λ (u : Use LabelUse). (class label_kinds u ≡ Near) ⊎ (class label_kinds u ≡ Middle)) (sym is) short) in
      let kinds = short_kind (get_or has.served j.served d).target (get_or has.served j.served d).kind short in
      inr (record {
        kind = j.kind;
        labelled = subst (λ t. IsSome (label_of t)) (j.target d) kinds.0;
        inside = omega (arith, j.place_is, j.inside, end_is);
        word =
            let at : (get_or b'.uses k d).offset / 4 ≡ length start.words + j.number = omega (arith, j.place_is) in
            ap (λ n. get_or b'.words n 0) at ∙ (ap (λ ws. get_or ws (length start.words + j.number) 0) has.serves.words ∙ (get_or-append-add start.words (piece_words constants from has.served) j.number 0 ∙ j.word));
        island = (end_of m, end_of b');
        listed = this_island (get_or b'.uses k d).offset (omega (arith, j.place_is, starts)) (omega (arith, j.place_is, j.inside, end_is));
        from = omega (arith, j.place_is, starts);
        before = omega (arith, j.place_is, j.inside, end_is);
        parent = q.index;
        within = q.within;
        short = λ e. subst (λ (u : Use LabelUse). (u.kind ≡ uses.Branch14) ⊎ (u.kind ≡ uses.Branch19)) (sym (q.is e ∙ (sym (q.is d) ∙ is))) kinds.1;
        target = λ e. ap (λ (u : Use LabelUse). u.target) (q.is e) ∙ sym (ap (λ (u : Use LabelUse). u.target) (q.is d)) ∙ ap (λ (u : Use LabelUse). u.target) is ∙ j.target d;
        owned = λ e. subst (λ (u : Use LabelUse). IsCellUse cells (site_of u)) (q.is d ∙ sym (q.is e)) cell;
        stops = λ e. ap (λ (u : Use LabelUse). u.stop) (q.is e ∙ sym (q.is d) ∙ is) ∙ j.stops d;
      })

  -- the jump over it wants nothing
  over_owned : (k : ℕ) (d : Use LabelUse) → length m.uses ≤ k → k < length start.uses → k < length b'.uses → IsOwned cells b' (get_or b'.uses k d)
  over_owned k d low inside h want = absurd (false≢true (sym (ap (λ (t : Told). wants (class_of label_kinds t.1 t.2)) (over_stays m b' has k d low inside h)) ∙ want))

  pub island_owned : All (IsOwned cells b') b'.uses
  island_owned k d h = elim (cases_lt k (length m.uses)) [
    | inl old ↦ owned_later cells cells m b' same_cells has.later more_islands k d old (owned k d old)
    | inr new ↦ elim (cases_lt k (length start.uses)) [
      | inl front ↦ over_owned k d new front h
      | inr behind ↦ new_owned k d behind h
    ]
  ]

-- ---- element by element

asked_owned : {jump : Bool} (cells : List (ℕ × Cell)) (x : ℕ) (f g : ForceVeneers) (m b' : Buffer LabelUse) → Asks x f g jump m b' → All (IsOwned cells m) m.uses → All (IsOwned cells b') b'.uses
asked_owned cells x f g m b' a all = elim a.outcome [ inr l ↦ subst (λ v. All (IsOwned cells v) v.uses) (sym l.same) all | inl w ↦ island_owned cells x g m b' w.island all ]

next_owned : (cells : List (ℕ × Cell)) (force : ForceVeneers) (goes_on : Bool) (o : Option ℕ) (m b' : Buffer LabelUse) → AsksNext force goes_on o m b' → All (IsOwned cells m) m.uses → All (IsOwned cells b') b'.uses
next_owned cells force goes_on None m b' e all = subst (λ v. All (IsOwned cells v) v.uses) (sym e) all
next_owned cells force goes_on (Some x) m b' a all = asked_owned cells x No force m b' a all

module _ (before after : List (ℕ × Cell)) (more : AreMore before after) (b : Buffer LabelUse) (owned : All (IsOwned before b) b.uses) where
  cells_owned : (cells : List Cell) → AreMore (placed (end_of b) cells) after → All (IsOwned after (appended b cells)) (appended b cells).uses
  cells_owned cells stand k d h = elim (cases_lt k (length b.uses)) [
    | inl old ↦ owned_later before after b (appended b cells) more (put_later b cells) (λ i c. c) k d old (owned k d old)
    | inr new ↦
        let from = new_from b cells k d new h in
        λ want. inl (
          (end_of b + 4 * from.index, get_or cells from.index no_cell),
          stand (end_of b + 4 * from.index, get_or cells from.index no_cell) (placed_has (end_of b) cells from.index no_cell from.within),
          sym from.place_is,
          from.site_is no_cell,
        )
  ]

  words_owned : (force : ForceVeneers) (goes_on : Bool) (cells : List Cell) (rest : List Element) (b' : Buffer LabelUse) → AreMore (placed (end_of b) cells) after → PutsWords force goes_on cells rest b b' → All (IsOwned after b') b'.uses
  words_owned force goes_on [] rest b' stand p = subst (λ v. All (IsOwned after v) v.uses) (sym p) (λ k d h. owned_later before after b b more (later_none b) (λ i c. c) k d h (owned k d h))
  words_owned force goes_on (c ∷ cs) rest b' stand p = next_owned after force goes_on (next_room rest) (appended b (c ∷ cs)) b' p (cells_owned (c ∷ cs) stand)

  element_owned : (force : ForceVeneers) (x : Element) (rest : List Element) (b' : Buffer LabelUse) → IsLater b b' → AreMore (placed (end_of b) (cells_in x)) after → Moves force x rest b b' → All (IsOwned after b') b'.uses
  element_owned force (Binding label) rest b' later stand p = λ k d h.
      let count : length b'.uses ≡ length b.uses = ap (λ (v : Buffer LabelUse). length v.uses) p ∙ length-map b.uses (closed_at label_kinds label (end_of b)) in
      let old : k < length b.uses = omega (arith, h, count) in
      owned_later before after b b' more later (λ i c. subst (λ (v : Buffer LabelUse). Contains v.islands i) (sym p) c) k d old (owned k d old)
  element_owned force (Words goes_on cells) rest b' later stand p = words_owned force goes_on cells rest b' stand p
  element_owned force (Asking space) rest b' later stand p = asked_owned after space force force b b' p (λ k d h. owned_later before after b b more (later_none b) (λ i c. c) k d h (owned k d h))

pub owned_none : (xs : List Element) (b : Buffer LabelUse) → b.uses ≡ [] → AreOwned xs 0 [] b
owned_none xs b e k d h = absurd (omega (arith, h, ap length e))

pub owned_step : (force : ForceVeneers) (xs : List Element) (k : ℕ) (places : List ℕ) (b b' : Buffer LabelUse) → length places ≡ k → k < length xs → IsLater b b' → Moves force (element_at xs k) (drop (k + 1) xs) b b' → AreOwned xs k places b → AreOwned xs (k + 1) (places ++ end_of b ∷ []) b'
owned_step force xs k places b b' count within later p owned =
    let lists : map cells_in (take (k + 1) xs) ≡ map cells_in (take k xs) ++ cells_in (element_at xs k) ∷ [] = ap (map cells_in) (take_more xs k (Asking 0) within) ∙ map-append cells_in (take k xs) (element_at xs k ∷ []) in
    let long : length places ≡ length (map cells_in (take k xs)) = omega (arith, count, length-map (take k xs) cells_in, length-take-le k xs (omega arith)) in
    let old : List (ℕ × Cell) = standing (map cells_in (take k xs)) places in
    let new : List (ℕ × Cell) = placed (end_of b) (cells_in (element_at xs k)) in
    let both : standing (map cells_in (take (k + 1) xs)) (places ++ end_of b ∷ []) ≡ old ++ new = ap (λ css. standing css (places ++ end_of b ∷ [])) lists ∙ standing-push (map cells_in (take k xs)) (cells_in (element_at xs k)) places (end_of b) long in
    subst (λ cells. All (IsOwned cells b') b'.uses) (sym both)
    (element_owned old (old ++ new) (λ s c. Contains-append_left old new s c) b owned force (element_at xs k) (drop (k + 1) xs) b' later (λ s c. Contains-append_right old new s c) p)
