-- What the beginning and the end of an island leave.
use Rattle.std.proofs.Common.{ℕ, ◌≡◌, ◌+◌, ◌/◌, ◌^◌, ◌<◌, ◌≤◌, ◌*◌, Bool, true, false, ◌⊎◌, List, [], ◌∷◌, ◌++◌, All, Any, map, length, get_or, Option, None, Some, IsSome, refl, sym, ap, ◌∙◌, subst, arith, inl, inr}
use Rattle.std.specs.Prelude.{MatchOption}
use Rattle.std.proofs.lemmas.Bool.{cases_lt, false≢true}
use Rattle.std.proofs.lemmas.List.{length_push, length-append, append-nil, get_or_push, get_or_append_left}
use Rattle.std.proofs.lemmas.List.Elements.{All-cons, All-append, All-push}
use Rattle.std.specs.FinMap.{get}
use Rattle.a64_buffer.specs.declared.site.Use.{Use}
use Rattle.a64_buffer.specs.declared.site.Target.{Target}
use Rattle.a64_buffer.specs.declared.site.Target.TheVariants.{Label, Constant, Trap, IslandEnd}
use Rattle.a64_buffer.specs.declared.class.Class.{Class}
use Rattle.a64_buffer.specs.Kinds.{Kinds, IsLawful}
use Rattle.a64_buffer.specs.Buffer.{Records, Buffer, end_of, goal_of, IsOutside}
use Rattle.a64_buffer.specs.Areas.{InArea}
use Rattle.a64_buffer.specs.Classes.{third, level_of, cost, class, range_of, is_open, weight_of, burden, owed, HasRoom}
use Rattle.a64_buffer.specs.Later.{IsSameUse, IsLater}
use Rattle.a64_buffer.specs.Sound.{IsPlaced, IsKinded, IsKnown, IsStop, IsRightlyOpen, IsStoppedOrOpen, IsSound, IsWhole, IsIsland, AreIslands}
use Rattle.a64_buffer.specs.Steps.{stopped, Adds, Within, everywhere, HoldFrom, MayWrite}
use Rattle.a64_buffer.specs.Pieces.{front_size, over_use, front_words, front_uses, begun, stop_for, BeginsWith}
use Rattle.a64_buffer.proofs.Growth.{Grows, stop_stays}
use Rattle.a64_buffer.proofs.Costs.{weight-append}
use Rattle.a64_buffer.proofs.Pays.{weight_none}
use Rattle.a64_buffer.proofs.Rooms.{within_from, next_within}
use Rattle.a64_buffer.proofs.Adding.{added_later, added_sound}
use Rattle.a64_buffer.proofs.ByPlace.{none_placed}
use Rattle.a64_buffer.proofs.Memory.{same_buffer}
use Rattle.a64_buffer.proofs.Laters.{front_stays}
use Rattle.a64_buffer.proofs.Serving.{stays_same}

pub in_everywhere : (end p size : ℕ) → end < 2 ^ 31 → p + size ≤ end → InArea everywhere p size
in_everywhere end p size short h = record { index = 0; within = omega arith; begins = omega arith; ends = omega arith }

module _ {K : Type 0} where
  -- the same buffer with other islands and records, and areas that hold what those before held
  pub sound_beside : (r : Kinds K) (b : Buffer K) (islands : List (ℕ × ℕ)) (records : Records) (areas areas' : List (ℕ × ℕ)) → IsSound r b areas → ((p size : ℕ) → p + size ≤ end_of b → InArea areas p size → InArea areas' p size) → IsSound r (record b { islands = islands; records = records }) areas'
  sound_beside r b islands records areas areas' s moves =
      let grows : Grows b (record b { islands = islands; records = records }) areas areas' = record { end = omega arith; words = λ i h. refl; uses = λ p t k h. h; free = λ p h i f. f; labels = λ l p e. e; constants = refl; traps = λ t h. h; moves = moves } in
      record {
        short = s.short;
        placed = s.placed;
        apart = s.apart;
        kinded = s.kinded;
        known = s.known;
        bound = s.bound;
        stops = λ k d h. go grows (get_or b.uses k d) (get_or b.uses k d).stop (s.stops k d h);
      }
    where
      go : Grows b (record b { islands = islands; records = records }) areas areas' → (u : Use K) (o : Option ℕ) → MatchOption o (IsRightlyOpen r b areas u.target u.kind u.offset) (IsStop r b areas u.target u.kind u.offset) → MatchOption o (IsRightlyOpen r (record b { islands = islands; records = records }) areas' u.target u.kind u.offset) (IsStop r (record b { islands = islands; records = records }) areas' u.target u.kind u.offset)
      go grows u None h = h
      go grows u (Some t) h = stop_stays r b (record b { islands = islands; records = records }) areas areas' s.placed grows u u.target u.kind u.offset t h

  pub map_none : (place : ℕ) (us : List (Use K)) → map (stopped (λ (v : Use K). false) place) us ≡ us
  map_none place [] = refl
  map_none place (u ∷ us) = ap (λ vs. u ∷ vs) (map_none place us)

  -- ---- an island that is begun

  module _ (r : Kinds K) (jump : Bool) where
    -- what holds of the jump holds of all that stands in front
    pub front_all : (P : Use K → Type 0) (place : ℕ) → P (over_use r place) → All P (front_uses r jump place)
    front_all P place h = go jump
      where
        go : (t : Bool) → All P (front_uses r t place)
        go true = All-cons P (over_use r place) [] h (λ k d l. absurd (omega arith))
        go false = λ k d l. absurd (omega arith)

    front_few : (place : ℕ) → length (front_uses r jump place) ≤ 1
    front_few place = go jump
      where
        go : (t : Bool) → length (front_uses r t place) ≤ 1
        go true = omega arith
        go false = omega arith

    pub begun_end : (b : Buffer K) → end_of (begun r jump b) ≡ end_of b + front_size jump
    begun_end b = omega (arith, length-append b.words (front_words r jump), go jump)
      where
        go : (t : Bool) → 4 * length (front_words r t) ≡ front_size t
        go true = omega arith
        go false = omega arith

    pub front_short : front_size jump ≤ 4
    front_short = go jump
      where
        go : (t : Bool) → front_size t ≤ 4
        go true = omega arith
        go false = omega arith

    pub begun_weight : (b : Buffer K) (w : Class → ℕ) → weight_of r w (begun r jump b).uses ≡ weight_of r w b.uses
    begun_weight b w = omega (arith, weight-append r w b.uses (front_uses r jump (end_of b)), go jump)
      where
        go : (t : Bool) → weight_of r w (front_uses r t (end_of b)) ≡ 0
        go true = weight_none r w (over_use r (end_of b)) refl
        go false = omega arith

    -- the uses of before stay, and the jump comes behind them
    pub begun_old : (b : Buffer K) (k : ℕ) (d : Use K) → k < length b.uses → get_or (begun r jump b).uses k d ≡ get_or b.uses k d
    begun_old b k d h = get_or_append_left b.uses (front_uses r jump (end_of b)) d k h

    pub begun_new : (b : Buffer K) (k : ℕ) (d : Use K) → length b.uses ≤ k → k < length (begun r jump b).uses → get_or (begun r jump b).uses k d ≡ over_use r (end_of b)
    begun_new b k d low = go jump
      where
        go : (t : Bool) → k < length (begun r t b).uses → get_or (begun r t b).uses k d ≡ over_use r (end_of b)
        go true high = let at : length b.uses ≡ k = omega (arith, low, high, length_push b.uses (over_use r (end_of b))) in get_or_push b.uses (over_use r (end_of b)) d k at
        go false high = absurd (omega (arith, low, high, length-append b.uses []))

    pub begun_count : (b : Buffer K) → length (begun r jump b).uses ≤ length b.uses + 1
    begun_count b = omega (arith, length-append b.uses (front_uses r jump (end_of b)), front_few (end_of b))

    pub begun_has : (b : Buffer K) → jump ≡ true → length b.uses < length (begun r jump b).uses
    begun_has b e = subst (λ (t : Bool). length b.uses < length (begun r t b).uses) (sym e) (omega (arith, length_push b.uses (over_use r (end_of b))))

    -- only a jump stands there
    pub begun_jumps : (b : Buffer K) (k : ℕ) → length b.uses ≤ k → k < length (begun r jump b).uses → jump ≡ true
    begun_jumps b k low = go jump
      where
        go : (t : Bool) → k < length (begun r t b).uses → t ≡ true
        go true high = refl
        go false high = absurd (omega (arith, low, high, length-append b.uses []))

  -- without a jump nothing is begun
  pub begun_none : (r : Kinds K) (b : Buffer K) → begun r false b ≡ b
  begun_none r b = same_buffer _ _ _ _ _ _ _ _ _ _ _ _ _ _ (append-nil b.words) (append-nil b.uses) refl refl refl refl refl

  module _ (r : Kinds K) (law : IsLawful r) (jump : Bool) (b : Buffer K) where
    adds_begun : Adds (λ (v : Use K). false) (end_of b) (front_words r jump) (front_uses r jump (end_of b)) [] b (begun r jump b)
    adds_begun = record { words = refl; uses = ap (λ us. us ++ front_uses r jump (end_of b)) (sym (map_none (end_of b) b.uses)); labels = refl; islands = refl; traps_are = sym (append-nil b.traps); constants = refl; records = refl }

    module _ (areas : List (ℕ × ℕ)) (s : IsSound r b areas) where
      behind : All (λ u. end_of b ≤ u.offset) (front_uses r jump (end_of b))
      behind = front_all r jump (λ (u : Use K). end_of b ≤ u.offset) (end_of b) (omega arith)

      pub begun_later : IsLater b (begun r jump b)
      begun_later = added_later r law b (begun r jump b) areas (λ v. false) (end_of b) (front_words r jump) (front_uses r jump (end_of b)) [] s adds_begun behind (λ k d h e. absurd (false≢true e)) (omega arith) (none_placed (end_of b) (end_of (begun r jump b)))

      pub begun_sound : end_of b + 4 < 2 ^ 31 → IsSound r (begun r jump b) areas
      begun_sound short =
          added_sound r law b (begun r jump b) areas (λ v. false) (end_of b) (front_words r jump) (front_uses r jump (end_of b)) [] s adds_begun behind (λ k d h e. absurd (false≢true e))
          (omega (arith, begun_end r jump b, front_short r jump))
          (placed jump refl)
          (λ j k d lt h. absurd (omega (arith, lt, h, front_few r jump (end_of b))))
          (front_all r jump (λ (u : Use K). IsKinded r u.target u.kind) (end_of b) refl)
          (front_all r jump (λ (u : Use K). IsKnown b.constants u.target) (end_of b) tt)
          (front_all r jump (IsStoppedOrOpen r (begun r jump b) areas) (end_of b) tt)
        where
          placed : (t : Bool) → jump ≡ t → All (IsPlaced (end_of (begun r jump b))) (front_uses r jump (end_of b))
          placed true e = front_all r jump (IsPlaced (end_of (begun r jump b))) (end_of b) (record { aligned = omega arith; inside = omega (arith, begun_end r jump b, ap front_size e) })
          placed false e = subst (λ (t : Bool). All (IsPlaced (end_of (begun r jump b))) (front_uses r t (end_of b))) (sym e) (λ k d h. absurd (omega arith))

    pub begun_within : (more : ℕ) → HasRoom r (end_of b) b.uses more → Within r (end_of (begun r jump b)) (begun r jump b).uses more
    begun_within more h = record {
      rooms = All-append (λ (u : Use K). is_open r u ≡ true → end_of (begun r jump b) + more + burden r (level_of (class r u)) (begun r jump b).uses ≤ u.offset + range_of r (level_of (class r u))) b.uses (front_uses r jump (end_of b))
          (λ k d w o. let x = h.rooms k d w o in omega (arith, begun_end r jump b, front_short r jump, begun_weight r jump b (cost (level_of (class r (get_or b.uses k d))))))
          (front_all r jump (λ (u : Use K). is_open r u ≡ true → end_of (begun r jump b) + more + burden r (level_of (class r u)) (begun r jump b).uses ≤ u.offset + range_of r (level_of (class r u))) (end_of b) (λ o. absurd (false≢true o)));
    }

    pub may_begin : IsWhole r b → end_of b + owed r b + 4 < 2 ^ 31 → MayWrite r (begun r jump b)
    may_begin whole short = record {
      sound = sound_beside r (begun r jump b) b.islands b.records b.islands everywhere (begun_sound b.islands whole.sound (omega arith)) (λ p size h i. in_everywhere (end_of (begun r jump b)) p size (omega (arith, begun_end r jump b, front_short r jump)) h);
      room = begun_within 0 whole.fits;
      short = omega (arith, begun_end r jump b, front_short r jump, begun_weight r jump b (cost third));
    }

  module _ (r : Kinds K) (law : IsLawful r) (b : Buffer K) where
    -- the areas of an island that is being written
    abbrev pub open_areas : List (ℕ × ℕ)
    open_areas = b.islands ++ (end_of b, 2 ^ 32) ∷ []

    pub more_areas : (more : ℕ × ℕ) (p size : ℕ) → InArea b.islands p size → InArea (b.islands ++ more ∷ []) p size
    more_areas more p size i =
        let same : get_or (b.islands ++ more ∷ []) i.index (0, 0) ≡ get_or b.islands i.index (0, 0) = get_or_append_left b.islands (more ∷ []) (0, 0) i.index i.within in
        record {
          index = i.index;
          within = omega (arith, i.within, length_push b.islands more);
          begins = subst (λ (a : ℕ × ℕ). a.0 ≤ p) (sym same) i.begins;
          ends = subst (λ (a : ℕ × ℕ). p + size ≤ a.1) (sym same) i.ends;
        }

    pub open_hold : HoldFrom open_areas (end_of b)
    open_hold p size le fits =
        let here : get_or open_areas (length b.islands) (0, 0) ≡ (end_of b, 2 ^ 32) = get_or_push b.islands (end_of b, 2 ^ 32) (0, 0) (length b.islands) refl in
        record {
          index = length b.islands;
          within = omega (arith, length_push b.islands (end_of b, 2 ^ 32));
          begins = subst (λ (a : ℕ × ℕ). a.0 ≤ p) (sym here) le;
          ends = subst (λ (a : ℕ × ℕ). p + size ≤ a.1) (sym here) fits;
        }

    pub begun_sound_in : (jump : Bool) → IsWhole r b → end_of b + 4 < 2 ^ 31 → IsSound r (begun r jump b) open_areas
    begun_sound_in jump whole short = sound_beside r (begun r jump b) b.islands b.records b.islands open_areas (begun_sound r law jump b b.islands whole.sound short) (λ p size h i. more_areas (end_of b, 2 ^ 32) p size i)

    -- an area that ends with the code is as good
    pub close_areas : (end p size : ℕ) → p + size ≤ end → InArea open_areas p size → InArea (b.islands ++ (end_of b, end) ∷ []) p size
    close_areas end p size h i = elim (cases_lt i.index (length b.islands)) [
      | inl lt ↦
          let before : get_or open_areas i.index (0, 0) ≡ get_or b.islands i.index (0, 0) = get_or_append_left b.islands ((end_of b, 2 ^ 32) ∷ []) (0, 0) i.index lt in
          more_areas (end_of b, end) p size (record { index = i.index; within = lt; begins = subst (λ (a : ℕ × ℕ). a.0 ≤ p) before i.begins; ends = subst (λ (a : ℕ × ℕ). p + size ≤ a.1) before i.ends })
      | inr ge ↦
          let last : length b.islands ≡ i.index = omega (arith, i.within, length_push b.islands (end_of b, 2 ^ 32)) in
          let before : get_or open_areas i.index (0, 0) ≡ (end_of b, 2 ^ 32) = get_or_push b.islands (end_of b, 2 ^ 32) (0, 0) i.index last in
          let now : get_or (b.islands ++ (end_of b, end) ∷ []) i.index (0, 0) ≡ (end_of b, end) = get_or_push b.islands (end_of b, end) (0, 0) i.index last in
          record {
            index = i.index;
            within = omega (arith, last, length_push b.islands (end_of b, end));
            begins = subst (λ (a : ℕ × ℕ). a.0 ≤ p) (sym now) (subst (λ (a : ℕ × ℕ). a.0 ≤ p) before i.begins);
            ends = subst (λ (a : ℕ × ℕ). p + size ≤ a.1) (sym now) h;
          }
    ]

    -- what is owed is in reach of a jump
    pub jump_reach : IsWhole r b → 4 + owed r b ≤ r.forward r.jump
    jump_reach whole =
        let within : Within r (end_of b) b.uses 4 = within_from r law (end_of b) b.uses 0 whole.fits in
        let x : 4 + owed r b ≤ r.range 3 = next_within r law (end_of b) b.uses 4 (over_use r 0) whole.sound.placed within law.third_least in
        let e : r.forward r.jump ≡ r.range 3 = law.one_range r.jump (omega (arith, law.jump_urgency)) ∙ ap r.range law.jump_urgency in
        omega (arith, x, e)

-- what is owed fits 32 bits
pub owed_short : {K : Type 0} (r : Kinds K) (law : IsLawful r) (b : Buffer K) → IsWhole r b → owed r b < 2 ^ 32
owed_short r law b whole =
    let e : r.forward r.jump ≡ r.range 3 = law.one_range r.jump (omega (arith, law.jump_urgency)) ∙ ap r.range law.jump_urgency in
    omega (arith, jump_reach r law b whole, e, law.third_short)

-- ---- islands stay

-- the words and uses of a buffer stay, new uses stand outside of its islands, and labels are bound behind them
pub record Keeps {K : Type 0} (b b' : Buffer K) : Type 0 where
  pub end : end_of b ≤ end_of b'
  pub words : (i : ℕ) → i < length b.words → get_or b'.words i 0 ≡ get_or b.words i 0
  pub count : length b.uses ≤ length b'.uses
  pub uses : (k : ℕ) (d : Use K) → k < length b.uses → IsSameUse (end_of b) (get_or b.uses k d) (get_or b'.uses k d)
  pub fresh : (k : ℕ) (d : Use K) → length b.uses ≤ k → k < length b'.uses → IsOutside b.islands (get_or b'.uses k d).offset
  pub constants : b'.constants ≡ b.constants
  pub labels : (label place : ℕ) → get b'.labels label ≡ Some place → (get b.labels label ≡ Some place) ⊎ (end_of b ≤ place)

pub later_keeps : {K : Type 0} (r : Kinds K) (b b' : Buffer K) → AreIslands r b → IsLater b b' → b'.labels ≡ b.labels → Keeps b b'
later_keeps r b b' a l same = record {
  end = l.end;
  words = l.words;
  count = l.count;
  uses = l.uses;
  fresh = λ k d low high j e h. let x = (a.each j e h).inside in let y = l.fresh k d low high in inr (omega arith);
  constants = l.constants;
  labels = λ label place at. inl (ap (λ ls. get ls label) (sym same) ∙ at);
}

-- so an island begins as it did
pub begins_stay : {K : Type 0} (r : Kinds K) (b b' : Buffer K) (j : ℕ) (e : ℕ × ℕ) → j < length b.islands → Keeps b b' → (get_or b.islands j e).1 ≤ end_of b → Any (BeginsWith r b (get_or b.islands j e)) b.uses → Any (BeginsWith r b' (get_or b.islands j e)) b'.uses
begins_stay {K = K} r b b' j e within l low (k, u, h, at, p) = (
  k,
  u,
  omega (arith, h, l.count),
  stays_same (end_of b) u (get_or b'.uses k u) (subst (λ (w : Use K). IsSameUse (end_of b) w (get_or b'.uses k u)) at (l.uses k u h)) (subst IsSome (sym p.stops) refl),
  record {
    wanted = p.wanted;
    stop = p.stop;
    stops = p.stops;
    at_piece = p.at_piece ∙ ap (λ cs. stop_for r cs (class r u) u.target (get_or b.islands j e).0) (sym l.constants);
    inside = p.inside;
    elsewhere = λ g. elim (goal_was u.target p.stop g) [ inl was ↦ p.elsewhere was | inr behind ↦ omega (arith, behind, p.inside, low) ];
    zeros = λ i from to.
        let z = p.zeros i from to in (
          l.words i (omega (arith, to, p.inside, low)) ∙ z.0,
          λ m d hm q. elim (cases_lt m (length b.uses)) [
            | inl lt ↦ z.1 m d lt (sym (l.uses m d lt).offset ∙ q)
            | inr ge ↦ elim (l.fresh m d ge hm j e within) [ inl less ↦ omega (arith, less, q, from) | inr more ↦ omega (arith, more, q, to, p.inside) ]
          ],
        );
  },
)
  where
    goal_was : (t : Target) (place : ℕ) → goal_of b'.labels t ≡ Some place → (goal_of b.labels t ≡ Some place) ⊎ (end_of b ≤ place)
    goal_was (Label label) place g = l.labels label.0 place g
    goal_was (Constant c) place g = inl g
    goal_was (Trap code) place g = inl g
    goal_was IslandEnd place g = inl g

pub island_stays : {K : Type 0} (r : Kinds K) (b b' : Buffer K) (j : ℕ) (e : ℕ × ℕ) → j < length b.islands → Keeps b b' → IsIsland r b (get_or b.islands j e) → IsIsland r b' (get_or b.islands j e)
island_stays r b b' j e within l i = record {
  aligned = i.aligned;
  long = i.long;
  inside = omega (arith, i.inside, l.end);
  over = λ k d h front. elim (cases_lt k (length b.uses)) [
    | inl lt ↦
        let same = l.uses k d lt in
        let over = i.over k d lt (sym same.offset ∙ front.0, sym same.target ∙ front.1) in
        record {
          word = l.words ((get_or b.islands j e).0 / 4) (omega (arith, i.inside, i.long, i.aligned)) ∙ over.word;
          kind = same.kind ∙ over.kind;
          stop = same.kept (get_or b.islands j e).1 over.stop;
        }
    | inr ge ↦ absurd (elim (l.fresh k d ge h j e within) [ inl low ↦ omega (arith, low, front.0) | inr high ↦ omega (arith, high, front.0, i.long) ])
  ];
  begins = elim i.begins [
    | inl jump ↦ inl (front_stays b b' (get_or b.islands j e) l.count l.uses jump)
    | inr piece ↦ inr (begins_stay r b b' j e within l i.inside piece)
  ];
}

pub islands_stay : {K : Type 0} (r : Kinds K) (b b' : Buffer K) → Keeps b b' → b'.islands ≡ b.islands → AreIslands r b → AreIslands r b'
islands_stay r b b' keeps same a = record {
  each = subst (All (IsIsland r b')) (sym same) (λ k d h. island_stays r b b' k d h keeps (a.each k d h));
  in_order = subst (λ (is : List (ℕ × ℕ)). (j k : ℕ) → j < k → k < length is → (get_or is j (0, 0)).1 ≤ (get_or is k (0, 0)).0) (sym same) a.in_order;
}

pub islands_more : {K : Type 0} (r : Kinds K) (b b' : Buffer K) (end : ℕ) → IsLater b b' → b'.labels ≡ b.labels → b'.islands ≡ b.islands ++ (end_of b, end) ∷ [] → AreIslands r b → IsIsland r b' (end_of b, end) → AreIslands r b'
islands_more r b b' end later same is a new = record {
  each = subst (All (IsIsland r b')) (sym is) (All-push (IsIsland r b') b.islands (end_of b, end) (λ k d h. island_stays r b b' k d h (later_keeps r b b' a later same) (a.each k d h)) new);
  in_order = λ j k lt h. subst (λ (is : List (ℕ × ℕ)). (get_or is j (0, 0)).1 ≤ (get_or is k (0, 0)).0) (sym is) (order j k lt (omega (arith, h, ap length is)));
}
  where
    order : (j k : ℕ) → j < k → k < length (b.islands ++ (end_of b, end) ∷ []) → (get_or (b.islands ++ (end_of b, end) ∷ []) j (0, 0)).1 ≤ (get_or (b.islands ++ (end_of b, end) ∷ []) k (0, 0)).0
    order j k lt h = elim (cases_lt k (length b.islands)) [
      | inl below ↦
          let first' : j < length b.islands = omega arith in
          let x : get_or (b.islands ++ (end_of b, end) ∷ []) j (0, 0) ≡ get_or b.islands j (0, 0) = get_or_append_left b.islands ((end_of b, end) ∷ []) (0, 0) j first' in
          let y : get_or (b.islands ++ (end_of b, end) ∷ []) k (0, 0) ≡ get_or b.islands k (0, 0) = get_or_append_left b.islands ((end_of b, end) ∷ []) (0, 0) k below in
          omega (arith, a.in_order j k lt below, ap (λ (a : ℕ × ℕ). a.1) x, ap (λ (a : ℕ × ℕ). a.0) y)
      | inr past ↦
          let last : length b.islands ≡ k = omega (arith, length_push b.islands (end_of b, end)) in
          let first' : j < length b.islands = omega arith in
          let x : get_or (b.islands ++ (end_of b, end) ∷ []) j (0, 0) ≡ get_or b.islands j (0, 0) = get_or_append_left b.islands ((end_of b, end) ∷ []) (0, 0) j first' in
          let y : get_or (b.islands ++ (end_of b, end) ∷ []) k (0, 0) ≡ (end_of b, end) = get_or_push b.islands (end_of b, end) (0, 0) k last in
          let z = a.each j (0, 0) first' in
          omega (arith, z.inside, ap (λ (a : ℕ × ℕ). a.1) x, ap (λ (a : ℕ × ℕ). a.0) y)
    ]
