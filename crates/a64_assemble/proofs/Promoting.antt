-- What an island holds, told from finished code.
use Rattle.std.proofs.Common.{Option, ℕ, zero, suc, ◌≡◌, ◌⊎◌, ◌+◌, ◌-◌, ◌*◌, ◌%◌, ◌^◌, ◌<◌, ◌≤◌, Bool, true, false, cond, List, [], ◌∷◌, All, length, get_or, take, drop, None, Some, refl, sym, ap, ◌∙◌, subst, arith, inl, inr}
use Rattle.std.specs.Prelude.{IfSome, IsSome, count_by, sum_by}
use Rattle.std.specs.FinMap.{get}
use Rattle.std.proofs.lemmas.Bool.{cases_lt, false≢true}
use Rattle.std.proofs.lemmas.List.{get_or-take, get_or-drop, length-take-le, length-drop}
use Rattle.std.proofs.lemmas.List.Sums.{sum_by-cons, sum_by-take-drop, get_or-le-sum_by}
use Rattle.a64_buffer.specs.declared.class.Class.TheVariants.{Far}
use Rattle.a64_buffer.specs.declared.force.ForceVeneers.{ForceVeneers}
use Rattle.a64_buffer.specs.declared.site.Use.{Use}
use Rattle.a64_buffer.specs.Buffer.{Buffer, end_of, label_of, goal_of}
use Rattle.a64_buffer.specs.Classes.{third, cost, wants, level_of, class, range_of, is_open, weigh, burden, Fits}
use Rattle.a64_buffer.specs.Later.{IsSameUse, IsLater}
use Rattle.a64_buffer.specs.Sound.{IsWhole}
use Rattle.a64_buffer.specs.Islands.{IsBeforePromotion, LeavesFar, HasIsland}
use Rattle.a64_buffer.proofs.Laters.{later_trans, was_open}
use Rattle.a64_buffer.proofs.Rooms.{open_wants, open_stop, few_bytes}
use Rattle.a64_label_use.specs.declared.label_use.LabelUse.{LabelUse}
use Rattle.a64_label_use.specs.LabelUses.{label_kinds}
use Rattle.a64_assemble.specs.Elements.{Element, is_bound_by, falls_in, element_at}
use Rattle.a64_assemble.specs.OpenUses.{stops_from, is_open_in, is_open_at, SomeOpenAt, Needs, StopsIn, Holds, IsCaused, WasAsked}
use Rattle.a64_assemble.proofs.Opens.{OpenParts, open_parts, parts_open, from_stop, from_to, counts_le, burden_open, misfit, at_bound, at_label, stop_at, some_place, still_open, needs_from, some_from}
use Rattle.a64_assemble.proofs.Forcing.{StopsAtGoal, at_goal, below_or_goal, stop_there}
use Rattle.a64_buffer.proofs.Islands.{front_short}
use Rattle.a64_buffer.specs.Pieces.{front_size}

-- ---- counts

abbrev ones : (Use LabelUse → Bool) → Use LabelUse → ℕ
ones q u = cond (q u) 1 0

use_most : (u : Use LabelUse) → weigh label_kinds (cost third) u ≤ 28 * ones (is_open label_kinds) u
use_most u = elim (is_open label_kinds u) as (λ b. cond b (cost third (class label_kinds u)) 0 ≤ 28 * cond b 1 0) [ true ↦ few_bytes third (class label_kinds u) | false ↦ omega arith ]

-- an open use of the longest range leaves a part of its 28
less_owed : (us : List (Use LabelUse)) (j : ℕ) (d : Use LabelUse) → j < length us → is_open label_kinds (get_or us j d) ≡ true → class label_kinds (get_or us j d) ≡ Far → burden label_kinds third us + 8 ≤ 28 * count_by (is_open label_kinds) us
less_owed [] j d w o l = absurd (omega arith)
less_owed (u ∷ us) zero d w o l =
    let c : weigh label_kinds (cost third) u ≡ cost third (class label_kinds u) = ap (λ b. cond b (cost third (class label_kinds u)) 0) o in
    let n : ones (is_open label_kinds) u ≡ 1 = ap (λ b. cond {A = ℕ} b 1 0) o in
    omega (arith, sum_by-cons (weigh label_kinds (cost third)) u us, sum_by-cons (ones (is_open label_kinds)) u us, c, n, ap (cost third) l, burden_open third us)
less_owed (u ∷ us) (suc j) d w o l = omega (arith, sum_by-cons (weigh label_kinds (cost third)) u us, sum_by-cons (ones (is_open label_kinds)) u us, use_most u, less_owed us j d (omega arith) o l)

-- a list that has one more that passes behind the first
one_more : (p q : Use LabelUse → Bool) (xs ys : List (Use LabelUse)) (j : ℕ) (d : Use LabelUse) → length xs ≤ j → j < length ys → q (get_or ys j d) ≡ true → ((k : ℕ) (d : Use LabelUse) → k < length xs → p (get_or xs k d) ≡ true → q (get_or ys k d) ≡ true) → count_by p xs + 1 ≤ count_by q ys
one_more p q xs ys j d lo hi here h =
    let n : ℕ = length xs in
    let head : count_by p xs ≤ count_by q (take n ys) = counts_le p q xs (take n ys) (omega (arith, length-take-le n ys (omega arith))) (λ k e w o. subst (λ u. q u ≡ true) (sym (get_or-take n ys k e w)) (h k e w o)) in
    let at : get_or (drop n ys) (j - n) d ≡ get_or ys j d = get_or-drop n ys (j - n) d ∙ (let z : n + (j - n) ≡ j = omega arith in ap (λ i. get_or ys i d) z) in
    let tail : ones q (get_or (drop n ys) (j - n) d) ≤ sum_by (ones q) (drop n ys) = get_or-le-sum_by (ones q) (drop n ys) (j - n) d (omega (arith, length-drop n ys)) in
    let one : ones q (get_or (drop n ys) (j - n) d) ≡ 1 = ap (ones q) at ∙ ap (λ b. cond {A = ℕ} b 1 0) here in
    omega (arith, head, tail, one, sum_by-take-drop (ones q) ys n)

-- no label is bound to the end
abbrev pub AreBefore : Buffer LabelUse → Type 0
AreBefore m = (label place : ℕ) → get m.labels label ≡ Some place → place < end_of m

module _ (force : ForceVeneers) (xs : List Element) (f : Buffer LabelUse) (k distance : ℕ) (jump : Bool) (m w : Buffer LabelUse) (whole : IsWhole label_kinds m) (has : HasIsland label_kinds distance force jump m w) (since : IsLater w f) (stops : All (λ u. wants (class label_kinds u) ≡ true → IsSome u.stop) f.uses) (bound : (n : ℕ) → is_bound_by (take (k + 1) xs) n ≡ true → IsSome (get m.labels n)) (only : (label place : ℕ) → get m.labels label ≡ Some place → is_bound_by (take (k + 1) xs) label ≡ true) (earlier : jump ≡ false → AreBefore m) where
  all_later : IsLater m f
  all_later = later_trans m w f has.later since

  alike_class : (end : ℕ) (u v : Use LabelUse) → IsSameUse end u v → class label_kinds v ≡ class label_kinds u
  alike_class end u v same = ap (λ t. class label_kinds (record v { target = t })) same.target ∙ ap (λ q. class label_kinds (record v { target = u.target; kind = q })) same.kind

  -- a stop of what is open is not its label's place
  low_stop : (u v : Use LabelUse) (s limit : ℕ) → v.target ≡ u.target → v.stop ≡ Some s → OpenParts xs f k (end_of m) (end_of w) v → (s < limit) ⊎ StopsAtGoal m u s → s < limit
  low_stop u v s limit target stop parts where' = elim where' [
    | inl lt ↦ lt
    | inr g ↦ absurd (parts.away (at_label xs f.labels k g.label s (label_of v.target) v.stop (ap label_of target ∙ g.labelled) stop (all_later.labels g.label s g.goal) (only g.label s g.goal)))
  ]

  -- what is open there was made by then
  made_by : (j : ℕ) (d : Use LabelUse) → j < length f.uses → OpenParts xs f k (end_of m) (end_of w) (get_or f.uses j d) → j < length w.uses
  made_by j d within parts = elim (cases_lt j (length w.uses)) [
    | inl lt ↦ lt
    | inr ge ↦ let x : end_of w ≤ (get_or f.uses j d).offset = since.fresh j d ge within in absurd (omega (arith, x, parts.before))
  ]

  -- and what is closed by then stops in the island
  stops_in : (j : ℕ) (d : Use LabelUse) → j < length w.uses → is_open label_kinds (get_or w.uses j d) ≡ false → StopsIn xs f k (end_of m, end_of w) (get_or f.uses j d)
  stops_in j d lt closed o =
      let u : Use LabelUse = get_or w.uses j d in
      let v : Use LabelUse = get_or f.uses j d in
      let same : IsSameUse (end_of w) (get_or w.uses j d) (get_or f.uses j d) = since.uses j d lt in
      let parts = open_parts xs f k (end_of m) (end_of w) v o in
      let want : wants (class label_kinds u) ≡ true = ap wants (sym (alike_class (end_of w) u v same)) ∙ parts.wanting in
      let stop : (t : ℕ) × (u.stop ≡ Some t) = stop_there u want closed in
      let at : v.stop ≡ Some stop.0 = same.kept stop.0 stop.1 in (
        stop.0,
        at,
        low_stop u v stop.0 (end_of w) same.target at parts (elim (below_or_goal w has.whole j d lt want stop.0 stop.1) [
          | inl low ↦ inl low
          | inr g ↦ inr (record { label = g.label; labelled = g.labelled; goal = ap (λ ls. get ls g.label) (sym has.labels) ∙ g.goal })
        ]),
      )

  -- what the island leaves open is of the longest range
  only_far : All (λ u. is_open label_kinds u ≡ true → class label_kinds u ≡ Far) w.uses
  only_far j d within o = elim has.promotion.outcome [
    | inl none ↦
        let lt : j < length has.promotion.before.uses = omega (arith, within, none.count) in
        let same = has.promotion.then'.uses j d lt in
        alike_class (end_of has.promotion.before) (get_or has.promotion.before.uses j d) (get_or w.uses j d) same ∙ has.promotion.is.only_far j d lt (was_open label_kinds (end_of has.promotion.before) (get_or has.promotion.before.uses j d) (get_or w.uses j d) same o)
    | inr all ↦ absurd (false≢true (sym (all.closed j d within) ∙ o))
  ]

  near_stops : All (λ u. (class label_kinds u ≡ Far → ⊥) → StopsIn xs f k (end_of m, end_of w) u) f.uses
  near_stops j d within near o =
      let lt : j < length w.uses = made_by j d within (open_parts xs f k (end_of m) (end_of w) (get_or f.uses j d) o) in
      let same : IsSameUse (end_of w) (get_or w.uses j d) (get_or f.uses j d) = since.uses j d lt in
      elim (is_open label_kinds (get_or w.uses j d)) as (λ b. is_open label_kinds (get_or w.uses j d) ≡ b → (stop : ℕ) × ((get_or f.uses j d).stop ≡ Some stop) × (stop < end_of w)) [
        | true ↦ λ e. absurd (near (alike_class (end_of w) (get_or w.uses j d) (get_or f.uses j d) same ∙ only_far j d lt e))
        | false ↦ λ e. stops_in j d lt e o
      ] refl

  -- none is promoted
  far_stays : LeavesFar label_kinds distance force has.promotion.before w → All (λ u. class label_kinds u ≡ Far → is_open_in xs f k (end_of m) (end_of w) u ≡ true → stops_from (end_of w) u.stop ≡ true) f.uses
  far_stays none j d within far o =
      let parts = open_parts xs f k (end_of m) (end_of w) (get_or f.uses j d) o in
      let lt : j < length w.uses = made_by j d within parts in
      let same : IsSameUse (end_of w) (get_or w.uses j d) (get_or f.uses j d) = since.uses j d lt in
      from_stop (end_of w) (get_or f.uses j d).stop (stops j d within parts.wanting) (λ t e. late t e same lt parts (get_or w.uses j d).stop refl)
    where
      late : (t : ℕ) → (get_or f.uses j d).stop ≡ Some t → IsSameUse (end_of w) (get_or w.uses j d) (get_or f.uses j d) → j < length w.uses → OpenParts xs f k (end_of m) (end_of w) (get_or f.uses j d) → (q : Option ℕ) → (get_or w.uses j d).stop ≡ q → end_of w ≤ t
      late t e same lt parts None q = same.later t q e
      late t e same lt parts (Some s) q =
          let is : s ≡ t = some_is (sym (same.kept s q) ∙ e) in
          let early : j < length has.promotion.before.uses = omega (arith, lt, none.count) in
          let p : Use LabelUse = get_or has.promotion.before.uses j d in
          let older = has.promotion.then'.uses j d early in
          before s is q early older p.stop refl
        where
          some_is : Some s ≡ Some t → s ≡ t
          some_is g = cc

          before : (s : ℕ) → s ≡ t → (get_or w.uses j d).stop ≡ Some s → j < length has.promotion.before.uses → IsSameUse (end_of has.promotion.before) (get_or has.promotion.before.uses j d) (get_or w.uses j d) → (r : Option ℕ) → (get_or has.promotion.before.uses j d).stop ≡ r → end_of w ≤ t
          before s is q early older None r = let x = older.later s r q in omega (arith, x, none.end, is)
          before s is q early older (Some g) r =
              let p : Use LabelUse = get_or has.promotion.before.uses j d in
              let v : Use LabelUse = get_or f.uses j d in
              let eq : g ≡ s = same_some (sym (older.kept g r) ∙ q) in
              let is_far : class label_kinds p ≡ Far = sym (alike_class (end_of w) (get_or w.uses j d) v same ∙ alike_class (end_of has.promotion.before) p (get_or w.uses j d) older) ∙ far in
              let waits : (g < end_of m) ⊎ (goal_of m.labels p.target ≡ Some g) = subst (λ o. IfSome o (λ stop. (stop < end_of m) ⊎ (goal_of m.labels p.target ≡ Some stop))) r (has.promotion.is.far_waits j d early is_far) in
              let at : v.stop ≡ Some g = e ∙ ap (λ n. Some n) (sym (eq ∙ is)) in
              let low : g < end_of m = low_stop p v g (end_of m) (same.target ∙ older.target) at parts (elim waits [ inl lt ↦ inl lt | inr goal ↦ inr (at_goal m p g (label_of p.target) refl goal) ]) in
              let high : end_of m ≤ g = from_to (end_of m) v.stop g at parts.from in
              absurd (omega (arith, low, high))
            where
              same_some : Some g ≡ Some s → g ≡ s
              same_some h = cc

  -- all are promoted
  far_stops : All (λ u. is_open label_kinds u ≡ false) w.uses → All (λ u. class label_kinds u ≡ Far → StopsIn xs f k (end_of m, end_of w) u) f.uses
  far_stops closed j d within far o = let lt : j < length w.uses = made_by j d within (open_parts xs f k (end_of m) (end_of w) (get_or f.uses j d) o) in stops_in j d lt (closed j d lt) o

  -- what was open in the buffer before the island is open in the finished code, seen from the island's end too
  wider : (v : Use LabelUse) → is_open_at xs f k (end_of m) v ≡ true → is_open_in xs f k (end_of m) (end_of w) v ≡ true
  wider v o =
      let parts = open_parts xs f k (end_of m) (end_of m) v o in
      parts_open xs f k (end_of m) (end_of w) v (record { before = let long = has.long in omega (arith, parts.before, long); wanting = parts.wanting; from = parts.from; away = parts.away })

  needs_far : (p : Buffer LabelUse) → IsBeforePromotion label_kinds jump m p → IsLater p w → (Fits label_kinds p distance → ⊥) → Needs xs f k (end_of m) (end_of w) distance (λ u. class label_kinds u ≡ Far)
  needs_far p is later never =
      let x = misfit (end_of p) p.uses distance never in
      let rest : IsLater p f = later_trans p w f later since in
      record {
        index = x.index;
        within = omega (arith, x.within, rest.count);
        open' = λ d. opened x.index d x.within (x.opened d);
        passed = λ d. is_far x.index d x.within (x.opened d);
        late = λ d.
            let u : Use LabelUse = get_or p.uses x.index d in
            let same : IsSameUse (end_of p) (get_or p.uses x.index d) (get_or f.uses x.index d) = rest.uses x.index d x.within in
            let far : class label_kinds u ≡ Far = is.only_far x.index d x.within (x.opened d) in
            let late : u.offset + range_of label_kinds third < end_of p + distance + 4 + burden label_kinds third p.uses = subst (λ l. u.offset + range_of label_kinds l < end_of p + distance + 4 + burden label_kinds l p.uses) (ap level_of far) (x.late d) in
            omega (arith, late, same.offset, is.owed, front_short label_kinds jump, many x.index d x.within (x.opened d) far, ap (λ c. range_of label_kinds (level_of c)) (is_far x.index d x.within (x.opened d)));
      }
    where
      is_far : (j : ℕ) (d : Use LabelUse) → j < length p.uses → is_open label_kinds (get_or p.uses j d) ≡ true → class label_kinds (get_or f.uses j d) ≡ Far
      is_far j d within o = alike_class (end_of p) (get_or p.uses j d) (get_or f.uses j d) ((later_trans p w f later since).uses j d within) ∙ is.only_far j d within o

      -- no label is bound both by then and behind what stands in front
      not_there : (label place : ℕ) → get m.labels label ≡ Some place → end_of p ≤ place → place ≤ end_of m → (t : Bool) → jump ≡ t → ⊥
      not_there label place at from low true e = omega (arith, from, low, is.long, ap front_size e)
      not_there label place at from low false e = omega (arith, from, is.long, earlier e label place at)

      opened : (j : ℕ) (d : Use LabelUse) → j < length p.uses → is_open label_kinds (get_or p.uses j d) ≡ true → is_open_in xs f k (end_of m) (end_of w) (get_or f.uses j d) ≡ true
      opened j d lt o =
          let u : Use LabelUse = get_or p.uses j d in
          let v : Use LabelUse = get_or f.uses j d in
          let rest : IsLater p f = later_trans p w f later since in
          let same : IsSameUse (end_of p) (get_or p.uses j d) (get_or f.uses j d) = rest.uses j d lt in
          let none : u.stop ≡ None = open_stop label_kinds u o in
          let want : wants (class label_kinds v) ≡ true = ap wants (alike_class (end_of p) u v same) ∙ open_wants label_kinds u o in
          parts_open xs f k (end_of m) (end_of w) v (record {
            before = let y = (has.whole.sound.placed j d (omega (arith, lt, later.count))).inside in let z = (later.uses j d lt).offset in omega (arith, y, z, same.offset);
            wanting = want;
            from = from_stop (end_of m) v.stop (stops j d (omega (arith, lt, rest.count)) want) (λ t e. let z = same.later t none e in omega (arith, z, is.long));
            away = λ e.
                let z = at_bound xs f.labels k (label_of v.target) v.stop e in
                let g : (g : ℕ) × (get m.labels z.0 ≡ Some g) = some_place (get m.labels z.0) (bound z.0 z.2.by) in
                let at : v.stop ≡ Some g.0 = stop_at (get f.labels z.0) v.stop g.0 (all_later.labels z.0 g.0 g.1) z.2.at in
                let from : end_of p ≤ g.0 = same.later g.0 none at in
                let low = subst (λ o. IfSome o (λ place. (place % 4 ≡ 0) × (place ≤ end_of m))) g.1 (whole.sound.bound z.0) in
                not_there z.0 g.0 g.1 from low.1 jump refl;
          })

      many : (j : ℕ) (d : Use LabelUse) → j < length p.uses → is_open label_kinds (get_or p.uses j d) ≡ true → class label_kinds (get_or p.uses j d) ≡ Far → burden label_kinds third m.uses + 4 ≤ 28 * count_by (is_open_in xs f k (end_of m) (end_of w)) f.uses
      many j d lt o far =
          let rest : IsLater p f = later_trans p w f later since in
          let old : (i : ℕ) (e : Use LabelUse) → i < length m.uses → is_open label_kinds (get_or m.uses i e) ≡ true → is_open_in xs f k (end_of m) (end_of w) (get_or f.uses i e) ≡ true = λ i e a b. wider (get_or f.uses i e) (still_open xs m f k whole all_later bound stops i e a b) in
          elim (cases_lt j (length m.uses)) [
            | inl before ↦
                let same : IsSameUse (end_of m) (get_or m.uses j d) (get_or p.uses j d) = is.later.uses j d before in
                let open' : is_open label_kinds (get_or m.uses j d) ≡ true = was_open label_kinds (end_of m) (get_or m.uses j d) (get_or p.uses j d) same o in
                let all : count_by (is_open label_kinds) m.uses ≤ count_by (is_open_in xs f k (end_of m) (end_of w)) f.uses = counts_le (is_open label_kinds) (is_open_in xs f k (end_of m) (end_of w)) m.uses f.uses all_later.count old in
                omega (arith, less_owed m.uses j d before open' (sym (alike_class (end_of m) (get_or m.uses j d) (get_or p.uses j d) same) ∙ far), all)
            | inr after ↦
                let all : count_by (is_open label_kinds) m.uses + 1 ≤ count_by (is_open_in xs f k (end_of m) (end_of w)) f.uses = one_more (is_open label_kinds) (is_open_in xs f k (end_of m) (end_of w)) m.uses f.uses j d after (omega (arith, lt, rest.count)) (opened j d lt o) old in
                omega (arith, burden_open third m.uses, all)
          ]

  pub holds : Holds xs f force k distance (end_of m, end_of w)
  holds = record {
    near = near_stops;
    far = elim has.promotion.outcome [
      | inl none ↦ inl (far_stays none, none.unforced)
      | inr all ↦ inr (
        far_stops all.closed,
        elim all.cause [
          | inl forced ↦ inr forced
          | inr never ↦ inl (needs_far has.promotion.before has.promotion.is has.promotion.then' never)
        ],
      )
    ];
  }

-- an island that was asked for is caused, told from the finished code
pub is_caused : (force : ForceVeneers) (xs : List Element) (stations : List ℕ) (b f : Buffer LabelUse) (island : ℕ × ℕ) → IsLater b f → All (λ u. wants (class label_kinds u) ≡ true → IsSome u.stop) f.uses → (z : WasAsked force xs (length xs) stations b island) → (falls_in (element_at xs z.after) ≡ false → AreBefore z.moment) → IsCaused xs f force stations island
is_caused force xs stations b f island then' stops z before =
    let m : Buffer LabelUse = z.moment in
    let since : IsLater z.written f = later_trans z.written b f z.since then' in
    let later : IsLater m f = later_trans m z.written f z.has.later since in
    record {
      after = z.after;
      within = z.within;
      stands = z.stands;
      space = z.distance;
      space_is = z.distance_is;
      cause = elim z.cause [
        | inl need ↦ inl (subst (λ a. Needs xs f z.after a a z.distance (λ u. Unit {0})) z.at (needs_from xs m f z.after z.whole later z.bound stops z.distance (subst (λ n. Fits label_kinds m n → ⊥) (same_some need.0 z.distance (sym need.1 ∙ z.distance_is)) need.2)))
        | inr forced ↦ inr (forced.0, forced.1, subst (λ a. SomeOpenAt xs f z.after a) z.at (some_from xs m f z.after z.whole later z.bound stops (2 ^ 32 - 1) forced.2))
      ];
      holds = subst (λ b. Holds xs f force z.after z.distance (island.0, b)) z.ends (subst (λ a. Holds xs f force z.after z.distance (a, end_of z.written)) z.at
          (holds force xs f z.after z.distance (falls_in (element_at xs z.after)) m z.written z.whole z.has since stops z.bound z.only before));
    }
  where
    same_some : (s t : ℕ) → ◌≡◌ {A = Option ℕ} (Some s) (Some t) → s ≡ t
    same_some s t e = cc
