-- What is open in the buffer is open in the finished code.
use Rattle.std.proofs.Common.{ℕ, suc, ◌≡◌, ◌⊎◌, ◌+◌, ◌*◌, ◌%◌, ◌<◌, ◌≤◌, Bool, true, false, cond, not, List, [], ◌∷◌, All, length, get_or, take, Option, None, Some, refl, sym, ap, ◌∙◌, subst, arith, inl, inr}
use Rattle.std.specs.Prelude.{◌&&◌, ◌||◌, nat_le, nat_lt, count_by, IsSome, IfSome, MatchOption, option_and_then}
use Rattle.std.specs.Ordering.{nat_cmp}
use Rattle.std.specs.FinMap.{FinMap, get}
use Rattle.std.proofs.lemmas.Bool.{eqb-true, eq-eqb, false≢true, le-leb, lt-ltb, leb-true, leb-false, ltb-true}
use Rattle.std.proofs.lemmas.List.Sums.{sum_by-cons}
use Rattle.std.proofs.lemmas.List.Elements.{All-cons}
use Rattle.a64_buffer.specs.declared.site.Use.{Use}
use Rattle.a64_buffer.specs.Buffer.{Buffer, end_of, label_of, goal_of, is_within}
use Rattle.a64_buffer.specs.Classes.{Level, level_of, cost, wants, class, range_of, is_open, weigh, burden, HasRoom, Fits}
use Rattle.a64_buffer.specs.Later.{IsSameUse, IsLater}
use Rattle.a64_buffer.specs.Sound.{IsRightlyOpen, IsStop, IsWhole}
use Rattle.a64_buffer.proofs.Rooms.{open_wants, open_stop, wanting_range, few_bytes}
use Rattle.a64_label_use.specs.declared.label_use.LabelUse.{LabelUse}
use Rattle.a64_label_use.specs.LabelUses.{label_kinds}
use Rattle.a64_label_use.specs.LabelLaws.{label_kinds_lawful}
use Rattle.a64_assemble.specs.Elements.{Element, is_bound_by}
use Rattle.a64_assemble.specs.OpenUses.{stops_from, is_place, stops_at_label, is_open_in, is_open_at, open_at, SomeOpenAt, Needs}

-- ---- lists

-- one that fails a test, or all pass it
record SomeFails (p : Use LabelUse → Bool) (us : List (Use LabelUse)) : Type 0 where
  pub index : ℕ
  pub within : index < length us
  pub fails : (d : Use LabelUse) → p (get_or us index d) ≡ false

fails_or_all : (p : Use LabelUse → Bool) (us : List (Use LabelUse)) → SomeFails p us ⊎ All (λ u. p u ≡ true) us
fails_or_all p [] = inr (λ k d h. absurd (omega arith))
fails_or_all p (u ∷ us) = elim (p u) as (λ b. p u ≡ b → SomeFails p (u ∷ us) ⊎ All (λ u. p u ≡ true) (u ∷ us)) [
  | false ↦ λ e. inl (record { index = 0; within = omega arith; fails = λ d. e })
  | true ↦ λ e. elim (fails_or_all p us) [
    | inl s ↦ inl (record { index = suc s.index; within = let x = s.within in omega arith; fails = s.fails })
    | inr all ↦ inr (All-cons (λ (u : Use LabelUse). p u ≡ true) u us e all)
  ]
] refl

pub counts_le : (p q : Use LabelUse → Bool) (xs ys : List (Use LabelUse)) → length xs ≤ length ys → ((k : ℕ) (d : Use LabelUse) → k < length xs → p (get_or xs k d) ≡ true → q (get_or ys k d) ≡ true) → count_by p xs ≤ count_by q ys
counts_le p q [] ys le h = omega arith
counts_le p q (x ∷ xs) [] le h = absurd (omega arith)
counts_le p q (x ∷ xs) (y ∷ ys) le h =
    let rest : count_by p xs ≤ count_by q ys = counts_le p q xs ys (omega arith) (λ k d w. h (suc k) d (omega arith)) in
    let one : cond (p x) 1 0 ≤ cond (q y) 1 0 = go (p x) (q y) (h 0 x (omega arith)) in
    omega (arith, sum_by-cons (λ (u : Use LabelUse). cond (p u) 1 0) x xs, sum_by-cons (λ (u : Use LabelUse). cond (q u) 1 0) y ys, rest, one)
  where
    go : (a b : Bool) → (a ≡ true → b ≡ true) → cond a 1 0 ≤ cond b 1 0
    go false b f = omega arith
    go true b f = rw (f refl) (omega arith)

-- ---- what open uses want

weigh_most : (l : Level) (u : Use LabelUse) → weigh label_kinds (cost l) u ≤ 28 * cond (is_open label_kinds u) 1 0
weigh_most l u = elim (is_open label_kinds u) as (λ b. cond b (cost l (class label_kinds u)) 0 ≤ 28 * cond b 1 0) [ true ↦ few_bytes l (class label_kinds u) | false ↦ omega arith ]

-- a burden is at most 28 for each open use
pub burden_open : (l : Level) (us : List (Use LabelUse)) → burden label_kinds l us ≤ 28 * count_by (is_open label_kinds) us
burden_open l [] = omega arith
burden_open l (u ∷ us) = omega (arith, sum_by-cons (weigh label_kinds (cost l)) u us, sum_by-cons (λ (u : Use LabelUse). cond (is_open label_kinds u) 1 0) u us, weigh_most l u, burden_open l us)

-- a use that is open and does not reach, where not all do
pub record IsMisfit (end : ℕ) (uses : List (Use LabelUse)) (more : ℕ) : Type 0 where
  pub index : ℕ
  pub within : index < length uses
  pub opened : (d : Use LabelUse) → is_open label_kinds (get_or uses index d) ≡ true
  pub late : (d : Use LabelUse) → (get_or uses index d).offset + range_of label_kinds (level_of (class label_kinds (get_or uses index d))) < end + more + 4 + burden label_kinds (level_of (class label_kinds (get_or uses index d))) uses

reaches : (end : ℕ) (uses : List (Use LabelUse)) (more : ℕ) → Use LabelUse → Bool
reaches end uses more u = not (is_open label_kinds u) || nat_le (end + more + 4 + burden label_kinds (level_of (class label_kinds u)) uses) (u.offset + range_of label_kinds (level_of (class label_kinds u)))

pub misfit : (end : ℕ) (uses : List (Use LabelUse)) (more : ℕ) → (HasRoom label_kinds end uses more → ⊥) → IsMisfit end uses more
unfolding reaches
misfit end uses more never = elim (fails_or_all (reaches end uses more) uses) [
  | inl s ↦ record {
    index = s.index;
    within = s.within;
    opened = λ d. one (is_open label_kinds (get_or uses s.index d)) _ (s.fails d);
    late = λ d. leb-false _ _ (two (is_open label_kinds (get_or uses s.index d)) _ (s.fails d));
  }
  | inr all ↦ absurd (never (record { rooms = λ k d w o. leb-true _ _ (three (is_open label_kinds (get_or uses k d)) _ o (all k d w)) }))
]
  where
    one : (a b : Bool) → (not a || b) ≡ false → a ≡ true
    one true b e = refl
    one false b e = absurd (false≢true (sym e))

    two : (a b : Bool) → (not a || b) ≡ false → b ≡ false
    two true b e = e
    two false b e = absurd (false≢true (sym e))

    three : (a b : Bool) → a ≡ true → (not a || b) ≡ true → b ≡ true
    three true b o e = e
    three false b o e = absurd (false≢true o)

-- ---- tests of one use

pub and_all : (a b c d : Bool) → a ≡ true → b ≡ true → c ≡ true → d ≡ true → (a && b && c && d) ≡ true
and_all a b c d p q s t = rw (p, q, s, t) refl

pub four : (a b c d : Bool) → (a && b && c && d) ≡ true → (a ≡ true) × (b ≡ true) × (c ≡ true) × (d ≡ true)
four true true true true e = (refl, refl, refl, refl)
four true true true false e = absurd (false≢true e)
four true true false d e = absurd (false≢true e)
four true false c d e = absurd (false≢true e)
four false b c d e = absurd (false≢true e)

-- the parts of the test
pub record OpenParts (xs : List Element) (f : Buffer LabelUse) (k a b : ℕ) (v : Use LabelUse) : Type 0 where
  pub before : v.offset < b
  pub wanting : wants (class label_kinds v) ≡ true
  pub from : stops_from a v.stop ≡ true
  pub away : stops_at_label xs f.labels k (label_of v.target) v.stop ≡ true → ⊥

pub open_parts : (xs : List Element) (f : Buffer LabelUse) (k a b : ℕ) (v : Use LabelUse) → is_open_in xs f k a b v ≡ true → OpenParts xs f k a b v
open_parts xs f k a b v o =
    let parts = four (nat_lt v.offset b) (wants (class label_kinds v)) (stops_from a v.stop) (not (stops_at_label xs f.labels k (label_of v.target) v.stop)) o in
    record { before = ltb-true v.offset b parts.0; wanting = parts.1; from = parts.2; away = no (stops_at_label xs f.labels k (label_of v.target) v.stop) parts.3 }
  where
    no : (c : Bool) → not c ≡ true → c ≡ true → ⊥
    no true e p = false≢true e
    no false e p = false≢true p

pub parts_open : (xs : List Element) (f : Buffer LabelUse) (k a b : ℕ) (v : Use LabelUse) → OpenParts xs f k a b v → is_open_in xs f k a b v ≡ true
parts_open xs f k a b v p = and_all _ _ _ _ (lt-ltb v.offset b p.before) p.wanting p.from (yes (stops_at_label xs f.labels k (label_of v.target) v.stop) p.away)
  where
    yes : (c : Bool) → (c ≡ true → ⊥) → not c ≡ true
    yes true h = absurd (h refl)
    yes false h = refl

pub from_stop : (a : ℕ) (o : Option ℕ) → IsSome o → ((t : ℕ) → o ≡ Some t → a ≤ t) → stops_from a o ≡ true
from_stop a None h f = absurd (false≢true h)
from_stop a (Some t) h f = le-leb a t (f t refl)

pub from_to : (a : ℕ) (o : Option ℕ) (s : ℕ) → o ≡ Some s → stops_from a o ≡ true → a ≤ s
from_to a o s e h = leb-true a s (sym (ap (stops_from a) e) ∙ h)

pub some_place : (o : Option ℕ) → IsSome o → (g : ℕ) × (o ≡ Some g)
some_place None h = absurd (false≢true h)
some_place (Some g) h = (g, refl)

pub stop_at : (p o : Option ℕ) (g : ℕ) → p ≡ Some g → is_place p o ≡ true → o ≡ Some g
stop_at None o g e h = absurd (let z : None ≡ Some g = e in cc)
stop_at (Some x) None g e h = absurd (false≢true h)
stop_at (Some x) (Some y) g e h = ap (λ n. Some n) (sym (eqb-true x y h)) ∙ e

both : (a b : Bool) → (a && b) ≡ true → (a ≡ true) × (b ≡ true)
both true b e = (refl, e)
both false b e = absurd (false≢true e)

within : (a b : Bool) → a ≡ true → b ≡ true → (a && b) ≡ true
within a b p q = rw (p, q) refl

-- a use that stops at its label, which is bound by then
pub record IsAtBound (xs : List Element) (labels : FinMap nat_cmp ℕ) (k label : ℕ) (stop : Option ℕ) : Type 0 where
  pub at : is_place (get labels label) stop ≡ true
  pub by : is_bound_by (take (k + 1) xs) label ≡ true

pub at_bound : (xs : List Element) (labels : FinMap nat_cmp ℕ) (k : ℕ) (o stop : Option ℕ) → stops_at_label xs labels k o stop ≡ true → (label : ℕ) × (o ≡ Some label) × IsAtBound xs labels k label stop
at_bound xs labels k None stop e = absurd (false≢true e)
at_bound xs labels k (Some label) stop e = let z = both (is_place (get labels label) stop) (is_bound_by (take (k + 1) xs) label) e in (label, refl, record { at = z.0; by = z.1 })

-- a use that stops at its label's place does so
pub at_label : (xs : List Element) (labels : FinMap nat_cmp ℕ) (k label stop : ℕ) (o s : Option ℕ) → o ≡ Some label → s ≡ Some stop → get labels label ≡ Some stop → is_bound_by (take (k + 1) xs) label ≡ true → stops_at_label xs labels k o s ≡ true
at_label xs labels k label stop o s e f g h =
    ap (λ o. stops_at_label xs labels k o s) e ∙ within (is_place (get labels label) s) (is_bound_by (take (k + 1) xs) label) (ap (λ p. is_place p s) g ∙ (ap (is_place (Some stop)) f ∙ eq-eqb stop stop refl)) h

-- ---- an open use

-- the goal of a use that has a label
pub goal_is : (labels : FinMap nat_cmp ℕ) (o : Option ℕ) (label place : ℕ) → o ≡ Some label → get labels label ≡ Some place → option_and_then (λ label. get labels label) o ≡ Some place
goal_is labels o label place e f = ap (λ o. option_and_then (λ label. get labels label) o) e ∙ f

-- an open use of a whole buffer does not reach its label, where that is bound
pub rightly : (m : Buffer LabelUse) → IsWhole label_kinds m → (j : ℕ) (d : Use LabelUse) → j < length m.uses → is_open label_kinds (get_or m.uses j d) ≡ true → IfSome (goal_of m.labels (get_or m.uses j d).target) (λ place. is_within label_kinds (get_or m.uses j d).kind (get_or m.uses j d).offset place ≡ false)
rightly m whole j d w o =
    subst (λ s. MatchOption s (IsRightlyOpen label_kinds m m.islands (get_or m.uses j d).target (get_or m.uses j d).kind (get_or m.uses j d).offset) (IsStop label_kinds m m.islands (get_or m.uses j d).target (get_or m.uses j d).kind (get_or m.uses j d).offset))
    (open_stop label_kinds (get_or m.uses j d) o) (whole.sound.stops j d w)

module _ (xs : List Element) (m f : Buffer LabelUse) (k : ℕ) (whole : IsWhole label_kinds m) (later : IsLater m f) (bound : (n : ℕ) → is_bound_by (take (k + 1) xs) n ≡ true → IsSome (get m.labels n)) where
  -- an open use does not stop at its label's place, if that was bound by then
  pub stays_away : (j : ℕ) (d : Use LabelUse) → j < length m.uses → is_open label_kinds (get_or m.uses j d) ≡ true → stops_at_label xs f.labels k (label_of (get_or f.uses j d).target) (get_or f.uses j d).stop ≡ true → ⊥
  stays_away j d w o e =
      let u : Use LabelUse = get_or m.uses j d in
      let v : Use LabelUse = get_or f.uses j d in
      let same : IsSameUse (end_of m) (get_or m.uses j d) (get_or f.uses j d) = later.uses j d w in
      let z = at_bound xs f.labels k (label_of v.target) v.stop e in
      let g : (g : ℕ) × (get m.labels z.0 ≡ Some g) = some_place (get m.labels z.0) (bound z.0 z.2.by) in
      let at : v.stop ≡ Some g.0 = stop_at (get f.labels z.0) v.stop g.0 (later.labels z.0 g.0 g.1) z.2.at in
      let from : end_of m ≤ g.0 = same.later g.0 (open_stop label_kinds u o) at in
      let low = subst (λ o. IfSome o (λ place. (place % 4 ≡ 0) × (place ≤ end_of m))) g.1 (whole.sound.bound z.0) in
      let label : label_of u.target ≡ Some z.0 = ap label_of (sym same.target) ∙ z.1 in
      let out : is_within label_kinds u.kind u.offset g.0 ≡ false = subst (λ q. IfSome q (λ place. is_within label_kinds u.kind u.offset place ≡ false)) (goal_is m.labels (label_of u.target) z.0 g.0 label g.1) (rightly m whole j d w o) in
      let range = wanting_range label_kinds label_kinds_lawful u.target u.kind (whole.sound.kinded j d w) (open_wants label_kinds u o) in
      let room = whole.fits.rooms j d w o in
      let back = label_kinds_lawful.backward_more u.kind in
      false≢true (sym out ∙ within (nat_le g.0 (u.offset + label_kinds.forward u.kind)) (nat_le u.offset (g.0 + label_kinds.backward u.kind)) (le-leb g.0 (u.offset + label_kinds.forward u.kind) (omega (arith, low.1, room, range))) (le-leb u.offset (g.0 + label_kinds.backward u.kind) (omega (arith, (whole.sound.placed j d w).inside, from))))

  module _ (stops : All (λ u. wants (class label_kinds u) ≡ true → IsSome u.stop) f.uses) where
    pub same_class : (end : ℕ) (u v : Use LabelUse) → IsSameUse end u v → class label_kinds v ≡ class label_kinds u
    same_class end u v same = ap (λ t. class label_kinds (record v { target = t })) same.target ∙ ap (λ q. class label_kinds (record v { target = u.target; kind = q })) same.kind

    pub still_open : (j : ℕ) (d : Use LabelUse) → j < length m.uses → is_open label_kinds (get_or m.uses j d) ≡ true → is_open_at xs f k (end_of m) (get_or f.uses j d) ≡ true
    still_open j d w o =
        let same : IsSameUse (end_of m) (get_or m.uses j d) (get_or f.uses j d) = later.uses j d w in
        let want : wants (class label_kinds (get_or f.uses j d)) ≡ true = ap wants (same_class (end_of m) (get_or m.uses j d) (get_or f.uses j d) same) ∙ open_wants label_kinds (get_or m.uses j d) o in
        parts_open xs f k (end_of m) (end_of m) (get_or f.uses j d) (record {
          before = let x = (whole.sound.placed j d w).inside in omega (arith, x, same.offset);
          wanting = want;
          from = from_stop (end_of m) (get_or f.uses j d).stop (stops j d (omega (arith, w, later.count)) want) (λ t e. same.later t (open_stop label_kinds (get_or m.uses j d) o) e);
          away = stays_away j d w o;
        })

    -- what is open in the buffer is counted in the finished code
    pub counted : count_by (is_open label_kinds) m.uses ≤ open_at xs f k (end_of m)
    counted = counts_le (is_open label_kinds) (is_open_at xs f k (end_of m)) m.uses f.uses later.count still_open

    pub needs_from : (space : ℕ) → (Fits label_kinds m space → ⊥) → Needs xs f k (end_of m) (end_of m) space (λ u. Unit {0})
    needs_from space never =
        let x = misfit (end_of m) m.uses space never in
        record {
          index = x.index;
          within = omega (arith, x.within, later.count);
          open' = λ d. still_open x.index d x.within (x.opened d);
          passed = λ d. tt;
          late = λ d.
              let same : IsSameUse (end_of m) (get_or m.uses x.index d) (get_or f.uses x.index d) = later.uses x.index d x.within in
              let l = ap (λ c. range_of label_kinds (level_of c)) (same_class (end_of m) (get_or m.uses x.index d) (get_or f.uses x.index d) same) in
              let late = x.late d in
              omega (arith, late, l, same.offset, counted, burden_open (level_of (class label_kinds (get_or m.uses x.index d))) m.uses);
        }

    pub some_from : (space : ℕ) → (Fits label_kinds m space → ⊥) → SomeOpenAt xs f k (end_of m)
    some_from space never =
        let x = misfit (end_of m) m.uses space never in
        record { index = x.index; within = omega (arith, x.within, later.count); open' = λ d. still_open x.index d x.within (x.opened d) }
