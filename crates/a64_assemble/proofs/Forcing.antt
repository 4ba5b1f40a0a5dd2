-- Where islands are forced, one stands wherever one is asked for and some use is open.
use Rattle.std.proofs.Common.{ℕ, ◌≡◌, ◌⊎◌, ◌+◌, ◌-◌, ◌^◌, ◌<◌, ◌≤◌, Bool, true, false, List, [], ◌∷◌, ◌++◌, All, length, get_or, take, Option, None, Some, refl, sym, ap, ◌∙◌, subst, arith, inl, inr}
use Rattle.std.specs.Prelude.{◌&&◌, is_none, IfSome, option_and_then}
use Rattle.std.specs.FinMap.{get}
use Rattle.std.proofs.lemmas.Bool.{cases_eq, cases_lt, false≢true}
use Rattle.std.proofs.lemmas.List.{get_or_append_left, get_or_push, length_push}
use Rattle.a64_buffer.specs.declared.site.Use.{Use}
use Rattle.a64_buffer.specs.declared.site.Target.{Target}
use Rattle.a64_buffer.specs.declared.site.Target.TheVariants.{Label, Constant, Trap, IslandEnd}
use Rattle.a64_buffer.specs.declared.force.ForceVeneers.{ForceVeneers}
use Rattle.a64_buffer.specs.declared.force.ForceVeneers.TheVariants.{Yes}
use Rattle.a64_buffer.specs.Buffer.{Buffer, end_of, label_of, goal_of}
use Rattle.a64_buffer.specs.Classes.{level_of, wants, class, class_of, is_open, Fits}
use Rattle.a64_buffer.specs.Later.{IsSameUse, IsLater}
use Rattle.a64_buffer.specs.Sound.{IsPlaced, IsWhole}
use Rattle.a64_buffer.proofs.Emitting.{stops_below}
use Rattle.a64_buffer.proofs.Laters.{later_none, later_trans}
use Rattle.a64_buffer.proofs.Rooms.{widest}
use Rattle.a64_label_use.specs.declared.label_use.LabelUse.{LabelUse}
use Rattle.a64_label_use.specs.declared.label_use.LabelUse.TheVariants as uses
use Rattle.a64_label_use.specs.LabelUses.{label_kinds}
use Rattle.a64_label_use.specs.LabelLaws.{label_kinds_lawful}
use Rattle.a64_assemble.specs.Elements.{Element, Binding, Words, Asking, is_asking, is_bound_by, element_at}
use Rattle.a64_assemble.specs.Asks.{Moves}
use Rattle.a64_assemble.specs.Stations.{HasLabels}
use Rattle.a64_assemble.specs.OpenUses.{SomeOpenAt, WasLeft}
use Rattle.a64_assemble.proofs.BoundLabels.{bound_by_labels}
use Rattle.a64_assemble.proofs.Opens.{open_parts, from_to, at_label}

-- where all the space fits, nothing is open
pub all_closed : (b : Buffer LabelUse) → All (IsPlaced (end_of b)) b.uses → Fits label_kinds b (2 ^ 32 - 1) → All (λ u. is_open label_kinds u ≡ false) b.uses
all_closed b placed fits k d w = go (is_open label_kinds (get_or b.uses k d)) refl
  where
    go : (o : Bool) → is_open label_kinds (get_or b.uses k d) ≡ o → o ≡ false
    go false e = refl
    go true e = absurd (let x = fits.rooms k d w e in let y = (placed k d w).inside in omega (arith, x, y, widest label_kinds label_kinds_lawful (level_of (class label_kinds (get_or b.uses k d)))))

module _ (force : ForceVeneers) (xs : List Element) (k : ℕ) (places : List ℕ) (b b' : Buffer LabelUse) (count : length places ≡ k) (within : k < length xs) where
  keeps : (i : ℕ) → i ≤ k → get_or (places ++ (end_of b) ∷ [] ++ (end_of b') ∷ []) i 0 ≡ get_or (places ++ (end_of b) ∷ []) i 0
  keeps i le = get_or_append_left (places ++ (end_of b) ∷ []) ((end_of b') ∷ []) 0 i (omega (arith, length_push places (end_of b)))

  here : get_or (places ++ (end_of b) ∷ [] ++ (end_of b') ∷ []) k 0 ≡ end_of b
  here = keeps k (omega arith) ∙ get_or_push places (end_of b) 0 k count

  last : get_or (places ++ (end_of b) ∷ [] ++ (end_of b') ∷ []) (k + 1) 0 ≡ end_of b'
  last = get_or_push (places ++ (end_of b) ∷ []) (end_of b') 0 (k + 1) (omega (arith, length_push places (end_of b)))

  this_forced : (x : Element) (rest : List Element) → force ≡ Yes → HasLabels xs k places b.labels → is_asking x ≡ true → Moves force x rest b b' → (get_or (places ++ (end_of b) ∷ [] ++ (end_of b') ∷ []) k 0 + 4 ≤ get_or (places ++ (end_of b) ∷ [] ++ (end_of b') ∷ []) (k + 1) 0) ⊎ WasLeft xs (places ++ (end_of b) ∷ [] ++ (end_of b') ∷ []) b' k
  this_forced (Binding label) rest f labels is p = absurd (false≢true is)
  this_forced (Words goes_on cells) rest f labels is p = absurd (false≢true is)
  this_forced (Asking space) rest f labels is p = elim p.outcome [
    | inl w ↦ inl (let long = w.island.long in omega (arith, here, last, long))
    | inr l ↦ inr (record {
      moment = b;
      at = sym here;
      whole = p.whole;
      closed = all_closed b p.whole.sound.placed (l.unforced f);
      bound = bound_by_labels xs k k places b.labels labels (omega arith) within;
      later = subst (IsLater b) (sym l.same) (later_none b);
    })
  ]

  pub forced_step : (rest : List Element) → force ≡ Yes → HasLabels xs k places b.labels → IsLater b b' → Moves force (element_at xs k) rest b b' → ((i : ℕ) → i < k → is_asking (element_at xs i) ≡ true → (get_or (places ++ (end_of b) ∷ []) i 0 + 4 ≤ get_or (places ++ (end_of b) ∷ []) (i + 1) 0) ⊎ WasLeft xs (places ++ (end_of b) ∷ []) b i) → (i : ℕ) → i < k + 1 → is_asking (element_at xs i) ≡ true → (get_or (places ++ (end_of b) ∷ [] ++ (end_of b') ∷ []) i 0 + 4 ≤ get_or (places ++ (end_of b) ∷ [] ++ (end_of b') ∷ []) (i + 1) 0) ⊎ WasLeft xs (places ++ (end_of b) ∷ [] ++ (end_of b') ∷ []) b' i
  forced_step rest f labels later p h i le is = elim (cases_eq i k) [
    | inl e ↦ subst (λ i. (get_or (places ++ (end_of b) ∷ [] ++ (end_of b') ∷ []) i 0 + 4 ≤ get_or (places ++ (end_of b) ∷ [] ++ (end_of b') ∷ []) (i + 1) 0) ⊎ WasLeft xs (places ++ (end_of b) ∷ [] ++ (end_of b') ∷ []) b' i) (sym e) (this_forced (element_at xs k) rest f labels (subst (λ i. is_asking (element_at xs i) ≡ true) e is) p)
    | inr ne ↦
        let lt : i < k = omega arith in
        elim (h i lt is) [
          | inl island ↦ inl (omega (arith, island, keeps i (omega arith), keeps (i + 1) (omega arith)))
          | inr left ↦ inr (record { moment = left.moment; at = left.at ∙ sym (keeps i (omega arith)); whole = left.whole; closed = left.closed; bound = left.bound; later = later_trans left.moment b b' left.later later })
        ]
  ]

-- ---- in the finished code

pub stop_there : (u : Use LabelUse) → wants (class label_kinds u) ≡ true → is_open label_kinds u ≡ false → (s : ℕ) × (u.stop ≡ Some s)
stop_there u w o = go u.stop (not_and (wants (class label_kinds u)) (is_none u.stop) w o)
  where
    not_and : (a b : Bool) → a ≡ true → (a && b) ≡ false → b ≡ false
    not_and true b w e = e
    not_and false b w e = absurd (false≢true w)

    go : (o : Option ℕ) → is_none o ≡ false → (s : ℕ) × (o ≡ Some s)
    go None e = absurd (false≢true (sym e))
    go (Some s) e = (s, refl)

-- a use that may want something and has a stop: that is below the end, or the place of its label
pub record StopsAtGoal (m : Buffer LabelUse) (u : Use LabelUse) (stop : ℕ) : Type 0 where
  pub label : ℕ
  pub labelled : label_of u.target ≡ Some label
  pub goal : get m.labels label ≡ Some stop

pub at_goal : (m : Buffer LabelUse) (u : Use LabelUse) (stop : ℕ) (o : Option ℕ) → label_of u.target ≡ o → goal_of m.labels u.target ≡ Some stop → StopsAtGoal m u stop
at_goal m u stop None e g = absurd (none_some (sym (ap (λ o. option_and_then (λ label. get m.labels label) o) e) ∙ g))
  where
    none_some : None ≡ Some stop → ⊥
    none_some f = cc
at_goal m u stop (Some label) e g = record { label = label; labelled = e; goal = sym (ap (λ o. option_and_then (λ label. get m.labels label) o) e) ∙ g }

pub below_or_goal : (m : Buffer LabelUse) → IsWhole label_kinds m → (j : ℕ) (d : Use LabelUse) → j < length m.uses → wants (class label_kinds (get_or m.uses j d)) ≡ true → (stop : ℕ) → (get_or m.uses j d).stop ≡ Some stop → (stop < end_of m) ⊎ StopsAtGoal m (get_or m.uses j d) stop
below_or_goal m whole j d w want stop e =
    let settled = subst (λ o. IfSome o (λ stop. (stop < end_of m) ⊎ (goal_of m.labels (get_or m.uses j d).target ≡ Some stop) ⊎ ((get_or m.uses j d).target ≡ IslandEnd))) e (stops_below label_kinds m m.islands whole.sound j d w) in
    elim settled [
      | inl low ↦ inl low
      | inr more ↦ elim more [
        | inl goal ↦ inr (at_goal m (get_or m.uses j d) stop (label_of (get_or m.uses j d).target) refl goal)
        | inr end ↦ absurd (no_end (get_or m.uses j d).target (get_or m.uses j d).kind end want)
      ]
    ]
  where
    no_end : (t : Target) (kind : LabelUse) → t ≡ IslandEnd → wants (class_of label_kinds t kind) ≡ true → ⊥
    no_end (Label l) kind e w = absurd cc
    no_end (Constant c) kind e w = absurd cc
    no_end (Trap c) kind e w = absurd cc
    no_end IslandEnd kind e w = false≢true w

module _ (xs : List Element) (m f : Buffer LabelUse) (i : ℕ) (whole : IsWhole label_kinds m) (closed : All (λ u. is_open label_kinds u ≡ false) m.uses) (bound : (label place : ℕ) → get m.labels label ≡ Some place → is_bound_by (take (i + 1) xs) label ≡ true) (later : IsLater m f) where
  pub none_open : SomeOpenAt xs f i (end_of m) → ⊥
  none_open s =
      let d : Use LabelUse = record { offset = 0; target = IslandEnd; kind = uses.Branch26; stop = None } in
      let v : Use LabelUse = get_or f.uses s.index d in
      let parts = open_parts xs f i (end_of m) (end_of m) v (s.open' d) in
      elim (cases_lt s.index (length m.uses)) [
        | inr ge ↦ let x = later.fresh s.index d ge s.within in omega (arith, x, parts.before)
        | inl lt ↦
            let u : Use LabelUse = get_or m.uses s.index d in
            let same : IsSameUse (end_of m) u v = later.uses s.index d lt in
            let want : wants (class label_kinds u) ≡ true = ap (λ t. wants (class label_kinds (record u { target = t }))) (sym same.target) ∙ ap (λ q. wants (class label_kinds (record u { target = v.target; kind = q }))) (sym same.kind) ∙ parts.wanting in
            let stop : (t : ℕ) × (u.stop ≡ Some t) = stop_there u want (closed s.index d lt) in
            let at : v.stop ≡ Some stop.0 = same.kept stop.0 stop.1 in
            let from : end_of m ≤ stop.0 = from_to (end_of m) v.stop stop.0 at parts.from in
            elim (below_or_goal m whole s.index d lt want stop.0 stop.1) [
              | inl low ↦ absurd (let a : stop.0 < end_of m = low in omega (arith, a, from))
              | inr g ↦ parts.away (at_label xs f.labels i g.label stop.0 (label_of v.target) v.stop (ap label_of same.target ∙ g.labelled) at (later.labels g.label stop.0 g.goal) (bound g.label stop.0 g.goal))
            ]
      ]
