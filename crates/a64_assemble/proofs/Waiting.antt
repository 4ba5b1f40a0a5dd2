-- What waiting constants and traps owe, and with it all that is owed.
use Rattle.std.proofs.Common.{ℕ, zero, suc, ◌≡◌, ◌+◌, ◌*◌, ◌^◌, ◌<◌, ◌≤◌, Bool, true, false, cond, List, [], ◌∷◌, map, All, length, get_or, drop, Option, None, Some, refl, sym, ap, ◌∙◌, subst, arith, inl, inr}
use Rattle.std.specs.Prelude.{◌&&◌, nat_le, nat_lt, is_none, sum_by, count_by}
use Rattle.std.specs.List.{cons_option}
use Rattle.std.specs.Ordering.{nat_cmp}
use Rattle.std.specs.FinMap.{FinMap}
use Rattle.std.proofs.lemmas.Bool.{false≢true, le-leb, lt-ltb, ltb-true, cases_lt}
use Rattle.std.proofs.lemmas.List.{drop_more}
use Rattle.std.proofs.lemmas.List.Sums.{sum_by-cons, sum_by-append}
use Rattle.a64_buffer.specs.declared.site.Use.{Use}
use Rattle.a64_buffer.specs.declared.site.Target.{Target}
use Rattle.a64_buffer.specs.declared.site.Target.TheVariants.{Label, Constant, Trap, IslandEnd}
use Rattle.a64_buffer.specs.declared.class.Class.TheVariants.{Far}
use Rattle.a64_buffer.specs.declared.force.ForceVeneers.{ForceVeneers}
use Rattle.a64_buffer.specs.declared.force.ForceVeneers.TheVariants.{No}
use Rattle.a64_buffer.specs.Buffer.{Buffer, end_of, label_of, leads_to, closed_at, made_use, reached}
use Rattle.a64_buffer.specs.Classes.{second, third, cost, wants, level_of, class, class_of, range_of, is_open, weigh, weigh_label, owed, owed_to, Fits}
use Rattle.a64_buffer.specs.Islands.{HasIsland}
use Rattle.a64_buffer.proofs.Costs.{sums_le}
use Rattle.a64_buffer.proofs.Laters.{was_open}
use Rattle.a64_buffer.proofs.Pays.{label_is}
use Rattle.a64_label_use.specs.declared.label_use.LabelUse.{LabelUse}
use Rattle.a64_cells.specs.declared.site.Site.{Site}
use Rattle.a64_label_use.specs.LabelUses.{label_kinds}
use Rattle.a64_cells.specs.Shapes.{Cell}
use Rattle.a64_cells.specs.Cells.{sites_of}
use Rattle.a64_emit.specs.Emission.{use_at, uses_from, appended}
use Rattle.a64_assemble.specs.Elements.{Element, Binding, Words, Asking, size_in, sizes_in, next_room}
use Rattle.a64_assemble.specs.Asks.{Asks, AsksNext, PutsWords, Moves}
use Rattle.a64_assemble.specs.LooseUses.{alive, is_load, loads_in, loads, loose_loads, loose_in, is_waiting, waiting_cost, waiting_from}

-- a sum of nothing
no_sum : (us : List (Use LabelUse)) → sum_by (λ (u : Use LabelUse). 0) us ≡ 0
no_sum [] = refl
no_sum (u ∷ us) = no_sum us

-- a sum of terms that are nothing
pub nothing_sums : (f : Use LabelUse → ℕ) (us : List (Use LabelUse)) → All (λ u. f u ≤ 0) us → sum_by f us ≤ 0
nothing_sums f us h = omega (arith, sums_le label_kinds 1 f (λ u. 0) us (λ k d w. let x = h k d w in omega arith), no_sum us)

waiting_none : (x : ℕ) (us : List (Use LabelUse)) → All (λ u. is_waiting u ≡ false) us → waiting_from x us ≤ 0
waiting_none x us h = nothing_sums (waiting_cost x) us (λ k d w. one (get_or us k d) (h k d w))
  where
    one : (u : Use LabelUse) → is_waiting u ≡ false → waiting_cost x u ≤ 0
    one u e = rw e (omega arith)

-- behind an island no constant and no trap waits
none_waits : {jump : Bool} (distance : ℕ) (force : ForceVeneers) (b b' : Buffer LabelUse) → HasIsland label_kinds distance force jump b b' → All (λ u. is_waiting u ≡ false) b'.uses
none_waits distance force b b' has k d w = go (is_open label_kinds (get_or b'.uses k d)) refl
  where
    far : is_open label_kinds (get_or b'.uses k d) ≡ true → class label_kinds (get_or b'.uses k d) ≡ Far
    far o = elim has.promotion.outcome [
      | inl none ↦
          let lt : k < length has.promotion.before.uses = omega (arith, w, none.count) in
          let same = has.promotion.then'.uses k d lt in
          ap (λ t. class label_kinds (record (get_or b'.uses k d) { target = t })) same.target ∙ ap (λ q. class label_kinds (record (get_or b'.uses k d) { target = (get_or has.promotion.before.uses k d).target; kind = q })) same.kind
          ∙ has.promotion.is.only_far k d lt (was_open label_kinds (end_of has.promotion.before) (get_or has.promotion.before.uses k d) (get_or b'.uses k d) same o)
      | inr all ↦ absurd (false≢true (sym (all.closed k d w) ∙ o))
    ]

    go : (o : Bool) → is_open label_kinds (get_or b'.uses k d) ≡ o → (o && is_none (label_of (get_or b'.uses k d).target)) ≡ false
    go false e = refl
    go true e = let label = label_is label_kinds (get_or b'.uses k d).target (get_or b'.uses k d).kind (inr (inr (far e))) in ap (λ o. is_none o) label.1

half : (o : Bool) (n m : ℕ) → n ≤ m → cond o n 0 ≤ m
half true n m h = h
half false n m h = omega arith

waiting_made : (x : ℕ) (labels : FinMap nat_cmp ℕ) (place : ℕ) (cells : List Cell) → waiting_from x (uses_from labels place cells) ≤ 28 * count_by is_load (sites_of cells)
waiting_made x labels place [] = omega arith
waiting_made x labels place (c ∷ cs) = omega (arith, sum_by-append (waiting_cost x) (use_at labels place c.site) (uses_from labels (place + 4) cs), waiting_made x labels (place + 4) cs, one c.site)
  where
    labelled : (o : Bool) (q : Bool) (n : ℕ) → cond ((o && false) && q) n 0 ≤ 0
    labelled true q n = omega arith
    labelled false q n = omega arith

    by : (t : Target) (kind : LabelUse) → waiting_cost x (made_use label_kinds labels place t kind) ≤ 28 * cond (is_load (record { kind = kind; target = t })) 1 0
    by (Label l) kind = labelled (is_open label_kinds (made_use label_kinds labels place (Label l) kind)) (nat_le x place) (weigh label_kinds (cost third) (made_use label_kinds labels place (Label l) kind))
    by (Constant n) kind = half (is_waiting (made_use label_kinds labels place (Constant n) kind) && nat_le x place) 28 28 (omega arith)
    by (Trap code) kind = half (is_waiting (made_use label_kinds labels place (Trap code) kind) && nat_le x place) 4 28 (omega arith)
    by IslandEnd kind = omega arith

    one : (o : Option Site) → waiting_from x (use_at labels place o) + 28 * count_by is_load (sites_of cs) ≤ 28 * count_by is_load (cons_option o (sites_of cs))
    one None = omega arith
    one (Some s) = omega (arith, sum_by-cons (λ (s : Site). cond (is_load s) 1 0) s (sites_of cs), by s.target s.kind)

-- a binding leaves what waits
waiting_closed : (x l place : ℕ) (u : Use LabelUse) → waiting_cost x (closed_at label_kinds l place u) ≤ waiting_cost x u
waiting_closed x l place u = go (label_of u.target) (wants (class label_kinds u)) (leads_to l u.target) u.stop (reached label_kinds u.kind u.offset place) (nat_le x u.offset) (cost third (class label_kinds u))
    (λ none. not_led u.target none)
  where
    not_led : (t : Target) → label_of t ≡ None → leads_to l t ≡ false
    not_led (Label n) e = absurd (let z : Some n.0 ≡ None = e in cc)
    not_led (Constant c) e = refl
    not_led (Trap c) e = refl
    not_led IslandEnd e = refl

    zero_cond : (q c : Bool) (n m : ℕ) → cond ((q && false) && c) n 0 ≤ m
    zero_cond true c n m = omega arith
    zero_cond false c n m = omega arith

    go : (label : Option ℕ) (a c : Bool) (o n : Option ℕ) (e : Bool) (k : ℕ) → (label ≡ None → c ≡ false) → cond ((a && is_none (cond (c && is_none o) n o)) && is_none label && e) (cond (a && is_none (cond (c && is_none o) n o)) k 0) 0 ≤ cond ((a && is_none o) && is_none label && e) (cond (a && is_none o) k 0) 0
    go (Some m) a c o n e k h = zero_cond (a && is_none (cond (c && is_none o) n o)) e (cond (a && is_none (cond (c && is_none o) n o)) k 0) (cond ((a && is_none o) && false && e) (cond (a && is_none o) k 0) 0)
    go None a c o n e k h = rw (h refl) (omega arith)

waiting_map : (x l place : ℕ) (us : List (Use LabelUse)) → waiting_from x (map (closed_at label_kinds l place) us) ≤ waiting_from x us
waiting_map x l place [] = omega arith
waiting_map x l place (u ∷ us) = omega (arith, sum_by-cons (waiting_cost x) u us, sum_by-cons (waiting_cost x) (closed_at label_kinds l place u) (map (closed_at label_kinds l place) us), waiting_closed x l place u, waiting_map x l place us)

module _ (force : ForceVeneers) (x : ℕ) where
  ask_waiting : {jump : Bool} (n : ℕ) (f g : ForceVeneers) (m b' : Buffer LabelUse) → Asks n f g jump m b' → waiting_from x b'.uses ≤ waiting_from x m.uses
  ask_waiting n f g m b' a = elim a.outcome [ inl w ↦ omega (arith, waiting_none x b'.uses (none_waits n g m b' w.island)) | inr l ↦ subst (λ v. waiting_from x v.uses ≤ waiting_from x m.uses) (sym l.same) (omega arith) ]

  words_waiting : (goes_on : Bool) (cells : List Cell) (rest : List Element) (b b' : Buffer LabelUse) → PutsWords force goes_on cells rest b b' → waiting_from x b'.uses ≤ waiting_from x b.uses + 28 * count_by is_load (sites_of cells)
  words_waiting goes_on [] rest b b' p = subst (λ v. waiting_from x v.uses ≤ waiting_from x b.uses + 28 * 0) (sym p) (omega arith)
  words_waiting goes_on (c ∷ cs) rest b b' p = next (next_room rest) p
    where
      middle : waiting_from x (appended b (c ∷ cs)).uses ≤ waiting_from x b.uses + 28 * count_by is_load (sites_of (c ∷ cs))
      middle = omega (arith, sum_by-append (waiting_cost x) b.uses (uses_from b.labels (end_of b) (c ∷ cs)), waiting_made x b.labels (end_of b) (c ∷ cs))

      next : (o : Option ℕ) → AsksNext force goes_on o (appended b (c ∷ cs)) b' → waiting_from x b'.uses ≤ waiting_from x b.uses + 28 * count_by is_load (sites_of (c ∷ cs))
      next None e = subst (λ v. waiting_from x v.uses ≤ waiting_from x b.uses + 28 * count_by is_load (sites_of (c ∷ cs))) (sym e) middle
      next (Some n) a = omega (arith, middle, ask_waiting n No force (appended b (c ∷ cs)) b' a)

  pub waiting_step : (y : Element) (rest : List Element) (b b' : Buffer LabelUse) → Moves force y rest b b' → waiting_from x b'.uses ≤ waiting_from x b.uses + 28 * loads_in y
  waiting_step (Binding l) rest b b' p = omega (arith, ap (λ v. waiting_from x v.uses) p, waiting_map x l (end_of b) b.uses)
  waiting_step (Words goes_on cells) rest b b' p = words_waiting goes_on cells rest b b' p
  waiting_step (Asking space) rest b b' p = omega (arith, ask_waiting space force force b b' p)

-- ---- all that is owed

pub owed_split : (b : Buffer LabelUse) → owed label_kinds b ≤ owed_to label_kinds (λ n. true) b + waiting_from 0 b.uses
owed_split b = go b.uses
  where
    two : (a c : Bool) (label : Option ℕ) (n : ℕ) → c ≡ true → cond a n 0 ≤ (elim label [ None ↦ 0 | Some m ↦ cond true (cond a n 0) 0 ]) + cond (a && is_none label && c) (cond a n 0) 0
    two a false label n e = absurd (false≢true e)
    two true true None n e = omega arith
    two true true (Some m) n e = omega arith
    two false true None n e = omega arith
    two false true (Some m) n e = omega arith

    one : (u : Use LabelUse) → weigh label_kinds (cost third) u ≤ weigh_label label_kinds (λ n. true) u + waiting_cost 0 u
    one u = two (is_open label_kinds u) (nat_le 0 u.offset) (label_of u.target) (cost third (class label_kinds u)) (le-leb 0 u.offset (omega arith))

    go : (us : List (Use LabelUse)) → sum_by (weigh label_kinds (cost third)) us ≤ sum_by (weigh_label label_kinds (λ n. true)) us + waiting_from 0 us
    go [] = omega arith
    go (u ∷ us) = omega (arith, sum_by-cons (weigh label_kinds (cost third)) u us, sum_by-cons (weigh_label label_kinds (λ n. true)) u us, sum_by-cons (waiting_cost 0) u us, one u, go us)

-- where all that waits stands from a place on
all_from : (x : ℕ) (us : List (Use LabelUse)) → All (λ u. is_waiting u ≡ true → x ≤ u.offset) us → waiting_from 0 us ≤ waiting_from x us
all_from x us h = omega (arith, sums_le label_kinds 1 (waiting_cost 0) (waiting_cost x) us (λ k d w. let z = one (get_or us k d) (h k d w) in omega (arith, z)))
  where
    one : (u : Use LabelUse) → (is_waiting u ≡ true → x ≤ u.offset) → waiting_cost 0 u ≤ waiting_cost x u
    one u f = two (is_waiting u) (nat_le 0 u.offset) (nat_le x u.offset) (λ e. le-leb x u.offset (f e)) (weigh label_kinds (cost third) u)
      where
        two : (a b c : Bool) → (a ≡ true → c ≡ true) → (n : ℕ) → cond (a && b) n 0 ≤ cond (a && c) n 0
        two true true c g n = rw (g refl) (omega arith)
        two true false c g n = omega arith
        two false b c g n = omega arith

loads_all : (xs : List Element) → sizes_in xs < 2 ^ 20 → loose_loads xs ≡ loads xs
loads_all [] h = refl
loads_all (x ∷ xs) h =
    let s : sizes_in (x ∷ xs) ≡ size_in x + sizes_in xs = sum_by-cons size_in x xs in
    let le : sizes_in xs < 2 ^ 20 = omega (arith, h, s) in
    ap (λ b. cond b (loads_in x) 0 + loose_loads xs) (lt-ltb (sizes_in xs) (2 ^ 20) le) ∙ (ap (λ n. loads_in x + n) (loads_all xs le) ∙ sym (sum_by-cons loads_in x xs))

-- a waiting use is of the middle range
waiting_level : (u : Use LabelUse) → is_waiting u ≡ true → (is_open label_kinds u ≡ true) × (level_of (class label_kinds u) ≡ second)
waiting_level u e =
    let z = both (is_open label_kinds u) (is_none (label_of u.target)) e in
    (z.0, go u.target u.kind (is_none u.stop) z.1 z.0)
  where
    both : (a b : Bool) → (a && b) ≡ true → (a ≡ true) × (b ≡ true)
    both true b e = (refl, e)
    both false b e = absurd (false≢true e)

    go : (t : Target) (kind : LabelUse) (o : Bool) → is_none (label_of t) ≡ true → (wants (class_of label_kinds t kind) && o) ≡ true → level_of (class_of label_kinds t kind) ≡ second
    go (Label l) kind o e w = absurd (false≢true e)
    go (Constant c) kind o e w = refl
    go (Trap c) kind o e w = refl
    go IslandEnd kind o e w = absurd (false≢true w)

module _ (b : Buffer LabelUse) (xs : List Element) (at : ℕ → ℕ) (fits : Fits label_kinds b 0) (behind : (i : ℕ) → i ≤ length xs → (at i + sizes_in (drop i xs) ≤ end_of b) × (waiting_from (at i) b.uses ≤ 28 * loads (drop i xs))) where
  -- what waits does not stand before elements of so many bytes
  near_by : (x : ℕ) → x + 2 ^ 20 ≤ end_of b → All (λ u. is_waiting u ≡ true → x ≤ u.offset) b.uses
  near_by x lt k d w e =
      let z = waiting_level (get_or b.uses k d) e in
      let room = fits.rooms k d w z.0 in
      let l : range_of label_kinds (level_of (class label_kinds (get_or b.uses k d))) ≡ range_of label_kinds second = ap (range_of label_kinds) z.1 in
      omega (arith, room, l, lt)

  waits_within : (n i : ℕ) → i + n ≡ length xs → All (λ u. is_waiting u ≡ true → at i ≤ u.offset) b.uses → waiting_from 0 b.uses ≤ 28 * loose_loads (drop i xs)
  waits_within zero i e from =
      let z = behind i (omega arith) in
      let none : loads (drop i xs) ≡ 0 = ap loads (drop_none xs i (omega arith)) in
      omega (arith, z.1, all_from (at i) b.uses from, none)
    where
      drop_none : (ys : List Element) (i : ℕ) → length ys ≤ i → drop i ys ≡ []
      drop_none [] zero h = refl
      drop_none [] (suc i) h = refl
      drop_none (y ∷ ys) zero h = absurd (omega arith)
      drop_none (y ∷ ys) (suc i) h = drop_none ys i (omega arith)
  waits_within (suc n) i e from =
      let d : Element = Asking 0 in
      let parts : drop i xs ≡ get_or xs i d ∷ drop (i + 1) xs = drop_more xs i d (omega arith) in
      let z = behind i (omega arith) in
      let y = behind (i + 1) (omega arith) in
      elim (cases_lt (sizes_in (drop (i + 1) xs)) (2 ^ 20)) [
        | inl lt ↦
            let rest : loose_loads (drop (i + 1) xs) ≡ loads (drop (i + 1) xs) = loads_all (drop (i + 1) xs) lt in
            let all : loose_loads (drop i xs) ≡ loads (drop i xs) = ap loose_loads parts ∙ (ap (λ b. cond b (loads_in (get_or xs i d)) 0 + loose_loads (drop (i + 1) xs)) (lt-ltb (sizes_in (drop (i + 1) xs)) (2 ^ 20) lt) ∙ (ap (λ n. loads_in (get_or xs i d) + n) rest ∙ (sym (sum_by-cons loads_in (get_or xs i d) (drop (i + 1) xs)) ∙ ap loads (sym parts)))) in
            omega (arith, z.1, all_from (at i) b.uses from, all)
        | inr ge ↦
            let rest : waiting_from 0 b.uses ≤ 28 * loose_loads (drop (i + 1) xs) = waits_within n (i + 1) (omega arith) (near_by (at (i + 1)) (omega (arith, y.0, ge))) in
            let all : loose_loads (drop i xs) ≡ 0 + loose_loads (drop (i + 1) xs) = ap loose_loads parts ∙ ap (λ b. cond b (loads_in (get_or xs i d)) 0 + loose_loads (drop (i + 1) xs)) (ge-ltb (sizes_in (drop (i + 1) xs)) (2 ^ 20) ge) in
            omega (arith, rest, all)
      ]
    where
      ge-ltb : (m n : ℕ) → n ≤ m → nat_lt m n ≡ false
      ge-ltb m n le = go (nat_lt m n) refl
        where
          go : (q : Bool) → nat_lt m n ≡ q → q ≡ false
          go false e = refl
          go true e = absurd (let x = ltb-true m n e in omega (arith, x, le))

  -- what is owed is at most 28 for each loose use of the elements
  pub owed_loose : at 0 ≡ 0 → owed_to label_kinds (λ n. true) b ≤ 28 * alive (λ n. true) xs → owed label_kinds b ≤ 28 * loose_in xs
  owed_loose first labels = omega (arith, owed_split b, labels, waits_within (length xs) 0 (omega arith) (λ k d w e. omega (arith, first)))
