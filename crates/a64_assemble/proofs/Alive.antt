-- What open branches owe, by their labels.
use Rattle.std.proofs.Common.{ℕ, ◌≡◌, ◌+◌, ◌*◌, ◌<◌, ◌≤◌, Bool, true, false, cond, not, List, [], ◌∷◌, ◌++◌, map, All, Option, None, Some, refl, sym, ap, ◌∙◌, subst, arith, inl, inr}
use Rattle.std.specs.Prelude.{◌&&◌, ◌||◌, nat_eq, nat_le, is_none, sum_by, count_by}
use Rattle.std.specs.List.{cons_option}
use Rattle.std.specs.Ordering.{nat_cmp}
use Rattle.std.specs.FinMap.{FinMap}
use Rattle.std.proofs.lemmas.Bool.{false≢true, ne_eqb, le-leb, cases_eq}
use Rattle.std.proofs.lemmas.List.Sums.{sum_by-cons, sum_by-append, sum_by-le-sum_by}
use Rattle.std.proofs.lemmas.List.Elements.{All-head, All-tail}
use Rattle.a64_buffer.specs.declared.site.Use.{Use}
use Rattle.a64_buffer.specs.declared.site.Target.{Target}
use Rattle.a64_buffer.specs.declared.site.Target.TheVariants.{Label, Constant, Trap, IslandEnd}
use Rattle.a64_buffer.specs.declared.force.ForceVeneers.{ForceVeneers}
use Rattle.a64_buffer.specs.declared.force.ForceVeneers.TheVariants.{No}
use Rattle.a64_buffer.specs.Buffer.{Buffer, end_of, label_of, leads_to, closed_at, made_use, is_within}
use Rattle.a64_buffer.specs.Classes.{third, cost, wants, level_of, class, class_of, range_of, is_open, weigh, weigh_label, owed_to}
use Rattle.a64_buffer.specs.Sound.{IsWhole, IsKinded}
use Rattle.a64_buffer.proofs.Costs.{closed_weight}
use Rattle.a64_buffer.proofs.Rooms.{open_wants, wanting_range}
use Rattle.a64_buffer.proofs.Sounds.{bind_weight}
use Rattle.a64_buffer.proofs.Uses.{leads_same}
use Rattle.a64_label_use.specs.declared.label_use.LabelUse.{LabelUse}
use Rattle.a64_label_use.specs.declared.label_use.LabelUse.TheVariants as uses
use Rattle.a64_cells.specs.declared.site.Site.{Site}
use Rattle.a64_label_use.specs.LabelUses.{label_kinds}
use Rattle.a64_label_use.specs.LabelLaws.{label_kinds_lawful}
use Rattle.a64_cells.specs.Shapes.{Cell}
use Rattle.a64_cells.specs.Cells.{sites_of}
use Rattle.a64_emit.specs.Emission.{use_at, uses_from, appended}
use Rattle.a64_assemble.specs.Elements.{Element, Binding, Words, Asking, cells_in, binds_number, is_bound_by, next_room}
use Rattle.a64_assemble.specs.Asks.{Asks, AsksNext, PutsWords, Moves}
use Rattle.a64_assemble.specs.LooseUses.{is_alive, alive}

one_le : (a b : Bool) → (a ≡ true → b ≡ true) → cond a 1 0 ≤ cond b 1 0
one_le false b f = omega arith
one_le true b f = rw (f refl) (omega arith)

pub count_le : {X : Type 0} (p q : X → Bool) (xs : List X) → ((x : X) → p x ≡ true → q x ≡ true) → count_by p xs ≤ count_by q xs
count_le p q xs h = sum_by-le-sum_by (λ x. cond (p x) 1 0) (λ x. cond (q x) 1 0) xs (λ x. one_le (p x) (q x) (h x))

or_assoc : (a b c : Bool) → (a || (b || c)) ≡ ((a || b) || c)
or_assoc true b c = refl
or_assoc false b c = refl

or_false : (a : Bool) → (a || false) ≡ a
or_false true = refl
or_false false = refl

bound_by_push : (xs : List Element) (x : Element) (n : ℕ) → is_bound_by (xs ++ x ∷ []) n ≡ (is_bound_by xs n || binds_number n x)
bound_by_push [] x n = or_false (binds_number n x)
bound_by_push (y ∷ ys) x n = ap (λ b. binds_number n y || b) (bound_by_push ys x n) ∙ or_assoc (binds_number n y) (is_bound_by ys n) (binds_number n x)

-- ---- counts of branches

-- one branch, by its target
alive_by : (test more : ℕ → Bool) (later after : List Element) → ((n : ℕ) → (test n && not (is_bound_by later n)) ≡ true → (more n && not (is_bound_by after n)) ≡ true) → (s : Site) → is_alive test later s ≡ true → is_alive more after s ≡ true
alive_by test more later after h s e = go s.target e
  where
    and_more : (a b c : Bool) → (b ≡ true → c ≡ true) → (a && b) ≡ true → (a && c) ≡ true
    and_more true b c f p = f p
    and_more false b c f p = p

    go : (t : Target) → is_alive test later (record { kind = s.kind; target = t }) ≡ true → is_alive more after (record { kind = s.kind; target = t }) ≡ true
    go (Label l) e = and_more (label_kinds.veneers s.kind) (test l.0 && not (is_bound_by later l.0)) (more l.0 && not (is_bound_by after l.0)) (h l.0) e
    go (Constant c) e = e
    go (Trap c) e = e
    go IslandEnd e = e

alive_mono : (test more : ℕ → Bool) → ((n : ℕ) → test n ≡ true → more n ≡ true) → (xs : List Element) → alive test xs ≤ alive more xs
alive_mono test more h [] = omega arith
alive_mono test more h (x ∷ xs) = omega (arith, count_le (is_alive test xs) (is_alive more xs) (sites_of (cells_in x)) (alive_by test more xs xs (λ n. go (test n) (more n) (is_bound_by xs n) (h n))), alive_mono test more h xs)
  where
    go : (a b c : Bool) → (a ≡ true → b ≡ true) → (a && not c) ≡ true → (b && not c) ≡ true
    go true b c f e = rw (f refl) e
    go false b c f e = absurd (false≢true e)

alive_push : (test : ℕ → Bool) (xs : List Element) (x : Element) → alive (λ n. test n && not (binds_number n x)) xs + count_by (is_alive test []) (sites_of (cells_in x)) ≤ alive test (xs ++ x ∷ [])
alive_push test [] x = omega arith
alive_push test (y ∷ ys) x = omega (arith, count_le (is_alive (λ n. test n && not (binds_number n x)) ys) (is_alive test (ys ++ x ∷ [])) (sites_of (cells_in y)) (alive_by (λ n. test n && not (binds_number n x)) test ys (ys ++ x ∷ []) (λ n. go (test n) (binds_number n x) (is_bound_by ys n) (is_bound_by (ys ++ x ∷ []) n) (bound_by_push ys x n))), alive_push test ys x)
  where
    go : (a b c d : Bool) → d ≡ (c || b) → ((a && not b) && not c) ≡ true → (a && not d) ≡ true
    go true false false d q e = rw q refl
    go true false true d q e = absurd (false≢true e)
    go true true c d q e = absurd (false≢true e)
    go false b c d q e = absurd (false≢true e)

-- ---- what uses owe

half : (o : Bool) (n m : ℕ) → n ≤ m → cond o n 0 ≤ m
half true n m h = h
half false n m h = omega arith

owed_made : (test : ℕ → Bool) (labels : FinMap nat_cmp ℕ) (place : ℕ) (cells : List Cell) → sum_by (weigh_label label_kinds test) (uses_from labels place cells) ≤ 28 * count_by (is_alive test []) (sites_of cells)
owed_made test labels place [] = omega arith
owed_made test labels place (c ∷ cs) = omega (arith, sum_by-append (weigh_label label_kinds test) (use_at labels place c.site) (uses_from labels (place + 4) cs), owed_made test labels (place + 4) cs, one c.site)
  where
    by : (s : Site) → weigh_label label_kinds test (made_use label_kinds labels place s.target s.kind) ≤ 28 * cond (is_alive test [] s) 1 0
    by s = go s.target s.kind
      where
        go : (t : Target) (kind : LabelUse) → weigh_label label_kinds test (made_use label_kinds labels place t kind) ≤ 28 * cond (is_alive test [] (record { kind = kind; target = t })) 1 0
        go (Label l) kind = elim (test l.0) as (λ q. cond q (weigh label_kinds (cost third) (made_use label_kinds labels place (Label l) kind)) 0 ≤ 28 * cond (label_kinds.veneers kind && (q && true)) 1 0) [
          | false ↦ omega arith
          | true ↦ branch kind (is_none (made_use label_kinds labels place (Label l) kind).stop)
        ]
          where
            branch : (kind : LabelUse) (o : Bool) → cond (wants (class_of label_kinds (Label l) kind) && o) (cost third (class_of label_kinds (Label l) kind)) 0 ≤ 28 * cond (label_kinds.veneers kind && true) 1 0
            branch uses.Branch14 o = half o 24 28 (omega arith)
            branch uses.Branch19 o = half o 24 28 (omega arith)
            branch uses.Branch26 o = half o 20 28 (omega arith)
            branch uses.Ldr19 o = omega arith
            branch uses.Adr21 o = omega arith
            branch uses.PCRel32 o = omega arith
        go (Constant c) kind = omega arith
        go (Trap c) kind = omega arith
        go IslandEnd kind = omega arith

    one : (o : Option Site) → sum_by (weigh_label label_kinds test) (use_at labels place o) + 28 * count_by (is_alive test []) (sites_of cs) ≤ 28 * count_by (is_alive test []) (cons_option o (sites_of cs))
    one None = omega arith
    one (Some s) = omega (arith, sum_by-cons (λ (s : Site). cond (is_alive test [] s) 1 0) s (sites_of cs), by s)

-- a use that a binding of its label left open was open, and does not reach the label
closed_open : (l place : ℕ) (u : Use LabelUse) → is_open label_kinds (closed_at label_kinds l place u) ≡ true → (is_open label_kinds u ≡ true) × (leads_to l u.target ≡ true → is_within label_kinds u.kind u.offset place ≡ false)
closed_open l place u = go (wants (class label_kinds u)) (leads_to l u.target) (is_within label_kinds u.kind u.offset place) u.stop
  where
    go : (x c w : Bool) (o : Option ℕ) → (x && is_none (cond (c && is_none o) (cond w (Some place) None) o)) ≡ true → ((x && is_none o) ≡ true) × (c ≡ true → w ≡ false)
    go true true true None e = absurd (false≢true e)
    go true true false None e = (refl, λ f. refl)
    go true false w None e = (refl, λ f. absurd (false≢true f))
    go true true w (Some s) e = absurd (false≢true e)
    go true false w (Some s) e = absurd (false≢true e)
    go false c w o e = absurd (false≢true e)

module _ (test : ℕ → Bool) (b : Buffer LabelUse) (l : ℕ) where
  -- a binding closes each open use of its label
  closed_owed : (u : Use LabelUse) → u.offset < end_of b → IsKinded label_kinds u.target u.kind → (is_open label_kinds u ≡ true → end_of b ≤ u.offset + range_of label_kinds (level_of (class label_kinds u))) → weigh_label label_kinds test (closed_at label_kinds l (end_of b) u) ≤ weigh_label label_kinds (λ n. test n && not (nat_eq l n)) u
  closed_owed u placed kinded room = go (label_of u.target) refl
    where
      closed : label_of u.target ≡ Some l → (o : Bool) → is_open label_kinds (closed_at label_kinds l (end_of b) u) ≡ o → o ≡ false
      closed e false q = refl
      closed e true q =
          let z = closed_open l (end_of b) u q in
          let out = z.1 (leads_same l u.target e) in
          let x = room z.0 in
          let range = wanting_range label_kinds label_kinds_lawful u.target u.kind kinded (open_wants label_kinds u z.0) in
          absurd (false≢true (sym out ∙ within (nat_le (end_of b) (u.offset + label_kinds.forward u.kind)) (nat_le u.offset (end_of b + label_kinds.backward u.kind)) (le-leb (end_of b) (u.offset + label_kinds.forward u.kind) (omega (arith, x, range))) (le-leb u.offset (end_of b + label_kinds.backward u.kind) (omega (arith, placed)))))
        where
          within : (a b : Bool) → a ≡ true → b ≡ true → (a && b) ≡ true
          within a b p q = rw (p, q) refl

      nothing : (c : Bool) (n : ℕ) → n ≡ 0 → cond c n 0 ≤ 0
      nothing true n e = omega arith
      nothing false n e = omega arith

      other : (t q : Bool) (m n : ℕ) → q ≡ false → m ≤ n → cond t m 0 ≤ cond (t && not q) n 0
      other true q m n e h = rw e h
      other false q m n e h = omega arith

      go : (o : Option ℕ) → label_of u.target ≡ o → elim o [ None ↦ 0 | Some n ↦ cond (test n) (weigh label_kinds (cost third) (closed_at label_kinds l (end_of b) u)) 0 ] ≤ elim o [ None ↦ 0 | Some n ↦ cond (test n && not (nat_eq l n)) (weigh label_kinds (cost third) u) 0 ]
      go None e = omega arith
      go (Some n) e = elim (cases_eq l n) [
        | inl same ↦
            let none = nothing (test n) (weigh label_kinds (cost third) (closed_at label_kinds l (end_of b) u)) (closed_weight label_kinds (cost third) (closed_at label_kinds l (end_of b) u) (closed (e ∙ ap (λ n. Some n) (sym same)) (is_open label_kinds (closed_at label_kinds l (end_of b) u)) refl)) in
            omega (arith, none)
        | inr ne ↦ let less = bind_weight label_kinds l (end_of b) (cost third) (u ∷ []) in other (test n) (nat_eq l n) (weigh label_kinds (cost third) (closed_at label_kinds l (end_of b) u)) (weigh label_kinds (cost third) u) (ne_eqb l n ne) (omega (arith, less))
      ]

  closed_owed_all : (us : List (Use LabelUse)) → All (λ u. u.offset < end_of b) us → All (λ u. IsKinded label_kinds u.target u.kind) us → All (λ u. is_open label_kinds u ≡ true → end_of b ≤ u.offset + range_of label_kinds (level_of (class label_kinds u))) us → sum_by (weigh_label label_kinds test) (map (closed_at label_kinds l (end_of b)) us) ≤ sum_by (weigh_label label_kinds (λ n. test n && not (nat_eq l n))) us
  closed_owed_all [] placed kinded room = omega arith
  closed_owed_all (u ∷ us) placed kinded room =
      omega (
        arith,
        sum_by-cons (weigh_label label_kinds test) (closed_at label_kinds l (end_of b) u) (map (closed_at label_kinds l (end_of b)) us),
        sum_by-cons (weigh_label label_kinds (λ n. test n && not (nat_eq l n))) u us,
        closed_owed u (All-head (λ (u : Use LabelUse). u.offset < end_of b) u us placed) (All-head (λ (u : Use LabelUse). IsKinded label_kinds u.target u.kind) u us kinded) (All-head (λ (u : Use LabelUse). is_open label_kinds u ≡ true → end_of b ≤ u.offset + range_of label_kinds (level_of (class label_kinds u))) u us room),
        closed_owed_all us (All-tail (λ (u : Use LabelUse). u.offset < end_of b) u us placed) (All-tail (λ (u : Use LabelUse). IsKinded label_kinds u.target u.kind) u us kinded) (All-tail (λ (u : Use LabelUse). is_open label_kinds u ≡ true → end_of b ≤ u.offset + range_of label_kinds (level_of (class label_kinds u))) u us room),
      )

module _ (force : ForceVeneers) (test : ℕ → Bool) where
  ask_alive : {jump : Bool} (x : ℕ) (f g : ForceVeneers) (m b' : Buffer LabelUse) → Asks x f g jump m b' → owed_to label_kinds test b' ≤ owed_to label_kinds test m
  ask_alive x f g m b' a = elim a.outcome [ inl w ↦ w.island.owed_to test | inr l ↦ subst (λ v. owed_to label_kinds test v ≤ owed_to label_kinds test m) (sym l.same) (omega arith) ]

  words_alive : (goes_on : Bool) (cells : List Cell) (rest : List Element) (b b' : Buffer LabelUse) → PutsWords force goes_on cells rest b b' → owed_to label_kinds test b' ≤ owed_to label_kinds test b + 28 * count_by (is_alive test []) (sites_of cells)
  words_alive goes_on [] rest b b' p = subst (λ v. owed_to label_kinds test v ≤ owed_to label_kinds test b + 28 * 0) (sym p) (omega arith)
  words_alive goes_on (c ∷ cs) rest b b' p = next (next_room rest) p
    where
      middle : owed_to label_kinds test (appended b (c ∷ cs)) ≤ owed_to label_kinds test b + 28 * count_by (is_alive test []) (sites_of (c ∷ cs))
      middle = omega (arith, sum_by-append (weigh_label label_kinds test) b.uses (uses_from b.labels (end_of b) (c ∷ cs)), owed_made test b.labels (end_of b) (c ∷ cs))

      next : (o : Option ℕ) → AsksNext force goes_on o (appended b (c ∷ cs)) b' → owed_to label_kinds test b' ≤ owed_to label_kinds test b + 28 * count_by (is_alive test []) (sites_of (c ∷ cs))
      next None e = subst (λ v. owed_to label_kinds test v ≤ owed_to label_kinds test b + 28 * count_by (is_alive test []) (sites_of (c ∷ cs))) (sym e) middle
      next (Some x) a = omega (arith, middle, ask_alive x No force (appended b (c ∷ cs)) b' a)

  and_true : (b : Bool) → b ≡ true → (b && true) ≡ true
  and_true b e = rw e refl

  pub alive_step : (xs : List Element) (x : Element) (rest : List Element) (b b' : Buffer LabelUse) → IsWhole label_kinds b → ((test : ℕ → Bool) → owed_to label_kinds test b ≤ 28 * alive test xs) → Moves force x rest b b' → owed_to label_kinds test b' ≤ 28 * alive test (xs ++ x ∷ [])
  alive_step xs (Binding l) rest b b' whole h p =
      omega (arith, ap (owed_to label_kinds test) p, closed_owed_all test b l b.uses (λ k d w. (whole.sound.placed k d w).inside) whole.sound.kinded (λ k d w o. let z = whole.fits.rooms k d w o in omega (arith, z)), h (λ n. test n && not (nat_eq l n)), alive_push test xs (Binding l))
  alive_step xs (Words goes_on cells) rest b b' whole h p =
      omega (arith, words_alive goes_on cells rest b b' p, h test, alive_mono test (λ n. test n && true) (λ n. and_true (test n)) xs, alive_push test xs (Words goes_on cells))
  alive_step xs (Asking space) rest b b' whole h p =
      omega (arith, ask_alive space force force b b' p, h test, alive_mono test (λ n. test n && true) (λ n. and_true (test n)) xs, alive_push test xs (Asking space))
