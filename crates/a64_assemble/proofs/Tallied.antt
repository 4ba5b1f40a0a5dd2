-- Branches and loads are counted one use, and one item, after another.
use Rattle.std.proofs.Common.{ℕ, ◌≡◌, ◌+◌, ◌-◌, ◌≤◌, Bool, true, false, cond, not, eqb, List, [], ◌∷◌, ◌++◌, map, Option, None, Some, refl, sym, ap, ◌∙◌, arith, inl, inr, nat_cmp}
use Rattle.std.specs.Prelude.{◌&&◌, ◌||◌, nat_eq, count_by, option_and_then}
use Rattle.std.specs.Cmp.{nat_cmp_total, unsigned_tied}
use Rattle.std.specs.FinMap.{FinMap, get, insert, get-insert}
use Rattle.std.specs.List.{cons_option, list_any}
use Rattle.std.specs.Option.{unwrap_or}
use Rattle.std.proofs.lemmas.Bool.{cases_eq, eq-eqb, ne_eqb}
use Rattle.std.proofs.lemmas.List.Folds.{list_any-append}
use Rattle.std.proofs.lemmas.List.Sums.{sum_by-cons, sum_by-append}
use Rattle.a64_base.specs.declared.entity.MachLabel.{MachLabel}
use Rattle.a64_base.specs.declared.entity.UserStackMap.{UserStackMap}
use Rattle.a64_buffer.specs.declared.site.Target.{Target}
use Rattle.a64_buffer.specs.declared.site.Target.TheVariants.{Label, Constant, Trap, IslandEnd}
use Rattle.a64_inst.specs.declared.emission.EmitFlags.{EmitFlags}
use Rattle.a64_inst.specs.declared.frame.FrameLayout.{FrameLayout}
use Rattle.a64_inst.specs.declared.inst.Inst.{Inst}
use Rattle.a64_inst.specs.declared.item.Item.{Item}
use Rattle.a64_inst.specs.declared.item.Item.TheVariants.{Bind, Emit}
use Rattle.a64_cells.specs.declared.site.Site.{Site}
use Rattle.a64_cells.specs.declared.site.Uses.{Uses}
use Rattle.a64_label_use.specs.LabelUses.{has_veneer}
use Rattle.a64_cells.specs.Shapes.{Cell, entry_site}
use Rattle.a64_cells.specs.Cells.{cells_of, sites_of, listed_uses, uses_of}
use Rattle.a64_emit.specs.Reach.{binds}
use Rattle.a64_emit.proofs.UseLists.{listed_labels, sites_apart}
use Rattle.a64_assemble.specs.Tally.{branch_label, is_alive, every, same, branches, count_of, alive, IsTally}

-- ---- counts in lists

pub count_same : {X : Type 0} (p q : X → Bool) (xs : List X) → ((x : X) → p x ≡ q x) → count_by p xs ≡ count_by q xs
count_same p q [] h = refl
count_same p q (x ∷ xs) h = omega (arith, sum_by-cons (λ x. cond (p x) 1 0) x xs, sum_by-cons (λ x. cond (q x) 1 0) x xs, ap (λ b. cond {A = ℕ} b 1 0) (h x), count_same p q xs h)

pub count_split : {X : Type 0} (p q r : X → Bool) (xs : List X) → ((x : X) → cond {A = ℕ} (p x) 1 0 ≡ cond (q x) 1 0 + cond (r x) 1 0) → count_by p xs ≡ count_by q xs + count_by r xs
count_split p q r [] h = refl
count_split p q r (x ∷ xs) h = omega (arith, sum_by-cons (λ x. cond (p x) 1 0) x xs, sum_by-cons (λ x. cond (q x) 1 0) x xs, sum_by-cons (λ x. cond (r x) 1 0) x xs, h x, count_split p q r xs h)

pub one_le : (a b : Bool) → (a ≡ true → b ≡ true) → cond {A = ℕ} a 1 0 ≤ cond b 1 0
one_le false b f = omega arith
one_le true b f = rw (f refl) (omega arith)

-- ---- what binds a label

abbrev binds_number : ℕ → Item → Bool
binds_number n (Bind bound) = nat_eq bound.0 n
binds_number n (Emit inst kept) = false

binds_same : (l : MachLabel) (x : Item) → binds l x ≡ binds_number l.0 x
binds_same l (Bind bound) = refl
binds_same l (Emit inst kept) = refl

or_false : (a : Bool) → (a || false) ≡ a
or_false true = refl
or_false false = refl

bound_push : (xs : List Item) (x : Item) (l : MachLabel) → list_any (binds l) (xs ++ x ∷ []) ≡ (list_any (binds l) xs || binds_number l.0 x)
bound_push xs x l = list_any-append (binds l) xs (x ∷ []) ∙ ap (λ b. list_any (binds l) xs || b) (or_false (binds l x) ∙ binds_same l x)

-- ---- the counts of a map

count_insert : (m : FinMap nat_cmp ℕ) (key value n : ℕ) → count_of (insert m key value) n ≡ cond (nat_eq n key) value (count_of m n)
count_insert m key value n = ap (λ o. unwrap_or o 0) (get-insert nat_cmp_total m key value n ∙ ap (λ b. cond b (Some value) (get m n)) (unsigned_tied n key)) ∙ go (eqb n key)
  where
    go : (b : Bool) → unwrap_or (cond b (Some value) (get m n)) 0 ≡ cond b value (unwrap_or (get m n) 0)
    go true = refl
    go false = refl

-- one more for a label
pub one_more : (m : FinMap nat_cmp ℕ) (label before n : ℕ) → before ≡ count_of m label → count_of (insert m label (before + 1)) n ≡ count_of m n + cond (nat_eq n label) 1 0
one_more m label before n e = elim (cases_eq n label) [
  | inl here ↦
      let t : nat_eq n label ≡ true = eq-eqb n label here in
      let c : count_of m n ≡ count_of m label = ap (count_of m) here in
      omega (arith, e, count_insert m label (before + 1) n, ap (λ b. cond b (before + 1) (count_of m n)) t, ap (λ b. cond {A = ℕ} b 1 0) t, c)
  | inr ne ↦
      let t : nat_eq n label ≡ false = ne_eqb n label ne in
      omega (arith, count_insert m label (before + 1) n, ap (λ b. cond b (before + 1) (count_of m n)) t, ap (λ b. cond {A = ℕ} b 1 0) t)
]

-- ---- one use

and_true : (b : Bool) → (b && true) ≡ b
and_true true = refl
and_true false = refl

branch_is : (test : ℕ → Bool) (s : Site) (label : MachLabel) → branch_label s ≡ Some label → is_alive test [] s ≡ test label.0
branch_is test s label e = go s.target e
  where
    some_is : {a b : MachLabel} → Some a ≡ Some b → a ≡ b
    some_is f = cc

    pick : (v : Bool) (l : MachLabel) → cond v (Some l) None ≡ Some label → (v && (test l.0 && true)) ≡ test label.0
    pick true l e = and_true (test l.0) ∙ ap (λ (l : MachLabel). test l.0) (some_is e)
    pick false l e = absurd cc

    go : (t : Target) → branch_label (record { kind = s.kind; target = t }) ≡ Some label → is_alive test [] (record { kind = s.kind; target = t }) ≡ test label.0
    go (Label l) e = pick (has_veneer s.kind) l e
    go (Constant c) e = absurd cc
    go (Trap c) e = absurd cc
    go IslandEnd e = absurd cc

no_branch : (test : ℕ → Bool) (s : Site) → branch_label s ≡ None → is_alive test [] s ≡ false
no_branch test s e = go s.target e
  where
    pick : (v : Bool) (l : MachLabel) → cond v (Some l) None ≡ None → (v && (test l.0 && true)) ≡ false
    pick true l e = absurd cc
    pick false l e = refl

    go : (t : Target) → branch_label (record { kind = s.kind; target = t }) ≡ None → is_alive test [] (record { kind = s.kind; target = t }) ≡ false
    go (Label l) e = pick (has_veneer s.kind) l e
    go (Constant c) e = refl
    go (Trap c) e = refl
    go IslandEnd e = refl

pub use_counts : (test : ℕ → Bool) (o : Option Site) (label : MachLabel) → option_and_then branch_label o ≡ Some label → branches test (cons_option o []) ≡ cond (test label.0) 1 0
use_counts test None label e = absurd cc
use_counts test (Some s) label e = omega (arith, sum_by-cons (λ (s : Site). cond {A = ℕ} (is_alive test [] s) 1 0) s [], ap (λ b. cond {A = ℕ} b 1 0) (branch_is test s label e))

pub use_counts_not : (test : ℕ → Bool) (o : Option Site) → option_and_then branch_label o ≡ None → branches test (cons_option o []) ≡ 0
use_counts_not test None e = refl
use_counts_not test (Some s) e = omega (arith, sum_by-cons (λ (s : Site). cond {A = ℕ} (is_alive test [] s) 1 0) s [], ap (λ b. cond {A = ℕ} b 1 0) (no_branch test s e))

pub use_few : (test : ℕ → Bool) (o : Option Site) → branches test (cons_option o []) ≤ 1
use_few test None = omega arith
use_few test (Some s) = omega (arith, sum_by-cons (λ (s : Site). cond {A = ℕ} (is_alive test [] s) 1 0) s [], one_le (is_alive test [] s) true (λ e. refl))

-- ---- the uses of an item

-- where no entry of a table counts, those of the first two words do
pub counts_listed : (p : Site → Bool) → ((label : MachLabel) → p (entry_site label) ≡ false) → (cells : List Cell) (uses : Uses) → uses_of 0 cells ≡ listed_uses uses
    → count_by p (sites_of cells) ≡ count_by p (cons_option uses.first []) + count_by p (cons_option uses.second [])
counts_listed p never cells uses is =
    let first = cons_option uses.first [] in
    let second = cons_option uses.second [] in
    omega (arith, ap (count_by p) (sites_apart cells uses is), sum_by-append (λ s. cond (p s) 1 0) (first ++ second) (map entry_site (listed_labels uses.table)), sum_by-append (λ s. cond (p s) 1 0) first second, none (listed_labels uses.table))
  where
    none : (labels : List MachLabel) → count_by p (map entry_site labels) ≡ 0
    none [] = refl
    none (label ∷ labels) = omega (arith, sum_by-cons (λ s. cond (p s) 1 0) (entry_site label) (map entry_site labels), ap (λ b. cond {A = ℕ} b 1 0) (never label), none labels)

module _ (frame : FrameLayout) (flags : EmitFlags) where
  -- one more item: branches to what it binds are not alive any more, and its own branches are
  alive_push : (test : ℕ → Bool) (xs : List Item) (x : Item) → alive frame flags test (xs ++ x ∷ []) ≡ alive frame flags (λ n. test n && not (binds_number n x)) xs + branches test (sites_of (cells_of frame flags x))
  alive_push test [] x = omega arith
  alive_push test (y ∷ ys) x = omega (arith, alive_push test ys x, count_same (is_alive test (ys ++ x ∷ [])) (is_alive (λ n. test n && not (binds_number n x)) ys) (sites_of (cells_of frame flags y)) one)
    where
      one : (s : Site) → is_alive test (ys ++ x ∷ []) s ≡ is_alive (λ n. test n && not (binds_number n x)) ys s
      one s = go s.target
        where
          bools : (v t c d : Bool) → (v && (t && not (c || d))) ≡ (v && ((t && not d) && not c))
          bools true true true true = refl
          bools true true true false = refl
          bools true true false true = refl
          bools true true false false = refl
          bools true false c d = refl
          bools false t c d = refl

          go : (t : Target) → is_alive test (ys ++ x ∷ []) (record { kind = s.kind; target = t }) ≡ is_alive (λ n. test n && not (binds_number n x)) ys (record { kind = s.kind; target = t })
          go (Label l) = ap (λ b. has_veneer s.kind && (test l.0 && not b)) (bound_push ys x l) ∙ bools (has_veneer s.kind) (test l.0) (list_any (binds l) ys) (binds_number l.0 x)
          go (Constant c) = refl
          go (Trap c) = refl
          go IslandEnd = refl

  -- branches to one label, and to the others
  alive_split : (test : ℕ → Bool) (l : ℕ) (xs : List Item) → alive frame flags test xs ≡ alive frame flags (λ n. test n && not (nat_eq l n)) xs + alive frame flags (λ n. test n && nat_eq l n) xs
  alive_split test l [] = refl
  alive_split test l (x ∷ xs) = omega (arith, alive_split test l xs, count_split (is_alive test xs) (is_alive (λ n. test n && not (nat_eq l n)) xs) (is_alive (λ n. test n && nat_eq l n) xs) (sites_of (cells_of frame flags x)) one)
    where
      one : (s : Site) → cond {A = ℕ} (is_alive test xs s) 1 0 ≡ cond (is_alive (λ n. test n && not (nat_eq l n)) xs s) 1 0 + cond (is_alive (λ n. test n && nat_eq l n) xs s) 1 0
      one s = go s.target
        where
          bools : (v t d c : Bool) → cond {A = ℕ} (v && (t && not c)) 1 0 ≡ cond (v && ((t && not d) && not c)) 1 0 + cond (v && ((t && d) && not c)) 1 0
          bools true true true true = refl
          bools true true true false = refl
          bools true true false true = refl
          bools true true false false = refl
          bools true false d c = refl
          bools false t d c = refl

          go : (t : Target) → cond {A = ℕ} (is_alive test xs (record { kind = s.kind; target = t })) 1 0 ≡ cond (is_alive (λ n. test n && not (nat_eq l n)) xs (record { kind = s.kind; target = t })) 1 0 + cond (is_alive (λ n. test n && nat_eq l n) xs (record { kind = s.kind; target = t })) 1 0
          go (Label m) = bools (has_veneer s.kind) (test m.0) (nat_eq l m.0) (list_any (binds m) xs)
          go (Constant c) = refl
          go (Trap c) = refl
          go IslandEnd = refl

  alive_same : (t u : ℕ → Bool) → ((n : ℕ) → t n ≡ u n) → (xs : List Item) → alive frame flags t xs ≡ alive frame flags u xs
  alive_same t u h [] = refl
  alive_same t u h (x ∷ xs) = omega (arith, alive_same t u h xs, count_same (is_alive t xs) (is_alive u xs) (sites_of (cells_of frame flags x)) one)
    where
      one : (s : Site) → is_alive t xs s ≡ is_alive u xs s
      one s = go s.target
        where
          go : (g : Target) → is_alive t xs (record { kind = s.kind; target = g }) ≡ is_alive u xs (record { kind = s.kind; target = g })
          go (Label l) = ap (λ b. has_veneer s.kind && (b && not (list_any (binds l) xs))) (h l.0)
          go (Constant c) = refl
          go (Trap c) = refl
          go IslandEnd = refl

  alive_none : (xs : List Item) → alive frame flags (λ n. false) xs ≡ 0
  alive_none xs = let z = alive_split (λ n. false) 0 xs in omega (arith, z)

  -- no label is counted more often than all are
  pub alive_within : (n : ℕ) (xs : List Item) → alive frame flags (same n) xs ≤ alive frame flags every xs
  alive_within n xs = omega (arith, alive_split every n xs, alive_same (λ k. every k && nat_eq n k) (same n) (λ k. refl) xs)

  -- an item that binds a label
  pub bind_total : (m : FinMap nat_cmp ℕ) (live gone : ℕ) (l : MachLabel) (xs : List Item) → gone ≡ count_of m l.0 → IsTally frame flags xs m → live ≡ alive frame flags every xs → live - gone ≡ alive frame flags every (xs ++ Bind l ∷ [])
  bind_total m live gone l xs g t e = omega (arith, alive_push every xs (Bind l), alive_split every l.0 xs, alive_same (λ k. every k && nat_eq l.0 k) (same l.0) (λ k. refl) xs, e, g, t l.0)

  pub bind_labels : (m : FinMap nat_cmp ℕ) (l : MachLabel) (xs : List Item) → IsTally frame flags xs m → IsTally frame flags (xs ++ Bind l ∷ []) (insert m l.0 0)
  bind_labels m l xs t n = elim (cases_eq n l.0) [
    | inl e ↦
        let here : count_of (insert m l.0 0) n ≡ 0 = count_insert m l.0 0 n ∙ ap (λ b. cond b 0 (count_of m n)) (eq-eqb n l.0 e) in
        let none : alive frame flags (λ k. same n k && not (nat_eq l.0 k)) xs ≡ 0 = alive_same (λ k. same n k && not (nat_eq l.0 k)) (λ k. false) (λ k. ap (λ n. nat_eq n k && not (nat_eq l.0 k)) e ∙ never (nat_eq l.0 k)) xs ∙ alive_none xs in
        omega (arith, here, none, alive_push (same n) xs (Bind l))
    | inr ne ↦
        let here : count_of (insert m l.0 0) n ≡ count_of m n = count_insert m l.0 0 n ∙ ap (λ b. cond b 0 (count_of m n)) (ne_eqb n l.0 ne) in
        let kept : alive frame flags (λ k. same n k && not (nat_eq l.0 k)) xs ≡ alive frame flags (same n) xs = alive_same (λ k. same n k && not (nat_eq l.0 k)) (same n) (λ k. apart n ne k) xs in
        omega (arith, here, kept, t n, alive_push (same n) xs (Bind l))
  ]
    where
      never : (b : Bool) → (b && not b) ≡ false
      never true = refl
      never false = refl

      apart : (n : ℕ) → (n ≡ l.0 → ⊥) → (k : ℕ) → (nat_eq n k && not (nat_eq l.0 k)) ≡ nat_eq n k
      apart n ne k = elim (cases_eq n k) [
        | inl e ↦ let q : l.0 ≡ k → ⊥ = λ z. ne (e ∙ sym z) in ap (λ b. nat_eq n k && not b) (ne_eqb l.0 k q) ∙ and_true (nat_eq n k)
        | inr d ↦ ap (λ b. b && not (nat_eq l.0 k)) (ne_eqb n k d) ∙ sym (ne_eqb n k d)
      ]

  -- an item with words
  kept_all : (test : ℕ → Bool) (inst : Inst) (kept : Option UserStackMap) (xs : List Item) → alive frame flags (λ n. test n && not (binds_number n (Emit inst kept))) xs ≡ alive frame flags test xs
  kept_all test inst kept xs = alive_same (λ n. test n && not (binds_number n (Emit inst kept))) test (λ n. and_true (test n)) xs

  pub emit_total : (live more : ℕ) (inst : Inst) (kept : Option UserStackMap) (xs : List Item) → more ≡ branches every (sites_of (cells_of frame flags (Emit inst kept))) → live ≡ alive frame flags every xs → live + more ≡ alive frame flags every (xs ++ Emit inst kept ∷ [])
  emit_total live more inst kept xs g e = omega (arith, alive_push every xs (Emit inst kept), kept_all every inst kept xs, e, g)

  pub emit_labels : (m m' : FinMap nat_cmp ℕ) (inst : Inst) (kept : Option UserStackMap) (xs : List Item) → ((n : ℕ) → count_of m' n ≡ count_of m n + branches (same n) (sites_of (cells_of frame flags (Emit inst kept)))) → IsTally frame flags xs m → IsTally frame flags (xs ++ Emit inst kept ∷ []) m'
  emit_labels m m' inst kept xs h t n = omega (arith, alive_push (same n) xs (Emit inst kept), kept_all (same n) inst kept xs, t n, h n)
