-- Sums over the first items, one item after another.
use Rattle.std.proofs.Common.{ℕ, ◌≡◌, ◌+◌, ◌*◌, ◌^◌, ◌<◌, ◌≤◌, Bool, true, false, cond, not, List, [], ◌∷◌, ◌++◌, length, get_or, take, None, Some, refl, sym, ap, ◌∙◌, subst, arith, inl, inr, nat_cmp, length-append}
use Rattle.std.specs.Prelude.{◌&&◌, count_by}
use Rattle.std.specs.FinMap.{FinMap, empty, get-empty}
use Rattle.std.specs.Option.{unwrap_or}
use Rattle.std.specs.List.{cons_option, filter_map, list_any}
use Rattle.std.proofs.lemmas.Bool.{cases_lt}
use Rattle.std.proofs.lemmas.List.{take_all, take_more, take-append-le, get_or_append_left, get_or_push}
use Rattle.std.proofs.lemmas.List.Sums.{sum_by-cons, sum_by-take-le}
use Rattle.a64_inst.specs.declared.emission.EmitFlags.{EmitFlags}
use Rattle.a64_inst.specs.declared.frame.FrameLayout.{FrameLayout}
use Rattle.a64_inst.specs.declared.item.Item.{Item}
use Rattle.a64_buffer.specs.declared.site.Target.{Target}
use Rattle.a64_buffer.specs.declared.site.Target.TheVariants.{Label, Constant, Trap, IslandEnd}
use Rattle.a64_cells.specs.declared.site.Site.{Site}
use Rattle.a64_label_use.specs.LabelUses.{has_veneer, forward_range}
use Rattle.a64_cells.specs.Cells.{cells_of, sites_of}
use Rattle.a64_emit.specs.Bounds.{veneer_range, item_size, item_charge, growth_of, whole}
use Rattle.a64_emit.specs.Reach.{binds, sizes, charges}
use Rattle.a64_emit.proofs.Asked.{item_least}
use Rattle.a64_assemble.specs.declared.marks.Mark.{Mark}
use Rattle.a64_assemble.specs.LooseUses.{is_load}
use Rattle.a64_assemble.specs.Tally.{is_alive, every, waiting, count_of, no_mark, mark_at, alive, loads, IsTally, IsMark, AreMarks, AreSums, AreRising}
use Rattle.a64_assemble.proofs.Sizes.{whole_more}
use Rattle.a64_assemble.proofs.Spans.{sums_rise}
use Rattle.a64_assemble.proofs.Tallied.{alive_within}

-- each use that counts is one that is charged for
uses_charged : (later : List Item) (sites : List Site) → count_by (is_alive every later) sites + count_by is_load sites ≤ length (filter_map veneer_range sites)
uses_charged later [] = omega arith
uses_charged later (s ∷ sites) = omega (arith, sum_by-cons (λ s. cond (is_alive every later s) 1 0) s sites, sum_by-cons (λ s. cond (is_load s) 1 0) s sites, uses_charged later sites, one s.target)
  where
    branch : (v b : Bool) (range : ℕ) (rest : List ℕ) → cond {A = ℕ} (v && (true && not b)) 1 0 + 0 + length rest ≤ length (cons_option (cond v (Some range) None) rest)
    branch true true range rest = omega arith
    branch true false range rest = omega arith
    branch false b range rest = omega arith

    one : (t : Target) → cond {A = ℕ} (is_alive every later (record { kind = s.kind; target = t })) 1 0 + cond {A = ℕ} (is_load (record { kind = s.kind; target = t })) 1 0 + length (filter_map veneer_range sites) ≤ length (cons_option (veneer_range (record { kind = s.kind; target = t })) (filter_map veneer_range sites))
    one (Label l) = branch (has_veneer s.kind) (list_any (binds l) later) (forward_range s.kind) (filter_map veneer_range sites)
    one (Constant c) = omega arith
    one (Trap c) = omega arith
    one IslandEnd = omega arith

module _ (frame : FrameLayout) (flags : EmitFlags) where
  -- ---- the sums of some items

  counts_charged : (items : List Item) → 28 * (loads frame flags items + alive frame flags every items) ≤ charges frame flags items
  counts_charged [] = omega arith
  counts_charged (x ∷ xs) = omega (arith, sum_by-cons (λ x. waiting (sites_of (cells_of frame flags x))) x xs, sum_by-cons (item_charge frame flags) x xs, uses_charged xs (sites_of (cells_of frame flags x)), item_least frame flags x, counts_charged xs)

  grown_within : (items : List Item) → sizes frame flags items + charges frame flags items ≤ whole frame flags items
  grown_within [] = omega arith
  grown_within (x ∷ xs) = omega (arith, sum_by-cons (item_size frame flags) x xs, sum_by-cons (item_charge frame flags) x xs, sum_by-cons (growth_of frame flags) x xs, grown_within xs)

  -- what islands may add makes up for 28 bytes for each use that counts
  pub mark_few : (items : List Item) (mark : Mark) → IsMark frame flags items mark → 28 * (mark.loads + mark.branches) ≤ mark.growth
  mark_few items mark m = omega (arith, m.growth_is, m.loads_is, m.branches_is, counts_charged items)

  pub mark_size : (items : List Item) (mark : Mark) → IsMark frame flags items mark → mark.size ≤ mark.growth
  mark_size items mark m = omega (arith, m.growth_is, m.size_is)

  -- no label is counted more often than all are
  pub mark_within : (items : List Item) (mark : Mark) (counts : FinMap nat_cmp ℕ) → IsTally frame flags items counts → IsMark frame flags items mark → (n : ℕ) → count_of counts n ≤ mark.branches
  mark_within items mark counts tally m n = omega (arith, tally n, m.branches_is, alive_within frame flags n items)

  -- there is room for one more item
  pub mark_short : (items : List Item) (i : ℕ) (d x : Item) (mark : Mark) → i < length items → get_or items i d ≡ x → whole frame flags items < 2 ^ 31 → IsMark frame flags (take i items) mark → mark.growth + growth_of frame flags x < 2 ^ 31
  mark_short items i d x mark within is short m = omega (arith, m.growth_is, short, grown_within (take i items), whole_more frame flags items i d x within is, sum_by-take-le (growth_of frame flags) items (i + 1))

  -- ---- the sums of the first items, for each number of them

  mark_none : IsMark frame flags [] no_mark
  mark_none = record { size_is = refl; growth_is = refl; loads_is = refl; branches_is = refl }

  marks_none : AreMarks frame flags [] (no_mark ∷ [])
  marks_none = record { count = refl; each = each }
    where
      each : (i : ℕ) → i ≤ length {A = Item} [] → IsMark frame flags (take i []) (mark_at (no_mark ∷ []) i)
      each i le = subst (λ i. IsMark frame flags (take i []) (mark_at (no_mark ∷ []) i)) (let z : 0 ≡ i = omega (arith, le) in z) mark_none

  marks_push : (items : List Item) (x : Item) (marks : List Mark) (next : Mark) → AreMarks frame flags items marks → IsMark frame flags (items ++ x ∷ []) next → AreMarks frame flags (items ++ x ∷ []) (marks ++ next ∷ [])
  marks_push items x marks next are is = record { count = omega (arith, length-append marks (next ∷ []), length-append items (x ∷ []), are.count); each = each }
    where
      each : (i : ℕ) → i ≤ length (items ++ x ∷ []) → IsMark frame flags (take i (items ++ x ∷ [])) (mark_at (marks ++ next ∷ []) i)
      each i le = elim (cases_lt i (length marks)) [
        | inl lt ↦
            let le' : i ≤ length items = omega (arith, lt, are.count) in
            subst (λ xs. IsMark frame flags xs (mark_at (marks ++ next ∷ []) i)) (sym (take-append-le i items (x ∷ []) le'))
            (subst (IsMark frame flags (take i items)) (sym (get_or_append_left marks (next ∷ []) no_mark i lt)) (are.each i le'))
        | inr ge ↦
            let is' : length marks ≡ i = omega (arith, ge, le, are.count, length-append items (x ∷ [])) in
            let all : length (items ++ x ∷ []) ≤ i = omega (arith, ge, are.count, length-append items (x ∷ [])) in
            subst (λ xs. IsMark frame flags xs (mark_at (marks ++ next ∷ []) i)) (sym (take_all i (items ++ x ∷ []) all))
            (subst (IsMark frame flags (items ++ x ∷ [])) (sym (get_or_push marks next no_mark i is')) is)
      ]

  -- items are counted: the branches of them by their labels, and all sums of the first of them, of which the last are
  -- those of all
  pub record AreCounted (items : List Item) (counts : FinMap nat_cmp ℕ) (last : Mark) (marks : List Mark) : Type 0 where
    pub tally : IsTally frame flags items counts
    pub is_last : IsMark frame flags items last
    pub each : AreMarks frame flags items marks

  pub counted_none : (counts : FinMap nat_cmp ℕ) → counts ≡ empty → AreCounted [] counts no_mark (no_mark ∷ [])
  counted_none counts none = record { tally = λ n. ap (λ m. count_of m n) none ∙ ap (λ o. unwrap_or o 0) (get-empty nat_cmp n); is_last = mark_none; each = marks_none }

  pub counted_next : (items : List Item) (i : ℕ) (d x : Item) → i < length items → get_or items i d ≡ x → (marks : List Mark) (next : Mark) (counts counts' : FinMap nat_cmp ℕ) (mark : Mark) → AreCounted (take i items) counts mark marks → IsMark frame flags (take i items ++ x ∷ []) next → IsTally frame flags (take i items ++ x ∷ []) counts' → AreCounted (take (i + 1) items) counts' next (marks ++ next ∷ [])
  counted_next items i d x within is marks next counts counts' mark counted is_next tally =
      let more : take (i + 1) items ≡ take i items ++ x ∷ [] = take_more items i d within ∙ ap (λ (y : Item). take i items ++ y ∷ []) is in
      subst (λ xs. AreCounted xs counts' next (marks ++ next ∷ [])) (sym more) (record { tally = tally; is_last = is_next; each = marks_push (take i items) x marks next counted.each is_next })

  pub counted_all : (items : List Item) (i : ℕ) (counts : FinMap nat_cmp ℕ) (mark : Mark) (marks : List Mark) → length items ≤ i → AreCounted (take i items) counts mark marks → AreMarks frame flags items marks
  counted_all items i counts mark marks all counted = subst (λ xs. AreMarks frame flags xs marks) (take_all i items all) counted.each

-- ---- sums that do not fall

pub rising : (marks : List Mark) → AreSums marks → AreRising marks
rising marks sums = record {
  sizes = λ i j le within.
      let a = at i (omega (arith, le, within)) in
      let b = at j within in
      omega (arith, a.size_is, b.size_is, sums_rise (item_size sums.frame sums.flags) sums.items i j le);
  growths = λ i j le within.
      let a = at i (omega (arith, le, within)) in
      let b = at j within in
      omega (arith, a.growth_is, b.growth_is, sums_rise (item_size sums.frame sums.flags) sums.items i j le, sums_rise (item_charge sums.frame sums.flags) sums.items i j le);
  loads = λ i j le within.
      let a = at i (omega (arith, le, within)) in
      let b = at j within in
      omega (arith, a.loads_is, b.loads_is, sums_rise (λ x. waiting (sites_of (cells_of sums.frame sums.flags x))) sums.items i j le);
}
  where
    at : (i : ℕ) → i < length marks → IsMark sums.frame sums.flags (take i sums.items) (mark_at marks i)
    at i within = sums.are.each i (omega (arith, within, sums.are.count))

-- the uses that count are few
pub few_uses : (marks : List Mark) (index : ℕ) → AreSums marks → index < length marks → 28 * ((mark_at marks index).loads + (mark_at marks index).branches) < 2 ^ 31
few_uses marks index sums within =
    let m = sums.are.each index (omega (arith, within, sums.are.count)) in
    omega (arith, mark_few sums.frame sums.flags (take index sums.items) (mark_at marks index) m, m.growth_is, grown_within sums.frame sums.flags (take index sums.items), sum_by-take-le (growth_of sums.frame sums.flags) sums.items index, sums.short)
