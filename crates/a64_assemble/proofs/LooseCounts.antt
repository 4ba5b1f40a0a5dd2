-- How many uses of the first items may still want something of an island: the branches that no item binds, and
-- the loads of the last ones.
use Rattle.std.proofs.Common.{ℕ, zero, suc, ◌≡◌, ◌+◌, ◌-◌, ◌*◌, ◌^◌, ◌<◌, ◌≤◌, Bool, true, false, cond, not, List, [], ◌∷◌, length, take, refl, ap, ◌∙◌, arith}
use Rattle.std.specs.Prelude.{◌&&◌, min, max, count_by}
use Rattle.std.proofs.lemmas.Bool.{lt-ltb, le-ltb}
use Rattle.std.proofs.lemmas.List.{length-map, length-take-le, take-map}
use Rattle.std.proofs.lemmas.List.Sums.{sum_by-cons}
use Rattle.a64_inst.specs.declared.emission.EmitFlags.{EmitFlags}
use Rattle.a64_inst.specs.declared.frame.FrameLayout.{FrameLayout}
use Rattle.a64_inst.specs.declared.item.Item.{Item}
use Rattle.a64_buffer.specs.declared.force.ForceVeneers.{ForceVeneers}
use Rattle.a64_buffer.specs.declared.site.Target.{Target}
use Rattle.a64_buffer.specs.declared.site.Target.TheVariants.{Label, Constant, Trap, IslandEnd}
use Rattle.a64_cells.specs.declared.site.Site.{Site}
use Rattle.a64_label_use.specs.LabelUses.{has_veneer}
use Rattle.a64_cells.specs.Cells.{cells_of, sites_of}
use Rattle.a64_emit.specs.Bounds.{item_size, item_charge}
use Rattle.a64_emit.specs.Reach.{span, sizes, charges, is_quiet, loose, reach}
use Rattle.a64_assemble.specs.declared.marks.Mark.{Mark}
use Rattle.a64_assemble.specs.Elements.{Element, element_of, elements_of, size_in, sizes_in}
use Rattle.a64_assemble.specs.LooseUses as elements
use Rattle.a64_assemble.specs.LooseUses.{is_load, loads_in, loose_loads}
use Rattle.a64_assemble.specs.Tally.{is_alive, every, waiting, mark_at, alive, loads, AreMarks, IsFirstWaiting}
use Rattle.a64_assemble.proofs.Itemized.{cells_same, sizes_same, bound_same, loose_same}
use Rattle.a64_assemble.proofs.Tallied.{count_same}
use Rattle.a64_assemble.proofs.Spans.{take_within, sums_rise, span_sums}

-- ---- loads of elements

-- where less than 2^20 bytes stand behind the first, all loads count
all_near : (xs : List Element) (x : Element) → sizes_in xs < 2 ^ 20 → loose_loads (x ∷ xs) ≡ elements.loads (x ∷ xs)
all_near [] x near = omega (arith, sum_by-cons loads_in x [])
all_near (y ∷ ys) x near = omega (arith, ap (λ b. cond b (loads_in x) 0) (lt-ltb (sizes_in (y ∷ ys)) (2 ^ 20) near), sum_by-cons loads_in x (y ∷ ys), all_near ys y (omega (arith, near, sum_by-cons size_in y ys)))

-- those count that stand behind the first so many
last_loads : (first : ℕ) (xs : List Element) → first ≤ length xs → (first < length xs → sizes_in xs < sizes_in (take (first + 1) xs) + 2 ^ 20) → (0 < first → sizes_in (take first xs) + 2 ^ 20 ≤ sizes_in xs) → loose_loads xs + elements.loads (take first xs) ≡ elements.loads xs
last_loads zero [] le near far = refl
last_loads zero (x ∷ xs) le near far = omega (arith, all_near xs x (omega (arith, near (omega arith), sum_by-cons size_in x xs, sum_by-cons size_in x [])))
last_loads (suc n) [] le near far = absurd (omega arith)
last_loads (suc n) (x ∷ xs) le near far =
    let all = sum_by-cons size_in x xs in
    let part = sum_by-cons size_in x (take n xs) in
    let more : sizes_in (take (suc n + 1) (x ∷ xs)) ≡ size_in x + sizes_in (take (n + 1) xs) = ap (λ k. sizes_in (take k (x ∷ xs))) (let e : suc n + 1 ≡ suc (n + 1) = omega arith in e) ∙ sum_by-cons size_in x (take (n + 1) xs) in
    let behind : sizes_in (take n xs) + 2 ^ 20 ≤ sizes_in xs = let z = far (omega arith) in omega (arith, z, all, part) in
    let skipped : loose_loads (x ∷ xs) ≡ loose_loads xs = let e = ap (λ b. cond b (loads_in x) 0 + loose_loads xs) (le-ltb (sizes_in xs) (2 ^ 20) (omega (arith, behind))) in omega (arith, e) in
    let later = last_loads n xs (omega (arith, le)) (λ lt. let z = near (omega (arith, lt)) in omega (arith, z, all, more)) (λ some. behind) in
    omega (arith, skipped, later, sum_by-cons loads_in x xs, sum_by-cons loads_in x (take n xs))

module _ (frame : FrameLayout) (flags : EmitFlags) where
  -- ---- loose uses of items

  -- the branches of items, told of the elements that they are
  branches_same : (items : List Item) → elements.alive (λ n. true) (elements_of frame flags items) ≡ alive frame flags every items
  branches_same [] = refl
  branches_same (x ∷ later) =
      let cells = ap (λ cs. count_by (elements.is_alive (λ n. true) (elements_of frame flags later)) (sites_of cs)) (cells_same frame flags x) in
      let sites = count_same (elements.is_alive (λ n. true) (elements_of frame flags later)) (is_alive every later) (sites_of (cells_of frame flags x)) (λ s. one s s.target) in
      omega (arith, cells, sites, branches_same later)
    where
      one : (s : Site) (t : Target) → elements.is_alive (λ n. true) (elements_of frame flags later) (record { kind = s.kind; target = t }) ≡ is_alive every later (record { kind = s.kind; target = t })
      one s (Label l) = ap (λ b. has_veneer s.kind && (true && not b)) (bound_same frame flags later l)
      one s (Constant c) = refl
      one s (Trap c) = refl
      one s IslandEnd = refl

  loads_same : (items : List Item) → elements.loads (elements_of frame flags items) ≡ loads frame flags items
  loads_same [] = refl
  loads_same (x ∷ items) =
      omega (arith, sum_by-cons loads_in (element_of frame flags x) (elements_of frame flags items), sum_by-cons (λ x. waiting (sites_of (cells_of frame flags x))) x items, ap (λ cs. count_by is_load (sites_of cs)) (cells_same frame flags x), loads_same items)

  -- the branches that no item binds, and the loads behind which less than 2^20 bytes stand
  loose_parts : (first : ℕ) (items : List Item) → first ≤ length items → (first < length items → sizes frame flags items < sizes frame flags (take (first + 1) items) + 2 ^ 20) → (0 < first → sizes frame flags (take first items) + 2 ^ 20 ≤ sizes frame flags items) → loose frame flags items + loads frame flags (take first items) ≡ alive frame flags every items + loads frame flags items
  loose_parts first items le near far =
      let count = length-map items (element_of frame flags) in
      let all = sizes_same frame flags items in
      let part = ap sizes_in (take-map (element_of frame flags) first items) ∙ sizes_same frame flags (take first items) in
      let more = ap sizes_in (take-map (element_of frame flags) (first + 1) items) ∙ sizes_same frame flags (take (first + 1) items) in
      let last = last_loads first (elements_of frame flags items) (omega (arith, le, count)) (λ lt. let z = near (omega (arith, lt, count)) in omega (arith, z, all, more)) (λ some. let z = far some in omega (arith, z, all, part)) in
      let before = ap elements.loads (take-map (element_of frame flags) first items) ∙ loads_same (take first items) in
      omega (arith, loose_same frame flags items, branches_same items, loads_same items, last, before)

  -- the same by sums
  pub loose_marks : (items : List Item) (marks : List Mark) (index first : ℕ) → AreMarks frame flags items marks → index < length marks → IsFirstWaiting marks index first → (mark_at marks index).branches + ((mark_at marks index).loads - (mark_at marks first).loads) ≡ loose frame flags (take index items)
  loose_marks items marks index first are within waits =
      let le : index ≤ length items = omega (arith, within, are.count) in
      let m = are.each index le in
      let f = are.each first (omega (arith, waits.within, le)) in
      let count = length-take-le index items le in
      let same = take_within first index items waits.within in
      let part = loose_parts first (take index items) (omega (arith, count, waits.within))
      (λ lt.
      let lt' : first < index = omega (arith, lt, count) in
      let next = are.each (first + 1) (omega (arith, lt', le)) in
      let z = waits.near lt' in
      omega (arith, z, m.size_is, next.size_is, ap (sizes frame flags) (take_within (first + 1) index items (omega (arith, lt')))))
      (λ some. let z = waits.far some in omega (arith, z, m.size_is, f.size_is, ap (sizes frame flags) same)) in
      let rise = sums_rise (λ x. waiting (sites_of (cells_of frame flags x))) items first index waits.within in
      omega (arith, part, m.branches_is, m.loads_is, f.loads_is, ap (loads frame flags) same, rise)

  -- ---- reach

  -- what the sums up to the start of an item and up to the end of another say, the lower and the higher of two
  module _ (force : ForceVeneers) (items : List Item) (marks : List Mark) (i j low high : ℕ) where
    reach_at : (quiet : Bool) → low ≡ min i j → high ≡ max i j → quiet ≡ is_quiet frame flags force items → sizes frame flags (span items low high) + cond quiet 0 (charges frame flags (span items low high) + 28 * loose frame flags (take low items)) ≡ reach frame flags force items i j
    reach_at quiet is_low is_high is_quiet = rw (is_low, is_high, is_quiet) refl

    pub quiet_reach : AreMarks frame flags items marks → i + 1 < length marks → j + 1 < length marks → low ≡ min i j → high ≡ max i j → true ≡ is_quiet frame flags force items → (mark_at marks (high + 1)).size - (mark_at marks low).size ≡ reach frame flags force items i j
    quiet_reach are wi wj is_low is_high quiet =
        let start = are.each low (omega (arith, wi, is_low, are.count)) in
        let end = are.each (high + 1) (omega (arith, wi, wj, is_high, are.count)) in
        omega (arith, start.size_is, end.size_is, span_sums (item_size frame flags) items low high (omega (arith, is_low, is_high)), reach_at true is_low is_high quiet)

    pub other_reach : (uses : ℕ) → AreMarks frame flags items marks → i + 1 < length marks → j + 1 < length marks → low ≡ min i j → high ≡ max i j → uses ≡ loose frame flags (take low items) → false ≡ is_quiet frame flags force items → (mark_at marks (high + 1)).growth - (mark_at marks low).growth + 28 * uses ≡ reach frame flags force items i j
    other_reach uses are wi wj is_low is_high loose_is quiet =
        let le : low ≤ high + 1 = omega (arith, is_low, is_high) in
        let start = are.each low (omega (arith, wi, is_low, are.count)) in
        let end = are.each (high + 1) (omega (arith, wi, wj, is_high, are.count)) in
        let own = span_sums (item_size frame flags) items low high le in
        let added = span_sums (item_charge frame flags) items low high le in
        let own_rise = sums_rise (item_size frame flags) items low (high + 1) le in
        let added_rise = sums_rise (item_charge frame flags) items low (high + 1) le in
        omega (arith, start.growth_is, end.growth_is, own, added, own_rise, added_rise, loose_is, reach_at false is_low is_high quiet)
