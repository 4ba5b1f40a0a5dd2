-- How far apart places come, element by element.
use Rattle.std.proofs.Common.{ℕ, ◌≡◌, ◌+◌, ◌*◌, ◌<◌, ◌≤◌, Bool, true, false, cond, List, [], ◌∷◌, ◌++◌, All, length, get_or, take, drop, sym, ap, ◌∙◌, subst, arith, inl, inr}
use Rattle.std.specs.Prelude.{sum_by, ◌&&◌, nat_le}
use Rattle.std.proofs.lemmas.Bool.{cases_eq, lt-leb, false≢true}
use Rattle.std.proofs.lemmas.List.{get_or_append_left, get_or_push, length_push, take_more, drop-append-le, length-take-le, drop_all}
use Rattle.std.proofs.lemmas.List.Sums.{sum_by_push}
use Rattle.a64_buffer.specs.declared.site.Use.{Use}
use Rattle.a64_buffer.specs.declared.force.ForceVeneers.{ForceVeneers}
use Rattle.a64_buffer.specs.Buffer.{Buffer, end_of}
use Rattle.a64_buffer.specs.Classes.{third, cost, weigh, owed, owed_to, Fits}
use Rattle.a64_label_use.specs.declared.label_use.LabelUse.{LabelUse}
use Rattle.a64_label_use.specs.LabelUses.{label_kinds}
use Rattle.a64_assemble.specs.Elements.{Element, Asking, size_in, growth_in, growths_in, element_at}
use Rattle.a64_assemble.specs.Asks.{Moves}
use Rattle.a64_assemble.specs.LooseUses.{alive, loads_in, loose_in, is_waiting, waiting_cost, waiting_from, IsBehind, AreSpread}
use Rattle.a64_assemble.proofs.Waiting.{nothing_sums, waiting_step, owed_loose}

-- one more element at the end of a part of the elements
more_elements : (xs : List Element) (i k : ℕ) → i ≤ k → k < length xs → drop i (take (k + 1) xs) ≡ drop i (take k xs) ++ element_at xs k ∷ []
more_elements xs i k le within =
    ap (λ (ys : List Element). drop i ys) (take_more xs k (Asking 0) within)
    ∙ drop-append-le i (take k xs) (element_at xs k ∷ []) (omega (arith, le, length-take-le k xs (omega arith)))

no_elements : (xs : List Element) (k : ℕ) → k ≤ length xs → drop k (take k xs) ≡ []
no_elements xs k le = drop_all k (take k xs) (omega (arith, length-take-le k xs le))

pub sums_more : (f : Element → ℕ) (xs : List Element) (i k : ℕ) → i ≤ k → k < length xs → sum_by f (drop i (take (k + 1) xs)) ≡ sum_by f (drop i (take k xs)) + f (element_at xs k)
sums_more f xs i k le within = ap (sum_by f) (more_elements xs i k le within) ∙ sum_by_push f (drop i (take k xs)) (element_at xs k)

no_sums : (f : Element → ℕ) (xs : List Element) (k : ℕ) → k ≤ length xs → sum_by f (drop k (take k xs)) ≡ 0
no_sums f xs k le = ap (sum_by f) (no_elements xs k le)

-- what stands before the end is not behind it
none_behind : (b : Buffer LabelUse) (us : List (Use LabelUse)) → All (λ u. u.offset < end_of b) us → waiting_from (end_of b) us ≤ 0
none_behind b us h = nothing_sums (waiting_cost (end_of b)) us (λ k d w. one (get_or us k d) (h k d w))
  where
    two : (a c : Bool) → c ≡ false → (n : ℕ) → cond (a && c) n 0 ≤ 0
    two true false e n = omega arith
    two true true e n = absurd (false≢true (sym e))
    two false c e n = omega arith

    one : (u : Use LabelUse) → u.offset < end_of b → waiting_cost (end_of b) u ≤ 0
    one u lt = two (is_waiting u) (nat_le (end_of b) u.offset) (lt-leb (end_of b) u.offset lt) (weigh label_kinds (cost third) u)

module _ (force : ForceVeneers) (xs : List Element) (k : ℕ) (places : List ℕ) (b b' : Buffer LabelUse) (count : length places ≡ k) (within : k < length xs) (rest : List Element) (p : Moves force (element_at xs k) rest b b') (grown : end_of b + size_in (element_at xs k) ≤ end_of b') where
  keeps : (i : ℕ) → i ≤ k → get_or (places ++ (end_of b) ∷ [] ++ (end_of b') ∷ []) i 0 ≡ get_or (places ++ (end_of b) ∷ []) i 0
  keeps i le = get_or_append_left (places ++ (end_of b) ∷ []) ((end_of b') ∷ []) 0 i (omega (arith, le, count, length_push places (end_of b)))

  last : get_or (places ++ (end_of b) ∷ [] ++ (end_of b') ∷ []) (k + 1) 0 ≡ end_of b'
  last = get_or_push (places ++ (end_of b) ∷ []) (end_of b') 0 (k + 1) (omega (arith, count, length_push places (end_of b)))

  pub behind_step : All (λ u. u.offset < end_of b') b'.uses → ((i : ℕ) → i ≤ k → IsBehind xs k (places ++ (end_of b) ∷ []) b i) → (i : ℕ) → i ≤ k + 1 → IsBehind xs (k + 1) (places ++ (end_of b) ∷ [] ++ (end_of b') ∷ []) b' i
  behind_step placed h i le = elim (cases_eq i (k + 1)) [
    | inl e ↦ subst (IsBehind xs (k + 1) (places ++ (end_of b) ∷ [] ++ (end_of b') ∷ []) b') (sym e) (record {
      sizes = omega (arith, last, no_sums size_in xs (k + 1) (omega arith));
      waiting = omega (arith, ap (λ x. waiting_from x b'.uses) last, none_behind b' b'.uses placed);
    })
    | inr ne ↦
        let lt : i ≤ k = omega arith in
        let z = h i lt in
        record {
          sizes = omega (arith, keeps i lt, z.sizes, sums_more size_in xs i k lt within, grown);
          waiting = omega (arith, ap (λ x. waiting_from x b'.uses) (keeps i lt), waiting_step force (get_or (places ++ (end_of b) ∷ []) i 0) (element_at xs k) rest b b' p, z.waiting, sums_more loads_in xs i k lt within);
        }
  ]

  -- what is owed after the element
  pub owed_now : Fits label_kinds b' 0 → get_or (places ++ (end_of b) ∷ [] ++ (end_of b') ∷ []) 0 0 ≡ 0 → ((test : ℕ → Bool) → owed_to label_kinds test b' ≤ 28 * alive test (take (k + 1) xs)) → ((i : ℕ) → i ≤ k + 1 → IsBehind xs (k + 1) (places ++ (end_of b) ∷ [] ++ (end_of b') ∷ []) b' i) → owed label_kinds b' ≤ 28 * loose_in (take (k + 1) xs)
  owed_now fits first live behind =
      owed_loose b' (take (k + 1) xs) (λ i. get_or (places ++ (end_of b) ∷ [] ++ (end_of b') ∷ []) i 0) fits
      (λ i le. let z = behind i (omega (arith, le, length-take-le (k + 1) xs (omega arith))) in (z.sizes, z.waiting))
      first (live (λ n. true))

  pub grows_step : owed label_kinds b' ≤ 28 * loose_in (take (k + 1) xs) → end_of b' + owed label_kinds b' ≤ end_of b + owed label_kinds b + growth_in (element_at xs k) → ((i : ℕ) → i ≤ k → end_of b + owed label_kinds b ≤ get_or (places ++ (end_of b) ∷ []) i 0 + growths_in (drop i (take k xs)) + 28 * loose_in (take i xs)) → (i : ℕ) → i ≤ k + 1 → end_of b' + owed label_kinds b' ≤ get_or (places ++ (end_of b) ∷ [] ++ (end_of b') ∷ []) i 0 + growths_in (drop i (take (k + 1) xs)) + 28 * loose_in (take i xs)
  grows_step now owed_more h i le = elim (cases_eq i (k + 1)) [
    | inl e ↦ subst (λ i. end_of b' + owed label_kinds b' ≤ get_or (places ++ (end_of b) ∷ [] ++ (end_of b') ∷ []) i 0 + growths_in (drop i (take (k + 1) xs)) + 28 * loose_in (take i xs)) (sym e) (omega (arith, last, now))
    | inr ne ↦
        let lt : i ≤ k = omega arith in
        omega (arith, keeps i lt, h i lt, owed_more, sums_more growth_in xs i k lt within)
  ]

  pub spread_step : ((i : ℕ) → i ≤ k + 1 → IsBehind xs (k + 1) (places ++ (end_of b) ∷ [] ++ (end_of b') ∷ []) b' i) → ((i : ℕ) → i ≤ k + 1 → end_of b' + owed label_kinds b' ≤ get_or (places ++ (end_of b) ∷ [] ++ (end_of b') ∷ []) i 0 + growths_in (drop i (take (k + 1) xs)) + 28 * loose_in (take i xs)) → ((i j : ℕ) → i ≤ j → j ≤ k → AreSpread xs (places ++ (end_of b) ∷ []) i j) → (i j : ℕ) → i ≤ j → j ≤ k + 1 → AreSpread xs (places ++ (end_of b) ∷ [] ++ (end_of b') ∷ []) i j
  spread_step behind grow h i j le top = elim (cases_eq j (k + 1)) [
    | inl e ↦ subst (AreSpread xs (places ++ (end_of b) ∷ [] ++ (end_of b') ∷ []) i) (sym e) (record {
      least = omega (arith, last, (behind i (omega arith)).sizes);
      most = omega (arith, last, grow i (omega arith));
    })
    | inr ne ↦
        let lt : j ≤ k = omega arith in
        let z = h i j le lt in
        record {
          least = omega (arith, keeps i (omega arith), keeps j lt, z.least);
          most = omega (arith, keeps i (omega arith), keeps j lt, z.most);
        }
  ]
