-- The immediates that the definitions name are those that hold the value.
use Rattle.std.proofs.Common.{◌≡◌, ◌≢◌, ℕ, zero, suc, ◌+◌, ◌*◌, ◌/◌, ◌^◌, ◌<◌, ◌≤◌, inl, inr, Bool, true, false, cond, ◌&&◌, nat_eq, Option, None, Some, List, [], ◌∷◌, ◌++◌, map, refl, sym, ap, subst, ◌∙◌, arith, w64}
use Rattle.std.specs.Prelude.{find, flat_map, All}
use Rattle.std.specs.List.{range_with_len}
use Rattle.std.specs.Int.{trailing_zeros, trailing_ones}
use Rattle.std.specs.Option.{option_or}
use Rattle.std.proofs.lemmas.Bool.{cases_lt, eq-eqb, eqb-true, and_parts, and_from, true≢false}
use Rattle.std.proofs.lemmas.List.Elements.{All-nil, All-cons, All-head, All-tail}
use Rattle.std.proofs.lemmas.List.Concat.{flat_map_single}
use Rattle.std.proofs.lemmas.List.Folds.{find-append}
use Rattle.a64_imms.specs.declared.move_wide.MoveWideConst.{MoveWideConst}
use Rattle.a64_imms.specs.declared.run.Period.{Period}
use Rattle.a64_imms.specs.declared.run.Period.TheVariants.{Two, Four, Eight, Sixteen, ThirtyTwo, SixtyFour}
use Rattle.a64_imms.specs.declared.run.Run.{Run}
use Rattle.a64_imms.specs.MoveWides.{wide_value, IsWideValue, IsWide, HasWide, wide_at, wide_of}
use Rattle.a64_imms.specs.Runs.{number, IsRun, is_run, turns_of, words_of, periods, run_of}
use Rattle.a64_imms.proofs.Table.{even_of, spacing_of, is_searched, same_run, width_le}
use Rattle.a64_imms.proofs.LogicRuns.{run_passes, passed_run}

-- ---- the first element that passes

-- it passes, and has what all elements have
pub find_passes : {X : Type 0} (p : X → Bool) (xs : List X) (x : X) → find p xs ≡ Some x → p x ≡ true
find_passes p [] x e = absurd cc
find_passes p (y ∷ ys) x e = at (p y) refl e (find_passes p ys x)
  where
    at : (b : Bool) → p y ≡ b → cond b (Some y) (find p ys) ≡ Some x → (find p ys ≡ Some x → p x ≡ true) → p x ≡ true
    at true is e rest = let same : y ≡ x = cc in ap p (sym same) ∙ is
    at false is e rest = rest e

pub find_holds : {X : Type 0} (p : X → Bool) (P : X → Type 0) (xs : List X) (x : X) → All P xs → find p xs ≡ Some x → P x
find_holds p P [] x all e = absurd cc
find_holds p P (y ∷ ys) x all e = at (p y) e (find_holds p P ys x (All-tail P y ys all))
  where
    at : (b : Bool) → cond b (Some y) (find p ys) ≡ Some x → (find p ys ≡ Some x → P x) → P x
    at true e rest = let same : y ≡ x = cc in subst P same (All-head P y ys all)
    at false e rest = rest e

-- where none passes, none of a range does
none_both : {X : Type 0} (a b : Option X) → option_or a b ≡ None → (a ≡ None) × (b ≡ None)
none_both None b e = (refl, e)
none_both (Some x) b e = absurd cc

none_append : {X : Type 0} (p : X → Bool) (xs ys : List X) → find p (xs ++ ys) ≡ None → (find p xs ≡ None) × (find p ys ≡ None)
none_append p xs ys e = none_both (find p xs) (find p ys) (sym (find-append p xs ys) ∙ e)

none_here : {X : Type 0} (p : X → Bool) (x : X) → find p (x ∷ []) ≡ None → p x ≡ false
none_here p x e = at (p x) e
  where
    at : (b : Bool) → cond b (Some x) None ≡ None → b ≡ false
    at true e = absurd cc
    at false e = refl

none_of_range : {X : Type 0} (p : X → Bool) (f : ℕ → List X) (first many i : ℕ) → find p (flat_map f (range_with_len first many)) ≡ None
    → first ≤ i → i < first + many → find p (f i) ≡ None
none_of_range p f first zero i e low high = absurd (omega arith)
none_of_range p f first (suc many) i e low high =
    let (here, rest) = none_append p (f first) (flat_map f (range_with_len (first + 1) many)) e in
    elim (cases_lt first i) [
      | inl less ↦ none_of_range p f (first + 1) many i rest (omega arith) (omega arith)
      | inr more ↦ (let same : first ≡ i = omega arith in subst (λ k. find p (f k) ≡ None) same here)
    ]

-- ---- runs

-- a number has one run
one_run : (run other : Run) → IsRun run → IsRun other → number run ≡ number other → run ≡ other
one_run run other is is_other e =
    let n = number other in
    let even = even_of n in
    let start = trailing_zeros w64 even in
    let ones = trailing_ones w64 (even / 2 ^ start) in
    let spacing = spacing_of even start ones in
    let left = is_searched run is n even start ones spacing e refl refl refl refl in
    let right = is_searched other is_other n even start ones spacing refl refl refl refl refl in
    same_run run other (sym left.spacing_is ∙ right.spacing_is) (sym left.ones_is ∙ right.ones_is) (sym left.turn_is ∙ right.turn_is)

-- the test of a run with a number
abbrev is_of : ℕ → Run → Bool
is_of value run = is_run run && nat_eq (number run) value

of_passed : (value : ℕ) (run : Run) → is_of value run ≡ true → IsRun run × (number run ≡ value)
of_passed value run test =
    let (is, same) = and_parts (is_run run) (nat_eq (number run) value) test in
    (passed_run run is, eqb-true (number run) value same)

-- where no word passes, no run of a period does
none_of_period : (value : ℕ) (period : Period) (ones turn : ℕ) → find (is_of value) (words_of period) ≡ None → ones < 64 → turn < 64
    → is_of value (record { period = period; ones = ones; turn = turn }) ≡ false
none_of_period value period ones turn e few turned =
    let at : ℕ → ℕ → Run = λ k t. record { period = period; ones = k; turn = t } in
    let there = none_of_range (is_of value) (turns_of period) 0 64 ones e (omega arith) (omega arith) in
    none_here (is_of value) (at ones turn)
    (none_of_range (is_of value) (λ t. at ones t ∷ []) 0 64 turn
    (ap (find (is_of value)) (flat_map_single (at ones) (range_with_len 0 64)) ∙ there) (omega arith) (omega arith))

none_of_words : (value : ℕ) (period : Period) → run_of value ≡ None → find (is_of value) (words_of period) ≡ None
unfolding run_of
none_of_words value period e =
    let p = is_of value in
    let (two, rest) = none_append p (words_of Two) (flat_map words_of (Four ∷ Eight ∷ Sixteen ∷ ThirtyTwo ∷ SixtyFour ∷ [])) e in
    let (four, rest) = none_append p (words_of Four) (flat_map words_of (Eight ∷ Sixteen ∷ ThirtyTwo ∷ SixtyFour ∷ [])) rest in
    let (eight, rest) = none_append p (words_of Eight) (flat_map words_of (Sixteen ∷ ThirtyTwo ∷ SixtyFour ∷ [])) rest in
    let (sixteen, rest) = none_append p (words_of Sixteen) (flat_map words_of (ThirtyTwo ∷ SixtyFour ∷ [])) rest in
    let (thirty_two, rest) = none_append p (words_of ThirtyTwo) (flat_map words_of (SixtyFour ∷ [])) rest in
    let (sixty_four, rest) = none_append p (words_of SixtyFour) [] rest in
    elim period as (λ q. find p (words_of q) ≡ None)
    [ Two ↦ two | Four ↦ four | Eight ↦ eight | Sixteen ↦ sixteen | ThirtyTwo ↦ thirty_two | SixtyFour ↦ sixty_four ]

-- the run that is named has the number, and where none is named no run has it
pub run_holds : (value : ℕ) (run : Run) → run_of value ≡ Some run → IsRun run × (number run ≡ value)
unfolding run_of
run_holds value run e = of_passed value run (find_passes (is_of value) (flat_map words_of periods) run e)

pub run_none : (value : ℕ) → run_of value ≡ None → (run : Run) → IsRun run → number run ≢ value
run_none value e run is same =
    let low = width_le run.period in
    let part = is.part in
    let turned = is.turned in
    let fails = none_of_period value run.period run.ones run.turn (none_of_words value run.period e) (omega arith) (omega arith) in
    let passes : is_of value run ≡ true = and_from (is_run run) (nat_eq (number run) value) (run_passes run is) (eq-eqb (number run) value same) in
    true≢false (sym passes ∙ fails)

-- the run with a number is the one that is named
pub run_named : (value : ℕ) (run : Run) → IsRun run → number run ≡ value → run_of value ≡ Some run
run_named value run is same = at (run_of value) refl
  where
    at : (found : Option Run) → run_of value ≡ found → run_of value ≡ Some run
    at None e = absurd (run_none value e run is same)
    at (Some other) e =
        let (is_other, number_is) = run_holds value other e in
        e ∙ ap (λ r. Some r) (one_run other run is_other is (number_is ∙ sym same))

pub no_run : (value : ℕ) → ((run : Run) → IsRun run → number run ≢ value) → run_of value ≡ None
no_run value none = at (run_of value) refl
  where
    at : (found : Option Run) → run_of value ≡ found → run_of value ≡ None
    at None e = e
    at (Some run) e = let (is, number_is) = run_holds value run e in absurd (none run is number_is)

-- ---- halfwords

-- what is named holds the value
all_wide : (value first many : ℕ) → first + many ≤ 4 → All IsWide (map (wide_at value) (range_with_len first many))
all_wide value first zero low = All-nil IsWide
all_wide value first (suc many) low =
    All-cons IsWide (wide_at value first) (map (wide_at value) (range_with_len (first + 1) many))
    (record { bits_fit = omega arith; shift_fits = omega arith }) (all_wide value (first + 1) many (omega arith))

pub wide_holds : (value : ℕ) (imm : MoveWideConst) → wide_of value ≡ Some imm → IsWide imm × (wide_value imm ≡ value)
unfolding wide_of
wide_holds value imm e =
    let test : MoveWideConst → Bool = λ one. nat_eq (wide_value one) value in
    let tried = map (wide_at value) (range_with_len 0 4) in
    (find_holds test IsWide tried imm (all_wide value 0 4 (omega arith)) e, eqb-true (wide_value imm) value (find_passes test tried imm e))

found_at : (value bits shift : ℕ) → bits < 2 ^ 16 → shift ≤ 3 → bits * 2 ^ (16 * shift) ≡ value → (value ≡ 0 → shift ≡ 0)
    → wide_of value ≡ Some (record { bits = bits; shift = shift })
unfolding wide_of
found_at value bits zero fits there is lowest = grind arith
found_at value bits (suc zero) fits there is lowest = grind arith
found_at value bits (suc (suc zero)) fits there is lowest = grind arith
found_at value bits (suc (suc (suc zero))) fits there is lowest = grind arith
found_at value bits (suc (suc (suc (suc shift)))) fits there is lowest = absurd (omega arith)

pub wide_named : (value : ℕ) (imm : MoveWideConst) → HasWide value imm → wide_of value ≡ Some imm
wide_named value imm has = found_at value imm.bits imm.shift has.lawful.bits_fit has.lawful.shift_fits has.value_is has.lowest

pub no_wide : (value : ℕ) → ¬ IsWideValue value → wide_of value ≡ None
no_wide value none = at (wide_of value) refl
  where
    at : (found : Option MoveWideConst) → wide_of value ≡ found → wide_of value ≡ None
    at None e = e
    at (Some imm) e =
        let (is, value_is) = wide_holds value imm e in
        absurd (none (imm.bits, imm.shift, is.bits_fit, is.shift_fits, value_is))
