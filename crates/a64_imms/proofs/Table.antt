-- What holds of each of the 5334 rotated runs, by computing it for each.
use Rattle.std.proofs.Common.{◌≡◌, ◌≢◌, ℕ, zero, suc, ◌+◌, ◌-◌, ◌*◌, ◌/◌, ◌%◌, ◌^◌, ◌<◌, ◌≤◌, Bool, true, false, cond, eqb, ltb, ◌&&◌, not, inl, inr, refl, sym, ap, ap₂, ◌∙◌, arith, w64}
use Rattle.std.specs.Int.{trailing_zeros, trailing_ones, rotate_right}
use Rattle.std.proofs.lemmas.Bool.{eq-eqb, eqb-true, ltb-true, cases_eq}
use lib.Count.{count_trailing_zeros}
use Rattle.a64_imms.specs.declared.run.Period.{Period}
use Rattle.a64_imms.specs.declared.run.Period.TheVariants.{Two, Four, Eight, Sixteen, ThirtyTwo, SixtyFour}
use Rattle.a64_imms.specs.declared.run.Run.{Run}
use Rattle.a64_imms.specs.Runs.{width, number, ones_apart, opposite, turn_to, copies, IsRun}

-- ---- tests of all numbers below a bound

abbrev pub each_below : ℕ → (ℕ → Bool) → Bool
each_below zero test = true
each_below (suc n) test = test n && each_below n test

both : (a b : Bool) → (a && b) ≡ true → (a ≡ true) × (b ≡ true)
both true b h = (refl, h)
both false b h = cc

pub one_below : (n : ℕ) (test : ℕ → Bool) → each_below n test ≡ true → (i : ℕ) → i < n → test i ≡ true
one_below zero test all i below = absurd (omega arith)
one_below (suc n) test all i below =
    let (here, lower) = both (test n) (each_below n test) all in
    elim (cases_eq i n) [
      | inl same ↦ ap test same ∙ here
      | inr apart ↦ one_below n test lower i (omega arith)
    ]

-- ---- what the search finds in a number

abbrev pub even_of : ℕ → ℕ
even_of n = cond (eqb (n % 2) 1) (2 ^ 64 - 1 - n) n

abbrev pub spacing_of : ℕ → ℕ → ℕ → ℕ
spacing_of even start length =
    let rest = even / 2 ^ start / 2 ^ length in cond (eqb rest 0) 64 (length + trailing_zeros w64 rest)

abbrev pub ones_of : ℕ → ℕ → ℕ → ℕ
ones_of n length spacing = cond (eqb (n % 2) 1) (spacing - length) length

abbrev pub place_of : ℕ → ℕ → ℕ → ℕ
place_of n start length = cond (eqb (n % 2) 1) (start + length) start

-- the search finds the run
unfoldable pub agrees : Period → ℕ → ℕ → ℕ → ℕ → ℕ → ℕ → ℕ → Bool
agrees period ones turn n even start length spacing =
    let told = eqb (ones_of n length spacing) ones && eqb (turn_to spacing (place_of n start length)) turn in
    ltb 0 even && (eqb spacing (width period) && (eqb (rotate_right w64 n spacing) n && told))

unfoldable searched : Run → ℕ → Bool
searched run n =
    let even = even_of n in
    let start = trailing_zeros w64 even in
    let length = trailing_ones w64 (even / 2 ^ start) in
    agrees run.period run.ones run.turn n even start length (spacing_of even start length)

-- the number as the code builds it, and the complement
unfoldable built : Run → ℕ → Bool
built run n =
    let word = (2 ^ run.ones - 1) * ones_apart run.period in
    ltb n (2 ^ 64) && (ltb word (2 ^ 64) && (eqb (rotate_right w64 word run.turn) n && eqb (number (opposite run)) (2 ^ 64 - 1 - n)))

-- no number whose halves are equal has a run of 64 bits
unfoldable halved : Run → ℕ → Bool
halved run n = eqb (width run.period) 64 && eqb (copies 32 (n % 2 ^ 32) 2) n

unfoldable tested : Period → ℕ → ℕ → Bool
tested period ones turn =
    let run : Run = record { period = period; ones = ones; turn = turn } in
    let n = number run in
    searched run n && (built run n && not (halved run n))

unfoldable all_tested : Period → Bool
all_tested period = each_below (width period - 1) (λ k. each_below (width period) (λ turn. tested period (suc k) turn))

all_of_64 : all_tested SixtyFour ≡ true
unfolding all_tested tested searched agrees built halved number count_trailing_zeros
all_of_64 = refl

all_of_32 : all_tested ThirtyTwo ≡ true
unfolding all_tested tested searched agrees built halved number count_trailing_zeros
all_of_32 = refl

all_of_16 : all_tested Sixteen ≡ true
unfolding all_tested tested searched agrees built halved number count_trailing_zeros
all_of_16 = refl

all_of_8 : all_tested Eight ≡ true
unfolding all_tested tested searched agrees built halved number count_trailing_zeros
all_of_8 = refl

all_of_4 : all_tested Four ≡ true
unfolding all_tested tested searched agrees built halved number count_trailing_zeros
all_of_4 = refl

all_of_2 : all_tested Two ≡ true
unfolding all_tested tested searched agrees built halved number count_trailing_zeros
all_of_2 = refl

-- ---- what the tests say of each run

all_of : (period : Period) → all_tested period ≡ true
all_of Two = all_of_2
all_of Four = all_of_4
all_of Eight = all_of_8
all_of Sixteen = all_of_16
all_of ThirtyTwo = all_of_32
all_of SixtyFour = all_of_64

test_of : (period : Period) (k turn : ℕ) → k < width period - 1 → turn < width period → tested period (suc k) turn ≡ true
unfolding all_tested
test_of period k turn few turned =
    one_below (width period) (λ t. tested period (suc k) t)
    (one_below (width period - 1) (λ i. each_below (width period) (λ t. tested period (suc i) t)) (all_of period) k few)
    turn
    turned

tested_run : (run : Run) → IsRun run → tested run.period run.ones run.turn ≡ true
tested_run run is =
    let some = is.some in
    let part = is.part in
    let back : suc (run.ones - 1) ≡ run.ones = omega arith in
    ap (λ ones. tested run.period ones run.turn) (sym back) ∙ test_of run.period (run.ones - 1) run.turn (omega arith) is.turned

parts : (run : Run) → IsRun run
    → (searched run (number run) ≡ true) × (built run (number run) ≡ true) × (not (halved run (number run)) ≡ true)
unfolding tested
parts run is =
    let (found, others) = both (searched run (number run)) (built run (number run) && not (halved run (number run))) (tested_run run is) in
    let (made, apart) = both (built run (number run)) (not (halved run (number run))) others in
    (found, made, apart)

-- what the search finds in the number of a run
pub record IsSearched (run : Run) (n even start length spacing : ℕ) : Type 0 where
  pub nonzero : 0 < even
  pub spacing_is : spacing ≡ width run.period
  pub repeats : rotate_right w64 n spacing ≡ n
  pub ones_is : ones_of n length spacing ≡ run.ones
  pub turn_is : turn_to spacing (place_of n start length) ≡ run.turn

agreed : (run : Run) (n even start length spacing : ℕ) → agrees run.period run.ones run.turn n even start length spacing ≡ true
    → IsSearched run n even start length spacing
unfolding agrees
agreed run n even start length spacing h =
    let (nonzero, rest) = both (ltb 0 even) _ h in
    let (spaced, more) = both (eqb spacing (width run.period)) _ rest in
    let (repeated, told) = both (eqb (rotate_right w64 n spacing) n) _ more in
    let (counted, turned) = both (eqb (ones_of n length spacing) run.ones) _ told in
    record {
      nonzero = ltb-true _ _ nonzero;
      spacing_is = eqb-true _ _ spaced;
      repeats = eqb-true _ _ repeated;
      ones_is = eqb-true _ _ counted;
      turn_is = eqb-true _ _ turned;
    }

pub is_searched : (run : Run) → IsRun run → (n even start length spacing : ℕ) → number run ≡ n → even ≡ even_of n
    → start ≡ trailing_zeros w64 even → length ≡ trailing_ones w64 (even / 2 ^ start) → spacing ≡ spacing_of even start length
    → IsSearched run n even start length spacing
unfolding searched
is_searched run is n even start length spacing n_is even_is start_is length_is spacing_is =
    let found : searched run (number run) ≡ true = (parts run is).0 in
    agreed run n even start length spacing cc

-- what the code builds from a run, and the complement of its number
pub record IsBuilt (run : Run) : Type 0 where
  pub fits : number run < 2 ^ 64
  pub word_fits : (2 ^ run.ones - 1) * ones_apart run.period < 2 ^ 64
  pub number_is : rotate_right w64 ((2 ^ run.ones - 1) * ones_apart run.period) run.turn ≡ number run
  pub complement : number (opposite run) ≡ 2 ^ 64 - 1 - number run

pub is_built : (run : Run) → IsRun run → IsBuilt run
unfolding built
is_built run is =
    let (fits, rest) = both (ltb (number run) (2 ^ 64)) _ (parts run is).1 in
    let (word, more) = both (ltb ((2 ^ run.ones - 1) * ones_apart run.period) (2 ^ 64)) _ rest in
    let (same, turned) = both (eqb (rotate_right w64 ((2 ^ run.ones - 1) * ones_apart run.period) run.turn) (number run)) _ more in
    record { fits = ltb-true _ _ fits; word_fits = ltb-true _ _ word; number_is = eqb-true _ _ same; complement = eqb-true _ _ turned }

-- ---- runs and periods by their parts

pub same_period : (p q : Period) → width p ≡ width q → p ≡ q
same_period p q same = grind arith

pub same_run : (run other : Run) → width run.period ≡ width other.period → run.ones ≡ other.ones → run.turn ≡ other.turn → run ≡ other
same_run run other widths ones turn =
    let at : Period → ℕ → ℕ → Run = λ p k t. record { period = p; ones = k; turn = t } in
    ap (λ p. at p run.ones run.turn) (same_period run.period other.period widths) ∙ ap₂ (λ k t. at other.period k t) ones turn

pub width_le : (period : Period) → width period ≤ 64
width_le period = grind arith

-- the halves of a number whose run has 64 bits are not equal
pub halves_apart : (run : Run) → IsRun run → width run.period ≡ 64 → copies 32 (number run % 2 ^ 32) 2 ≢ number run
unfolding halved
halves_apart run is wide same =
    let apart : not (eqb (width run.period) 64 && eqb (copies 32 (number run % 2 ^ 32) 2) (number run)) ≡ true = (parts run is).2 in
    let here : eqb (width run.period) 64 ≡ true = eq-eqb _ _ wide in
    let there : eqb (copies 32 (number run % 2 ^ 32) 2) (number run) ≡ true = eq-eqb _ _ same in
    let found : (eqb (width run.period) 64 && eqb (copies 32 (number run % 2 ^ 32) 2) (number run)) ≡ true = rw here there in
    let wrong : not true ≡ true = ap not (sym found) ∙ apart in
    cc
