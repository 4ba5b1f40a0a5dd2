-- A size and a field have one value of a logical instruction.
use Rattle.std.specs.Prelude.{ℕ, ◌≡◌, ◌<◌, ◌+◌, ◌-◌, ◌*◌, Bool, true, false, if◌then◌else◌}
use Rattle.std.proofs.Common.{refl, sym, ap, ap₂, ◌∙◌, arith}
use Rattle.a64_base.specs.declared.size.OperandSize.{OperandSize}
use Rattle.a64_base.specs.declared.size.OperandSize.TheVariants.{Size32, Size64}
use Rattle.a64_imms.specs.declared.imm_logic.ImmLogic.{ImmLogic}
use Rattle.a64_imms.specs.declared.run.Period.{Period}
use Rattle.a64_imms.specs.declared.run.Run.{Run}
use Rattle.a64_imms.specs.Runs.{width, prefix, number, IsRun}
use Rattle.a64_imms.specs.Logic.{seen, counted, is_widest, logic_value, logic_field, IsLogicValue}
use Rattle.a64_imms.specs.Logic.{IsLogicOf}

-- what counts is seen as the whole is
seen-counted : (size : OperandSize) (value : ℕ) → seen size value ≡ seen size (counted size value)
seen-counted Size32 value = omega arith
seen-counted Size64 value = refl

-- what is seen tells what counts
counted_seen : (size : OperandSize) (v w : ℕ) → seen size v ≡ seen size w
    → counted size v ≡ counted size w
counted_seen Size32 v w same = omega arith
counted_seen Size64 v w same = same

same_prefix : (p q : Period) (k l : ℕ) → 0 < k → k < width p → 0 < l → l < width q
    → is_widest p ≡ is_widest q
    → prefix p + (k - 1) ≡ prefix q + (l - 1) → p ≡ q
same_prefix p q k l some_k part_k some_l part_l widest same = grind arith

same_ones : (p : Period) (k l : ℕ) → 0 < k → 0 < l → prefix p + (k - 1) ≡ prefix p + (l - 1) → k ≡ l
same_ones p k l some_k some_l same = omega arith

-- runs with one triple are the same
same_triple : (run other : Run) → IsRun run → IsRun other
    → is_widest run.period ≡ is_widest other.period
    → run.turn ≡ other.turn
    → prefix run.period + (run.ones - 1) ≡ prefix other.period + (other.ones - 1) → run ≡ other
same_triple run other is is_other widest turn same =
    let period =
    same_prefix run.period other.period run.ones other.ones is.some is.part is_other.some
    is_other.part widest same in
    let prefixes = ap prefix period in
    let some = is.some in
    let other_some = is_other.some in
    let ones : run.ones ≡ other.ones = omega arith in
    let at : Period → ℕ → ℕ → Run = λ p k t. record { period = p; ones = k; turn = t } in
    ap (λ p. at p run.ones run.turn) period ∙ ap₂ (λ k t. at other.period k t) ones turn

-- R and S have six bits
turn_fits : (p : Period) (turn : ℕ) → turn < width p → turn < 64
turn_fits p turn turned = grind arith

ones_fit : (p : Period) (k : ℕ) → 0 < k → k < width p → prefix p + (k - 1) < 64
ones_fit p k some part = grind arith

-- a field is read in one way
same_parts : (m n : Bool) (r s t u : ℕ) → r < 64 → s < 64 → t < 64 → u < 64
    → 4096 * (if m then 1 else 0) + 64 * r + s ≡ 4096 * (if n then 1 else 0) + 64 * t + u
    → (m ≡ n) × (r ≡ t) × (s ≡ u)
same_parts true true r s t u fits_r fits_s fits_t fits_u same = (refl, omega arith, omega arith)
same_parts true false r s t u fits_r fits_s fits_t fits_u same = absurd (omega arith)
same_parts false true r s t u fits_r fits_s fits_t fits_u same = absurd (omega arith)
same_parts false false r s t u fits_r fits_s fits_t fits_u same = (refl, omega arith, omega arith)

pub logic_within : (size : OperandSize) (imm : ImmLogic) → IsLogicOf size (logic_value imm) imm
    → IsLogicValue size (counted size (logic_value imm))
logic_within size imm lawful =
    (lawful.run, lawful.is_run, lawful.number_is ∙ seen-counted size (logic_value imm))

pub r_fits : (size : OperandSize) (imm : ImmLogic) → IsLogicOf size (logic_value imm) imm
    → imm.r < 64
r_fits size imm lawful =
    let r = lawful.triple.r_is in omega
    (arith, turn_fits lawful.run.period lawful.run.turn lawful.is_run.turned)

pub s_fits : (size : OperandSize) (imm : ImmLogic) → IsLogicOf size (logic_value imm) imm
    → imm.s < 64
s_fits size imm lawful =
    let s = lawful.triple.s_is in
    omega (arith, ones_fit lawful.run.period lawful.run.ones lawful.is_run.some lawful.is_run.part)

same_run : (size : OperandSize) (x y : ImmLogic) (of_x : IsLogicOf size (logic_value x) x)
    (of_y : IsLogicOf size (logic_value y) y)
    → logic_field x ≡ logic_field y → of_x.run ≡ of_y.run
same_run size x y of_x of_y same =
    let (n, r, s) =
    same_parts x.n y.n x.r x.s y.r y.s (r_fits size x of_x) (s_fits size x of_x)
    (r_fits size y of_y) (s_fits size y of_y) same
    in
    same_triple of_x.run of_y.run of_x.is_run of_y.is_run
    (sym of_x.triple.n_is ∙ n ∙ of_y.triple.n_is)
    (sym of_x.triple.r_is ∙ r ∙ of_y.triple.r_is)
    (sym of_x.triple.s_is ∙ s ∙ of_y.triple.s_is)

pub one_logic : (size : OperandSize) (x y : ImmLogic) → IsLogicOf size (logic_value x) x
    → IsLogicOf size (logic_value y) y
    → logic_field x ≡ logic_field y → counted size (logic_value x) ≡ counted size (logic_value y)
one_logic size x y of_x of_y same =
    counted_seen size (logic_value x) (logic_value y)
    (sym of_x.number_is ∙ ap number (same_run size x y of_x of_y same) ∙ of_y.number_is)
