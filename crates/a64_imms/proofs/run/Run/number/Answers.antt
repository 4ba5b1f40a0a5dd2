use Rattle.std.proofs.Common.{◌≡◌, ℕ, ◌<◌, ◌-◌, ◌*◌, ◌^◌, ◌%◌, sym, ap, ap₂, ◌∙◌, subst, arith, Fits, w64}
use Rattle.std.specs.Int.{rotate_right}
use Rattle.std.proofs.lemmas.Nat.{one_shl}
use Rattle.a64_imms.specs.declared.run.Run.{Run}
use Rattle.a64_imms.specs.Runs.{ones_apart, IsRun}
use Rattle.a64_imms.proofs.Table.{is_built, width_le}
use Rattle.a64_imms.proofs.run.Run.number.Goals as goal

-- the ones, at each multiple of the period, as the code computes them
word_is : (run : Run) (apart : ℕ) → IsRun run → apart ≡ ones_apart run.period
    → (1 * 2 ^ run.ones % 2 ^ 64 - 1) * apart ≡ (2 ^ run.ones - 1) * ones_apart run.period
word_is run apart is apart_is =
    let part = is.part in
    let fits : run.ones < 64 = omega (arith, width_le run.period) in
    ap₂ (λ (a b : ℕ). (a - 1) * b) (one_shl run.ones 64 fits) apart_is

pub overflow_mul-ones : goal.overflow_mul-ones
overflow_mul-ones c =
    let built = is_built c.args.self.now c.requires in
    subst (λ n. Fits w64 n) (sym (word_is c.args.self.now _ c.requires c.ones_apart.ensures)) (record { fits = built.word_fits })

pub returns : goal.returns
returns c =
    let built = is_built c.args.self.now c.requires in
    c.rotate_right.ensures
    ∙ ap (λ n. rotate_right w64 n c.args.self.now.turn) (word_is c.args.self.now _ c.requires c.ones_apart.ensures)
    ∙ built.number_is
