-- Numbers of constants that were not given out yet.
use Rattle.std.proofs.Common.{ℕ, ◌≡◌, ◌+◌, cond, List, Option, Some, ap, ◌∙◌, arith, nat_cmp}
use Rattle.std.specs.Prelude.{is_some, if◌then◌else◌}
use Rattle.std.specs.Cmp.{nat_cmp_total, unsigned_tied}
use Rattle.std.specs.FinMap.{FinMap, get, insert, get-insert}
use Rattle.std.proofs.lemmas.Bool.{ne_eqb}
use Rattle.a64_buffer.specs.Constants.{inserted}
use Rattle.a64_assembler.specs.Assembly.{IsFresh}

-- where one was given, the next ones were not
pub still_fresh : (m : FinMap nat_cmp (List ℕ)) (number : ℕ) (bytes : List ℕ) → IsFresh m number → IsFresh (insert m number bytes) (number + 1)
still_fresh m number bytes fresh k l =
    get-insert nat_cmp_total m number bytes k
    ∙ ap (λ b. cond b (Some bytes) (get m k)) (unsigned_tied k number ∙ ne_eqb k number (λ e. omega (arith, l, e)))
    ∙ fresh k (omega (arith, l))

-- a constant with such a number is added
pub inserted_is : (m : FinMap nat_cmp (List ℕ)) (number : ℕ) (bytes : List ℕ) → IsFresh m number → inserted m number bytes ≡ insert m number bytes
inserted_is m number bytes fresh = ap (λ (o : Option (List ℕ)). if is_some o then m else insert m number bytes) (fresh number (omega arith))
