-- No row so far has the name.
use Rattle.std.proofs.Common.{ℕ, ◌≡◌, ◌<◌, get_or, map}
use Rattle.a64_rows.specs.declared.row_table.Row.TheVariants.{AddSubReg}
use Rattle.a64_rows.specs.Rows.{name_of}
use Rattle.a64_rows.proofs.row_table.Row.named.Given as goal

abbrev pub invariant-loop-row : goal.invariant-loop-row
invariant-loop-row l = (k : ℕ) → k < l.row-index → name_of (get_or (map (λ e. e.0) l.row-items) k AddSubReg) ≡ l.name → ⊥
