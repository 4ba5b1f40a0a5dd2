-- No row so far has the word.
use Rattle.std.proofs.Common.{ℕ, ◌<◌, List, get_or}
use Rattle.a64_rows.specs.declared.row_table.Row.TheVariants.{AddSubReg}
use Rattle.a64_rows.specs.Forms.{IsWordOf}
use Rattle.a64_rows.proofs.decoder.decode_word.Given as goal

abbrev pub invariant-loop-row : goal.invariant-loop-row
invariant-loop-row l = (k : ℕ) → k < l.row-index → (fields : List ℕ) → IsWordOf (get_or l.row-items k AddSubReg) fields l.word → ⊥
