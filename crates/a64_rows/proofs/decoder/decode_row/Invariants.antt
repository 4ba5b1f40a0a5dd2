-- The values so far are what the word has in the fields so far.
use Rattle.std.proofs.Common.{◌≡◌, map, take}
use Rattle.a64_rows.specs.Forms.{value_in}
use Rattle.a64_rows.proofs.decoder.decode_row.Given as goal

abbrev pub invariant-loop-slot : goal.invariant-loop-slot
invariant-loop-slot l = l.fields.items ≡ map (λ f. value_in l.word f.1) (take l.slot-index l.row_fields)
