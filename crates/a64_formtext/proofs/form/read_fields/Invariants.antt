-- The fields so far were read; reading those that are left reads all.
use Rattle.a64_formtext.proofs.Readings.{Progress}
use Rattle.a64_formtext.specs.Tokens.{space_tokens}
use Rattle.a64_tokens.specs.Splitting.{of_text}
use Rattle.a64_rows.specs.Rows.{fields_of}
use Rattle.a64_formtext.proofs.form.read_fields.Given as goal

abbrev pub invariant-loop-i : goal.invariant-loop-i
invariant-loop-i l = Progress (fields_of l.row) (of_text space_tokens l.fn.text) l.i l.values.items (of_text space_tokens l.rest)
