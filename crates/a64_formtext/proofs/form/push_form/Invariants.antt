-- The fields that are left make the text whole.
use Rattle.std.proofs.Common.{◌≡◌, ◌++◌, drop}
use Rattle.std.specs.String.{string_bytes}
use Rattle.a64_formtext.specs.Texts.{fields_text, form_text, values_of}
use Rattle.a64_rows.specs.Rows.{fields_of}
use Rattle.a64_formtext.proofs.form.push_form.Given as goal

abbrev pub invariant-loop-i : goal.invariant-loop-i
invariant-loop-i l = string_bytes l.text ++ fields_text (drop l.i (fields_of l.form.row)) (drop l.i l.form.fields.items) ≡ string_bytes l.fn.text ++ form_text (values_of l.form)
