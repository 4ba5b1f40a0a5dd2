use Rattle.std.proofs.Common.{inl, sym}
use Rattle.std.specs.Prelude.{codes}
use Rattle.a64_formtext.specs.Texts.{values_of}
use Rattle.a64_formtext.proofs.Readings.{behind_name}
use Rattle.a64_formtext.proofs.ShownLines.{data_shown, only_data}
use Rattle.a64_formtext.proofs.reading.read_shown_word.Goals as goal

pub returns-in-Some-clause-some : goal.returns-in-Some-clause-some
returns-in-Some-clause-some c =
    data_shown c.args.line.now c.in-Some.digits.now c.read_data.result (behind_name (codes "Data ") c.args.line.now c.in-Some.digits c.in-Some.ensures.cases) c.read_data.ensures.some

pub returns-in-Some-clause-only : goal.returns-in-Some-clause-only
returns-in-Some-clause-only c =
    only_data c.args.line.now c.in-Some.digits.now c.read_data.result (behind_name (codes "Data ") c.args.line.now c.in-Some.digits c.in-Some.ensures.cases) c.read_data.ensures

pub returns-clause-some : goal.returns-clause-some
returns-clause-some c =
    let told = c.in-Some-read_form.ensures.some in
    inl (record { form = values_of c.in-Some-read_form.form; is_word = (told.0, sym c.word_of.ensures); text = told.1 })
