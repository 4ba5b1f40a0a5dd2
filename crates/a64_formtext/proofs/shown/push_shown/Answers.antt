use Rattle.std.proofs.Common.{inl, refl}
use Rattle.a64_formtext.specs.Texts.{form_text, values_of}
use Rattle.a64_formtext.proofs.Prints.{also}
use Rattle.a64_formtext.proofs.shown.push_shown.Goals as goal

pub returns-in-Some : goal.returns-in-Some
returns-in-Some c =
    let form = values_of c.in-Some.form in
    also c.push_form.result (λ told. (form_text form, inl (record { form = form; is_word = c.in-Some.ensures.found; text = refl }), told)) c.push_form.ensures
