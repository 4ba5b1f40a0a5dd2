use Rattle.std.proofs.Common.{◌≡◌, None, Some, inl, inr, refl, sym, subst, arith}
use Rattle.a64_emit.specs.ShownFaults.{first_shown_fault}
use Rattle.a64_c.proofs.listing.list_of.Goals as goal

pub returns-in-Some-clause-err : goal.returns-in-Some-clause-err
returns-in-Some-clause-err c =
    let file = c.in_ok-file.file in
    let first = subst (λ items. Some c.in-Some.error ≡ first_shown_fault file.frame file.info file.constants items) c.deref.ensures.value c.in-Some.ensures.first in
    inl (record { short = omega arith; file = file; read = c.in_ok-file.ensures.answers.ok; first = sym first })

pub returns-in-Ok-clause-ok : goal.returns-in-Ok-clause-ok
returns-in-Ok-clause-ok c =
    let file = c.in_ok-file.file in
    let none = subst (λ items. None ≡ first_shown_fault file.frame file.info file.constants items) c.deref.ensures.value c.in_default.ensures.first in
    record {
      short = omega arith;
      file = file;
      read = c.in_ok-file.ensures.answers.ok;
      faultless = sym none;
      listed = rw c.deref-2.ensures.value at c.in-Ok.ensures;
    }

pub returns-clause-err : goal.returns-clause-err
returns-clause-err c =
    let file = c.in_ok-file.file in
    let none = subst (λ items. None ≡ first_shown_fault file.frame file.info file.constants items) c.deref.ensures.value c.in_default.ensures.first in
    inr (refl, record { short = omega arith; file = file; read = c.in_ok-file.ensures.answers.ok; first = sym none })
