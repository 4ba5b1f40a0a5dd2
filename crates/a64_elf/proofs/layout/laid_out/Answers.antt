use Rattle.std.proofs.Common.{inl, inr, ◌≡◌, Err, rules}
use Rattle.a64_elf.proofs.Whole.{too_large}
use Rattle.a64_elf.proofs.layout.laid_out.Goals as goal

pub returns-in_err-add-clause-err : goal.returns-in_err-add-clause-err
returns-in_err-add-clause-err c =
    let is : c.from_residual-in_err-add.result ≡ Err c.in_err-add.field-0.0 = search rules in
    rw is
    (elim c.in_err-add.ensures.err [
      | inl none ↦ inl none
      | inr large ↦
          inr (large.0, too_large c.args.sections.now c.loop-section.section-index c.section-item.result c.loop-section.layout.end c.loop-section.layout.names.items c.loop-section-test.true c.section-item.is c.loop-section.invariant.ends c.loop-section.invariant.names large.1)
    ])
