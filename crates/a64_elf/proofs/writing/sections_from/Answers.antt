use Rattle.std.proofs.Common.{◌≡◌, Err, rules}
use Rattle.a64_elf.proofs.Faults.{names_fault}
use Rattle.a64_elf.proofs.writing.sections_from.Goals as goal

pub returns-in_err-tables-clause-err : goal.returns-in_err-tables-clause-err
returns-in_err-tables-clause-err c =
    let is : c.from_residual.result ≡ Err c.in_err-tables.field-0.0 = search rules in
    rw is
    (names_fault c.args.object c.in_err-tables.field-0.0
    (rw c.deref-2.ensures.value at c.in_err-tables.ensures.err))
