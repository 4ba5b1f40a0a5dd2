use Rattle.a64_run.proofs.RightItems.{right_without_memory}
use Rattle.a64_run.proofs.assembling.assemble_file.Goals as goal

pub returns-in-Err-OutOfMemory-clause-err : goal.returns-in-Err-OutOfMemory-clause-err
returns-in-Err-OutOfMemory-clause-err c =
    let file = c.args.file.now in
    right_without_memory file.frame file.info file.constants c.force.result file.items.items
    (rw (c.deref.ensures.value, c.in-Err-OutOfMemory.field-0-is) at c.in-Err-OutOfMemory.ensures.err)
