use Rattle.std.proofs.Common.{inl}
use Rattle.a64_c.proofs.recording.a64_assemble_records.Goals as goal

pub returns-in-Ok : goal.returns-in-Ok
returns-in-Ok c =
    let made = rw c.force_veneers.ensures at c.in-Ok.ensures.ok in
    inl (record {
      code = c.in-Ok.code;
      made = made;
      all = rw (
        c.put_values.ensures,
        c.deref.ensures.value,
        c.put_values-in-Ok.ensures,
        c.deref-in-Ok.ensures.value,
        c.put_records.ensures,
        c.deref-in-Ok-2.ensures.value,
        c.put_records-in-Ok.ensures,
        c.deref-in-Ok-3.ensures.value,
        c.put_records-in-Ok-2.ensures,
        c.deref-in-Ok-4.ensures.value,
        c.put_records-in-Ok-3.ensures,
        c.deref-in-Ok-5.ensures.value,
        c.put_values-in-Ok-2.ensures,
        c.deref-in-Ok-6.ensures.value,
        c.put_records-in-Ok-4.ensures,
        c.deref-in-Ok-7.ensures.value,
        c.put_records-in-Ok-5.ensures,
        c.deref-in-Ok-8.ensures.value,
      );
      counted = c.of.ensures;
    })
