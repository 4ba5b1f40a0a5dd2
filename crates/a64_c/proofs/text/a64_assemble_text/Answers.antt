use Rattle.std.proofs.Common.{inl}
use Rattle.a64_c.proofs.text.a64_assemble_text.Goals as goal

pub returns-in-Ok : goal.returns-in-Ok
returns-in-Ok c =
    let made = rw c.force_veneers.ensures at c.in-Ok.ensures.ok in
    let copied = rw c.deref.ensures.value at c.copied.ensures in
    inl (record { code = c.in-Ok.code; made = made; copied = copied })
