use Rattle.std.proofs.Common.{◌≡◌, ◌-◌, List, ℕ, length, Some, subst}
use Rattle.std.specs.List.{slice_get}
use Rattle.a64_audit.specs.Entries.{contents_of}
use Rattle.a64_audit.proofs.Standing.{trap_stands}
use Rattle.a64_audit.proofs.reading.may_stand.Goals as goal

pub returns-in-Some : goal.returns-in-Some
returns-in-Some c =
    let before = c.in-Some.before.now in
    trap_stands (contents_of c.args.file.now) c.args.entry c.in-Trap.place c.in-Trap.code before c.in-Trap.is
    (subst (λ (xs : List ℕ). Some before ≡ slice_get xs (length xs - 1)) c.deref.ensures.value c.in-Some.ensures.value)
