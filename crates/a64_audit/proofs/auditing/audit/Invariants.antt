use Rattle.std.proofs.Common.{◌*◌}
use Rattle.a64_audit.specs.Entries.{contents_of}
use Rattle.a64_audit.specs.Verdicts.{AreFineBefore}
use Rattle.a64_audit.proofs.auditing.audit.Given as goal

abbrev pub invariant-loop-index : goal.invariant-loop-index
invariant-loop-index l = AreFineBefore (contents_of l.file) (4 * l.index)
