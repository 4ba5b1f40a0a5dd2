use Rattle.std.proofs.Common.{◌≡◌, ◌*◌, length}
use Rattle.a64_audit.specs.Entries.{contents_of}
use Rattle.a64_audit.specs.Verdicts.{AreGoodBefore, end_before}
use Rattle.a64_audit.proofs.auditing.first_bad_range.Given as goal

abbrev pub invariant-loop-i : goal.invariant-loop-i
invariant-loop-i l = AreGoodBefore (contents_of l.file) l.i × (l.end_before ≡ end_before (contents_of l.file) l.i) × (l.size ≡ 4 * length l.file.words.items)
