use Rattle.std.proofs.Common.{refl}
use Rattle.std.proofs.lemmas.Bool.{false≢true}
use Rattle.a64_audit.specs.Entries.{IsEntry, MayStand, contents_of, entry_line, passed_words, said}
use Rattle.a64_audit.proofs.Takings.{never_both}
use Rattle.a64_lines.proofs.Takings.{passed_taken, no_entry, no_room, entry_taken}
use Rattle.a64_audit.proofs.reading.AuditFileLines.add_line.Goals as goal

pub returns : goal.returns
returns c =
    entry_taken IsEntry entry_line MayStand said passed_words never_both c.args.line.now (contents_of c.args.self.now) (λ passed. false≢true (c.if-is_passed.ensures.1 passed)) c.in-Some.entry c.in-Some.ensures
    (contents_of c.add_entry.new.file) (c.if-not-may_stand.ensures.0 refl) c.in_ok-add_entry.ensures

pub returns-then-is_passed : goal.returns-then-is_passed
returns-then-is_passed c = passed_taken IsEntry entry_line MayStand said passed_words never_both c.args.line.now (contents_of c.args.self.now) (c.if-is_passed.ensures.0 refl)

pub returns-in_default : goal.returns-in_default
returns-in_default c =
    no_entry IsEntry entry_line MayStand said passed_words never_both c.args.line.now (contents_of c.args.self.now) (λ passed. false≢true (c.if-is_passed.ensures.1 passed)) c.in_default.ensures

pub returns-then-not-may_stand : goal.returns-then-not-may_stand
returns-then-not-may_stand c =
    no_room IsEntry entry_line MayStand said passed_words never_both c.args.line.now (contents_of c.args.self.now) (λ passed. false≢true (c.if-is_passed.ensures.1 passed)) c.in-Some.entry c.in-Some.ensures
    (λ stands. false≢true (c.if-not-may_stand.ensures.1 stands))
