use Rattle.a64_report.proofs.ZeroRuns.{few_zeros}
use Rattle.a64_report.proofs.linked.put_zeros.Goals as goal

pub returns-then-count-lt-MANY : goal.returns-then-count-lt-MANY
returns-then-count-lt-MANY g c =
    rw (few_zeros c.args.from c.args.count c.if-count-lt-MANY.true) c.put_word_lines.ensures
