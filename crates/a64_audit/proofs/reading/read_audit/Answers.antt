use Rattle.a64_audit.specs.Entries.{contents_of}
use Rattle.a64_audit.proofs.Counts.{words_few}
use Rattle.a64_audit.proofs.reading.read_audit.Goals as goal

pub returns-clause-few : goal.returns-clause-few
returns-clause-few c = words_few _ c.args.bytes.now (contents_of c.read_lines.new.lines) c.new.ensures.items c.in_ok-read_lines.ensures.ok
