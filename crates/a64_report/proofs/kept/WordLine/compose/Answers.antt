use Rattle.a64_report.proofs.KeptLines.{word_text}
use Rattle.a64_report.proofs.kept.WordLine.compose.Goals as goal

pub returns : goal.returns
returns c = word_text c.compose_word-start.new.buffer c.compose_word-start.result c.args.place c.args.word c.compose_word-start.array_long c.compose_word-start.ensures
