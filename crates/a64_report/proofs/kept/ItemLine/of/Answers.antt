use Rattle.a64_report.proofs.KeptLines.{item_text}
use Rattle.a64_report.proofs.kept.ItemLine.of.Goals as goal

pub returns : goal.returns
returns c = item_text c.compose_item-start.new.buffer c.compose_item-start.result.0 c.compose_item-start.result.1 c.args.index c.args.place c.compose_item-start.array_long c.compose_item-start.ensures
