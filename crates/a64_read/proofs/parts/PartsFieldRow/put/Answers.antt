use Rattle.a64_read.proofs.Putting.{part_put}
use Rattle.a64_read.proofs.parts.PartsFieldRow.put.Goals as goal

pub returns : goal.returns
returns c = part_put c.args.token.now c.args.slot.now c.put_read.new.slot c.args.kind c.read_part.result c.put_read.result c.read_part.ensures c.put_read.ensures
