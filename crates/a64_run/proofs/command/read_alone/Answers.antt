use Rattle.std.proofs.Common.{arith}
use Rattle.a64_run.proofs.Words.{alone_read, more_read}
use Rattle.a64_run.proofs.command.read_alone.Goals as goal

pub returns-in-empty : goal.returns-in-empty
returns-in-empty c = alone_read c.args.name.now c.args.command c.args.words.now c.requires c.in-empty.len_below

pub returns-in-len1-up : goal.returns-in-len1-up
returns-in-len1-up c = more_read c.args.name.now c.args.command c.args.words.now c.requires (omega arith)
