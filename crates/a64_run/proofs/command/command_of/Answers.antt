use Rattle.std.proofs.Common.{arith}
use Rattle.a64_run.proofs.Words.{first_read, rest_whole, no_word_read}
use Rattle.a64_run.proofs.command.command_of.Goals as goal

pub returns-in-len1-up : goal.returns-in-len1-up
returns-in-len1-up c =
    first_read c.args.words.now c.name-item.result c.read_named.result (omega arith) c.name-item.is
    (rw (c.as_str.ensures.value, rest_whole c.args.words.now) at c.read_named.ensures)

pub returns-in-empty : goal.returns-in-empty
returns-in-empty c = no_word_read c.args.words.now c.in-empty.len_below
