-- The number of a row is its place.
use Rattle.a64_rows.proofs.Numbers.{number_is}
use Rattle.a64_rows.proofs.row_table.Row.index.Goals as goal

pub returns : goal.returns
returns c = number_is c.args.self
