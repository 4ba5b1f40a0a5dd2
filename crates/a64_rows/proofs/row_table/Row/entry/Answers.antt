use Rattle.a64_rows.specs.Rows.{fields_of, fixed_of}
use Rattle.std.proofs.Common.{[]}
use Rattle.a64_rows.proofs.Table.{at_place}
use Rattle.a64_rows.proofs.row_table.Row.entry.Goals as goal

pub returns-clause-fixed : goal.returns-clause-fixed
returns-clause-fixed c = at_place c.rows.result.now (λ e. e.1) fixed_of c.args.self c.index.result _ 0 c.rows.ensures.fixed c.index.ensures

pub returns-clause-fields : goal.returns-clause-fields
returns-clause-fields c = at_place c.rows.result.now (λ e. e.2.now) fields_of c.args.self c.index.result _ [] c.rows.ensures.fields c.index.ensures
