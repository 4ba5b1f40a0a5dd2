use Rattle.std.proofs.Common.{[], ◌∷◌, ◌*◌, length, arith}
use Rattle.std.proofs.lemmas.List.{length-append}
use Rattle.a64_cells.specs.Shapes.{table_labels, table_cells}
use Rattle.a64_emit.proofs.Behind.{can_before, begun_before, can_behind, puts_behind}
use Rattle.a64_emit.proofs.Tables.{entry, table_length, with_default}
use Rattle.a64_emit.proofs.sequence.put_table.Goals as goal

pub put_targets-requires : goal.put_targets-requires
put_targets-requires c =
    let targets = c.args.targets.now in
    can_before c.args.sink.now (table_cells 0 targets) (entry (4 * length targets) c.args.default ∷ []) (table_cells 0 (table_labels c.args.default targets)) (with_default c.args.default targets) c.requires

pub returns-in_err-put_targets : goal.returns-in_err-put_targets
returns-in_err-put_targets c =
    let targets = c.args.targets.now in
    begun_before c.args.sink.now (table_cells 0 targets) (entry (4 * length targets) c.args.default ∷ []) (table_cells 0 (table_labels c.args.default targets)) (with_default c.args.default targets)
    c.from_residual.result _ c.put_targets.new.sink c.from_residual.ensures.1 c.in_err-put_targets.ensures.err

pub overflow_cast-targets : goal.overflow_cast-targets
overflow_cast-targets c = let many = table_length 0 (table_labels c.args.default c.args.targets.now) in omega (arith, many, length-append c.args.targets.now (c.args.default ∷ []), c.requires.room)

pub overflow_mul-targets : goal.overflow_mul-targets
overflow_mul-targets c = let many = table_length 0 (table_labels c.args.default c.args.targets.now) in omega (arith, many, length-append c.args.targets.now (c.args.default ∷ []), c.requires.room)

pub put_entry-requires : goal.put_entry-requires
put_entry-requires c =
    let targets = c.args.targets.now in
    can_behind c.args.sink.now (table_cells 0 targets) (entry (4 * length targets) c.args.default ∷ []) (table_cells 0 (table_labels c.args.default targets)) (with_default c.args.default targets)
    c.put_targets.new.sink c.in_ok-put_targets.ensures.ok c.requires

pub returns : goal.returns
returns c =
    let targets = c.args.targets.now in
    puts_behind c.args.sink.now (table_cells 0 targets) (entry (4 * length targets) c.args.default ∷ []) (table_cells 0 (table_labels c.args.default targets)) (with_default c.args.default targets)
    c.put_targets.new.sink c.in_ok-put_targets.ensures.ok c.put_entry.result c.put_entry.new.sink c.put_entry.ensures
