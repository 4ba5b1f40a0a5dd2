use Rattle.std.proofs.Common.{◌≡◌, [], ◌∷◌, sym, subst, arith, slice_index_or}
use Rattle.a64_base.specs.declared.entity.MachLabel.{MachLabel}
use Rattle.a64_cells.specs.Shapes.{table_cells}
use Rattle.a64_emit.specs.Emission.{appended, IsAppendedInPart, CanPut}
use Rattle.a64_emit.proofs.Fitting.{failed}
use Rattle.a64_emit.proofs.Tables.{entry, table_length, can_entry, entry_put, entry_begun}
use Rattle.a64_emit.proofs.sequence.put_targets.Goals as goal

abbrev no_label : MachLabel
no_label = record { 0 = 0 }

pub put_entry-requires : goal.put_entry-requires
put_entry-requires c =
    let i = c.loop-label.label-index in
    subst (λ n. CanPut c.loop-label.sink (entry n (slice_index_or c.args.targets.now i no_label) ∷ [])) (sym c.loop-label.invariant.1)
    (can_entry c.args.sink.now c.args.targets.now i no_label c.loop-label-test.true c.loop-label.sink c.loop-label.invariant.0 c.requires)

pub returns-in_err-put_entry : goal.returns-in_err-put_entry
returns-in_err-put_entry c =
    let i = c.loop-label.label-index in
    failed c.from_residual.result _ c.args.sink.now c.put_entry.new.sink (table_cells 0 c.args.targets.now) c.from_residual.ensures.1
    (entry_begun c.args.sink.now c.args.targets.now i no_label c.loop-label-test.true c.loop-label.sink c.loop-label.invariant.0 c.put_entry.new.sink
    (subst (λ n. IsAppendedInPart c.loop-label.sink c.put_entry.new.sink (entry n (slice_index_or c.args.targets.now i no_label) ∷ [])) c.loop-label.invariant.1 c.in_err-put_entry.ensures.err))

pub overflow_add-distance : goal.overflow_add-distance
overflow_add-distance c = let many = table_length 0 c.args.targets.now in omega (arith, many, c.loop-label.invariant.1, c.loop-label-test.true, c.requires.room)

pub loop-label-preserved : goal.loop-label-preserved
loop-label-preserved c =
    let i = c.loop-label.label-index in (
      entry_put c.args.sink.now c.args.targets.now i no_label c.loop-label-test.true c.loop-label.sink c.loop-label.invariant.0 c.put_entry.new.sink
          (subst (λ n. c.put_entry.new.sink ≡ appended c.loop-label.sink (entry n (slice_index_or c.args.targets.now i no_label) ∷ [])) c.loop-label.invariant.1 c.in_ok-put_entry.ensures.ok),
      omega (arith, c.loop-label.invariant.1),
    )
