use Rattle.std.proofs.Common.{◌≤◌, length, None, sym, ◌∙◌, arith, Result, Ok, Err}
use Rattle.std.specs.Prelude.{OnErr}
use Rattle.std.proofs.lemmas.List.{get_or_default}
use Rattle.a64_label_map.proofs.Wholes.{at_table, at_others, written_whole, put_whole}
use Rattle.a64_label_map.proofs.shared.put.Goals as goal

pub returns-then-index-table-clause-old : goal.returns-then-index-table-clause-old
returns-then-index-table-clause-old g c =
    c.index-table-index.is
    ∙ (get_or_default c.args.table.now c.args.number c.index-table-index.result None c.if-index-table.true
    ∙ sym (at_table c.args.table.now c.args.others.now c.args.number c.requires c.if-index-table.true))

pub returns-then-index-table-clause-ok : goal.returns-then-index-table-clause-ok
returns-then-index-table-clause-ok g c = written_whole c.args.table.now c.args.others.now c.requires c.args.number c.args.value c.if-index-table.true

pub returns-clause-old : goal.returns-clause-old
returns-clause-old g c =
    let past : length c.args.table.now ≤ c.args.number = omega arith in
    c.in_ok-insert.ensures.old ∙ sym (at_others c.args.table.now c.args.others.now c.args.number past)

pub returns-clause-ok : goal.returns-clause-ok
returns-clause-ok g c =
    let past : length c.args.table.now ≤ c.args.number = omega arith in
    put_whole c.args.table.now c.args.others.now c.insert.new.self c.requires c.args.number c.args.value past c.in_ok-insert.ensures.updates.0

on_err : {T E : Type 0} (r : Result T E) (P : Type 0) → P → OnErr r P
on_err (Ok x) P p = tt
on_err (Err e) P p = p

pub returns-in_err-insert-clause-absent : goal.returns-in_err-insert-clause-absent
returns-in_err-insert-clause-absent g c =
    let past : length c.args.table.now ≤ c.args.number = omega arith in
    on_err c.from_residual.result _ (at_others c.args.table.now c.args.others.now c.args.number past ∙ c.in_err-insert.ensures.absent)
