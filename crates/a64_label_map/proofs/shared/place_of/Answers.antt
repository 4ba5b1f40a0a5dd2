use Rattle.std.proofs.Common.{◌≤◌, length, None, sym, ◌∙◌, arith}
use Rattle.std.proofs.lemmas.List.{get_or_default}
use Rattle.a64_label_map.proofs.Wholes.{at_table, at_others}
use Rattle.a64_label_map.proofs.shared.place_of.Goals as goal

pub returns-then-index-table : goal.returns-then-index-table
returns-then-index-table g c =
    c.as_ref.ensures.value
    ∙ (c.index-table-index.is
    ∙ (get_or_default c.args.table.now c.args.number c.index-table-index.result None c.if-index-table.true
    ∙ sym (at_table c.args.table.now c.args.others.now c.args.number c.requires c.if-index-table.true)))

pub returns : goal.returns
returns g c =
    let past : length c.args.table.now ≤ c.args.number = omega arith in
    c.get.ensures.value ∙ sym (at_others c.args.table.now c.args.others.now c.args.number past)
