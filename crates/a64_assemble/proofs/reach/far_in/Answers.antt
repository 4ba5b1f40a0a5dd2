use Rattle.std.proofs.Common.{◌∙◌, refl, sym, ap}
use Rattle.std.specs.Prelude.{option_and_then}
use Rattle.std.specs.Option.{option_or}
use Rattle.a64_cells.specs.Cells.{inst_cells}
use Rattle.a64_emit.specs.Reach.{far_label}
use Rattle.a64_emit.proofs.UseLists.{first_listed}
use Rattle.a64_assemble.proofs.reach.far_in.Goals as goal

pub returns-in-Some : goal.returns-in-Some
returns-in-Some c = λ force items are has quiet.
    let frame = c.args.frame.now in
    let flags = c.args.info.now in
    let uses = c.uses_in-uses.result in
    sym (first_listed (far_label frame flags force items c.args.index) (λ label. refl) (inst_cells frame flags c.args.inst.now) uses c.uses_in-uses.ensures
    ∙ ap (λ o. option_or o (option_and_then (far_label frame flags force items c.args.index) uses.second)) (sym (c.far_label.ensures frame flags force items are has quiet) ∙ c.in-Some.is))

pub returns-in-None : goal.returns-in-None
returns-in-None c = λ force items are has quiet.
    let frame = c.args.frame.now in
    let flags = c.args.info.now in
    let uses = c.uses_in-uses.result in
    c.far_label-in-None.ensures frame flags force items are has quiet
    ∙ sym (first_listed (far_label frame flags force items c.args.index) (λ label. refl) (inst_cells frame flags c.args.inst.now) uses c.uses_in-uses.ensures
    ∙ ap (λ o. option_or o (option_and_then (far_label frame flags force items c.args.index) uses.second)) (sym (c.far_label.ensures frame flags force items are has quiet) ∙ c.in-None.is))
