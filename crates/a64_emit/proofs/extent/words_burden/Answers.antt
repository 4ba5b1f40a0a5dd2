use Rattle.std.proofs.Common.{◌∙◌, sym, ap}
use Rattle.std.specs.List.{filter_map}
use Rattle.a64_emit.specs.Bounds.{veneer_range}
use Rattle.a64_cells.specs.Cells.{inst_cells}
use Rattle.a64_emit.proofs.CallSites.{call_inst_sites}
use Rattle.a64_emit.proofs.OneLights.{one_count, one_quiet}
use Rattle.a64_emit.proofs.extent.words_burden.Goals as goal

pub returns-in-Plain-clause-extent : goal.returns-in-Plain-clause-extent
returns-in-Plain-clause-extent c =
    let frame = c.args.frame.now in
    let flags = c.args.info.now in
    let inst = c.args.inst.now in
    let group = c.in-Plain.field-0 in
    let is = sym c.group.ensures ∙ c.in-Plain.is in
    c.quiet_extent.ensures (inst_cells frame flags inst) (one_count frame flags inst group is) (one_quiet frame flags inst group is)

pub returns-in-Call-clause-extent : goal.returns-in-Call-clause-extent
returns-in-Call-clause-extent c =
    let frame = c.args.frame.now in
    let flags = c.args.info.now in
    let inst = c.args.inst.now in
    c.quiet_extent-in-Call.ensures (inst_cells frame flags inst) c.call_count.ensures
    (ap (filter_map veneer_range) (call_inst_sites frame flags inst (sym c.group.ensures ∙ c.in-Call.is)))
