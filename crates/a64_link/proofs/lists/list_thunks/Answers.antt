use Rattle.std.proofs.Common.{◌++◌, List, ℕ, sym, ap, ◌∙◌, arith}
use Rattle.a64_link.specs.Linked.{thunks_in}
use Rattle.a64_link.proofs.Places.{unit_read}
use Rattle.a64_link.proofs.Thunks.{unit_step, whole_thunks}
use Rattle.a64_link.proofs.lists.list_thunks.Goals as goal

pub loop-i-preserved : goal.loop-i-preserved
loop-i-preserved c =
    let u = unit_read c.args.units.now c.loop-i.i c.index-units-i.result c.loop-i-test.true c.index-units-i.is in
    c.in_ok-add_thunks.ensures
    ∙ ap (λ (xs : List ℕ). xs ++ thunks_in c.args.units.now c.args.starts.now c.loop-i.i c.index-units-i.result) c.loop-i.invariant
    ∙ sym (unit_step c.args.units.now c.args.starts.now c.loop-i.i c.index-units-i.result u)

pub returns : goal.returns
returns c = c.loop-i.invariant ∙ whole_thunks c.args.units.now c.args.starts.now c.loop-i.i (omega arith)
