use Rattle.std.proofs.Common.{ap, ◌∙◌, arith}
use Rattle.a64_imms.specs.Logic.{size_for}
use Rattle.a64_imms.proofs.LogicRuns.{size_of_type}
use Rattle.a64_text.proofs.Logics.{logic_read}
use Rattle.a64_text.proofs.logic.logic_of.Goals as goal

pub returns : goal.returns
returns c =
    let made = c.maybe_from_u64.ensures in
    logic_read c.args.size c.to_ty.result c.args.value (ap size_for c.to_ty.ensures ∙ size_of_type c.args.size) c.maybe_from_u64.result (omega arith) made.none made.some made.one
