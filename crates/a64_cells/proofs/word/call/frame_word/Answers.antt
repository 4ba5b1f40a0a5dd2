use Rattle.std.proofs.Common.{◌≡◌, pos, rules, to_z, w16}
use Rattle.a64_cells.proofs.CallOperands.{frame_good}
use Rattle.a64_cells.proofs.word.call.frame_word.Goals as goal

pub pair_word-requires-clause-good : goal.pair_word-requires-clause-good
pair_word-requires-clause-good c =
    let same : to_z w16 c.args.setup ≡ pos c.args.setup = search rules in
    frame_good c.fp_reg.result c.link_reg.result c.args.setup (to_z w16 c.args.setup) c.fp_reg.ensures c.link_reg.ensures same c.requires.small c.requires.aligned
