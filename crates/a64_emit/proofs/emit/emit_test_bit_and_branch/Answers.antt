use Rattle.a64_cells.proofs.Operands.{test_bit_parts}
use Rattle.a64_emit.proofs.emit.emit_test_bit_and_branch.Goals as goal

pub test_bit_and_branch_word-word-requires : goal.test_bit_and_branch_word-word-requires
test_bit_and_branch_word-word-requires c =
    let parts = test_bit_parts c.args.taken.now c.args.not_taken.now c.args.rn.now c.args.bit c.requires.good in
    record { taken = parts.target; rn = parts.register; bit = parts.below }

pub emit_conditional-requires-clause-good : goal.emit_conditional-requires-clause-good
emit_conditional-requires-clause-good c =
    (test_bit_parts c.args.taken.now c.args.not_taken.now c.args.rn.now c.args.bit c.requires.good).jump
