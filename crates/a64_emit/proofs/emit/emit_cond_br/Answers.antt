use Rattle.a64_cells.proofs.Operands.{cond_br_parts}
use Rattle.a64_emit.proofs.emit.emit_cond_br.Goals as goal

pub cond_br_word-word-requires : goal.cond_br_word-word-requires
cond_br_word-word-requires c =
    let parts = cond_br_parts c.args.taken.now c.args.not_taken.now c.args.kind.now c.requires.good in
    record { taken = parts.target; kind = parts.test }

pub emit_conditional-requires-clause-good : goal.emit_conditional-requires-clause-good
emit_conditional-requires-clause-good c =
    (cond_br_parts c.args.taken.now c.args.not_taken.now c.args.kind.now c.requires.good).jump
