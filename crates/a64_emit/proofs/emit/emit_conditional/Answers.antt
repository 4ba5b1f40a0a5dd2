use Rattle.std.proofs.Common.{[], ◌∷◌, None, sym, subst}
use Rattle.a64_label_use.specs.declared.label_use.LabelUse.TheVariants.{Branch26}
use Rattle.a64_cells.specs.Shapes.{branch_site}
use Rattle.a64_emit.specs.Emission.{CanPut, PutsCells}
use Rattle.a64_cells.specs.Words.{put_cell, put_branches, put_jump}
use Rattle.a64_emit.proofs.Fitting.{failed}
use Rattle.a64_emit.proofs.Joined.{part_first, can_first, can_second, puts_second}
use Rattle.a64_emit.proofs.emit.emit_conditional.Goals as goal

pub emit_branch-requires : goal.emit_branch-requires
emit_branch-requires c = can_first c.args.sink.now (put_cell c.args.word (branch_site c.args.kind c.args.taken.now) None ∷ []) (put_jump c.args.not_taken.now) c.requires.can

pub returns-in_err-emit_branch : goal.returns-in_err-emit_branch
returns-in_err-emit_branch c =
    failed c.from_residual.result _ c.args.sink.now c.emit_branch.new.sink (put_branches c.args.word c.args.kind c.args.taken.now c.args.not_taken.now) c.from_residual.ensures.1
    (part_first c.args.sink.now (put_cell c.args.word (branch_site c.args.kind c.args.taken.now) None ∷ []) (put_jump c.args.not_taken.now) c.emit_branch.new.sink c.in_err-emit_branch.ensures.err)

pub emit_branch-requires-2 : goal.emit_branch-requires-2
emit_branch-requires-2 c =
    subst (λ w. CanPut c.emit_branch.new.sink (put_cell w (branch_site Branch26 c.args.not_taken.now) None ∷ [])) (sym c.jump_word.ensures)
    (can_second c.args.sink.now (put_cell c.args.word (branch_site c.args.kind c.args.taken.now) None ∷ []) (put_jump c.args.not_taken.now) c.emit_branch.new.sink c.in_ok-emit_branch.ensures.ok c.requires.can)

pub returns : goal.returns
returns c =
    puts_second c.args.sink.now (put_cell c.args.word (branch_site c.args.kind c.args.taken.now) None ∷ []) (put_jump c.args.not_taken.now) c.emit_branch-2.result c.emit_branch.new.sink c.emit_branch-2.new.sink c.in_ok-emit_branch.ensures.ok
    (subst (λ w. PutsCells c.emit_branch-2.result c.emit_branch.new.sink c.emit_branch-2.new.sink (put_cell w (branch_site Branch26 c.args.not_taken.now) None ∷ [])) c.jump_word.ensures c.emit_branch-2.ensures)
