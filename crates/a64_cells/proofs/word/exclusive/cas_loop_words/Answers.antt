use Rattle.std.proofs.Common.{subst}
use Rattle.a64_cells.specs.Shapes.{loop_cells}
use Rattle.a64_cells.specs.LoopForms.{awaited_forms}
use Rattle.a64_cells.specs.Words.{AreLoop}
use Rattle.a64_cells.proofs.word.exclusive.cas_loop_words.Goals as goal

pub returns : goal.returns
returns c =
    subst (λ reg. AreLoop c.loop_words.result (loop_cells c.args.ty (awaited_forms c.args.ty) reg c.args.trap)) c.xreg.ensures
    (c.loop_words.ensures (awaited_forms c.args.ty) c.awaited_words.ensures)
