use Rattle.std.proofs.Common.{[], Option, sym, subst}
use Rattle.a64_cells.specs.declared.site.Site.{Site}
use Rattle.a64_cells.specs.Cells.{shape_of}
use Rattle.a64_cells.specs.Words.{AreSeveral}
use Rattle.a64_emit.specs.Emission.{CanPut, PutsCells}
use Rattle.a64_cells.proofs.PutWords.{several_put}
use Rattle.a64_cells.proofs.Several.{several_puttable}
use Rattle.a64_emit.proofs.emit.emit_memory.Goals as goal

pub emit_last-requires : goal.emit_last-requires
emit_last-requires c =
    let last = c.in-Some.last in
    let are = subst (λ (s : Option Site). AreSeveral [] last.word s last.trap (shape_of c.args.frame.now c.args.info.now c.args.inst.now)) (sym c.site.ensures) c.in-Some.ensures in
    let put = several_put [] last.word c.site.result last.trap (shape_of c.args.frame.now c.args.info.now c.args.inst.now) are in
    record {
      lawful = several_puttable c.args.frame.now c.args.info.now c.args.sink.now.constants c.args.inst.now [] last.word c.site.result last.trap c.requires.there are;
      can = subst (CanPut c.args.sink.now) (sym put) c.requires.can;
    }

pub returns-in-Some : goal.returns-in-Some
returns-in-Some c =
    let last = c.in-Some.last in
    let are = subst (λ (s : Option Site). AreSeveral [] last.word s last.trap (shape_of c.args.frame.now c.args.info.now c.args.inst.now)) (sym c.site.ensures) c.in-Some.ensures in
    subst (PutsCells c.emit_last.result c.args.sink.now c.emit_last.new.sink) (several_put [] last.word c.site.result last.trap (shape_of c.args.frame.now c.args.info.now c.args.inst.now) are) c.emit_last.ensures
