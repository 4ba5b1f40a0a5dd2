use Rattle.std.proofs.Common.{sym, subst}
use Rattle.a64_cells.specs.Cells.{shape_of}
use Rattle.a64_emit.specs.Emission.{CanPut, PutsCells}
use Rattle.a64_cells.proofs.PutWords.{several_put}
use Rattle.a64_cells.proofs.Several.{several_puttable}
use Rattle.a64_emit.proofs.emit.emit_memory_words.Goals as goal

pub emit_several-requires : goal.emit_several-requires
emit_several-requires c =
    let words = c.in-Some.words in
    let are = c.in-Some.ensures in
    record {
      lawful = several_puttable c.args.frame.now c.args.info.now c.args.sink.now.constants c.args.inst.now words.first.items words.last words.site words.trap c.requires.there are;
      can = subst (CanPut c.args.sink.now) (sym (several_put words.first.items words.last words.site words.trap (shape_of c.args.frame.now c.args.info.now c.args.inst.now) are)) c.requires.can;
    }

pub returns-in-Some : goal.returns-in-Some
returns-in-Some c =
    let words = c.in-Some.words in
    let are = c.in-Some.ensures in
    subst (PutsCells c.emit_several.result c.args.sink.now c.emit_several.new.sink)
    (several_put words.first.items words.last words.site words.trap (shape_of c.args.frame.now c.args.info.now c.args.inst.now) are)
    c.emit_several.ensures
