use Rattle.std.proofs.Common.{sym, subst}
use Rattle.a64_emit.specs.Emission.{CanPut, PutsCells}
use Rattle.a64_emit.proofs.Names.{got_put}
use Rattle.a64_emit.proofs.sequence.emit_got.Goals as goal

pub put_two_relocs-requires : goal.put_two_relocs-requires
put_two_relocs-requires c =
    let is = got_put c.args.rd c.args.name c.page_word.result c.offset_entry_word.result c.page_word.ensures c.offset_entry_word.ensures in
    subst (CanPut c.args.sink.now) is c.requires.can

pub returns : goal.returns
returns c =
    let is = got_put c.args.rd c.args.name c.page_word.result c.offset_entry_word.result c.page_word.ensures c.offset_entry_word.ensures in
    subst (PutsCells c.put_two_relocs.result c.args.sink.now c.put_two_relocs.new.sink) (sym is) c.put_two_relocs.ensures
