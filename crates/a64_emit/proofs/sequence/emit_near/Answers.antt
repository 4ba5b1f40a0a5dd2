use Rattle.std.proofs.Common.{◌≡◌, rules, w64, of_z, to_z, sym, subst}
use Rattle.a64_base.specs.declared.entity.Reloc.TheVariants.{Aarch64AdrPrelPgHi21, Aarch64AddAbsLo12Nc}
use Rattle.a64_emit.specs.Emission.{CanPut, PutsCells}
use Rattle.a64_emit.proofs.Names.{two_relocs, near_put}
use Rattle.a64_emit.proofs.sequence.emit_near.Goals as goal

pub put_two_relocs-requires : goal.put_two_relocs-requires
put_two_relocs-requires c =
    let is = near_put c.args.rd c.args.name c.args.offset c.page_word.result c.place_word.result c.page_word.ensures c.place_word.ensures in
    let same : to_z w64 (of_z w64 c.args.offset) ≡ c.args.offset = search rules in
    subst (λ z. CanPut c.args.sink.now (two_relocs c.page_word.result Aarch64AdrPrelPgHi21 c.place_word.result Aarch64AddAbsLo12Nc c.args.name z)) (sym same)
    (subst (CanPut c.args.sink.now) is c.requires.can)

pub returns : goal.returns
returns c =
    let sink = c.args.sink.now in
    let is = near_put c.args.rd c.args.name c.args.offset c.page_word.result c.place_word.result c.page_word.ensures c.place_word.ensures in
    let same : to_z w64 (of_z w64 c.args.offset) ≡ c.args.offset = search rules in
    subst (PutsCells c.put_two_relocs.result sink c.put_two_relocs.new.sink) (sym is)
    (subst (λ z. PutsCells c.put_two_relocs.result sink c.put_two_relocs.new.sink (two_relocs c.page_word.result Aarch64AdrPrelPgHi21 c.place_word.result Aarch64AddAbsLo12Nc c.args.name z)) same c.put_two_relocs.ensures)
