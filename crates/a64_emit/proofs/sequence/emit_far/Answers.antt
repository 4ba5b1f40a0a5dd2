use Rattle.std.proofs.Common.{◌≡◌, [], ◌∷◌, map, rules, w64, of_z, to_z, sym, subst, ◌∙◌}
use Rattle.a64_base.specs.declared.entity.Reloc.TheVariants.{Abs8}
use Rattle.a64_cells.specs.Shapes.{Data, data_cell, reloc_cell, far_cells}
use Rattle.a64_emit.specs.Emission.{CanPut, PutsCells}
use Rattle.a64_cells.specs.Words.{as_put}
use Rattle.a64_emit.proofs.Behind.{words_short, words_fit, words_begun, can_rest, puts_rest}
use Rattle.a64_emit.proofs.Names.{far_put}
use Rattle.a64_emit.proofs.sequence.emit_far.Goals as goal

pub put_words-requires : goal.put_words-requires
put_words-requires c =
    let sink = c.args.sink.now in
    let cells = map as_put (far_cells c.args.rd c.args.name c.args.offset) in
    let rest = reloc_cell (Data 0) Abs8 c.args.name c.args.offset ∷ data_cell 0 ∷ [] in
    let is = far_put c.args.rd c.args.name c.args.offset c.as_slice.result.now (c.as_slice.ensures ∙ c.far_words.ensures) in
    record {
      short = words_short sink c.as_slice.result.now rest cells is c.requires.can;
      fits = words_fit sink c.as_slice.result.now rest cells is c.requires.can;
    }

pub returns-in_err-put_words : goal.returns-in_err-put_words
returns-in_err-put_words c =
    let cells = map as_put (far_cells c.args.rd c.args.name c.args.offset) in
    let rest = reloc_cell (Data 0) Abs8 c.args.name c.args.offset ∷ data_cell 0 ∷ [] in
    let is = far_put c.args.rd c.args.name c.args.offset c.as_slice.result.now (c.as_slice.ensures ∙ c.far_words.ensures) in
    words_begun c.args.sink.now c.as_slice.result.now rest cells is c.from_residual.result _ c.put_words.new.sink c.from_residual.ensures.1 c.in_err-put_words.ensures.err

pub put_address-requires : goal.put_address-requires
put_address-requires c =
    let cells = map as_put (far_cells c.args.rd c.args.name c.args.offset) in
    let rest = reloc_cell (Data 0) Abs8 c.args.name c.args.offset ∷ data_cell 0 ∷ [] in
    let is = far_put c.args.rd c.args.name c.args.offset c.as_slice.result.now (c.as_slice.ensures ∙ c.far_words.ensures) in
    let same : to_z w64 (of_z w64 c.args.offset) ≡ c.args.offset = search rules in
    subst (λ z. CanPut c.put_words.new.sink (reloc_cell (Data 0) Abs8 c.args.name z ∷ data_cell 0 ∷ [])) (sym same)
    (can_rest c.args.sink.now c.as_slice.result.now rest cells is c.put_words.new.sink c.in_ok-put_words.ensures.ok c.requires.can)

pub returns : goal.returns
returns c =
    let cells = map as_put (far_cells c.args.rd c.args.name c.args.offset) in
    let rest = reloc_cell (Data 0) Abs8 c.args.name c.args.offset ∷ data_cell 0 ∷ [] in
    let is = far_put c.args.rd c.args.name c.args.offset c.as_slice.result.now (c.as_slice.ensures ∙ c.far_words.ensures) in
    let same : to_z w64 (of_z w64 c.args.offset) ≡ c.args.offset = search rules in
    puts_rest c.args.sink.now c.as_slice.result.now rest cells is c.put_words.new.sink c.in_ok-put_words.ensures.ok c.put_address.result c.put_address.new.sink
    (subst (λ z. PutsCells c.put_address.result c.put_words.new.sink c.put_address.new.sink (reloc_cell (Data 0) Abs8 c.args.name z ∷ data_cell 0 ∷ [])) same c.put_address.ensures)
