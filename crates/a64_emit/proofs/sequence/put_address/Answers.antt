use Rattle.std.proofs.Common.{◌≡◌, [], ◌∷◌, rules, w64, of_z, to_z, sym, subst}
use Rattle.a64_base.specs.declared.entity.Reloc.TheVariants.{Abs8}
use Rattle.a64_cells.specs.Shapes.{Data, data_cell, reloc_cell}
use Rattle.a64_emit.specs.Emission.{appended, IsAppendedInPart, CanPut}
use Rattle.a64_emit.proofs.Fitting.{failed}
use Rattle.a64_emit.proofs.Joined.{part_first, can_first, can_second, puts_second}
use Rattle.a64_emit.proofs.sequence.put_address.Goals as goal

pub put_reloc-requires : goal.put_reloc-requires
put_reloc-requires c =
    let sink = c.args.sink.now in
    let same : to_z w64 (of_z w64 c.args.offset) ≡ c.args.offset = search rules in
    subst (λ z. CanPut sink (reloc_cell (Data 0) Abs8 c.args.name z ∷ [])) (sym same)
    (can_first sink (reloc_cell (Data 0) Abs8 c.args.name c.args.offset ∷ []) (data_cell 0 ∷ []) c.requires)

pub returns-in_err-put_reloc : goal.returns-in_err-put_reloc
returns-in_err-put_reloc c =
    let sink = c.args.sink.now in
    let first = reloc_cell (Data 0) Abs8 c.args.name c.args.offset in
    let second = data_cell 0 in
    let same : to_z w64 (of_z w64 c.args.offset) ≡ c.args.offset = search rules in
    failed c.from_residual.result _ sink c.put_reloc.new.sink (first ∷ second ∷ []) c.from_residual.ensures.1
    (part_first sink (first ∷ []) (second ∷ []) c.put_reloc.new.sink (subst (λ z. IsAppendedInPart sink c.put_reloc.new.sink (reloc_cell (Data 0) Abs8 c.args.name z ∷ [])) same c.in_err-put_reloc.ensures.err))

pub emit_last-requires : goal.emit_last-requires
emit_last-requires c =
    let sink = c.args.sink.now in
    let same : to_z w64 (of_z w64 c.args.offset) ≡ c.args.offset = search rules in
    let put = subst (λ z. c.put_reloc.new.sink ≡ appended sink (reloc_cell (Data 0) Abs8 c.args.name z ∷ [])) same c.in_ok-put_reloc.ensures.ok in
    record { lawful = tt; can = can_second sink (reloc_cell (Data 0) Abs8 c.args.name c.args.offset ∷ []) (data_cell 0 ∷ []) c.put_reloc.new.sink put c.requires }

pub returns : goal.returns
returns c =
    let sink = c.args.sink.now in
    let same : to_z w64 (of_z w64 c.args.offset) ≡ c.args.offset = search rules in
    let put = subst (λ z. c.put_reloc.new.sink ≡ appended sink (reloc_cell (Data 0) Abs8 c.args.name z ∷ [])) same c.in_ok-put_reloc.ensures.ok in
    puts_second sink (reloc_cell (Data 0) Abs8 c.args.name c.args.offset ∷ []) (data_cell 0 ∷ []) c.emit_last.result c.put_reloc.new.sink c.emit_last.new.sink put c.emit_last.ensures
