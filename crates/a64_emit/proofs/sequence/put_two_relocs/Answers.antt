use Rattle.std.proofs.Common.{◌≡◌, [], ◌∷◌, rules, w64, of_z, to_z, sym, subst}
use Rattle.a64_cells.specs.Shapes.{Data, reloc_cell}
use Rattle.a64_emit.specs.Emission.{appended, IsAppendedInPart, CanPut, PutsCells}
use Rattle.a64_emit.proofs.Fitting.{failed}
use Rattle.a64_emit.proofs.Joined.{part_first, can_first, can_second, puts_second}
use Rattle.a64_emit.proofs.sequence.put_two_relocs.Goals as goal

pub put_reloc-requires : goal.put_reloc-requires
put_reloc-requires c =
    let a = c.args in
    let same : to_z w64 (of_z w64 a.addend) ≡ a.addend = search rules in
    subst (λ z. CanPut a.sink.now (reloc_cell (Data a.first.0) a.first.1 a.name z ∷ [])) (sym same)
    (can_first a.sink.now (reloc_cell (Data a.first.0) a.first.1 a.name a.addend ∷ []) (reloc_cell (Data a.second.0) a.second.1 a.name a.addend ∷ []) c.requires)

pub returns-in_err-put_reloc : goal.returns-in_err-put_reloc
returns-in_err-put_reloc c =
    let a = c.args in
    let first = reloc_cell (Data a.first.0) a.first.1 a.name a.addend in
    let second = reloc_cell (Data a.second.0) a.second.1 a.name a.addend in
    let same : to_z w64 (of_z w64 a.addend) ≡ a.addend = search rules in
    failed c.from_residual.result _ a.sink.now c.put_reloc.new.sink (first ∷ second ∷ []) c.from_residual.ensures.1
    (part_first a.sink.now (first ∷ []) (second ∷ []) c.put_reloc.new.sink (subst (λ z. IsAppendedInPart a.sink.now c.put_reloc.new.sink (reloc_cell (Data a.first.0) a.first.1 a.name z ∷ [])) same c.in_err-put_reloc.ensures.err))

pub put_reloc-requires-2 : goal.put_reloc-requires-2
put_reloc-requires-2 c =
    let a = c.args in
    let same : to_z w64 (of_z w64 a.addend) ≡ a.addend = search rules in
    let put = subst (λ z. c.put_reloc.new.sink ≡ appended a.sink.now (reloc_cell (Data a.first.0) a.first.1 a.name z ∷ [])) same c.in_ok-put_reloc.ensures.ok in
    subst (λ z. CanPut c.put_reloc.new.sink (reloc_cell (Data a.second.0) a.second.1 a.name z ∷ [])) (sym same)
    (can_second a.sink.now (reloc_cell (Data a.first.0) a.first.1 a.name a.addend ∷ []) (reloc_cell (Data a.second.0) a.second.1 a.name a.addend ∷ []) c.put_reloc.new.sink put c.requires)

pub returns : goal.returns
returns c =
    let a = c.args in
    let same : to_z w64 (of_z w64 a.addend) ≡ a.addend = search rules in
    let put = subst (λ z. c.put_reloc.new.sink ≡ appended a.sink.now (reloc_cell (Data a.first.0) a.first.1 a.name z ∷ [])) same c.in_ok-put_reloc.ensures.ok in
    puts_second a.sink.now (reloc_cell (Data a.first.0) a.first.1 a.name a.addend ∷ []) (reloc_cell (Data a.second.0) a.second.1 a.name a.addend ∷ []) c.put_reloc-2.result c.put_reloc.new.sink c.put_reloc-2.new.sink put
    (subst (λ z. PutsCells c.put_reloc-2.result c.put_reloc.new.sink c.put_reloc-2.new.sink (reloc_cell (Data a.second.0) a.second.1 a.name z ∷ [])) same c.put_reloc-2.ensures)
