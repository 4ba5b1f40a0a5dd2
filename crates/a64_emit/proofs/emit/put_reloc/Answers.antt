use Rattle.std.proofs.Common.{◌≡◌, ◌+◌, ◌<◌, ◌^◌, [], ◌∷◌, ◌++◌, rules, w64, of_z, to_z, sym, subst}
use Rattle.std.proofs.lemmas.Result.{on_ok_weaker, on_err_weaker}
use Rattle.a64_buffer.specs.Buffer.{Buffer, end_of}
use Rattle.a64_buffer.specs.Classes.{Fits}
use Rattle.a64_label_use.specs.declared.label_use.LabelUse.{LabelUse}
use Rattle.a64_label_use.specs.LabelUses.{label_kinds}
use Rattle.a64_cells.specs.Shapes.{Data, reloc_cell}
use Rattle.a64_emit.proofs.Fitting.{before_word, failed}
use Rattle.a64_emit.proofs.Holding.{none_put}
use Rattle.a64_emit.proofs.Lasts.{reloc_begun, reloc_done}
use Rattle.a64_emit.proofs.emit.put_reloc.Goals as goal

pub returns-in_err-add_reloc : goal.returns-in_err-add_reloc
returns-in_err-add_reloc c =
    let cells = reloc_cell (Data c.args.word) c.args.kind c.args.name c.args.addend ∷ [] in
    failed c.from_residual.result _ c.args.sink.now c.add_reloc.new.self cells c.from_residual.ensures.1
    (none_put c.args.sink.now c.add_reloc.new.self cells c.in_err-add_reloc.ensures.err)

pub put4-requires : goal.put4-requires
put4-requires c =
    let recorded = sym c.in_ok-add_reloc.ensures.ok in
    let cell = reloc_cell (Data c.args.word) c.args.kind c.args.name c.args.addend in
    record {
      short = subst (λ (b : Buffer LabelUse). end_of b + 4 < 2 ^ 31) recorded c.requires.room;
      fits = subst (λ (b : Buffer LabelUse). Fits label_kinds b 4) recorded (before_word c.args.sink.now cell c.requires.fits);
    }

pub returns : goal.returns
returns c =
    let same : to_z w64 (of_z w64 c.args.addend) ≡ c.args.addend = search rules in
    let recorded = subst (λ z. c.add_reloc.new.self ≡ record c.args.sink.now { records = record c.args.sink.now.records { relocs = c.args.sink.now.records.relocs ++ (end_of c.args.sink.now, c.args.kind, c.args.name, z) ∷ [] } }) same c.in_ok-add_reloc.ensures.ok in
    record {
      ok = on_ok_weaker c.put4.result (reloc_done c.args.sink.now c.args.word c.args.kind c.args.name c.args.addend c.add_reloc.new.self c.put4.new.self recorded) c.put4.ensures.ok;
      err = on_err_weaker c.put4.result (reloc_begun c.args.sink.now c.args.word c.args.kind c.args.name c.args.addend c.add_reloc.new.self c.put4.new.self recorded) c.put4.ensures.err;
    }
