use Rattle.std.proofs.Common.{ℕ, ◌+◌, ◌*◌, ◌<◌, ◌^◌, List, [], ◌∷◌, ◌++◌, length, ◌∙◌, sym, ap, subst}
use Rattle.a64_buffer.specs.Buffer.{Buffer, end_of}
use Rattle.a64_buffer.specs.Classes.{Fits}
use Rattle.a64_label_use.specs.LabelUses.{label_kinds}
use Rattle.a64_emit.specs.Emission.{PutsInPart}
use Rattle.a64_cells.specs.Words.{MayBePut, put_cell, put_cells}
use Rattle.std.specs.Prelude.{IfSome}
use Rattle.a64_label_use.specs.declared.label_use.LabelUse.{LabelUse}
use Rattle.a64_emit.proofs.Fitting.{failed}
use Rattle.a64_emit.proofs.Joined.{part_first, can_first, can_second, puts_second}
use Rattle.a64_emit.proofs.Lasts.{silent, silent_appended, silent_part, silent_room, silent_fits}
use Rattle.a64_emit.proofs.emit.emit_several.Goals as goal

pub put_words-requires : goal.put_words-requires
put_words-requires c =
    let words = c.args.words.now in
    let can = can_first c.args.sink.now (silent words.first.items) (put_cell words.last words.site words.trap ∷ []) c.requires.can in
    record {
      short = subst (λ (ws : List ℕ). end_of c.args.sink.now + 4 * length ws < 2 ^ 31) (sym c.as_slice.ensures.value) (silent_room c.args.sink.now words.first.items can.room);
      fits = subst (λ (ws : List ℕ). Fits label_kinds c.args.sink.now (4 * length ws)) (sym c.as_slice.ensures.value) (silent_fits c.args.sink.now words.first.items can.fits);
    }

pub returns-in_err-put_words : goal.returns-in_err-put_words
returns-in_err-put_words c =
    let words = c.args.words.now in
    failed c.from_residual.result _ c.args.sink.now c.put_words.new.sink (put_cells words.first.items words.last words.site words.trap) c.from_residual.ensures.1
    (part_first c.args.sink.now (silent words.first.items) (put_cell words.last words.site words.trap ∷ []) c.put_words.new.sink
    (silent_part c.args.sink.now c.put_words.new.sink words.first.items (subst (PutsInPart c.args.sink.now c.put_words.new.sink) c.as_slice.ensures.value c.in_err-put_words.ensures.err)))

pub emit_last-requires : goal.emit_last-requires
emit_last-requires c =
    let words = c.args.words.now in
    let put = silent_appended c.args.sink.now c.put_words.new.sink words.first.items (c.in_ok-put_words.ensures.ok ∙ ap (λ (ws : List ℕ). record c.args.sink.now { words = c.args.sink.now.words ++ ws }) c.as_slice.ensures.value) in
    record {
      lawful = subst (λ cs. IfSome words.site (MayBePut cs)) (sym (ap (λ (b : Buffer LabelUse). b.constants) put)) c.requires.lawful;
      can = can_second c.args.sink.now (silent words.first.items) (put_cell words.last words.site words.trap ∷ []) c.put_words.new.sink put c.requires.can;
    }

pub returns : goal.returns
returns c =
    let words = c.args.words.now in
    let put = silent_appended c.args.sink.now c.put_words.new.sink words.first.items (c.in_ok-put_words.ensures.ok ∙ ap (λ (ws : List ℕ). record c.args.sink.now { words = c.args.sink.now.words ++ ws }) c.as_slice.ensures.value) in
    puts_second c.args.sink.now (silent words.first.items) (put_cell words.last words.site words.trap ∷ []) c.emit_last.result c.put_words.new.sink c.emit_last.new.sink put c.emit_last.ensures
