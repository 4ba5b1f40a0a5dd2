use Rattle.std.proofs.Common.{ℕ, ◌≡◌, ◌+◌, ◌*◌, ◌<◌, ◌^◌, List, [], ◌∷◌, ◌++◌, length, map, ap, sym, subst, ◌∙◌, refl}
use Rattle.std.proofs.lemmas.Result.{on_ok_weaker, on_err_weaker}
use Rattle.a64_buffer.specs.Buffer.{end_of}
use Rattle.a64_buffer.specs.Classes.{Fits}
use Rattle.a64_label_use.specs.LabelUses.{label_kinds}
use Rattle.a64_cells.specs.Cells.{keep, patchable_cells}
use Rattle.a64_emit.specs.Emission.{appended, PutsInPart, IsAppendedInPart, CanPut}
use Rattle.a64_cells.specs.Words.{as_put, put_kept}
use Rattle.a64_emit.proofs.Called.{can_called, patchable_is, patchable_done, patchable_begun}
use Rattle.a64_emit.proofs.Fitting.{failed}
use Rattle.a64_emit.proofs.Holding.{all_put}
use Rattle.a64_emit.proofs.Joined.{joined, part_first, part_second, can_first, can_second}
use Rattle.a64_emit.proofs.Lasts.{silent, silent_appended, silent_part, silent_room, silent_fits}
use Rattle.a64_emit.proofs.call.emit_patchable.Goals as goal

pub put_call-requires : goal.put_call-requires
put_call-requires c =
    let a = c.args in
    let words = c.pop_words-words.result.items in
    let len = 4 * (length words + 1) in
    let cells = map as_put (keep a.kept (patchable_cells a.callee.now a.pop)) in
    let word = c.call_word-word.result in
    let is = patchable_is a.callee.now a.kept word a.pop words c.call_word-word.ensures c.pop_words-words.ensures.words in
    can_first a.sink.now (put_kept word a.callee.now a.kept ∷ []) (silent words) (can_called a.sink.now word a.callee.now a.kept words len (subst (CanPut a.sink.now) is c.requires.can))

pub returns-in_err-put_call : goal.returns-in_err-put_call
returns-in_err-put_call c =
    let a = c.args in
    let words = c.pop_words-words.result.items in
    let len = 4 * (length words + 1) in
    let cells = map as_put (keep a.kept (patchable_cells a.callee.now a.pop)) in
    let word = c.call_word-word.result in
    let is = patchable_is a.callee.now a.kept word a.pop words c.call_word-word.ensures c.pop_words-words.ensures.words in
    failed c.from_residual.result _ a.sink.now c.put_call.new.sink cells c.from_residual.ensures.1
    (subst (IsAppendedInPart a.sink.now c.put_call.new.sink) (sym is)
    (patchable_begun a.sink.now word a.callee.now a.kept words len c.put_call.new.sink
    (part_first a.sink.now (put_kept word a.callee.now a.kept ∷ []) (silent words) c.put_call.new.sink c.in_err-put_call.ensures.err)))

pub put_words-requires : goal.put_words-requires
put_words-requires c =
    let a = c.args in
    let words = c.pop_words-words.result.items in
    let len = 4 * (length words + 1) in
    let cells = map as_put (keep a.kept (patchable_cells a.callee.now a.pop)) in
    let word = c.call_word-word.result in
    let is = patchable_is a.callee.now a.kept word a.pop words c.call_word-word.ensures c.pop_words-words.ensures.words in
    let can = can_second a.sink.now (put_kept word a.callee.now a.kept ∷ []) (silent words) c.put_call.new.sink c.in_ok-put_call.ensures.ok (can_called a.sink.now word a.callee.now a.kept words len (subst (CanPut a.sink.now) is c.requires.can)) in
    record {
      short = subst (λ (ws : List ℕ). end_of c.put_call.new.sink + 4 * length ws < 2 ^ 31) (sym c.as_slice.ensures.value) (silent_room c.put_call.new.sink words can.room);
      fits = subst (λ (ws : List ℕ). Fits label_kinds c.put_call.new.sink (4 * length ws)) (sym c.as_slice.ensures.value) (silent_fits c.put_call.new.sink words can.fits);
    }

pub returns-in_err-put_words : goal.returns-in_err-put_words
returns-in_err-put_words c =
    let a = c.args in
    let words = c.pop_words-words.result.items in
    let len = 4 * (length words + 1) in
    let cells = map as_put (keep a.kept (patchable_cells a.callee.now a.pop)) in
    let word = c.call_word-word.result in
    let is = patchable_is a.callee.now a.kept word a.pop words c.call_word-word.ensures c.pop_words-words.ensures.words in
    failed c.from_residual-in_err-put_words.result _ a.sink.now c.put_words.new.sink cells c.from_residual-in_err-put_words.ensures.1
    (subst (IsAppendedInPart a.sink.now c.put_words.new.sink) (sym is)
    (patchable_begun a.sink.now word a.callee.now a.kept words len c.put_words.new.sink
    (part_second a.sink.now (put_kept word a.callee.now a.kept ∷ []) (silent words) c.put_call.new.sink c.put_words.new.sink c.in_ok-put_call.ensures.ok
    (silent_part c.put_call.new.sink c.put_words.new.sink words (subst (PutsInPart c.put_call.new.sink c.put_words.new.sink) c.as_slice.ensures.value c.in_err-put_words.ensures.err)))))

pub returns : goal.returns
returns c =
    let a = c.args in
    let words = c.pop_words-words.result.items in
    let len = 4 * (length words + 1) in
    let cells = map as_put (keep a.kept (patchable_cells a.callee.now a.pop)) in
    let word = c.call_word-word.result in
    let is = patchable_is a.callee.now a.kept word a.pop words c.call_word-word.ensures c.pop_words-words.ensures.words in
    let both =
    joined a.sink.now (put_kept word a.callee.now a.kept ∷ []) (silent words) c.put_call.new.sink c.put_words.new.sink c.in_ok-put_call.ensures.ok
    (silent_appended c.put_call.new.sink c.put_words.new.sink words (c.in_ok-put_words.ensures.ok ∙ ap (λ (ws : List ℕ). record c.put_call.new.sink { words = c.put_call.new.sink.words ++ ws }) c.as_slice.ensures.value))
    in
    let many : 4 * (c.len.result + 1) ≡ len = ap (λ n. 4 * (n + 1)) c.len.ensures.value in
    record {
      ok =
          on_ok_weaker c.add_patchable_call_site.result
          (λ e. patchable_done a.sink.now word a.callee.now a.kept words len c.put_words.new.sink c.add_patchable_call_site.new.self refl both
          (subst (λ n. c.add_patchable_call_site.new.self ≡ record c.put_words.new.sink { records = record c.put_words.new.sink.records { patchable = c.put_words.new.sink.records.patchable ++ (end_of c.put_words.new.sink, n) ∷ [] } }) many e)
          ∙ ap (appended a.sink.now) (sym is))
          c.add_patchable_call_site.ensures.ok;
      err =
          on_err_weaker c.add_patchable_call_site.result
          (λ e. subst (IsAppendedInPart a.sink.now c.add_patchable_call_site.new.self) (sym is)
          (patchable_begun a.sink.now word a.callee.now a.kept words len c.add_patchable_call_site.new.self
          (all_put a.sink.now c.add_patchable_call_site.new.self (put_kept word a.callee.now a.kept ∷ silent words) (e ∙ both))))
          c.add_patchable_call_site.ensures.err;
    }
