use Rattle.std.proofs.Common.{ℕ, List, [], ◌∷◌, ◌++◌, take, ap, sym, ◌∙◌, append_assoc, slice_index_or}
use Rattle.std.proofs.lemmas.List.{take_more}
use Rattle.a64_buffer.specs.Buffer.{Buffer}
use Rattle.a64_label_use.specs.declared.label_use.LabelUse.{LabelUse}
use Rattle.a64_emit.proofs.emit.put_words.Goals as goal

pub loop-word-preserved : goal.loop-word-preserved
loop-word-preserved c =
    let words = c.args.words.now in
    c.in_ok-put4.ensures.ok
    ∙ ap (λ (b : Buffer LabelUse). record b { words = b.words ++ slice_index_or words c.loop-word.word-index 0 ∷ [] }) c.loop-word.invariant
    ∙ ap (λ (ws : List ℕ). record c.args.sink.now { words = ws })
    (append_assoc c.args.sink.now.words (take c.loop-word.word-index words) (slice_index_or words c.loop-word.word-index 0 ∷ [])
    ∙ ap (λ (ws : List ℕ). c.args.sink.now.words ++ ws) (sym (take_more words c.loop-word.word-index 0 c.loop-word-test.true)))
