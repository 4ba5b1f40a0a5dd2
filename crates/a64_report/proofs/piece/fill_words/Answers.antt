use Rattle.std.proofs.Common.{◌≡◌, ◌-◌, ◌+◌, ◌*◌, ◌/◌, ◌≤◌, ◌++◌, ◌∙◌, ap, sym, refl, arith, length, take, drop, map, length-drop}
use Rattle.std.specs.Int.{w32, from_le_bytes}
use Rattle.std.proofs.lemmas.List.{length-take-le, take-take, take_all}
use Rattle.a64_report.specs.Report.{words_in}
use Rattle.a64_report.specs.Kept.{word_lines}
use Rattle.a64_report.proofs.LineRuns.{words_of_chunks, words_moved, front_stays}
use Rattle.a64_report.proofs.piece.fill_words.Goals as goal

pub slice_bounds-text-end-2 : goal.slice_bounds-text-end-2
slice_bounds-text-end-2 c = sym (length-take-le 65536 c.args.text.now (omega (arith, c.requires.text)))

pub loop-place-init : goal.loop-place-init
loop-place-init c = (
  length-take-le 65536 c.args.text.now (omega (arith, c.requires.text)),
  c.requires.text.1,
  omega arith,
  c.requires.word.0,
  c.requires.word.1,
  λ same. refl,
  ap (λ t. t ++ word_lines c.args.code.now c.args.from) (take-take c.args.len 65536 c.args.text.now c.requires.text.1),
)

pub loop-place-preserved : goal.loop-place-preserved
loop-place-preserved c =
    let i = c.loop-place.invariant in
    let p = c.copy_from-count.ensures in
    let code = c.args.code.now in
    let place = c.loop-place.place in
    let count = c.copy_from-count.result.0 in
    let rest = take (length code - place) (drop place code) in
    let words = c.as_chunks.result.0.now in
    let long = length-drop place code in
    let is : rest ≡ drop place code = take_all (length code - place) (drop place code) (omega arith) in
    let whole : map (from_le_bytes w32) words ≡ words_in (drop place code) =
    ap (map (from_le_bytes w32)) c.as_chunks.ensures.front ∙ words_of_chunks (length rest / 4) rest refl ∙ ap words_in is in
    let within : place + 4 * count ≤ length code = omega (arith, p.within.1, c.as_chunks.ensures.front_len, ap length is, i.3) in (
      omega (arith, p.long, i.0),
      omega (arith, p.few, i.0),
      omega (arith, i.2, p.within),
      within,
      omega (arith, i.4),
      λ same. absurd (omega (arith, i.2, p.within)),
      words_moved code (take c.loop-place.at c.loop-place.text) (take c.copy_from-count.result.1 c.copy_from-count.new.text) words place count whole p.within.1 within p.copied
          ∙ i.6,
    )

pub returns-else-at-clause-filled : goal.returns-else-at-clause-filled
returns-else-at-clause-filled c =
    let low = c.loop-place.invariant.1 in
    let long = c.loop-place.invariant.0 in
    front_stays c.loop-place.at c.loop-place.text _ _ (omega arith) c.loop-place.invariant.6

pub returns-after-loop-place-clause-filled : goal.returns-after-loop-place-clause-filled
returns-after-loop-place-clause-filled c =
    let low = c.loop-place.invariant.1 in
    let long = c.loop-place.invariant.0 in
    front_stays c.loop-place.at c.loop-place.text _ _ (omega arith) c.loop-place.invariant.6
