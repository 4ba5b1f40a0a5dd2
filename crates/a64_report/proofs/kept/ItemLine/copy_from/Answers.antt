use Rattle.std.proofs.Common.{◌≡◌, ◌++◌, ◌∙◌, ap, get_or, take, arith}
use Rattle.std.specs.List.{flat_map, enumerate_from}
use Rattle.a64_report.specs.Report.{item_line}
use Rattle.a64_report.proofs.LineRuns.{only_one, same_front}
use Rattle.a64_report.proofs.kept.ItemLine.copy_from.Goals as goal
use Rattle.a64_report.proofs.kept.ItemLine.copy_from.Goals.{then-count-gt0+else-done-gt0, else-count-gt0}

pub returns-clause-copied : goal.returns-clause-copied
returns-clause-copied c =
    let at = c.args.at in
    let index = c.args.index in
    let places = c.args.places.now in
    let text = c.args.text.now in
    let line = item_line (index, get_or places 0 0) in
    let front : take at c.if-count-gt0.text ≡ take at text =
    elim c.if-count-gt0.branch [
      | then-count-gt0+else-done-gt0 w ↦
          let done = w.copy_items-done in
          let none : done.result.0 ≡ 0 = omega (arith, w.if-done-gt0.false) in
          ap (take at) w.text-is
          ∙ same_front at done.result.1 text done.new.text _ (omega (arith, c.requires.room)) (omega (arith, done.ensures.long, done.ensures.few)) done.ensures.copied
          (ap (λ n. flat_map item_line (enumerate_from index (take n (take c.min-count.result places)))) none)
      | else-count-gt0 w ↦ ap (take at) w.text-is
    ] in
    c.copy_kept.ensures.copied
    ∙ ap (λ t. take at c.if-count-gt0.text ++ t) (c.self-2.view_is ∙ c.compose.ensures)
    ∙ ap (λ t. t ++ line) front
    ∙ only_one item_line index places 0 (take at text) c.requires.some
