use Rattle.std.proofs.Common.{◌++◌, ◌/◌, ◌∙◌, ap, take}
use Rattle.a64_report.specs.Report.{word_line}
use Rattle.a64_report.proofs.KeptLines.{word_line_of}
use Rattle.a64_report.proofs.LineRuns.{only_one_word}
use Rattle.a64_report.proofs.kept.WordLine.copy_from.Goals as goal

pub returns-clause-copied : goal.returns-clause-copied
returns-clause-copied c =
    let before = take c.args.at c.args.text.now in
    let word = c.from_le_bytes.result in
    c.copy_kept.ensures.copied
    ∙ ap (λ t. before ++ t) (c.self-2.view_is ∙ c.compose.ensures ∙ word_line_of c.args.place word c.requires.whole)
    ∙ only_one_word word_line (c.args.place / 4) c.args.words.now word before c.requires.some c.from_le_bytes.ensures
