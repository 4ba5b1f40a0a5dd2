use Rattle.std.proofs.Common.{◌+◌, ◌-◌, ◌++◌, ◌∙◌, ap, take, drop, arith}
use Rattle.std.proofs.lemmas.List.{take-take}
use Rattle.a64_report.proofs.Overlaps.{appended}
use Rattle.a64_report.proofs.kept.copy_kept.Goals as goal

pub returns-clause-copied : goal.returns-clause-copied
returns-clause-copied c =
    let start = c.args.start in
    appended c.args.at (64 - start) c.args.text.now c.copy_from_slice.new.self _ (omega arith) (omega (arith, c.copy_from_slice.ensures.len))
    ∙ ap (λ t. take c.args.at c.args.text.now ++ t) (ap (take (64 - start)) c.copy_from_slice.ensures.after ∙ take-take (64 - start) (start + 48 - start) (drop start c.args.line.now) (omega arith))
