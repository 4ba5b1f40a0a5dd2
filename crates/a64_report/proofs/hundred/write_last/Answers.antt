use Rattle.std.proofs.Common.{◌≡◌, ◌+◌, ◌-◌, ◌*◌, ◌++◌, ◌∙◌, ap, take, drop, arith}
use borrow.Rule.Slice.PartMut.{mid_of}
use Rattle.a64_report.specs.declared.hundred.TheConstants.{PAIRS}
use Rattle.a64_report.proofs.DigitPairs.{pair_part, placed}
use Rattle.a64_report.proofs.hundred.write_last.Goals as goal

pub returns : goal.returns
returns c =
    let from = c.args.offset * 2 in
    let two : from + 2 - from ≡ 2 = omega arith in
    let p = pair_part PAIRS (λ d. 48 + d) 10 100 c.args.offset tt c.requires.near (omega arith) in
    placed c.args.end c.args.line.now c.copy_from_slice.new.self c.requires.place.0
    ∙ ap (λ t. take (c.args.end - 2) c.args.line.now ++ (t ++ drop c.args.end c.args.line.now)) (c.copy_from_slice.ensures.after ∙ ap (λ k. mid_of from k PAIRS) two ∙ p)
