use Rattle.std.proofs.Common.{arith}
use Rattle.std.proofs.lemmas.Fmt.{length-decimal-le}
use Rattle.a64_report.proofs.line.put_decimal.Goals as goal

pub write_digits-requires : goal.write_digits-requires
write_digits-requires c =
    let n = c.ranges.number.fits in
    let l = length-decimal-le 20 c.args.number (omega arith) (omega arith) n in
    (omega (arith, c.requires.0), omega (arith, c.requires.1))

pub returns-clause-few : goal.returns-clause-few
returns-clause-few c =
    let n = c.ranges.number.fits in
    let l = length-decimal-le 20 c.args.number (omega arith) (omega arith) n in
    (omega (arith, c.write_digits.ensures.start), omega (arith, c.write_digits.ensures.start))
