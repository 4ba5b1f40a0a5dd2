use Rattle.a64_report.proofs.HexPairs.{hex_pairs_at}
use Rattle.a64_report.proofs.line.put_hex_byte.Goals as goal

pub returns-clause-written : goal.returns-clause-written
returns-clause-written c =
    let p = hex_pairs_at c.args.byte c.ranges.byte.fits in
    rw (c.put_text.ensures.written, c.from-at.ensures, p.0, p.1)
