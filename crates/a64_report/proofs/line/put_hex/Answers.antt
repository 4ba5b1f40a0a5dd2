use Rattle.std.proofs.Common.{◌++◌, drop, ap, sym}
use Rattle.a64_tokens.proofs.HexWords.{hex_word_pairs}
use Rattle.a64_report.proofs.line.put_hex.Goals as goal

pub returns-clause-written : goal.returns-clause-written
returns-clause-written c =
    let p = hex_word_pairs c.args.word c.ranges.word.fits in
    rw (c.put_hex_byte.ensures.written, c.put_hex_byte-end-3.ensures.written, c.put_hex_byte-end-2.ensures.written, c.put_hex_byte-end.ensures.written)
    (sym (ap (λ t. t ++ drop c.args.end c.args.line.now) p))
