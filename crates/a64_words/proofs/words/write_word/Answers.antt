use Rattle.std.proofs.Common.{◌≡◌, ◌+◌, ◌++◌, length, take, ◌∙◌, ap, arith}
use Rattle.std.proofs.lemmas.Simd.{take_more_put_chunk}
use Rattle.a64_words.proofs.words.write_word.Goals as goal

pub returns : goal.returns
returns c =
    let four : length c.to_le_bytes.result ≡ 4 = ap length c.to_le_bytes.ensures in
    take_more_put_chunk c.args.at c.args.bytes.now c.to_le_bytes.result (c.args.at + 4) (omega (arith, four)) c.requires
    ∙ ap (λ bytes. take c.args.at c.args.bytes.now ++ bytes) c.to_le_bytes.ensures
