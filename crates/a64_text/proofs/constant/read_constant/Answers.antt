use Rattle.std.proofs.Common.{sym, ◌∙◌}
use Rattle.a64_tokens.specs.Hex.{hex_text, AreBytes}
use Rattle.a64_tokens.specs.Reads.{Reads}
use Rattle.a64_text.specs.Constants.{HasHex}
use Rattle.a64_text.proofs.Adds.{all_ok}
use Rattle.a64_text.proofs.Constants.{constant_read, no_constant}
use Rattle.a64_text.proofs.constant.read_constant.Goals as goal

pub returns-then-has_digits : goal.returns-then-has_digits
returns-then-has_digits c =
    let token = c.args.token.now in
    all_ok (Reads AreBytes hex_text token) (Reads HasHex hex_text token)
    (constant_read token (sym c.has_digits.ensures ∙ c.if-has_digits.true))
    c.read_bytes.result c.read_bytes.ensures

pub returns-else-has_digits : goal.returns-else-has_digits
returns-else-has_digits c = no_constant c.args.token.now (sym c.has_digits.ensures ∙ c.if-has_digits.false)
