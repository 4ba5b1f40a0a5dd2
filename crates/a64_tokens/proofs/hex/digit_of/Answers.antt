use Rattle.std.proofs.Common.{arith}
use Rattle.a64_tokens.proofs.Bytes.{decimal_digit, letter_digit, no_digit}
use Rattle.a64_tokens.proofs.hex.digit_of.Goals as goal

pub returns-in-48-to-57 : goal.returns-in-48-to-57
returns-in-48-to-57 c = decimal_digit c.args.byte (omega (arith, c.in-48-to-57)) (omega (arith, c.in-48-to-57))

pub returns-in-97-to-102 : goal.returns-in-97-to-102
returns-in-97-to-102 c = letter_digit c.args.byte (omega (arith, c.in-97-to-102)) (omega (arith, c.in-97-to-102))

pub returns-in_default-3 : goal.returns-in_default-3
returns-in_default-3 c = no_digit c.args.byte (λ low high. omega (arith, c.in_default)) (λ low high. omega (arith, c.in_default))
