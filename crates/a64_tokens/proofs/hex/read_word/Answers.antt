use Rattle.std.proofs.Common.{arith}
use Rattle.a64_tokens.proofs.Words.{no_second, no_third, no_fourth, all_four}
use Rattle.a64_tokens.proofs.hex.read_word.Goals as goal

pub returns-in_default-byte_of-2 : goal.returns-in_default-byte_of-2
returns-in_default-byte_of-2 c = no_second c.args.token.now (rw c.in_default-byte_of-2.is at c.byte_of-in-len8.ensures)

pub returns-in_default-byte_of-3 : goal.returns-in_default-byte_of-3
returns-in_default-byte_of-3 c = no_third c.args.token.now (rw c.in_default-byte_of-3.is at c.byte_of-in-len8-2.ensures)

pub returns-in_default-byte_of-4 : goal.returns-in_default-byte_of-4
returns-in_default-byte_of-4 c = no_fourth c.args.token.now (rw c.in_default-byte_of-4.is at c.byte_of-in-len8-3.ensures)

pub returns-in-Some-byte_of-3 : goal.returns-in-Some-byte_of-3
returns-in-Some-byte_of-3 c =
    rw (c.from.ensures, c.from-in-len8.ensures, c.from-in-len8-2.ensures, c.from-in-len8-3.ensures)
    (all_four c.args.token.now c.in-Some.first c.in-Some-byte_of.second c.in-Some-byte_of-2.third c.in-Some-byte_of-3.fourth (omega (arith, c.in-len8.len_at_least, c.in-len8.len_below))
    (rw c.in-Some.is at c.byte_of.ensures) (rw c.in-Some-byte_of.is at c.byte_of-in-len8.ensures) (rw c.in-Some-byte_of-2.is at c.byte_of-in-len8-2.ensures) (rw c.in-Some-byte_of-3.is at c.byte_of-in-len8-3.ensures))
