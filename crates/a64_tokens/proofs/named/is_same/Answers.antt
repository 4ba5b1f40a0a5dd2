use Rattle.std.proofs.Common.{◌-◌, ℕ, List, length, take, drop, ap, arith}
use Rattle.a64_tokens.proofs.SameBytes.{from_both}
use Rattle.a64_tokens.proofs.named.is_same.Goals as goal

pub returns-then-has_same_four : goal.returns-then-has_same_four
returns-then-has_same_four c =
    let a = c.args.a.now in
    let b = c.args.b.now in
    let back = length a - 4 in (
      λ yes. from_both 4 a b back (omega (arith, c.if-len-b.false)) (omega (arith, c.if-len-ge4.true, c.if-len-le8.true)) (omega (arith, c.if-len-ge4.true, c.if-len-le8.true)) (c.has_same_four.ensures.0 c.if-has_same_four.true) (c.has_same_four-then-has_same_four.ensures.0 yes),
      λ same. c.has_same_four-then-has_same_four.ensures.1 (ap (λ (l : List ℕ). take 4 (drop back l)) same),
    )

pub returns-then-has_same_eight : goal.returns-then-has_same_eight
returns-then-has_same_eight c =
    let a = c.args.a.now in
    let b = c.args.b.now in
    let back = length a - 8 in (
      λ yes. from_both 8 a b back (omega (arith, c.if-len-b.false)) (omega (arith, c.if-len-ge4.true, c.if-len-le8.false, c.if-len-le16.true)) (omega (arith, c.if-len-ge4.true, c.if-len-le8.false, c.if-len-le16.true)) (c.has_same_eight.ensures.0 c.if-has_same_eight.true) (c.has_same_eight-then-has_same_eight.ensures.0 yes),
      λ same. c.has_same_eight-then-has_same_eight.ensures.1 (ap (λ (l : List ℕ). take 8 (drop back l)) same),
    )
