use Rattle.std.proofs.Common.{◌≡◌, ◌+◌, ◌-◌, ◌≤◌, length, take, drop, arith}
use Rattle.std.proofs.lemmas.List.{take_all, length-drop}
use Rattle.a64_tokens.specs.SplitLaws.{split_none}
use Rattle.a64_tokens.proofs.Splits.{cut_at}
use Rattle.a64_tokens.proofs.split.cut.Goals as goal

pub returns-then-byte-separator : goal.returns-then-byte-separator
returns-then-byte-separator c =
    let text = c.args.text.now in
    let i = c.loop-i.i in
    let short : length (drop (i + 1) text) ≤ length text - (i + 1) = omega (arith, length-drop (i + 1) text) in
    let rest : take (length text - (i + 1)) (drop (i + 1) text) ≡ drop (i + 1) text = take_all (length text - (i + 1)) (drop (i + 1) text) short in
    rw rest (cut_at c.args.separator i text c.loop-i-test.true c.if-byte-separator.true c.loop-i.invariant, omega (arith, length-drop (i + 1) text))

pub returns : goal.returns
returns c =
    let whole : take c.loop-i.i c.args.text.now ≡ c.args.text.now = take_all c.loop-i.i c.args.text.now c.loop-i-test.false in
    split_none c.args.separator c.args.text.now (rw whole at c.loop-i.invariant)
