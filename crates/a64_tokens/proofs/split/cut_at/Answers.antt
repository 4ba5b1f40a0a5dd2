use Rattle.std.proofs.Common.{◌≡◌, ◌+◌, ◌-◌, ◌≤◌, ◌<◌, length, take, drop, inl, inr, arith}
use Rattle.std.proofs.lemmas.List.{take_all, length-drop}
use Rattle.a64_tokens.proofs.Splits.{at_space, at_feed, at_end}
use Rattle.a64_tokens.proofs.split.cut_at.Goals as goal

pub returns-then-end-text : goal.returns-then-end-text
returns-then-end-text c =
    let whole : take c.args.end c.args.text.now ≡ c.args.text.now = take_all c.args.end c.args.text.now (omega (arith, c.if-end-text.true)) in
    at_end c.args.text.now (rw whole at c.requires.plain.no_space) (rw whole at c.requires.plain.no_feed)

pub returns-then-text-end-eq32 : goal.returns-then-text-end-eq32
returns-then-text-end-eq32 c =
    let text = c.args.text.now in
    let i = c.args.end in
    let short : length (drop (i + 1) text) ≤ length text - (i + 1) = omega (arith, length-drop (i + 1) text) in
    let before : i < length text = omega (arith, c.requires.plain.inside, c.if-end-text.false) in
    at_space i text c.requires.plain.no_space c.requires.plain.no_feed _ before c.if-text-end-eq32.true (take_all (length text - (i + 1)) (drop (i + 1) text) short)

pub returns-else-text-end-eq32 : goal.returns-else-text-end-eq32
returns-else-text-end-eq32 c =
    let text = c.args.text.now in
    let i = c.args.end in
    let short : length (drop (i + 1) text) ≤ length text - (i + 1) = omega (arith, length-drop (i + 1) text) in
    let before : i < length text = omega (arith, c.requires.plain.inside, c.if-end-text.false) in
    at_feed i text c.requires.plain.no_space c.requires.plain.no_feed _ before (elim (c.requires.ends before) [ inl space ↦ absurd (c.if-text-end-eq32.false space) | inr feed ↦ feed ]) (take_all (length text - (i + 1)) (drop (i + 1) text) short)
