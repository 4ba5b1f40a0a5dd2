use Rattle.std.proofs.Common.{◌+◌, ◌-◌, ◌≤◌, length, drop, sym, ◌∙◌, arith}
use Rattle.std.proofs.lemmas.List.{take_all, length-drop}
use Rattle.a64_tokens.proofs.Splits.{at_space, at_feed}
use Rattle.a64_tokens.proofs.split.cut_token.Goals as goal

pub returns-in-Some-eq32 : goal.returns-in-Some-eq32
returns-in-Some-eq32 c =
    let text = c.args.text.now in
    let i = c.plain_front-front.result in
    let short : length (drop (i + 1) text) ≤ length text - (i + 1) = omega (arith, length-drop (i + 1) text) in
    at_space i text c.plain_front-front.ensures.no_space c.plain_front-front.ensures.no_feed _ c.in-Some-eq32.ensures.lookup.3.0 (sym (c.in-Some-eq32.ensures.lookup.3.1 0) ∙ c.in-Some-eq32.field-0-test) (take_all (length text - (i + 1)) (drop (i + 1) text) short)

pub returns-in-Some-eq10 : goal.returns-in-Some-eq10
returns-in-Some-eq10 c =
    let text = c.args.text.now in
    let i = c.plain_front-front.result in
    let short : length (drop (i + 1) text) ≤ length text - (i + 1) = omega (arith, length-drop (i + 1) text) in
    at_feed i text c.plain_front-front.ensures.no_space c.plain_front-front.ensures.no_feed _ c.in-Some-eq10.ensures.lookup.3.0 (sym (c.in-Some-eq10.ensures.lookup.3.1 0) ∙ c.in-Some-eq10.field-0-test) (take_all (length text - (i + 1)) (drop (i + 1) text) short)
