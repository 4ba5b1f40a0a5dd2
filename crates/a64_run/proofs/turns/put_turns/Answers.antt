use Rattle.std.proofs.Common.{◌++◌, sym, ap, ◌∙◌}
use Rattle.std.specs.List.{flat_map, range_with_len}
use Rattle.std.proofs.lemmas.List.{flat_map_more}
use Rattle.a64_run.specs.Gen.{gen_turn}
use Rattle.a64_run.proofs.GenItems.{turns_more}
use Rattle.a64_run.proofs.turns.put_turns.Goals as goal

pub loop-number-preserved : goal.loop-number-preserved
loop-number-preserved c =
    let turn = gen_turn c.args.count in
    let number = c.loop-number.number in
    let before = c.args.items.now.items in
    c.in_ok-put_turn.ensures ∙ ap (λ items. items ++ turn number) c.loop-number.invariant
    ∙ flat_map_more turn before (range_with_len 0 number) number
    ∙ ap (λ numbers. before ++ flat_map turn numbers) (sym (turns_more number))
