use Rattle.std.proofs.lemmas.List.Elements.{All-get_or}
use Rattle.a64_stubs.specs.Words.{HasForm}
use Rattle.a64_stubs.proofs.Forms.{shape_forms}
use Rattle.a64_stubs.proofs.making.push_steps.Goals as goal

pub step_word-requires : goal.step_word-requires
step_word-requires c = All-get_or HasForm c.args.steps.now c.loop-step.step-index _ c.loop-step-test.true (shape_forms c.args.steps.now c.requires)
