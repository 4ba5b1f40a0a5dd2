use Rattle.std.proofs.Common.{length, ap, arith}
use Rattle.a64_run.proofs.GenItems.{gen_length}
use Rattle.a64_run.proofs.input.make_input.Goals as goal

pub returns-in-Ok-clause-few_items : goal.returns-in-Ok-clause-few_items
returns-in-Ok-clause-few_items c = omega (arith, ap (λ file. length file.items) c.in-Ok.ensures, gen_length c.args.count, c.requires.1)
