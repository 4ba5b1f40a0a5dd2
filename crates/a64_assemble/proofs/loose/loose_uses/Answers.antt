use Rattle.std.proofs.Common.{arith}
use Rattle.a64_assemble.proofs.Marking.{rising, few_uses}
use Rattle.a64_assemble.proofs.LooseCounts.{loose_marks}
use Rattle.a64_assemble.proofs.loose.loose_uses.Goals as goal

pub first_waiting-first-requires-clause-rising : goal.first_waiting-first-requires-clause-rising
first_waiting-first-requires-clause-rising c = rising c.args.marks.now c.requires.sums

pub overflow_sub-result : goal.overflow_sub-result
overflow_sub-result c = (rising c.args.marks.now c.requires.sums).loads c.first_waiting-first.result c.args.index (omega (arith, c.first_waiting-first.ensures.within)) c.requires.within

pub overflow_add-result : goal.overflow_add-result
overflow_add-result c = omega (arith, few_uses c.args.marks.now c.args.index c.requires.sums c.requires.within)

pub returns-clause-count : goal.returns-clause-count
returns-clause-count c = λ frame flags items are. loose_marks frame flags items c.args.marks.now c.args.index c.first_waiting-first.result are c.requires.within c.first_waiting-first.ensures

pub returns-clause-few : goal.returns-clause-few
returns-clause-few c = omega (arith, few_uses c.args.marks.now c.args.index c.requires.sums c.requires.within)
