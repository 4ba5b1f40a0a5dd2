use Rattle.std.proofs.Common.{◌∙◌, ◌+◌, sym, arith}
use Rattle.a64_assemble.proofs.Marking.{rising}
use Rattle.a64_assemble.proofs.LooseCounts.{quiet_reach, other_reach}
use Rattle.a64_assemble.proofs.loose.reach_of.Goals as goal

pub overflow_sub-end : goal.overflow_sub-end
overflow_sub-end c = (rising c.args.marks.now c.requires.sums).sizes c.min-low.result (c.max.result + 1) (omega (arith, c.min-low.ensures, c.max.ensures)) (omega (arith, c.max.ensures, c.requires.first, c.requires.second))

pub overflow_sub-end-2 : goal.overflow_sub-end-2
overflow_sub-end-2 c = (rising c.args.marks.now c.requires.sums).growths c.min-low.result (c.max.result + 1) (omega (arith, c.min-low.ensures, c.max.ensures)) (omega (arith, c.max.ensures, c.requires.first, c.requires.second))

pub returns-then-quiet : goal.returns-then-quiet
returns-then-quiet c = λ frame flags items force are quiet.
    c.from.ensures
    ∙ quiet_reach frame flags force items c.args.marks.now c.args.i c.args.j c.min-low.result c.max.result are c.requires.first c.requires.second c.min-low.ensures c.max.ensures (sym c.if-quiet.true ∙ quiet)

pub returns : goal.returns
returns c = λ frame flags items force are quiet.
    omega (
      arith,
      c.from-2.ensures,
      c.from-3.ensures,
      other_reach frame flags force items c.args.marks.now c.args.i c.args.j c.min-low.result c.max.result c.loose_uses.result are c.requires.first c.requires.second c.min-low.ensures c.max.ensures (c.loose_uses.ensures.count frame flags items are) (sym c.if-quiet.false ∙ quiet),
    )
