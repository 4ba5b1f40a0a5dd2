use Rattle.std.proofs.Common.{◌∙◌, length, sym, ap, arith}
use Rattle.a64_emit.proofs.CallLoads.{no_load, result_few, result_loads}
use Rattle.a64_emit.proofs.call_extent.result_count.Goals as goal

pub memory_count-requires : goal.memory_count-requires
memory_count-requires c =
    (result_loads c.args.frame.now c.args.info.now c.args.pair.now c.in-Some.load (sym c.in-Some.is ∙ c.load_of_result.ensures)).group

pub returns-in-Some-clause-count : goal.returns-in-Some-clause-count
returns-in-Some-clause-count c =
    c.memory_count.ensures
    ∙ ap length (sym (result_loads c.args.frame.now c.args.info.now c.args.pair.now c.in-Some.load (sym c.in-Some.is ∙ c.load_of_result.ensures)).cells)

pub returns-in-Some-clause-few : goal.returns-in-Some-clause-few
returns-in-Some-clause-few c =
    let cells = (result_loads c.args.frame.now c.args.info.now c.args.pair.now c.in-Some.load (sym c.in-Some.is ∙ c.load_of_result.ensures)).cells in
    omega (arith, c.memory_count.ensures, ap length cells, result_few c.args.frame.now c.args.pair.now)

pub returns-in-None-clause-count : goal.returns-in-None-clause-count
returns-in-None-clause-count c = ap length (sym (no_load c.args.frame.now c.args.pair.now (sym c.in-None.is ∙ c.load_of_result.ensures)))
