use Rattle.std.proofs.Common.{◌≡◌, ◌+◌, true, subst, arith}
use Rattle.a64_buffer.specs.Islands.{HasIsland}
use Rattle.a64_label_use.specs.LabelUses.{label_kinds}
use Rattle.a64_assembler.proofs.emitter.write_island.Goals as goal

pub returns-clause-ok : goal.returns-clause-ok
returns-clause-ok c =
    let distance : c.worst_case_size.result + c.worst_case_island_growth.result ≡ 172 = omega (arith, c.worst_case_size.ensures.number, c.worst_case_island_growth.ensures.number) in
    subst (λ d. HasIsland label_kinds d c.args.force true c.args.buffer.now c.emit_island.new.self) distance c.in_ok-emit_island.ensures.ok
