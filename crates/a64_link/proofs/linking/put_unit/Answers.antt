use Rattle.a64_link.proofs.UnitPuts.{put_more_read}
use Rattle.a64_link.proofs.linking.put_unit.Goals as goal

pub loop-k-preserved : goal.loop-k-preserved
loop-k-preserved c =
    put_more_read c.args.plan.now.units.now c.args.plan.now.base c.args.plan.now.sums.now c.args.plan.now.symbols.now c.args.plan.now.starts.now c.requires.plan c.args.i c.args.unit.now c.requires.unit c.loop-k.k c.deref-reloc-items.result.now _
    c.args.words.now.items c.loop-k.words.items c.put_reloc.new.words.items c.deref-reloc-items.ensures.value c.loop-k-test.true c.loop-k.invariant c.in_ok-put_reloc.ensures
