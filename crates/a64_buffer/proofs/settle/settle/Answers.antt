use Rattle.std.proofs.Common.{length, refl, sym, ◌∙◌, subst, arith}
use Rattle.a64_words.specs.Word.{words_of}
use Rattle.a64_buffer.specs.Sound.{IsPlaced}
use Rattle.a64_buffer.proofs.Settling.{placed_words, code_of_words, code_none, code_step, code_skip, next_reaches}
use Rattle.a64_buffer.proofs.settle.settle.Goals as goal

pub loop-site-init : goal.loop-site-init
loop-site-init g c = record {
  settled = code_none g.K.MachInstLabelUse.kinds (words_of c.args.bytes.now) _ c.args.bytes.now refl (code_of_words c.args.bytes.now c.requires.whole);
  long = refl;
}

pub settle_use-requires-clause-inside : goal.settle_use-requires-clause-inside
settle_use-requires-clause-inside g c =
    let stands : IsPlaced (length c.args.bytes.now) c.site-item.result = subst (IsPlaced (length c.args.bytes.now)) (sym c.site-item.is) (c.requires.placed c.loop-site.site-index c.site-item.result c.loop-site-test.true) in
    omega (arith, stands.aligned, stands.inside, c.loop-site.invariant.long, c.requires.whole)

pub settle_use-requires-clause-reaches : goal.settle_use-requires-clause-reaches
settle_use-requires-clause-reaches g c = next_reaches g.K.MachInstLabelUse.kinds c.args.uses.now c.requires.able c.loop-site.site-index c.site-item.result c.loop-site-test.true c.site-item.result c.site-item.is c.in-Some.place c.in-Some.is

pub loop-site-preserved : goal.loop-site-preserved
loop-site-preserved g c = record {
  settled = code_step g.K.MachInstLabelUse.kinds (words_of c.args.bytes.now) c.args.uses.now (placed_words c.args.bytes.now c.args.uses.now c.requires.whole c.requires.placed) c.requires.apart c.loop-site.site-index c.site-item.result c.loop-site-test.true c.site-item.result c.site-item.is c.loop-site.bytes c.settle_use.new.bytes c.in-Some.place c.in-Some.is c.loop-site.invariant.settled c.settle_use.auto.bytes c.settle_use.ensures;
  long = c.settle_use.auto.bytes ∙ c.loop-site.invariant.long;
}

pub loop-site-preserved-in_default : goal.loop-site-preserved-in_default
loop-site-preserved-in_default g c = record {
  settled = code_skip g.K.MachInstLabelUse.kinds (words_of c.args.bytes.now) c.args.uses.now (placed_words c.args.bytes.now c.args.uses.now c.requires.whole c.requires.placed) c.requires.apart c.loop-site.site-index c.site-item.result c.loop-site-test.true c.site-item.result c.site-item.is c.loop-site.bytes c.in_default.is c.loop-site.invariant.settled;
  long = c.loop-site.invariant.long;
}
