use Rattle.std.proofs.Common.{get_or, take, refl, sym, subst, ◌∙◌, inr}
use Rattle.a64_link.proofs.RelocFaults.{AreChecked, none_checked, one_checked, one_bad}
use Rattle.a64_link.proofs.sites.check_relocs.Goals as goal

pub loop-reloc-init : goal.loop-reloc-init
loop-reloc-init c = subst (AreChecked c.args.i c.args.words.now c.args.relocs.now 0) (sym c.new-taken.ensures) (none_checked c.args.i c.args.words.now c.args.relocs.now)

pub returns-in-Some : goal.returns-in-Some
returns-in-Some c =
    let h = c.loop-reloc.invariant in
    inr (
    one_bad c.args.i c.args.words.now c.args.relocs.now c.loop-reloc.reloc-index _ (get_or c.args.relocs.now c.loop-reloc.reloc-index _) c.loop-reloc-test.true refl c.loop-reloc.taken h c.in-Some.fault
    (sym (c.reloc_fault.ensures (take c.loop-reloc.reloc-index c.args.relocs.now) h.taken_are) ∙ c.in-Some.is)
    )

pub loop-reloc-preserved : goal.loop-reloc-preserved
loop-reloc-preserved c =
    let h = c.loop-reloc.invariant in
    one_checked c.args.i c.args.words.now c.args.relocs.now c.loop-reloc.reloc-index _ (get_or c.args.relocs.now c.loop-reloc.reloc-index _) c.loop-reloc-test.true refl c.loop-reloc.taken h c.take_site.new.taken
    (sym (c.in_default.ensures (take c.loop-reloc.reloc-index c.args.relocs.now) h.taken_are))
    c.in_ok-take_site.ensures
