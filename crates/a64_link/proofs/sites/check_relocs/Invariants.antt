use Rattle.a64_link.proofs.RelocFaults.{AreChecked}
use Rattle.a64_link.proofs.sites.check_relocs.Given as goal

abbrev pub invariant-loop-reloc : goal.invariant-loop-reloc
invariant-loop-reloc l = AreChecked l.i l.words l.relocs l.reloc-index l.taken
