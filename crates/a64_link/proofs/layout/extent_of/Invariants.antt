use Rattle.std.proofs.Common.{◌≡◌, take}
use Rattle.std.specs.List.{count_by}
use Rattle.a64_link.specs.Layout.{is_far}
use Rattle.a64_link.proofs.layout.extent_of.Given as goal

abbrev pub invariant-loop-reloc : goal.invariant-loop-reloc
invariant-loop-reloc l = l.count ≡ count_by (is_far l.units l.i) (take l.reloc-index l.unit.relocs.items)
