use Rattle.std.proofs.Common.{◌≡◌, ◌++◌, ◌∷◌, ◌+◌, ◌<◌, ◌^◌, length, drop, replicate}
use Rattle.std.specs.List.{flat_map}
use Rattle.a64_elf.specs.Sections.{end_of, named, headers}
use Rattle.a64_elf.proofs.layout.laid_out.Given as goal

-- what stands, with what the sections that are left give, is what all give
abbrev pub invariant-loop-section : goal.invariant-loop-section
invariant-loop-section l = record {
  ends : end_of l.layout.end (drop l.section-index l.sections) ≡ end_of 64 l.sections;
  names :
      l.layout.names.items ++ flat_map named (drop l.section-index l.sections)
      ≡ 0 ∷ flat_map named l.sections;
  table :
      l.layout.table.items
      ++ headers l.layout.end (length l.layout.names.items) (drop l.section-index l.sections)
      ≡ replicate 64 0 ++ headers 64 1 l.sections;
  small : l.layout.end + length l.layout.names.items < 2 ^ 32;
}
