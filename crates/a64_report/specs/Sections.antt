-- The sections of a report: a line for each.
use Rattle.std.specs.Prelude.{ℕ, List}
use Rattle.std.specs.List.{flat_map, enumerate_from}
use Rattle.a64_emit.specs.declared.code.Code.{Code}
use Rattle.a64_report.specs.declared.report.Section.{Section}
use Rattle.a64_report.specs.declared.report.Section.TheVariants.{Items, Labels, Islands, Pool}
use Rattle.a64_report.specs.declared.report.Section.TheVariants.{Words, Relocs, Traps, Calls}
use Rattle.a64_report.specs.declared.report.Section.TheVariants.{Patchable, Maps}
use Rattle.a64_report.specs.Report.{item_line, label_line, island_line, pool_line, word_line}
use Rattle.a64_report.specs.Report.{words_in, reloc_line, trap_line, call_line, patchable_line}
use Rattle.a64_report.specs.Report.{map_line}

-- the lines of a section
abbrev pub section_text : Code → Section → List ℕ
section_text code Items = flat_map item_line (enumerate_from 0 code.places.items)
section_text code Labels = flat_map label_line code.labels.items
section_text code Islands = flat_map island_line code.islands.items
section_text code Pool = pool_line code.pool
section_text code Words = flat_map word_line (enumerate_from 0 (words_in code.bytes.items))
section_text code Relocs = flat_map reloc_line code.relocs.items
section_text code Traps = flat_map trap_line code.traps.items
section_text code Calls = flat_map call_line code.calls.items
section_text code Patchable = flat_map patchable_line code.patchable.items
section_text code Maps = flat_map map_line code.maps.items
