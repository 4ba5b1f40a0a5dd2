-- A report is its sections, in order.
use Rattle.std.proofs.Common.{◌≡◌, ℕ, List, [], ◌++◌, refl, append_assoc, append-nil}
use Rattle.std.specs.List.{flat_map}
use Rattle.a64_emit.specs.declared.code.Code.{Code}
use Rattle.a64_report.specs.declared.report.TheConstants.{SECTIONS}
use Rattle.a64_report.specs.Report.{report_of}
use Rattle.a64_report.specs.Sections.{section_text}
use Rattle.a64_report.specs.declared.report.Section.TheVariants.{Items, Labels, Islands, Pool, Words, Relocs, Traps, Calls, Patchable, Maps}

in_order : (a b c d e f g h i j : List ℕ)
    → a ++ (b ++ (c ++ (d ++ (e ++ (f ++ (g ++ (h ++ (i ++ (j ++ []))))))))) ≡ a ++ b ++ c ++ d ++ e ++ f ++ g ++ h ++ i ++ j
in_order a b c d e f g h i j = simp (append_assoc, append-nil) refl

pub report_sections : (code : Code) → flat_map (section_text code) SECTIONS ≡ report_of code
report_sections code =
    in_order (section_text code Items) (section_text code Labels) (section_text code Islands) (section_text code Pool) (section_text code Words)
    (section_text code Relocs) (section_text code Traps) (section_text code Calls) (section_text code Patchable) (section_text code Maps)
