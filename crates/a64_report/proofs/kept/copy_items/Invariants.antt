use Rattle.std.proofs.Common.{◌≡◌, ◌+◌, ◌*◌, ◌≤◌, ◌++◌, length, take}
use Rattle.std.specs.List.{flat_map, enumerate_from}
use Rattle.a64_report.specs.Report.{item_line}
use Rattle.a64_report.specs.Kept.{KeepsItemOf}
use Rattle.a64_report.proofs.kept.copy_items.Given as goal

-- the lines of those before this one stand in the text
abbrev pub invariant-loop-i : goal.invariant-loop-i
invariant-loop-i l = record {
  whole : length l.line ≡ 128;
  kept : KeepsItemOf l.line l.kept.start l.kept.index_end l.kept.index l.kept.place;
  few : l.at ≤ l.fn.at + 48 * l.i;
  copied : take l.at l.text ≡ take l.fn.at l.initial.text ++ flat_map item_line (enumerate_from l.index (take l.i l.places));
}
