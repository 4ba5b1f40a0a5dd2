use Rattle.std.proofs.Common.{◌≡◌, ◌+◌, ◌*◌, ◌/◌, ◌≤◌, ◌++◌, length, take, map}
use Rattle.std.specs.Int.{w32, from_le_bytes}
use Rattle.std.specs.List.{flat_map, enumerate_from}
use Rattle.a64_report.specs.Report.{word_line}
use Rattle.a64_report.specs.Kept.{KeepsWordOf}
use Rattle.a64_report.proofs.kept.copy_words.Given as goal

-- the lines of those before this one stand in the text
abbrev pub invariant-loop-i : goal.invariant-loop-i
invariant-loop-i l = record {
  whole : length l.line ≡ 128;
  kept : KeepsWordOf l.line l.kept.start l.kept.place l.word;
  few : l.at ≤ l.fn.at + 48 * l.i;
  copied : take l.at l.text ≡ take l.fn.at l.initial.text ++ flat_map word_line (enumerate_from (l.place / 4) (map (from_le_bytes w32) (take l.i l.words)));
}
