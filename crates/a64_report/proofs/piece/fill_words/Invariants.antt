use Rattle.std.proofs.Common.{◌≡◌, ◌++◌, ◌≤◌, ◌-◌, ◌%◌, length, take}
use Rattle.a64_report.specs.Kept.{word_lines}
use Rattle.a64_report.proofs.piece.fill_words.Given as goal

-- the lines of those before the next stand in the text
abbrev pub invariant-loop-place : goal.invariant-loop-place
invariant-loop-place l =
    (length l.text ≡ 65536)
    × (l.at ≤ 65536)
    × (l.from ≤ l.place)
    × (l.place ≤ length l.code)
    × (l.place % 4 ≡ 0)
    × (l.place ≡ l.from → l.at ≡ l.len)
    × (take l.at l.text ++ word_lines l.code l.place ≡ take l.len l.fn.text ++ word_lines l.code l.from)

abbrev pub decreases-loop-place : goal.decreases-loop-place
decreases-loop-place l = length l.code - l.place
