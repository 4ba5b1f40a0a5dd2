-- What is found at one place, and at one range.
use Rattle.std.specs.Prelude.{ℕ, ℤ, pos, ◌≡◌, ◌<◌, ◌+ℤ◌, ◌*ℤ◌, length, Option, Some, None}
use Rattle.std.specs.Prelude.{MatchOption}
use Rattle.a64_audit.specs.declared.verdict.Verdict.{Verdict}
use Rattle.a64_audit.specs.Entries.{Contents}
use Rattle.a64_audit.specs.Verdicts.{offset_of, AreGoodBefore, IsGoodRange, IsFine, IsFirstPlace}
use Rattle.a64_audit.specs.Verdicts.{IsVerdict}
use Rattle.a64_rows.specs.declared.row_table.Row.{Row}

-- the target of a word of a row at a place, where the word is a direct branch
abbrev pub IsTarget : Row → ℕ → ℕ → Option ℤ → Type 0
IsTarget row word place None = offset_of row word ≡ None
IsTarget row word place (Some target) =
    (offset : ℤ) × (offset_of row word ≡ Some offset) × (target ≡ pos place +ℤ pos 4 *ℤ offset)

-- the first range that is not good
abbrev pub IsFirstBadRange : Contents → Option ℕ → Type 0
IsFirstBadRange file None = AreGoodBefore file (length file.ranges)
IsFirstBadRange file (Some i) =
    (i < length file.ranges) × AreGoodBefore file i × ¬ IsGoodRange file i

-- a place is fine, or this is the verdict where it is the first that may be wrong
abbrev pub IsJudged : Contents → ℕ → Option Verdict → Type 0
IsJudged file place found =
    MatchOption found (IsFine file place) (λ verdict. IsFirstPlace file place
    → IsVerdict file verdict)
