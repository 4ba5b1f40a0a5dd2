-- What is answered of words that are audited.
use Rattle.std.specs.Prelude.{ℕ, ◌≡◌, ◌⊎◌, ◌≤◌, ◌<◌, ◌^◌, List, map, length}
use Rattle.a64_audit.specs.Entries.{Contents}
use Rattle.a64_audit.specs.Verdicts.{IsVerdict}
use Rattle.a64_audit.specs.declared.verdict.Verdict.{Verdict}
use Rattle.a64_audit.specs.declared.verdict.Verdict.TheVariants as verdicts
use Rattle.a64_c.specs.declared.answer.Answer.{Answer}
use Rattle.a64_c.specs.declared.audit.Range.{Range}
use Rattle.a64_c.specs.Answers.{refused}

abbrev pub pair_of : Range → ℕ × ℕ
pair_of range = (range.begin, range.end)

-- what is audited: words, the places of traps, and ranges of data
abbrev pub audited : List ℕ → List ℕ → List Range → Contents
audited words traps ranges = record { words = words; traps = traps; ranges = map pair_of ranges }

-- the status and the subject of each verdict
abbrev pub verdict_answer : Verdict → Answer
verdict_answer verdicts.Clean = refused 0 0
verdict_answer (verdicts.BadRange i) = refused 13 i
verdict_answer (verdicts.UnknownWord place) = refused 14 place
verdict_answer (verdicts.OutOfCode place) = refused 15 place
verdict_answer (verdicts.IntoData place) = refused 16 place

-- the words are judged
pub record IsJudgedSo (words traps : List ℕ) (ranges : List Range) (answer : Answer) : Type 0 where
  pub verdict : Verdict
  pub is_verdict : IsVerdict (audited words traps ranges) verdict
  pub told : answer ≡ verdict_answer verdict

-- they are too many, or memory is missing
abbrev pub IsUnjudged : List ℕ → Answer → Type 0
IsUnjudged words answer =
    ((2 ^ 29 ≤ length words) × (answer ≡ refused 9 0))
    ⊎ ((length words < 2 ^ 29) × (answer ≡ refused 11 0))

abbrev pub IsAudited : List ℕ → List ℕ → List Range → Answer → Type 0
IsAudited words traps ranges answer =
    IsJudgedSo words traps ranges answer ⊎ IsUnjudged words answer
