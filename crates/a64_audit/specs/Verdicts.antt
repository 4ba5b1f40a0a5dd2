-- What an audit finds in code.
use Rattle.std.specs.Prelude.{ℕ, ℤ, pos, negsuc, suc, zero, ◌≡◌, ◌⊎◌, ◌-◌, ◌*◌, ◌/◌, ◌%◌, ◌^◌, ◌<◌}
use Rattle.std.specs.Prelude.{◌≤◌, ◌+ℤ◌, ◌*ℤ◌, nat_lt, if◌then◌else◌, length, get_or, Option, Some}
use Rattle.std.specs.Prelude.{None}
use Rattle.std.specs.List.{Contains}
use Rattle.a64_audit.specs.declared.verdict.Verdict.{Verdict}
use Rattle.a64_audit.specs.declared.verdict.Verdict.TheVariants as verdicts
use Rattle.a64_audit.specs.Entries.{Contents}
use Rattle.a64_rows.specs.declared.row_table.Row.{Row}
use Rattle.a64_rows.specs.declared.row_table.Row.TheVariants.{Branch26, BranchCond, CompareBranch}
use Rattle.a64_rows.specs.declared.row_table.Row.TheVariants.{TestBranch}
use Rattle.a64_rows.specs.Forms.{Matches, value_in}
use Rattle.a64_rows.specs.Places.{imm14, imm19, imm26}

-- ---- direct branches

-- the number that n says as two's complement of so many bits
abbrev pub signed : ℕ → ℕ → ℤ
signed bits n = if nat_lt n (2 ^ (bits - 1)) then pos n else negsuc (2 ^ bits - suc n)

-- how many words away the target of a direct branch is, by its row
abbrev pub offset_of : Row → ℕ → Option ℤ
offset_of Branch26 word = Some (signed 26 (value_in word (imm26 Branch26)))
offset_of BranchCond word = Some (signed 19 (value_in word (imm19 BranchCond)))
offset_of CompareBranch word = Some (signed 19 (value_in word (imm19 CompareBranch)))
offset_of TestBranch word = Some (signed 14 (value_in word (imm14 TestBranch)))
offset_of _ word = None

-- a word at a place is a direct branch to this target
pub record BranchesTo (word place : ℕ) (target : ℤ) : Type 0 where
  pub row : Row
  pub matches : Matches row word
  pub offset : ℤ
  pub is_offset : offset_of row word ≡ Some offset
  pub is_target : target ≡ pos place +ℤ pos 4 *ℤ offset

-- the word that is no instruction, at which a trap may stand
abbrev pub trap_word : ℕ
trap_word = 0x0000c11f

-- ---- places of code

module _ (file : Contents) where
  -- how many bytes the code has
  abbrev pub size : ℕ
  size = 4 * length file.words

  -- the place of a word of the code
  abbrev pub IsPlace : ℕ → Type 0
  IsPlace place = (place % 4 ≡ 0) × (place < size)

  abbrev pub word_at : ℕ → ℕ
  word_at place = get_or file.words (place / 4) 0

  -- a place lies in a range of data
  abbrev pub InData : ℕ → Type 0
  InData place =
      (range : ℕ × ℕ) × Contains file.ranges range × ((range.0 ≤ place) × (place < range.1))

  -- a target lies within the code
  abbrev pub InCode : ℤ → Type 0
  InCode target = (place : ℕ) × (target ≡ pos place) × (place < size)

  -- the word there is an instruction, or the trap word where a trap is named
  abbrev pub IsKnown : ℕ → Type 0
  IsKnown place =
      ((row : Row) × Matches row (word_at place))
      ⊎ ((word_at place ≡ trap_word) × Contains file.traps place)

  -- a direct branch there stays inside the code
  abbrev pub StaysInCode : ℕ → Type 0
  StaysInCode place = (target : ℤ) → BranchesTo (word_at place) place target → InCode target

  -- and leads into no data
  abbrev pub StaysOutOfData : ℕ → Type 0
  StaysOutOfData place =
      (target : ℕ) → BranchesTo (word_at place) place (pos target) → InData target → ⊥

  pub record IsFine (place : ℕ) : Type 0 where
    pub known : IsKnown place
    pub in_code : StaysInCode place
    pub out_of_data : StaysOutOfData place

  -- ---- ranges of data

  -- where the range before the one of this index ends
  abbrev pub end_before : ℕ → ℕ
  end_before zero = 0
  end_before (suc i) = (get_or file.ranges i (0, 0)).1

  -- a range has something, whole words, within the code, behind the range before it
  pub record IsGoodRange (i : ℕ) : Type 0 where
    pub some : (get_or file.ranges i (0, 0)).0 < (get_or file.ranges i (0, 0)).1
    pub begins_at_word : (get_or file.ranges i (0, 0)).0 % 4 ≡ 0
    pub ends_at_word : (get_or file.ranges i (0, 0)).1 % 4 ≡ 0
    pub within : (get_or file.ranges i (0, 0)).1 ≤ size
    pub behind : end_before i ≤ (get_or file.ranges i (0, 0)).0

  -- the ranges before the one of this index are good
  abbrev pub AreGoodBefore : ℕ → Type 0
  AreGoodBefore n = (i : ℕ) → i < n → IsGoodRange i

  -- ---- verdicts

  -- each place before this one is fine, outside the data
  abbrev pub AreFineBefore : ℕ → Type 0
  AreFineBefore place =
      (before : ℕ) → IsPlace before → before < place → (InData before → ⊥) → IsFine before

  -- all ranges are good, and this is the first place outside of them that may be wrong
  pub record IsFirstPlace (place : ℕ) : Type 0 where
    pub good : AreGoodBefore (length file.ranges)
    pub fine : AreFineBefore place
    pub is_place : IsPlace place
    pub code : InData place → ⊥

  -- nothing is wrong: all ranges are good; each word outside of them is an instruction, or the trap
  -- word where a trap is named; and each direct branch there stays inside the code and outside the
  -- data
  pub record IsClean : Type 0 where
    pub good : AreGoodBefore (length file.ranges)
    pub fine : (place : ℕ) → IsPlace place → (InData place → ⊥) → IsFine place

  -- what is found first: a range that is not good; else by place a word that is not known, a branch
  -- out of the code, one into data
  abbrev pub IsVerdict : Verdict → Type 0
  IsVerdict verdicts.Clean = IsClean
  IsVerdict (verdicts.BadRange i) = (i < length file.ranges) × AreGoodBefore i × ¬ IsGoodRange i
  IsVerdict (verdicts.UnknownWord place) = IsFirstPlace place × ¬ IsKnown place
  IsVerdict (verdicts.OutOfCode place) = IsFirstPlace place × IsKnown place × ¬ StaysInCode place
  IsVerdict (verdicts.IntoData place) =
      IsFirstPlace place × IsKnown place × StaysInCode place × ¬ StaysOutOfData place
