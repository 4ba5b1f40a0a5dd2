-- Where branches go.
use Rattle.std.specs.Prelude.{ℕ, ◌-◌, ◌^◌, ℤ, pos, neg_ℤ, ◌≤ℤ◌, List, ◌++◌, codes, decimal, Option}
use Rattle.std.specs.Prelude.{Some, None}
use Rattle.std.specs.Fmt.{signed_decimal}
use Rattle.std.specs.Int.{int_rem_euclid}
use Rattle.std.specs.Int.RustNames.{unsigned_abs}
use Rattle.a64_base.specs.Words.{words_of}
use Rattle.a64_base.specs.declared.entity.MachLabel.{MachLabel}
use Rattle.a64_base.specs.declared.target.BranchTarget.{BranchTarget}
use Rattle.a64_base.specs.declared.target.BranchTarget.TheVariants.{Label, ResolvedOffset}

-- the label of a branch target, where it is one
abbrev pub label_of : BranchTarget → Option MachLabel
label_of (Label label) = Some label
label_of (ResolvedOffset offset) = None

-- the field of so many bits that says a distance in words: the distance modulo a power of two. It
-- is zero for a label, which is resolved later
abbrev pub offset_field : ℕ → BranchTarget → ℕ
offset_field bits (Label label) = 0
offset_field bits (ResolvedOffset offset) =
    unsigned_abs (int_rem_euclid (words_of offset) (pos (2 ^ bits)))

-- the distance in words fits a signed field of so many bits
pub record IsWithinField (bits : ℕ) (words : ℤ) : Type 0 where
  pub low : neg_ℤ (pos (2 ^ (bits - 1))) ≤ℤ words
  pub high : words ≤ℤ pos (2 ^ (bits - 1) - 1)

abbrev pub FitsField : ℕ → BranchTarget → Type 0
FitsField bits (Label label) = Unit {0}
FitsField bits (ResolvedOffset offset) = IsWithinField bits (words_of offset)

-- a branch target in a listing, as in `label3` or `-8`
abbrev pub target_text : BranchTarget → List ℕ
target_text (Label label) = codes "label" ++ decimal label.0
target_text (ResolvedOffset offset) = signed_decimal offset
