-- The text of operands, from one of them on.
use Rattle.std.proofs.Common.{ℕ, Bool, true, false, refl, if◌then◌else◌, ◌≡◌, ◌+◌, ◌<◌, ◌≤◌, List, [], ◌∷◌, ◌++◌, length, drop, get_or, add-one, codes}
use Rattle.std.specs.List.{flat_map}
use Rattle.std.proofs.Math.Seq.{drop-cons}
use Rattle.std.proofs.lemmas.List.{drop_all, append_assoc, append-nil}
use Rattle.a64_operand_text.specs.declared.operand.Operand.{Operand}
use Rattle.a64_operand_text.specs.Lines.{behind_text, line_text}
use Rattle.a64_operand_text.specs.Operands.{operand_text}

-- what stands before an operand: a comma before each but the first
abbrev pub start_text : Bool → List ℕ
start_text is_first = if is_first then codes " " else codes ", "

-- operands, from the first on or from another
unfoldable pub operands_text : Bool → List Operand → List ℕ
operands_text is_first [] = []
operands_text is_first (operand ∷ operands) = start_text is_first ++ (operand_text operand ++ flat_map behind_text operands)

-- from another operand on, each stands behind one
pub others : (operands : List Operand) → operands_text false operands ≡ flat_map behind_text operands
unfolding operands_text
others [] = refl
others (operand ∷ operands) = rw append_assoc refl

-- the line is the name and the operands from the first on
pub whole_line : (name : List ℕ) (operands : List Operand) → name ++ operands_text true operands ≡ line_text name operands
unfolding operands_text line_text
whole_line name [] = rw append-nil refl
whole_line name (operand ∷ operands) = refl

pub from_one_on : (is_first : Bool) (operands : List Operand) (i : ℕ) (d : Operand) → i < length operands → operands_text is_first (drop i operands) ≡ start_text is_first ++ (operand_text (get_or operands i d) ++ operands_text false (drop (i + 1) operands))
unfolding operands_text
from_one_on is_first operands i d inside = rw (others, add-one, drop-cons operands i d)

pub at_end : (is_first : Bool) (operands : List Operand) (i : ℕ) → length operands ≤ i → operands_text is_first (drop i operands) ≡ []
unfolding operands_text
at_end is_first operands i past = rw (drop_all i operands past)

-- appending what stands before an operand, and the operand, keeps the whole
pub one_more : (before put between after item rest whole : List ℕ) → between ≡ before ++ put → after ≡ between ++ item → before ++ (put ++ (item ++ rest)) ≡ whole → after ++ rest ≡ whole
one_more before put between after item rest whole first second h = rw second (rw first (simp append_assoc h))
