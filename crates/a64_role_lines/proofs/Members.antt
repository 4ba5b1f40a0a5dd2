-- The text of the members of a set, from one of them on.
use Rattle.std.proofs.Common.{ℕ, suc, ◌≡◌, ◌+◌, ◌-◌, ◌<◌, ◌≤◌, Bool, true, false, if◌then◌else◌, List, [], ◌∷◌, ◌++◌, map, codes, refl, ap, ◌∙◌, add-one, append_assoc, append-nil, arith}
use Rattle.std.specs.List.{flat_map}
use Rattle.std.proofs.lemmas.List.Folds.{flat_map-map}
use Rattle.a64_base.specs.RegisterNumbers.{RealRegister}
use Rattle.a64_base.specs.Sets.{has}
use Rattle.a64_base.specs.declared.set.PRegSet.{PRegSet}
use Rattle.a64_read.specs.Clobbers.{clobbers_text, members, members_from, nth_register}
use Rattle.a64_tokens.specs.Fields.{preg_text}
use Rattle.a64_tokens.specs.Lists.{list_text}
use Rattle.a64_role_lines.proofs.Joined.{joined}

-- a register, and the comma before each but the first
abbrev pub member_text : Bool → RealRegister → List ℕ
member_text is_first register = (if is_first then [] else codes ",") ++ preg_text register

-- registers, from the first on or from another
abbrev pub list_left : Bool → List RealRegister → List ℕ
list_left true registers = list_text preg_text registers
list_left false registers = flat_map (member_text false) registers

one_more : (is_first : Bool) (register : RealRegister) (others : List RealRegister) → list_left is_first (register ∷ others) ≡ member_text is_first register ++ list_left false others
one_more true register others =
    joined 44 (preg_text register) (map preg_text others)
    ∙ ap (λ rest. preg_text register ++ rest) (flat_map-map (λ text. 44 ∷ text) preg_text others)
one_more false register others = refl

-- those that a set has, from a place on
unfoldable pub members_left : Bool → PRegSet → ℕ → List ℕ
members_left is_first set place = list_left is_first (members_from set place (65 - place))

pub from_first_on : (set : PRegSet) → members_left true set 0 ≡ clobbers_text set
unfolding members_left members
from_first_on set = refl

counted : (place : ℕ) → place < 65 → 65 - place ≡ suc (65 - (place + 1))
counted place within = omega arith

step : (set : PRegSet) (place : ℕ) → place < 65 → (b : Bool) → has set (nth_register place) ≡ b → members_from set place (65 - place) ≡ (if b then nth_register place ∷ members_from set (place + 1) (65 - (place + 1)) else members_from set (place + 1) (65 - (place + 1)))
step set place within b is = rw (counted place within, is, add-one) refl

-- the set has the register at the place
pub with_one : (is_first : Bool) (set : PRegSet) (place : ℕ) → place < 65 → has set (nth_register place) ≡ true → members_left is_first set place ≡ member_text is_first (nth_register place) ++ members_left false set (place + 1)
unfolding members_left
with_one is_first set place within is =
    ap (list_left is_first) (step set place within true is) ∙ one_more is_first (nth_register place) (members_from set (place + 1) (65 - (place + 1)))

-- it lacks it
pub without_one : (is_first : Bool) (set : PRegSet) (place : ℕ) → place < 65 → has set (nth_register place) ≡ false → members_left is_first set place ≡ members_left is_first set (place + 1)
unfolding members_left
without_one is_first set place within is = ap (list_left is_first) (step set place within false is)

none_left : (is_first : Bool) → list_left is_first [] ≡ (if is_first then codes "-" else [])
none_left true = refl
none_left false = refl

-- behind all places
pub at_end : (is_first : Bool) (set : PRegSet) (place : ℕ) → 65 ≤ place → members_left is_first set place ≡ (if is_first then codes "-" else [])
unfolding members_left
at_end is_first set place past = let none : 65 - place ≡ 0 = omega arith in rw none (none_left is_first)

-- appending the member at a place keeps the whole
pub after_member : (is_first : Bool) (set : PRegSet) (place : ℕ) (before after whole : List ℕ) → place < 65 → has set (nth_register place) ≡ true → after ≡ before ++ member_text is_first (nth_register place) → before ++ members_left is_first set place ≡ whole → after ++ members_left false set (place + 1) ≡ whole
after_member is_first set place before after whole within is put h = rw (put, append_assoc, ← with_one is_first set place within is) h

-- so does a place without one
pub after_none : (is_first : Bool) (set : PRegSet) (place : ℕ) (before whole : List ℕ) → place < 65 → has set (nth_register place) ≡ false → before ++ members_left is_first set place ≡ whole → before ++ members_left is_first set (place + 1) ≡ whole
after_none is_first set place before whole within is h = rw (← without_one is_first set place within is) h

-- behind all places there is nothing to append, but for the dash of no member
pub at_end_first : (set : PRegSet) (place : ℕ) (before whole : List ℕ) → 65 ≤ place → before ++ members_left true set place ≡ whole → before ++ codes "-" ≡ whole
at_end_first set place before whole past h = rw (at_end true set place past) at h

pub at_end_other : (set : PRegSet) (place : ℕ) (before whole : List ℕ) → 65 ≤ place → before ++ members_left false set place ≡ whole → before ≡ whole
at_end_other set place before whole past h = rw (at_end false set place past, append-nil) at h
