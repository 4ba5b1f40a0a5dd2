-- The words that sites of a unit take.
use Rattle.std.specs.Prelude.{ℕ, ◌≡◌, ◌+◌, ◌/◌, ◌%◌, ◌&&◌, ◌||◌, not, nat_eq, Bool, List}
use Rattle.std.specs.FinMap.{FinMap, contains_key}
use Rattle.std.specs.List.{list_any, All}
use Rattle.std.specs.Ordering.{nat_cmp}
use Rattle.a64_link.specs.Units.{Relocation, is_call}

-- the word of this number is one of a relocation's site, which starts at a word: a call has one, an
-- address two
abbrev pub takes : ℕ → Relocation → Bool
takes n r = nat_eq n (r.0 / 4) || (not (is_call r.1) && nat_eq n (r.0 / 4 + 1))

-- some sites start at words, and the map has the numbers of the words that they take
pub record AreTaken (before : List Relocation) (taken : FinMap nat_cmp (Unit {0})) : Type 0 where
  pub aligned : All (λ (r : Relocation). r.0 % 4 ≡ 0) before
  pub has : (n : ℕ) → contains_key taken n ≡ list_any (takes n) before

-- the map got the numbers of the words that a relocation's site takes
abbrev pub HasTaken : Relocation → FinMap nat_cmp (Unit {0}) → FinMap nat_cmp (Unit {0}) → Type 0
HasTaken r old new = (n : ℕ) → contains_key new n ≡ (contains_key old n || takes n r)
