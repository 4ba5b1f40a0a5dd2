-- Where names stand in a table. This is data of the reader: what it reads does not depend on it.
use Rattle.std.specs.Prelude.{◌≡◌, ℕ, List, [], ◌∷◌, length, nat_le, nat_eq, if◌then◌else◌, ◌+◌}
use Rattle.std.specs.Prelude.{◌-◌, ◌*◌, ◌/◌, ◌%◌, ◌^◌, Option, None, slice_get, slice_index, map}
use Rattle.std.specs.Borrow.{Bor}
use Rattle.a64_tokens.specs.declared.value.Kind.{Kind}

-- the number that four bytes of a text are from a place on, the least first
abbrev pub word_at : List ℕ → ℕ → ℕ
word_at text place =
    slice_index text place + 2 ^ 8 * slice_index text (place + 1) + 2 ^ 16 * slice_index text
    (place + 2) + 2 ^ 24 * slice_index text (place + 3)

-- three numbers mixed into one of 11 bits: each is multiplied by a factor of its own (0xb4af80c3,
-- 0x8bdcfbc5 and 0x6974e419), and of the sum of the products, modulo 2^32, the top 11 bits are kept
abbrev pub mixed : ℕ → ℕ → ℕ → ℕ
mixed first middle last =
    (first * 3031400643 + middle * 2346515397 + last * 1769268249) % 2 ^ 32 / 2 ^ 21

-- a number that a token has: of its first, middle and last four bytes, or of its first, middle and
-- last byte where it has no four
abbrev pub hash : List ℕ → ℕ
hash token = let n = length token in
    if nat_le 4 n
    then mixed (word_at token 0) (word_at token ((n - 4) / 2)) (word_at token (n - 4)) else
    (if nat_eq n 0 then 0
    else mixed (slice_index token 0) (slice_index token (n / 2)) (slice_index token (n - 1)))

-- the home to which a token leads
abbrev pub home : List ℕ → List ℕ → ℕ
home homes token = slice_index homes (hash token % length homes)

-- a home is 32 times the number of a class of rows, plus the number of a row of the class
abbrev pub class_at : List ℕ → List ℕ → ℕ
class_at homes token = home homes token / 32

abbrev pub place_at : List ℕ → List ℕ → ℕ
place_at homes token = home homes token % 32

-- what stands there; without homes a token leads nowhere
abbrev pub look_up : {X : Type 0} → List ℕ → (ℕ → List X) → List ℕ → Option X
look_up [] rows token = None
look_up (h ∷ homes) rows token =
    slice_get (rows (class_at (h ∷ homes) token)) (place_at (h ∷ homes) token)

-- a row of a table: the name, the kinds of the fields behind it, and what it names
abbrev pub Row : Type 0 → Type 0
Row X = Bor (List ℕ) × Bor (List Kind) × X

-- the rows of these values
pub record AreRows {X : Type 0} (text : X → List ℕ) (kinds_of : X
    → List Kind) (values : List X) (rows : List (Row X)) : Type 0 where
  pub texts : map (λ row. row.0.now) rows ≡ map text values
  pub kinds : map (λ row. row.1.now) rows ≡ map kinds_of values
  pub are : map (λ row. row.2) rows ≡ values
