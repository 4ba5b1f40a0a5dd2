-- The lines of numbered items.
use Rattle.std.proofs.Common.{◌≡◌, ℕ, ◌+◌, ◌<◌, List, ◌++◌, length, drop, get_or, refl}
use Rattle.std.specs.List.{flat_map, enumerate_from}
use Rattle.std.proofs.lemmas.List.{drop_more}

-- the lines of those that are left, numbered from one on, are the next line and those of the rest
pub lines_left : {X : Type 0} (f : ℕ × X → List ℕ) (number : ℕ) (xs : List X) (i : ℕ) (d : X) → i < length xs
    → flat_map f (enumerate_from number (drop i xs)) ≡ f (number, get_or xs i d) ++ flat_map f (enumerate_from (number + 1) (drop (i + 1) xs))
lines_left f number xs i d h = rw (drop_more xs i d h) refl

-- the same, where they have no numbers
pub plain_lines_left : {X : Type 0} (f : X → List ℕ) (xs : List X) (i : ℕ) (d : X) → i < length xs
    → flat_map f (drop i xs) ≡ f (get_or xs i d) ++ flat_map f (drop (i + 1) xs)
plain_lines_left f xs i d h = rw (drop_more xs i d h) refl

-- the same, for the item that stands there
pub lines_of_item : {X : Type 0} (f : X → List ℕ) (xs : List X) (i : ℕ) (x : X) → i < length xs → x ≡ get_or xs i x
    → flat_map f (drop i xs) ≡ f x ++ flat_map f (drop (i + 1) xs)
lines_of_item f xs i x h e = rw (drop_more xs i x h, ← e) refl
