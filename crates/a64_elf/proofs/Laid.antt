-- What is appended piece by piece.
use Rattle.std.proofs.Common.{ℕ, ◌≡◌, ◌<◌, ◌+◌, ◌∙◌, List, ◌++◌, length, get_or, take, sym, ap}
use Rattle.std.specs.List.{flat_map}
use Rattle.std.proofs.lemmas.List.{take_more, flat_map_more}

-- one more field
pub field_more : (f : ℕ → List ℕ) (values : List ℕ) (i : ℕ) (start old new : List ℕ)
    → i < length values → old ≡ start ++ flat_map f (take i values)
    → new ≡ old ++ f (get_or values i 0) → new ≡ start ++ flat_map f (take (i + 1) values)
field_more f values i start old new within before after =
    after ∙ ap (λ (xs : List ℕ). xs ++ f (get_or values i 0)) before
    ∙ flat_map_more f start (take i values) (get_or values i 0)
    ∙ ap (λ (xs : List ℕ). start ++ flat_map f xs) (sym (take_more values i 0 within))
