-- The texts of lists.
use Rattle.std.specs.Prelude.{ℕ, List, [], ◌∷◌, codes, map}
use Rattle.std.specs.List.{join_with_byte}

-- what stands in a list, with commas between; a dash where nothing does
abbrev pub list_text : {X : Type 0} → (X → List ℕ) → List X → List ℕ
list_text text [] = codes "-"
list_text text (x ∷ xs) = join_with_byte 44 (map text (x ∷ xs))

-- a list as it is written
abbrev pub same_text : List ℕ → List ℕ
same_text text = text
