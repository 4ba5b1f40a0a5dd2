-- The words of an instruction that is one word without a use, and of the others.
use Rattle.std.proofs.Common.{◌≡◌, ℕ, [], ◌∷◌, Some, None, refl}
use Rattle.a64_rows.specs.Forms.{Form, form_word}
use Rattle.a64_cells.specs.Shapes.{Shape, OneWord, Several, Words, plain}
use Rattle.a64_cells.specs.Cells.{shape_cells, only_word, other_cells}

pub some_word : (shape : Shape) (word : ℕ) → Some word ≡ only_word shape → (form : Form) × (shape_cells shape ≡ plain form ∷ []) × (word ≡ form_word form)
some_word (OneWord form) word e = (form, refl, cc)
some_word (Several forms body site trap) word e = absurd cc
some_word (Words cells) word e = absurd cc

pub no_word : (shape : Shape) → None ≡ only_word shape → other_cells shape ≡ shape_cells shape
no_word (OneWord form) e = absurd cc
no_word (Several forms body site trap) e = refl
no_word (Words cells) e = refl
