-- Each named field of a form adds to its word what it says at the place of its name.
use Rattle.std.proofs.Common.{◌≡◌, ◌+◌, ◌*◌, List, [], ◌∷◌, refl, ap, ap₂, ◌∙◌, map}
use Rattle.a64_rows.specs.declared.row_table.Row.{Row}
use Rattle.a64_rows.specs.Rows.{fixed_of}
use Rattle.a64_rows.specs.Forms.{weight_of, sum_of, Form, form_word, NamedValue, IsPlaced, named_sum}

sum_placed : (row : Row) (named : List NamedValue) → sum_of (map (λ v. v.1 row) named) (map (λ v. v.0) named) ≡ named_sum row named
sum_placed row [] = refl
sum_placed row (v ∷ named) = ap (λ n. v.0 * weight_of (v.1 row) + n) (sum_placed row named)

-- the word of a form is the row's fixed word plus each value times what a one adds at the place of its name
pub placed_word : (form : Form) (named : List NamedValue) → IsPlaced form named → form_word form ≡ fixed_of form.row + named_sum form.row named
placed_word form named p =
    ap (λ n. fixed_of form.row + n) (ap₂ sum_of p.slots p.values ∙ sum_placed form.row named)
