-- The words that are put for cells.
use Rattle.std.proofs.Common.{ℕ, ◌≡◌, List, [], ◌∷◌, ◌++◌, map, Option, None, refl, sym, ap, ◌∙◌}
use Rattle.std.proofs.lemmas.List.{map-append}
use Rattle.a64_base.specs.declared.entity.TrapCode.{TrapCode}
use Rattle.a64_rows.specs.Forms.{Form, form_word}
use Rattle.a64_cells.specs.declared.site.Site.{Site}
use Rattle.a64_cells.specs.Shapes.{Shape, OneWord, Several, Words, plain, last_cell}
use Rattle.a64_cells.specs.Cells.{body_word, other_cells}
use Rattle.a64_cells.specs.Words.{AreSeveral, put_cell, put_cells, as_put}

pub plain_put : (forms : List Form) → map (λ word. put_cell word None None) (map form_word forms) ≡ map as_put (map plain forms)
plain_put [] = refl
plain_put (f ∷ forms) = ap (λ cells. as_put (plain f) ∷ cells) (plain_put forms)

pub several_put : (first : List ℕ) (last : ℕ) (site : Option Site) (trap : Option TrapCode) (shape : Shape) → AreSeveral first last site trap shape → put_cells first last site trap ≡ map as_put (other_cells shape)
several_put first last site trap (Several forms body own code) (e, f, g, h) =
    ap (λ ws. put_cells ws last site trap) e
    ∙ ap (λ w. put_cells (map form_word forms) w site trap) f
    ∙ ap (λ s. put_cells (map form_word forms) (body_word body) s trap) g
    ∙ ap (λ t. put_cells (map form_word forms) (body_word body) own t) h
    ∙ ap (λ cells. cells ++ put_cell (body_word body) own code ∷ []) (plain_put forms)
    ∙ sym (map-append as_put (map plain forms) (last_cell body own code ∷ []))
several_put first last site trap (OneWord form) are = elim are [ ]
several_put first last site trap (Words cells) are = elim are [ ]
