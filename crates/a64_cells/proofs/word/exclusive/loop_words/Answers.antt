use Rattle.std.proofs.Common.{◌≡◌, ◌∙◌, [], ◌∷◌, ◌++◌, map, None, ap, refl, subst, sym}
use Rattle.a64_enc_int.specs.declared.exclusive.LoopTraps.{LoopTraps}
use Rattle.a64_rows.specs.Forms.{form_word}
use Rattle.a64_cells.specs.Shapes.{loop_cells}
use Rattle.a64_cells.specs.LoopForms.{back_form}
use Rattle.a64_cells.specs.Words.{as_put, put_cell, put_cells}
use Rattle.a64_cells.proofs.Loops.{loop_put}
use Rattle.a64_cells.proofs.word.exclusive.loop_words.Goals as goal

pub returns : goal.returns
returns c between e =
    let back = c.back_word.ensures ∙ ap (λ n. form_word (back_form n)) c.len.ensures.value in
    let put = loop_put c.args.ty between c.args.stored c.args.trap c.load_word.result c.args.between.items c.store_word.result c.back_word.result c.load_word.ensures e c.store_word.ensures back in
    record {
      site = refl;
      put =
          subst (λ (traps : LoopTraps). put_cell c.load_word.result None traps.load ∷ put_cells c.args.between.items c.store_word.result None traps.store ++ put_cell c.back_word.result None None ∷ [] ≡ map as_put (loop_cells c.args.ty between c.args.stored c.args.trap))
          (sym c.loop_traps-traps.ensures) put;
    }
