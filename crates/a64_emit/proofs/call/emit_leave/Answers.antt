use Rattle.std.proofs.Common.{[], ◌∷◌, ◌++◌, None, map, ap, ◌∙◌}
use Rattle.a64_cells.specs.Shapes.{plain}
use Rattle.a64_cells.specs.Cells.{leave_forms, return_cell}
use Rattle.a64_cells.specs.Words.{as_put, put_kept}
use Rattle.a64_emit.proofs.Behind.{words_put, words_short, words_fit, words_begun, can_rest, puts_rest}
use Rattle.a64_emit.proofs.Called.{returned_put}
use Rattle.a64_emit.proofs.Lasts.{silent}
use Rattle.a64_emit.proofs.call.emit_leave.Goals as goal

pub put_words-requires : goal.put_words-requires
put_words-requires g c =
    let call = c.args.call.now in
    let forms = leave_forms c.args.frame.now call.new_stack_arg_size call.key call.sign_return_address_all in
    let rest = put_kept c.return_word-word.result c.args.callee.now None ∷ [] in
    let words = c.as_slice.result.now in
    let is = words_put words forms (return_cell c.args.callee.now ∷ []) (c.as_slice.ensures.value ∙ c.leave_words-words.ensures.words) ∙ ap (λ cells. silent words ++ cells) (returned_put c.args.callee.now c.return_word-word.result c.return_word-word.ensures) in
    record {
      short = words_short c.args.sink.now words rest (map as_put (map plain forms ++ return_cell c.args.callee.now ∷ [])) is c.requires.can;
      fits = words_fit c.args.sink.now words rest (map as_put (map plain forms ++ return_cell c.args.callee.now ∷ [])) is c.requires.can;
    }

pub returns-in_err-put_words : goal.returns-in_err-put_words
returns-in_err-put_words g c =
    let call = c.args.call.now in
    let forms = leave_forms c.args.frame.now call.new_stack_arg_size call.key call.sign_return_address_all in
    let cells = map as_put (map plain forms ++ return_cell c.args.callee.now ∷ []) in
    let words = c.as_slice.result.now in
    let is = words_put words forms (return_cell c.args.callee.now ∷ []) (c.as_slice.ensures.value ∙ c.leave_words-words.ensures.words) ∙ ap (λ cells. silent words ++ cells) (returned_put c.args.callee.now c.return_word-word.result c.return_word-word.ensures) in
    words_begun c.args.sink.now words (put_kept c.return_word-word.result c.args.callee.now None ∷ []) cells is c.from_residual.result _ c.put_words.new.sink c.from_residual.ensures.1 c.in_err-put_words.ensures.err

pub put_call-requires : goal.put_call-requires
put_call-requires g c =
    let call = c.args.call.now in
    let forms = leave_forms c.args.frame.now call.new_stack_arg_size call.key call.sign_return_address_all in
    let cells = map as_put (map plain forms ++ return_cell c.args.callee.now ∷ []) in
    let rest = put_kept c.return_word-word.result c.args.callee.now None ∷ [] in
    let words = c.as_slice.result.now in
    let is = words_put words forms (return_cell c.args.callee.now ∷ []) (c.as_slice.ensures.value ∙ c.leave_words-words.ensures.words) ∙ ap (λ cells. silent words ++ cells) (returned_put c.args.callee.now c.return_word-word.result c.return_word-word.ensures) in
    can_rest c.args.sink.now words rest cells is c.put_words.new.sink c.in_ok-put_words.ensures.ok c.requires.can

pub returns : goal.returns
returns g c =
    let call = c.args.call.now in
    let forms = leave_forms c.args.frame.now call.new_stack_arg_size call.key call.sign_return_address_all in
    let cells = map as_put (map plain forms ++ return_cell c.args.callee.now ∷ []) in
    let rest = put_kept c.return_word-word.result c.args.callee.now None ∷ [] in
    let words = c.as_slice.result.now in
    let is = words_put words forms (return_cell c.args.callee.now ∷ []) (c.as_slice.ensures.value ∙ c.leave_words-words.ensures.words) ∙ ap (λ cells. silent words ++ cells) (returned_put c.args.callee.now c.return_word-word.result c.return_word-word.ensures) in
    puts_rest c.args.sink.now words rest cells is c.put_words.new.sink c.in_ok-put_words.ensures.ok c.put_call.result c.put_call.new.sink c.put_call.ensures
