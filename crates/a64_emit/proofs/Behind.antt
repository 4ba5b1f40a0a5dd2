-- Cells that are put behind words without uses, and behind others.
use Rattle.std.proofs.Common.{ℕ, ◌≡◌, Result, ◌+◌, ◌*◌, ◌^◌, ◌<◌, List, ◌++◌, length, map, sym, ap, ◌∙◌, subst}
use Rattle.std.specs.Prelude.{IsErrAnd}
use Rattle.std.proofs.lemmas.List.{map-append}
use Rattle.a64_buffer.specs.Buffer.{Buffer, end_of}
use Rattle.a64_buffer.specs.Classes.{Fits}
use Rattle.a64_rows.specs.Forms.{Form, form_word}
use Rattle.a64_label_use.specs.declared.label_use.LabelUse.{LabelUse}
use Rattle.a64_label_use.specs.LabelUses.{label_kinds}
use Rattle.a64_cells.specs.Shapes.{Cell, plain}
use Rattle.a64_emit.specs.Emission.{appended, PutsInPart, IsAppendedInPart, CanPut, PutsCells}
use Rattle.a64_cells.specs.Words.{as_put}
use Rattle.a64_cells.proofs.PutWords.{plain_put}
use Rattle.a64_emit.proofs.Fitting.{failed}
use Rattle.a64_emit.proofs.Joined.{part_first, can_first, can_second, puts_second}
use Rattle.a64_emit.proofs.Lasts.{silent, silent_appended, silent_part, silent_room, silent_fits}

module _ (b : Buffer LabelUse) (words : List ℕ) (rest cells : List Cell) (is : cells ≡ silent words ++ rest) where
  can_words : CanPut b cells → CanPut b (silent words)
  can_words can = can_first b (silent words) rest (subst (CanPut b) is can)

  pub words_short : CanPut b cells → end_of b + 4 * length words < 2 ^ 31
  words_short can = silent_room b words (can_words can).room

  pub words_fit : CanPut b cells → Fits label_kinds b (4 * length words)
  words_fit can = silent_fits b words (can_words can).fits

  -- a first part of the words is one of all
  pub words_begun : {T E : Type 0} (r : Result T E) (Q : E → Type 0) (b' : Buffer LabelUse) → IsErrAnd r Q → PutsInPart b b' words → PutsCells r b b' cells
  words_begun r Q b' error p =
      failed r Q b b' cells error (subst (IsAppendedInPart b b') (sym is) (part_first b (silent words) rest b' (silent_part b b' words p)))

  -- and behind the words stands the rest
  module _ (b1 : Buffer LabelUse) (e : b1 ≡ record b { words = b.words ++ words }) where
    put : b1 ≡ appended b (silent words)
    put = silent_appended b b1 words e

    pub can_rest : CanPut b cells → CanPut b1 rest
    can_rest can = can_second b (silent words) rest b1 put (subst (CanPut b) is can)

    pub puts_rest : {T E : Type 0} (r : Result T E) (b2 : Buffer LabelUse) → PutsCells r b1 b2 rest → PutsCells r b b2 cells
    puts_rest r b2 puts = subst (PutsCells r b b2) (sym is) (puts_second b (silent words) rest r b1 b2 put puts)

-- ---- cells that are put behind cells of any kind

module _ (b : Buffer LabelUse) (first rest cells : List Cell) (is : cells ≡ first ++ rest) where
  pub can_before : CanPut b cells → CanPut b first
  can_before can = can_first b first rest (subst (CanPut b) is can)

  pub begun_before : {T E : Type 0} (r : Result T E) (Q : E → Type 0) (b' : Buffer LabelUse) → IsErrAnd r Q → IsAppendedInPart b b' first → PutsCells r b b' cells
  begun_before r Q b' error p = failed r Q b b' cells error (subst (IsAppendedInPart b b') (sym is) (part_first b first rest b' p))

  module _ (b1 : Buffer LabelUse) (e : b1 ≡ appended b first) where
    pub can_behind : CanPut b cells → CanPut b1 rest
    can_behind can = can_second b first rest b1 e (subst (CanPut b) is can)

    pub puts_behind : {T E : Type 0} (r : Result T E) (b2 : Buffer LabelUse) → PutsCells r b1 b2 rest → PutsCells r b b2 cells
    puts_behind r b2 puts = subst (PutsCells r b b2) (sym is) (puts_second b first rest r b1 b2 e puts)

-- words as they are put before cells
pub words_put : (words : List ℕ) (forms : List Form) (rest : List Cell) → words ≡ map form_word forms → map as_put (map plain forms ++ rest) ≡ silent words ++ map as_put rest
words_put words forms rest is =
    map-append as_put (map plain forms) rest
    ∙ ap (λ cells. cells ++ map as_put rest) (sym (plain_put forms))
    ∙ ap (λ ws. silent ws ++ map as_put rest) (sym is)
