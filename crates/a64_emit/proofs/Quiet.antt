-- The words of forms of which none is a use or traps, as they are put.
use Rattle.std.proofs.Common.{ℕ, ◌≡◌, ◌+◌, ◌*◌, ◌^◌, ◌<◌, OnOk, OnErr, Result, List, ◌++◌, length, map, ap, ◌∙◌, sym, subst}
use Rattle.std.proofs.lemmas.Result.{on_ok_weaker, on_err_weaker}
use Rattle.a64_rows.specs.Forms.{Form, form_word}
use Rattle.a64_buffer.specs.Buffer.{Buffer, end_of}
use Rattle.a64_buffer.specs.Classes.{Fits}
use Rattle.a64_label_use.specs.declared.label_use.LabelUse.{LabelUse}
use Rattle.a64_label_use.specs.LabelUses.{label_kinds}
use Rattle.a64_cells.specs.Shapes.{plain}
use Rattle.a64_emit.specs.Emission.{CanPut, PutsCells, PutsInPart}
use Rattle.a64_cells.specs.Words.{as_put}
use Rattle.a64_cells.proofs.PutWords.{plain_put}
use Rattle.a64_emit.proofs.Lasts.{silent, silent_appended, silent_part, silent_room, silent_fits}

module _ (b : Buffer LabelUse) (words : List ℕ) (forms : List Form) (words_are : words ≡ map form_word forms) where
  quiet_is : silent words ≡ map as_put (map plain forms)
  quiet_is = ap silent words_are ∙ plain_put forms

  quiet_can : CanPut b (map as_put (map plain forms)) → CanPut b (silent words)
  quiet_can can = subst (CanPut b) (sym quiet_is) can

  pub quiet_short : CanPut b (map as_put (map plain forms)) → end_of b + 4 * length words < 2 ^ 31
  quiet_short can = silent_room b words (quiet_can can).room

  pub quiet_fits : CanPut b (map as_put (map plain forms)) → Fits label_kinds b (4 * length words)
  quiet_fits can = silent_fits b words (quiet_can can).fits

  pub quiet_puts : {T E : Type 0} (r : Result T E) (b' : Buffer LabelUse) → OnOk r (b' ≡ record b { words = b.words ++ words }) → OnErr r (PutsInPart b b' words)
      → PutsCells r b b' (map as_put (map plain forms))
  quiet_puts r b' ok err =
      subst (PutsCells r b b') quiet_is
      (record {
        ok = on_ok_weaker r (silent_appended b b' words) ok;
        err = on_err_weaker r (silent_part b b' words) err;
      })
