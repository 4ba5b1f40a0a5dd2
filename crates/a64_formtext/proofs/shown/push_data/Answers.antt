use Rattle.std.proofs.Common.{◌++◌, List, ℕ, ap, ◌∙◌, append_assoc}
use Rattle.std.specs.Prelude.{codes}
use Rattle.std.specs.String.{string_bytes}
use Rattle.a64_formtext.proofs.Prints.{also}
use Rattle.a64_tokens.specs.Hex.{hex_word}
use Rattle.a64_formtext.proofs.shown.push_data.Goals as goal

pub returns : goal.returns
returns c =
    also c.push_word.result (λ told.
    told ∙ ap (λ (t : List ℕ). t ++ hex_word c.args.word) c.in_ok-push_str.ensures.bytes
    ∙ append_assoc (string_bytes c.args.text.now) (codes "Data ") (hex_word c.args.word)) c.push_word.ensures
