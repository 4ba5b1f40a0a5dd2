use Rattle.std.proofs.Common.{◌++◌, ◌/◌, ◌%◌, List, ℕ, sym, ap, ◌∙◌}
use Rattle.std.specs.String.{string_bytes}
use Rattle.a64_formtext.proofs.Prints.{also}
use Rattle.a64_formtext.proofs.Words.{four}
use Rattle.a64_tokens.specs.Hex.{hex_pair}
use Rattle.a64_tokens.proofs.HexWords.{hex_word_pairs}
use Rattle.a64_formtext.proofs.shown.push_word.Goals as goal

pub returns : goal.returns
returns c =
    let word = c.args.word in
    let first = c.in_ok-push_byte.ensures in
    let second = c.in_ok-push_byte-2.ensures ∙ ap (λ (t : List ℕ). t ++ hex_pair (word / 65536 % 256)) first in
    let third = c.in_ok-push_byte-3.ensures ∙ ap (λ (t : List ℕ). t ++ hex_pair (word / 256 % 256)) second in
    also c.push_byte-4.result (λ fourth.
    fourth ∙ ap (λ (t : List ℕ). t ++ hex_pair (word % 256)) third
    ∙ four (string_bytes c.args.text.now) (hex_pair (word / 16777216)) (hex_pair (word / 65536 % 256)) (hex_pair (word / 256 % 256)) (hex_pair (word % 256))
    ∙ ap (λ (t : List ℕ). string_bytes c.args.text.now ++ t) (sym (hex_word_pairs word c.ranges.word.fits))) c.push_byte-4.ensures
