use Rattle.std.proofs.Common.{List, ℕ, ◌∷◌, ◌++◌, ◌+◌, [], get_or, drop, refl, sym, ap, ◌∙◌, subst, append-nil, drop_of_length-le}
use Rattle.std.specs.Prelude.{codes}
use Rattle.std.specs.String.{string_bytes}
use Rattle.a64_formtext.specs.Shown.{IsListing}
use Rattle.a64_formtext.proofs.Prints.{from_index}
use Rattle.a64_formtext.proofs.ShownLines.{line_added}
use Rattle.a64_formtext.proofs.shown.shown_listing.Goals as goal

pub returns : goal.returns
returns c =
    let words = c.args.words.now in
    let left = subst (λ (ws : List ℕ). IsListing ws []) (sym (drop_of_length-le words c.loop-word-test.false)) refl in
    subst (λ (text : List ℕ). IsListing words text) (append-nil (string_bytes c.loop-word.text)) (c.loop-word.invariant [] left)

pub loop-word-preserved : goal.loop-word-preserved
loop-word-preserved c = λ rest more.
    let words = c.args.words.now in
    let i = c.loop-word.word-index in
    let word = get_or words i 0 in
    let left = drop (i + 1) words in
    let text = string_bytes c.loop-word.text in
    let told = c.in_ok-push_shown.ensures in
    let so_far : (behind : List ℕ) → IsListing (word ∷ left) behind → IsListing words (text ++ behind) =
    λ behind is. c.loop-word.invariant behind (subst (λ (ws : List ℕ). IsListing ws behind) (sym (from_index words i 0 c.loop-word-test.true)) is) in
    subst (λ (t : List ℕ). IsListing words (t ++ rest)) (sym (c.in_ok-push_str.ensures.bytes ∙ ap (λ (t : List ℕ). t ++ codes "\n") told.2))
    (line_added words word left text told.0 rest told.1 more so_far)
