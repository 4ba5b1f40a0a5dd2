use Rattle.std.proofs.Common.{◌≡◌, ℕ, [], ◌∷◌, ◌++◌, Some, sym, ap, ◌∙◌, arith}
use Rattle.a64_formtext.specs.Shown.{words_of}
use Rattle.a64_formtext.proofs.file.ShownFileLines.add_line.Goals as goal

pub returns : goal.returns
returns c =
    let old = words_of c.args.self.now in (
      (c.in-Some.word, omega arith, c.in-Some.ensures.some, c.in_ok-push.ensures.items),
      λ other said.
          let same : Some c.in-Some.word ≡ Some said.0 = sym c.in-Some.is ∙ c.read_shown_word.ensures.only said.0 said.1 said.2 in
          let one : said.0 ≡ c.in-Some.word = cc in
          said.3 ∙ ap (λ (w : ℕ). old ++ w ∷ []) one ∙ sym c.in_ok-push.ensures.items,
    )
