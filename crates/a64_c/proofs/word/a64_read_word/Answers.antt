use Rattle.std.proofs.Common.{◌≡◌, None, Some, inr, refl}
use Rattle.a64_c.proofs.word.a64_read_word.Goals as goal

pub returns-in-None : goal.returns-in-None
returns-in-None c = inr (
  (λ word is shown. let e : None ≡ Some word = c.in-None.ensures.only word is shown in cc),
  refl,
)
