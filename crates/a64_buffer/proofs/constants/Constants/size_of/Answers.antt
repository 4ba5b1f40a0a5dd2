use Rattle.std.proofs.Common.{Some, length, sym, ◌∙◌, ap}
use Rattle.std.specs.Prelude.{option_map}
use Rattle.std.specs.FinMap.{get}
use Rattle.a64_buffer.specs.Constants.{content_bytes}
use Rattle.a64_buffer.proofs.Contents.{bytes_at}
use Rattle.a64_buffer.proofs.constants.Constants.size_of.Goals as goal

pub returns-in-Some : goal.returns-in-Some
returns-in-Some c =
    ap (λ n. Some n) c.size.ensures
    ∙ (ap (λ o. option_map length (option_map content_bytes o)) c.in-Some.ensures
    ∙ ap (option_map length) (sym (bytes_at c.self.inside.contents c.args.constant.0) ∙ ap (λ m. get m c.args.constant.0) c.self.view_is))

pub returns-in-None : goal.returns-in-None
returns-in-None c =
    ap (λ o. option_map length (option_map content_bytes o)) c.in-None.ensures
    ∙ ap (option_map length) (sym (bytes_at c.self.inside.contents c.args.constant.0) ∙ ap (λ m. get m c.args.constant.0) c.self.view_is)
