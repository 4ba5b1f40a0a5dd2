use Rattle.std.proofs.Common.{Some, sym, ◌∙◌, ap, subst}
use Rattle.std.specs.Prelude.{option_map}
use Rattle.std.specs.FinMap.{get}
use Rattle.a64_buffer.specs.Constants.{IsConstant, content_bytes}
use Rattle.a64_buffer.proofs.Contents.{bytes_at, content_sized}
use Rattle.a64_buffer.proofs.constants.Constants.bytes_of.Goals as goal

pub returns-in-Some-clause-is : goal.returns-in-Some-clause-is
returns-in-Some-clause-is c =
    ap (λ b. Some b) c.as_slice.ensures
    ∙ (ap (option_map content_bytes) c.in-Some.ensures
    ∙ (sym (bytes_at c.self.inside.contents c.args.constant.0) ∙ ap (λ m. get m c.args.constant.0) c.self.view_is))

pub returns-in-Some-clause-sized : goal.returns-in-Some-clause-sized
returns-in-Some-clause-sized c = subst IsConstant (sym c.as_slice.ensures) (content_sized c.in-Some.content.now)

pub returns-in-None-clause-is : goal.returns-in-None-clause-is
returns-in-None-clause-is c =
    ap (option_map content_bytes) c.in-None.ensures
    ∙ (sym (bytes_at c.self.inside.contents c.args.constant.0) ∙ ap (λ m. get m c.args.constant.0) c.self.view_is)
