use Rattle.a64_tokens.proofs.ListTexts.{has_space}
use Rattle.a64_tokens.proofs.list_text.read_list_text.Goals as goal

pub returns-in-Some : goal.returns-in-Some
returns-in-Some c = has_space c.args.token.now c.cut.result.0.now c.cut.result.1 c.in-Some.field-0 c.in-Some.is c.cut.ensures
