use Rattle.a64_tokens.proofs.Immediates.{uimm5_read}
use Rattle.a64_tokens.proofs.immediate.read_uimm5.Goals as goal

pub returns : goal.returns
returns c = uimm5_read c.args.token.now c.in_ok-read_u8.field-0 c.in_ok-read_u8.ensures c.maybe_from_u8.result c.maybe_from_u8.ensures
