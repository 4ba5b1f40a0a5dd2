use Rattle.a64_read.proofs.OtherKinds.{api_key_else}
use Rattle.a64_read.proofs.at.APIKeyField.of.Goals as goal

pub returns-in_default : goal.returns-in_default
returns-in_default c = api_key_else c.args.value.now c.in_default.not-ApiKey
