use Rattle.a64_buffer.proofs.Fields.{with_field_outside, with_field_field}
use Rattle.a64_buffer.proofs.field.with_field.Goals as goal

pub returns-clause-rest : goal.returns-clause-rest
returns-clause-rest c = with_field_outside c.args.word c.args.low c.args.bits c.args.value c.requires.some c.requires.inside

pub returns-clause-field : goal.returns-clause-field
returns-clause-field c = with_field_field c.args.word c.args.low c.args.bits c.args.value c.requires.some c.requires.inside
