use Rattle.std.proofs.Common.{◌∙◌}
use Rattle.std.specs.Int.{w32, from_le_bytes}
use Rattle.a64_label_use.proofs.TwoFields.{both_outside, high_kept}
use Rattle.a64_label_use.proofs.label_use.patch_address.Goals as goal

pub returns-clause-rest : goal.returns-clause-rest
returns-clause-rest c =
    both_outside (from_le_bytes w32 c.args.buffer.now) (from_le_bytes w32 c.patch_field.new.buffer) (from_le_bytes w32 c.patch_field-2.new.buffer) c.patch_field.ensures.rest c.patch_field-2.ensures.rest

pub returns-clause-high : goal.returns-clause-high
returns-clause-high c =
    high_kept (from_le_bytes w32 c.patch_field.new.buffer) (from_le_bytes w32 c.patch_field-2.new.buffer) c.patch_field-2.ensures.rest ∙ c.patch_field.ensures.field
