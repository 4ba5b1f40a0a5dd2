use Rattle.std.proofs.Common.{rules}
use Rattle.a64_elf.specs.Fields.{half}
use Rattle.a64_elf.proofs.Laid.{field_more}
use Rattle.a64_elf.proofs.fields.put_halves.Goals as goal

pub loop-value-preserved : goal.loop-value-preserved
unfolding half
loop-value-preserved c =
    field_more half c.args.values.now c.loop-value.value-index c.args.bytes.now.items
    c.loop-value.bytes.items c.extend_from_slice.new.self.items c.loop-value-test.true
    c.loop-value.invariant (search rules)
