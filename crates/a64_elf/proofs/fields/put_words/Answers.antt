use Rattle.std.proofs.Common.{rules}
use Rattle.a64_elf.specs.Fields.{word}
use Rattle.a64_elf.proofs.Laid.{field_more}
use Rattle.a64_elf.proofs.fields.put_words.Goals as goal

pub loop-value-preserved : goal.loop-value-preserved
unfolding word
loop-value-preserved c =
    field_more word c.args.values.now c.loop-value.value-index c.args.bytes.now.items
    c.loop-value.bytes.items c.extend_from_slice.new.self.items c.loop-value-test.true
    c.loop-value.invariant (search rules)
