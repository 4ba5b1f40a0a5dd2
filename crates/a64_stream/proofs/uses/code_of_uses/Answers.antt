use Rattle.std.proofs.Common.{◌+◌}
use Rattle.a64_buffer.proofs.Clients.{grown_none}
use Rattle.a64_label_use.specs.LabelUses.{label_kinds}
use Rattle.a64_label_use.specs.LabelLaws.{label_kinds_lawful}
use Rattle.a64_stream.proofs.uses.code_of_uses.Goals as goal

pub add_uses-requires-clause-uses : goal.add_uses-requires-clause-uses
add_uses-requires-clause-uses c = rw (c.new-buffer.ensures) (grown_none label_kinds label_kinds_lawful (c.args.count + 1) _)
