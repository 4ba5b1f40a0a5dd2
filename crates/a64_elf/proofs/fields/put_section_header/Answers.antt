use Rattle.std.proofs.Common.{rules}
use Rattle.std.proofs.lemmas.List.{append_assoc}
use Rattle.std.proofs.lemmas.Result.{IfOk-equal}
use Rattle.a64_elf.specs.Fields.{section_header}
use Rattle.a64_elf.proofs.fields.put_section_header.Goals as goal

pub returns : goal.returns
unfolding section_header
returns c = search (rules, IfOk-equal, append_assoc)
