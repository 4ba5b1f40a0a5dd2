use Rattle.std.proofs.Common.{rules}
use Rattle.std.proofs.lemmas.List.{append_assoc}
use Rattle.std.proofs.lemmas.Result.{IfOk-equal}
use Rattle.a64_elf.specs.Symbols.{symbol_entry}
use Rattle.a64_elf.proofs.tables.put_symbol.Goals as goal

pub returns : goal.returns
unfolding symbol_entry
returns c = search (rules, IfOk-equal, append_assoc)
