use Rattle.std.proofs.Common.{sym, subst, Option}
use Rattle.a64_audit.specs.declared.entry.Entry.{Entry}
use Rattle.a64_audit.specs.Entries.{IsEntry, entry_line}
use Rattle.a64_tokens.specs.Reads.{Reads}
use Rattle.a64_audit.proofs.EntryReads.{no_parts, by_parts}
use Rattle.a64_audit.proofs.reading.read_entry.Goals as goal

pub returns-in_err-parts : goal.returns-in_err-parts
returns-in_err-parts c = subst (λ (r : Option Entry). Reads IsEntry entry_line c.args.line.now r) (sym c.from_residual.ensures) (no_parts c.args.line.now c.in_err-parts.ensures)

pub returns : goal.returns
returns c = by_parts c.args.line.now c.in_ok-parts.parts c.read_fields.result c.in_ok-parts.ensures c.read_fields.ensures
