use Rattle.std.specs.Fmt.{decimal}
use Rattle.a64_link_file.specs.Entries.{name_text}
use Rattle.a64_link_file.proofs.Lines.{name_plain, no_name, number_name}
use Rattle.a64_tokens.specs.Reads.{IsU32}
use Rattle.a64_reloc.specs.Relocs.{IsSymbol}
use Rattle.a64_reloc.proofs.Cuts.{no_space, no_first, no_second, both}
use Rattle.a64_link_file.proofs.entry_line.read_definition.Goals as goal

pub returns-in_default : goal.returns-in_default
returns-in_default c = no_space IsSymbol name_text IsU32 decimal name_plain c.args.text.now c.in_default.ensures

pub returns-in_default-read_u32 : goal.returns-in_default-read_u32
returns-in_default-read_u32 c = no_first IsSymbol name_text IsU32 decimal name_plain c.args.text.now c.in-Some.first.now c.in-Some.second.now c.in-Some.ensures (no_name c.in-Some.first.now c.in_default-read_u32.ensures)

pub returns-in_default-read_u32-2 : goal.returns-in_default-read_u32-2
returns-in_default-read_u32-2 c = no_second IsSymbol name_text IsU32 decimal name_plain c.args.text.now c.in-Some.first.now c.in-Some.second.now c.in-Some.ensures c.in_default-read_u32-2.ensures

pub returns : goal.returns
returns c = both IsSymbol name_text IsU32 decimal name_plain c.args.text.now c.in-Some.first.now c.in-Some.second.now c.in-Some.ensures _ _ (number_name c.in-Some.first.now c.in-Some-read_u32.number c.in-Some-read_u32.ensures) c.in-Some-read_u32-2.ensures
