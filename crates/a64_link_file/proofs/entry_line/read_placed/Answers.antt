use Rattle.std.specs.Fmt.{decimal}
use Rattle.a64_tokens.specs.Hex.{hex_word}
use Rattle.a64_tokens.specs.Reads.{IsU32}
use Rattle.a64_reloc.proofs.Plain.{decimal_plain}
use Rattle.a64_reloc.proofs.Cuts.{no_space, no_first, no_second, both}
use Rattle.a64_link_file.proofs.entry_line.read_placed.Goals as goal

pub returns-in_default : goal.returns-in_default
returns-in_default c = no_space IsU32 decimal IsU32 hex_word decimal_plain c.args.text.now c.in_default.ensures

pub returns-in_default-read_u32 : goal.returns-in_default-read_u32
returns-in_default-read_u32 c = no_first IsU32 decimal IsU32 hex_word decimal_plain c.args.text.now c.in-Some.first.now c.in-Some.second.now c.in-Some.ensures c.in_default-read_u32.ensures

pub returns-in_default-read_word : goal.returns-in_default-read_word
returns-in_default-read_word c = no_second IsU32 decimal IsU32 hex_word decimal_plain c.args.text.now c.in-Some.first.now c.in-Some.second.now c.in-Some.ensures c.in_default-read_word.ensures

pub returns : goal.returns
returns c = both IsU32 decimal IsU32 hex_word decimal_plain c.args.text.now c.in-Some.first.now c.in-Some.second.now c.in-Some.ensures _ _ c.in-Some-read_u32.ensures c.in-Some-read_word.ensures
