use Rattle.std.specs.Fmt.{signed_decimal}
use Rattle.a64_tokens.specs.Reads.{Always, IsI64}
use Rattle.a64_reloc.specs.Halves.{AreBoth, pair_text}
use Rattle.a64_reloc.specs.Relocs.{IsSymbol, reloc_text, symbol_text}
use Rattle.a64_reloc.proofs.Cuts.{no_space, no_first, no_second, both}
use Rattle.a64_reloc.proofs.Plain.{kind_plain}
use Rattle.a64_reloc.proofs.line.read_kind_and_goal.Goals as goal

pub returns-in_default : goal.returns-in_default
returns-in_default c = no_space Always reloc_text (AreBoth IsSymbol IsI64) (pair_text symbol_text signed_decimal) kind_plain c.args.text.now c.in_default.ensures

pub returns-in_default-read_kind : goal.returns-in_default-read_kind
returns-in_default-read_kind c = no_first Always reloc_text (AreBoth IsSymbol IsI64) (pair_text symbol_text signed_decimal) kind_plain c.args.text.now c.in-Some.first.now c.in-Some.second.now c.in-Some.ensures c.in_default-read_kind.ensures

pub returns-in_default-read_goal : goal.returns-in_default-read_goal
returns-in_default-read_goal c = no_second Always reloc_text (AreBoth IsSymbol IsI64) (pair_text symbol_text signed_decimal) kind_plain c.args.text.now c.in-Some.first.now c.in-Some.second.now c.in-Some.ensures c.in_default-read_goal.ensures

pub returns : goal.returns
returns c = both Always reloc_text (AreBoth IsSymbol IsI64) (pair_text symbol_text signed_decimal) kind_plain c.args.text.now c.in-Some.first.now c.in-Some.second.now c.in-Some.ensures _ _ c.in-Some-read_kind.ensures c.in-Some-read_goal.ensures
