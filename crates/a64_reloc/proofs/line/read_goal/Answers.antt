use Rattle.std.proofs.lemmas.Int.{to_z-of_z}
use Rattle.std.proofs.Common.{w64}
use Rattle.std.specs.Fmt.{signed_decimal}
use Rattle.a64_tokens.specs.Reads.{IsI64}
use Rattle.a64_reloc.specs.Relocs.{IsSymbol, symbol_text}
use Rattle.a64_reloc.proofs.Cuts.{no_space, no_first, no_second, both}
use Rattle.a64_reloc.proofs.Plain.{symbol_plain}
use Rattle.a64_reloc.proofs.line.read_goal.Goals as goal

pub returns-in_default : goal.returns-in_default
returns-in_default c = no_space IsSymbol symbol_text IsI64 signed_decimal symbol_plain c.args.text.now c.in_default.ensures

pub returns-in_default-read_symbol : goal.returns-in_default-read_symbol
returns-in_default-read_symbol c =
    no_first IsSymbol symbol_text IsI64 signed_decimal symbol_plain c.args.text.now c.in-Some.first.now c.in-Some.second.now c.in-Some.ensures c.in_default-read_symbol.ensures

pub returns-in_default-read_i64 : goal.returns-in_default-read_i64
returns-in_default-read_i64 c =
    no_second IsSymbol symbol_text IsI64 signed_decimal symbol_plain c.args.text.now c.in-Some.first.now c.in-Some.second.now c.in-Some.ensures c.in_default-read_i64.ensures

pub returns : goal.returns
returns c =
    rw (to_z-of_z w64 c.in-Some-read_i64.addend c.in-Some-read_i64.ensures.some.0)
    (both IsSymbol symbol_text IsI64 signed_decimal symbol_plain c.args.text.now c.in-Some.first.now c.in-Some.second.now c.in-Some.ensures _ _ c.in-Some-read_symbol.ensures c.in-Some-read_i64.ensures)
