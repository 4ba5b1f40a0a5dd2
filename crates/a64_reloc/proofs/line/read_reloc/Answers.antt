use Rattle.std.specs.Fmt.{decimal, signed_decimal}
use Rattle.std.proofs.Common.{w64, Some}
use Rattle.std.specs.Prelude.{codes}
use Rattle.std.proofs.lemmas.Bool.Decides.{Decides-eqb}
use Rattle.std.proofs.lemmas.Slice.Eq.{strip_prefix_is}
use Rattle.std.proofs.lemmas.Int.{to_z-of_z}
use Rattle.a64_tokens.specs.Reads.{Always, IsI64, IsU32}
use Rattle.a64_reloc.specs.Halves.{AreBoth, pair_text}
use Rattle.a64_reloc.specs.Relocs.{IsSymbol, reloc_text, symbol_text}
use Rattle.a64_reloc.proofs.Cuts.{no_space, no_first, no_second, both}
use Rattle.a64_reloc.proofs.Plain.{decimal_plain, line_read}
use Rattle.a64_reloc.proofs.line.read_reloc.Goals as goal

pub returns-in_default-halves : goal.returns-in_default-halves
returns-in_default-halves c = line_read c.args.line.now c.in-Some.fields.now _ (strip_prefix_is Decides-eqb c.args.line.now (codes "reloc ") (Some c.in-Some.fields) c.in-Some.ensures.cases) (no_space IsU32 decimal (AreBoth Always (AreBoth IsSymbol IsI64)) (pair_text reloc_text (pair_text symbol_text signed_decimal)) decimal_plain c.in-Some.fields.now c.in_default-halves.ensures)

pub returns-in_default-read_u32 : goal.returns-in_default-read_u32
returns-in_default-read_u32 c = line_read c.args.line.now c.in-Some.fields.now _ (strip_prefix_is Decides-eqb c.args.line.now (codes "reloc ") (Some c.in-Some.fields) c.in-Some.ensures.cases) (no_first IsU32 decimal (AreBoth Always (AreBoth IsSymbol IsI64)) (pair_text reloc_text (pair_text symbol_text signed_decimal)) decimal_plain c.in-Some.fields.now c.in-Some-halves.first.now c.in-Some-halves.second.now c.in-Some-halves.ensures c.in_default-read_u32.ensures)

pub returns-in_default-read_kind_and_goal : goal.returns-in_default-read_kind_and_goal
returns-in_default-read_kind_and_goal c = line_read c.args.line.now c.in-Some.fields.now _ (strip_prefix_is Decides-eqb c.args.line.now (codes "reloc ") (Some c.in-Some.fields) c.in-Some.ensures.cases) (no_second IsU32 decimal (AreBoth Always (AreBoth IsSymbol IsI64)) (pair_text reloc_text (pair_text symbol_text signed_decimal)) decimal_plain c.in-Some.fields.now c.in-Some-halves.first.now c.in-Some-halves.second.now c.in-Some-halves.ensures c.in_default-read_kind_and_goal.ensures)

pub returns : goal.returns
returns c =
    rw (to_z-of_z w64 c.in-Some-read_kind_and_goal.addend c.in-Some-read_kind_and_goal.ensures.some.0.1.1)
    (line_read c.args.line.now c.in-Some.fields.now _ (strip_prefix_is Decides-eqb c.args.line.now (codes "reloc ") (Some c.in-Some.fields) c.in-Some.ensures.cases) (both IsU32 decimal (AreBoth Always (AreBoth IsSymbol IsI64)) (pair_text reloc_text (pair_text symbol_text signed_decimal)) decimal_plain c.in-Some.fields.now c.in-Some-halves.first.now c.in-Some-halves.second.now c.in-Some-halves.ensures _ _ c.in-Some-read_u32.ensures c.in-Some-read_kind_and_goal.ensures))
