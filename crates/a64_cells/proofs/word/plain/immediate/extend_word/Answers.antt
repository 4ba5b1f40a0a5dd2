use Rattle.a64_cells.proofs.Operands.{extended, extension_is_form}
use Rattle.a64_cells.proofs.word.plain.immediate.extend_word.Goals as goal

pub enc_bfm-requires-clause-form : goal.enc_bfm-requires-clause-form
enc_bfm-requires-clause-form c =
    extension_is_form c.args.rd c.args.rn c.args.signed c.args.from_bits c.args.to_bits c.extend_size-size.result c.extend_opc.result
    (extended c.args.rd c.args.signed c.args.from_bits c.args.to_bits c.requires.rd) c.extend_size-size.ensures c.extend_opc.ensures
