use Rattle.a64_cells.proofs.AtomicForms.{cas_base_general}
use Rattle.a64_cells.proofs.word.memory.atomic.cas_word.Goals as goal

pub enc_cas-requires-clause-rn : goal.enc_cas-requires-clause-rn
enc_cas-requires-clause-rn c = cas_base_general c.args.rd c.args.rs c.args.rt c.args.rn c.args.ty c.requires
