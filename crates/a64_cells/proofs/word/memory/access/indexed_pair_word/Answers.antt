use Rattle.std.proofs.Common.{◌∙◌, arith}
use Rattle.a64_cells.proofs.MemoryWords.{pair_is}
use Rattle.a64_cells.proofs.word.memory.access.indexed_pair_word.Goals as goal

pub returns : goal.returns
returns c = c.enc_ldst_pair.ensures ∙ pair_is c.args.load c.args.index c.args.rn c.args.simm7 c.args.rt c.args.rt2 _ (omega arith) c.requires.load c.requires.index
