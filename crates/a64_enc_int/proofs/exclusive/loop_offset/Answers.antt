use Rattle.a64_enc_int.proofs.LoopOffsets.{back_offset}
use Rattle.a64_enc_int.proofs.exclusive.loop_offset.Goals as goal

pub returns : goal.returns
returns c = back_offset c.args.between c.requires
