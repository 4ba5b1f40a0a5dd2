use Rattle.a64_tokens.proofs.PairReads.{pair_read}
use Rattle.a64_tokens.proofs.pair_mode.WrittenPairMode.at_scale.Goals as goal

pub returns : goal.returns
returns c = rw c.with_offset.ensures (pair_read c.args.self.now c.args.scale c.in_ok-simm7.simm7 c.in_ok-simm7.ensures)
