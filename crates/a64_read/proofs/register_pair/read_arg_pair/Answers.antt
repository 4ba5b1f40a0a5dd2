use Rattle.std.proofs.Common.{refl}
use Rattle.a64_read.specs.RegisterPairs.{register_pair_text, IsRegisterPair}
use Rattle.a64_read.proofs.RegisterPairReads.{none_made, pair_made, arg_of, arg_registers}
use Rattle.a64_read.proofs.register_pair.read_arg_pair.Goals as goal

pub returns-in_err-vreg : goal.returns-in_err-vreg
returns-in_err-vreg c = rw c.from_residual.ensures (none_made IsRegisterPair register_pair_text arg_of arg_registers (λ x. refl) (λ pair. refl) c.args.token.now c.in_err-vreg.ensures)

pub returns : goal.returns
returns c = rw c.from_reg.ensures (pair_made IsRegisterPair register_pair_text arg_of arg_registers (λ x. refl) (λ pair. refl) c.args.token.now (c.in_ok-vreg.vreg, c.in_ok-vreg.preg) c.in_ok-vreg.ensures)
