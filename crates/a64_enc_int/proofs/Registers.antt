-- The field that names a register has five bits.
use Rattle.std.proofs.Common.{◌<◌, lit<}
use Rattle.std.proofs.lemmas.Nat.{mod_below}
use Rattle.a64_base.specs.declared.reg.Reg.{Reg}
use Rattle.a64_base.specs.declared.reg.RegKind.TheVariants.{Real, Virtual}
use Rattle.a64_enc_int.specs.Registers.{register_field}

pub field_below : (reg : Reg) → register_field reg < 32
field_below (Real p) = mod_below p.number 32 (lit< tt)
field_below (Virtual index class) = lit< tt
