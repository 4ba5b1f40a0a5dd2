use Rattle.std.proofs.Common.{ℤ, pos, negsuc, ◌≡◌, true, w64}
use Rattle.std.specs.Int.RustNames.{FitsSigned}
use Rattle.std.proofs.lemmas.Bool.{lt-ltb}
use Rattle.a64_inst.specs.MemoryOperands.{is_signed_64}
use Rattle.a64_emit.proofs.call.is_offset.Goals as goal

signed : (off : ℤ) → FitsSigned w64 off → is_signed_64 off ≡ true
signed (pos n) f = lt-ltb _ _ f.sfits
signed (negsuc n) f = lt-ltb _ _ f.sfits

pub returns : goal.returns
returns c = signed c.args._off c.ranges._off
