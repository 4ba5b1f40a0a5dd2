-- Small unsigned immediates.
use Rattle.std.specs.Prelude.{ℕ}
use Rattle.a64_imms.specs.declared.unsigned.UImm5.{UImm5}

-- the value of an immediate of 5 bits, which is also its field
abbrev pub uimm5_value : UImm5 → ℕ
uimm5_value imm = imm.value
