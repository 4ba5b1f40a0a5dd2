-- The immediate of a move of a float, of its eight bits and its size.
use Rattle.std.specs.Prelude.{◌≡◌}
use Rattle.a64_base.specs.declared.size.ScalarSize.{ScalarSize}
use Rattle.a64_imms.specs.declared.asimd_fp.ASIMDFPModImm.{ASIMDFPModImm}
use Rattle.a64_imms.specs.FloatImms.{IsFloatSize}

-- an immediate of this size, which has immediates
abbrev pub IsFloatAt : ScalarSize → ASIMDFPModImm → Type 0
IsFloatAt size imm = IsFloatSize size × (imm.size ≡ size)
