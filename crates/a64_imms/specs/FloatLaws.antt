-- A field of a float has one value at a size.
use Rattle.std.specs.Prelude.{◌≡◌}
use Rattle.std.proofs.Common.{refl, ap}
use Rattle.a64_base.specs.declared.size.ScalarSize.{ScalarSize}
use Rattle.a64_imms.specs.declared.asimd_fp.ASIMDFPModImm.{ASIMDFPModImm}
use Rattle.a64_imms.specs.FloatImms.{float_pattern, IsFloatValue, IsFloatLawful}

pub float_within : (scalar : ScalarSize) (made : ASIMDFPModImm) → IsFloatLawful scalar made
    → IsFloatValue scalar (float_pattern scalar made.imm)
float_within scalar made lawful = record {
  of_size = lawful.of_size;
  bits = made.imm;
  fits = lawful.fits;
  pattern_is = refl;
}

pub one_float : (scalar : ScalarSize) (x y : ASIMDFPModImm) → IsFloatLawful scalar x
    → IsFloatLawful scalar y → x.imm ≡ y.imm
    → float_pattern scalar x.imm ≡ float_pattern scalar y.imm
one_float scalar x y of_x of_y imm = ap (float_pattern scalar) imm
