-- The bits of which each stands for a byte, by computing each of the 256 numbers.
use Rattle.std.proofs.Common.{◌≡◌, ℕ, ◌<◌, ◌*◌, ◌/◌, ◌%◌, ◌^◌, Bool, true, eqb, bit_and, refl}
use Rattle.std.proofs.lemmas.Bool.{eqb-true}
use Rattle.a64_imms.specs.MovImms.{spread}
use Rattle.a64_imms.proofs.Table.{each_below, one_below}

abbrev pub gathered : ℕ → ℕ
gathered value = bit_and value 0x0101_0101_0101_0101 * 0x0102_0408_1020_4080 % 2 ^ 64 / 2 ^ 56

unfoldable tested : ℕ → Bool
tested bits = eqb (gathered (spread bits)) bits

all_tested : each_below 256 tested ≡ true
unfolding tested spread
all_tested = refl

pub gathered_spread : (bits : ℕ) → bits < 256 → gathered (spread bits) ≡ bits
unfolding tested
gathered_spread bits fits = eqb-true (gathered (spread bits)) bits (one_below 256 tested all_tested bits fits)
