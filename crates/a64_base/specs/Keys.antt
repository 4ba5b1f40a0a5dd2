-- Keys of pointer authentication.
use Rattle.std.specs.Prelude.{ℕ, ◌+◌, ◌*◌}
use Rattle.a64_base.specs.declared.key.APIKey.{APIKey}
use Rattle.a64_base.specs.declared.key.APIKey.TheVariants.{AZ, ASP, BZ, BSP}

-- the last three bits of the hint's number
abbrev pub auti_op2 : APIKey → ℕ
auti_op2 AZ = 4
auti_op2 ASP = 5
auti_op2 BZ = 6
auti_op2 BSP = 7

-- the word of the hint that authenticates the link register
abbrev pub auti_hint : APIKey → ℕ
auti_hint key = 0xd503_231f + 32 * auti_op2 key
