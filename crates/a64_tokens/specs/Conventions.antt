-- The names of calling conventions and of keys, also where a return may have none.
use Rattle.std.specs.Prelude.{ℕ, List, codes, Option, Some, None}
use Rattle.a64_base.specs.declared.convention.CallConv.{CallConv}
use Rattle.a64_base.specs.declared.convention.CallConv.TheVariants as conventions
use Rattle.a64_base.specs.declared.key.APIKey.{APIKey}
use Rattle.a64_base.specs.declared.key.APIKey.TheVariants as keys

abbrev pub convention_text : CallConv → List ℕ
convention_text conventions.SystemV = codes "SystemV"
convention_text conventions.Tail = codes "Tail"
convention_text conventions.AppleAarch64 = codes "AppleAarch64"

-- a key of pointer authentication
abbrev pub api_key_text : APIKey → List ℕ
api_key_text keys.AZ = codes "AZ"
api_key_text keys.BZ = codes "BZ"
api_key_text keys.ASP = codes "ASP"
api_key_text keys.BSP = codes "BSP"

-- the key that authenticates a return address; a dash where none does
abbrev pub key_text : Option APIKey → List ℕ
key_text None = codes "-"
key_text (Some key) = api_key_text key
