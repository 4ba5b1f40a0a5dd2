-- The condition flags.
use Rattle.std.specs.Prelude.{ℕ, ◌+◌, ◌*◌, Bool, if◌then◌else◌, List, ◌++◌, codes}
use Rattle.a64_imms.specs.declared.flags.NZCV.{NZCV}

-- the four flags: negative, zero, carry, overflow
pub record Flags : Type 0 where
  pub n : Bool
  pub z : Bool
  pub c : Bool
  pub v : Bool

abbrev pub flags_of : NZCV → Flags
flags_of imm = record { n = imm.n; z = imm.z; c = imm.c; v = imm.v }

-- 1 for a flag that is set, 0 for one that is not
abbrev pub flag_bit : Bool → ℕ
flag_bit flag = if flag then 1 else 0

abbrev pub nzcv_bits : Flags → ℕ
nzcv_bits flags =
    8 * flag_bit flags.n + 4 * flag_bit flags.z + 2 * flag_bit flags.c + flag_bit flags.v

-- `#nzcv`, with a capital for each flag that is set
abbrev pub nzcv_text : Flags → List ℕ
nzcv_text flags =
    codes "#" ++ (if flags.n then codes "N" else codes "n")
    ++ (if flags.z then codes "Z" else codes "z")
    ++ (if flags.c then codes "C" else codes "c")
    ++ (if flags.v then codes "V" else codes "v")
