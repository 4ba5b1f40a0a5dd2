-- The digits of bytes.
use Rattle.std.proofs.Common.{◌≡◌, ℕ, ◌+◌, ◌*◌, ◌/◌, ◌%◌, ◌<◌, get_or}
use Rattle.a64_report.proofs.DigitPairs.{pair_at}
use Rattle.a64_report.specs.declared.line.TheConstants.{HEX_PAIRS}
use Rattle.a64_tokens.specs.Hex.{hex_digit}

pub hex_pairs_at : (byte : ℕ) → byte < 256 → (get_or HEX_PAIRS (byte * 2) 0 ≡ hex_digit (byte / 16)) × (get_or HEX_PAIRS (byte * 2 + 1) 0 ≡ hex_digit (byte % 16))
hex_pairs_at byte h = pair_at HEX_PAIRS hex_digit 16 256 byte tt h
