use Rattle.std.proofs.Common.{◌≡◌, ◌<◌, ◌^◌, take}
use Rattle.std.specs.Str.Parse.{AllDigits, digits_value}
use Rattle.a64_tokens.proofs.decimal.read_u64.Given as goal

abbrev pub invariant-loop-byte : goal.invariant-loop-byte
invariant-loop-byte l = record {
  below : l.value < 2 ^ 64;
  digits : AllDigits 10 (take l.byte-index l.token);
  value : l.value ≡ digits_value 10 (take l.byte-index l.token);
}
