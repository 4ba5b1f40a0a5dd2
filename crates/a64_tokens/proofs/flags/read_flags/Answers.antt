use Rattle.std.proofs.Common.{[], ◌∷◌, arith}
use Rattle.std.proofs.lemmas.Slice.Eq.{text_from_reads}
use Rattle.a64_tokens.proofs.Dashes.{is_dash}
use Rattle.a64_tokens.proofs.flags.read_flags.Goals as goal

pub returns-in-45 : goal.returns-in-45
returns-in-45 c = is_dash c.args.token.now c.no_trap.result c.no_trap.ensures (text_from_reads _ (45 ∷ []) (omega arith) (omega arith, tt))
