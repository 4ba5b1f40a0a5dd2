use Rattle.std.proofs.Common.{[], ◌∷◌, arith}
use Rattle.std.proofs.lemmas.Slice.Eq.{text_from_reads}
use Rattle.a64_tokens.proofs.Dashes.{is_no_map}
use Rattle.a64_tokens.proofs.map.read_map.Goals as goal

pub returns-in-45 : goal.returns-in-45
returns-in-45 c = is_no_map c.args.token.now (text_from_reads _ (45 ∷ []) (omega arith) (omega arith, tt))
