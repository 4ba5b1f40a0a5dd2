use Rattle.std.proofs.Common.{arith}
use Rattle.std.proofs.lemmas.Grind.{common_steps}
use Rattle.a64_role_lines.proofs.Joined.{role_words}
use Rattle.a64_role_lines.proofs.listing.push_line.Goals as goal

pub returns : goal.returns
returns c = rw role_words (grind (arith, common_steps))
