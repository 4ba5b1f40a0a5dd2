use Rattle.std.proofs.Common.{sym, ◌∙◌, ap, subst, length}
use Rattle.std.specs.Option.{unwrap_or}
use Rattle.std.specs.FinMap.{get}
use Rattle.a64_buffer.specs.Chain.{IsLast}
use Rattle.a64_buffer.proofs.Chains.{last_of}
use Rattle.a64_buffer.proofs.chain.last_use.Goals as goal

pub returns : goal.returns
returns c = λ numbers earlier h. subst (IsLast numbers c.args.number (length numbers)) (sym (c.unwrap_or.ensures ∙ ap (λ o. unwrap_or o 0) c.get.ensures)) (last_of numbers c.args.number (get c.args.heads.now c.args.number) (h.last c.args.number))
