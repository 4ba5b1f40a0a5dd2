use Rattle.std.proofs.Common.{sym, ◌∙◌, arith}
use Rattle.a64_link.proofs.TakenWords.{call_good, address_good}
use Rattle.a64_link.proofs.sites.is_good_site.Goals as goal

pub returns-then-is_call : goal.returns-then-is_call
returns-then-is_call c = λ before t.
    c.is_call_site.ensures ∙ call_good c.args.words.now before c.args.taken.now c.args.reloc.now t (omega arith) (sym c.is_call.ensures ∙ c.if-is_call.true)

pub returns : goal.returns
returns c = λ before t.
    c.is_address_site.ensures ∙ address_good c.args.words.now before c.args.taken.now c.args.reloc.now t (omega arith) (sym c.is_call.ensures ∙ c.if-is_call.false)
