use Rattle.std.proofs.Common.{◌+◌, ◌/◌, ap, sym, subst, ◌∙◌, nat_cmp}
use Rattle.std.specs.FinMap.{FinMap, insert}
use Rattle.a64_link.specs.Sites.{HasTaken}
use Rattle.a64_link.proofs.TakenWords.{call_taken, address_taken}
use Rattle.a64_link.proofs.sites.take_site.Goals as goal

pub returns-in_ok-insert-2 : goal.returns-in_ok-insert-2
returns-in_ok-insert-2 c =
    let both = c.in_ok-insert-2.ensures.ok ∙ ap (λ (m : FinMap nat_cmp (Unit {0})). insert m (c.args.reloc.now.0 / 4 + 1) tt) c.in_ok-insert.ensures.ok in
    subst (HasTaken c.args.reloc.now c.args.taken.now) (sym both) (address_taken c.args.reloc.now c.args.taken.now (sym c.is_call.ensures ∙ c.if-not-is_call.true))

pub returns-else-not-is_call : goal.returns-else-not-is_call
returns-else-not-is_call c =
    subst (HasTaken c.args.reloc.now c.args.taken.now) (sym c.in_ok-insert.ensures.ok) (call_taken c.args.reloc.now c.args.taken.now (sym c.is_call.ensures ∙ c.if-not-is_call.false))
