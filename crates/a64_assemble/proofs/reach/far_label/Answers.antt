use Rattle.std.proofs.Common.{◌∙◌, ◌-◌, ◌^◌, ◌<◌, ◌≤◌, cond, None, Some, sym, ap, arith}
use Rattle.std.specs.Prelude.{option_and_then}
use Rattle.std.proofs.lemmas.Bool.{lt-ltb, le-ltb}
use Rattle.a64_emit.specs.Reach.{far_label, reach}
use Rattle.a64_assemble.proofs.FarUses.{far_bound}
use Rattle.a64_assemble.proofs.reach.far_label.Goals as goal

pub returns-then-reach_of-from : goal.returns-then-reach_of-from
returns-then-reach_of-from c = λ frame flags force items are has quiet.
    let found = c.reach_of.ensures frame flags items force are quiet in
    let far : 2 ^ 20 - 1 < reach frame flags force items c.args.index c.in_ok-binding.binding = omega (arith, found, c.from.ensures, c.if-reach_of-from.true) in
    sym (ap (option_and_then (far_label frame flags force items c.args.index)) c.in_ok-site.was
    ∙ far_bound frame flags force items c.args.bindings.now has c.args.index c.in_ok-binding.binding c.in_ok-site.field-0 c.in_ok-label.label (sym c.near_label.ensures ∙ c.in_ok-label.was) (sym c.get.ensures ∙ c.in_ok-binding.was)
    ∙ ap (λ b. cond b (Some c.in_ok-label.label) None) (lt-ltb (2 ^ 20 - 1) (reach frame flags force items c.args.index c.in_ok-binding.binding) far))

pub returns-else-reach_of-from : goal.returns-else-reach_of-from
returns-else-reach_of-from c = λ frame flags force items are has quiet.
    let found = c.reach_of.ensures frame flags items force are quiet in
    let near : reach frame flags force items c.args.index c.in_ok-binding.binding ≤ 2 ^ 20 - 1 = omega (arith, found, c.from.ensures, c.if-reach_of-from.false) in
    sym (ap (option_and_then (far_label frame flags force items c.args.index)) c.in_ok-site.was
    ∙ far_bound frame flags force items c.args.bindings.now has c.args.index c.in_ok-binding.binding c.in_ok-site.field-0 c.in_ok-label.label (sym c.near_label.ensures ∙ c.in_ok-label.was) (sym c.get.ensures ∙ c.in_ok-binding.was)
    ∙ ap (λ b. cond b (Some c.in_ok-label.label) None) (le-ltb (2 ^ 20 - 1) (reach frame flags force items c.args.index c.in_ok-binding.binding) near))
