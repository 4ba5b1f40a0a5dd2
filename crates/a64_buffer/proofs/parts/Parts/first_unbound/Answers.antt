use Rattle.std.proofs.Common.{◌≡◌, ◌<◌, length, get_or, Some, ◌∙◌, ap, subst, arith}
use Rattle.a64_buffer.specs.Buffer.{IsUnboundOf}
use Rattle.a64_buffer.specs.Sound.{seen}
use Rattle.a64_buffer.proofs.Unbound.{first_bound_next, first_open_next}
use Rattle.a64_buffer.proofs.parts.Parts.first_unbound.Goals as goal

pub loop-site-preserved-in_default : goal.loop-site-preserved-in_default
loop-site-preserved-in_default g c =
    let within : c.loop-site.site-index < length c.args.self.now.uses.items = omega (arith, c.loop-site-test.true, ap length c.deref-site-items.ensures.value) in
    let is : c.site-item.result ≡ get_or c.args.self.now.uses.items c.loop-site.site-index c.site-item.result = c.site-item.is ∙ ap (λ us. get_or us c.loop-site.site-index c.site-item.result) c.deref-site-items.ensures.value in
    first_bound_next (seen c.args.self.now) c.args.self.now.uses.items c.loop-site.site-index c.site-item.result within c.site-item.result is c.loop-site.first (subst (IsUnboundOf (seen c.args.self.now).labels c.site-item.result) c.in_default.is c.unbound_label.ensures) c.loop-site.invariant

pub loop-site-preserved : goal.loop-site-preserved
loop-site-preserved g c =
    let within : c.loop-site.site-index < length c.args.self.now.uses.items = omega (arith, c.loop-site-test.true, ap length c.deref-site-items.ensures.value) in
    let is : c.site-item.result ≡ get_or c.args.self.now.uses.items c.loop-site.site-index c.site-item.result = c.site-item.is ∙ ap (λ us. get_or us c.loop-site.site-index c.site-item.result) c.deref-site-items.ensures.value in
    let unbound : IsUnboundOf (seen c.args.self.now).labels c.site-item.result (Some c.in-Some.label) = subst (IsUnboundOf (seen c.args.self.now).labels c.site-item.result) c.in-Some.is c.unbound_label.ensures in
    first_open_next (seen c.args.self.now) c.args.self.now.uses.items c.loop-site.site-index c.site-item.result within c.site-item.result is c.loop-site.first c.in-Some.label c.lesser.result unbound.0 unbound.1 c.lesser.ensures c.loop-site.invariant
