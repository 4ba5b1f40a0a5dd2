use Rattle.std.proofs.Common.{◌≡◌, ◌<◌, ◌≤◌, length, get_or, sym, ◌∙◌, ap, arith}
use Rattle.a64_buffer.specs.Sound.{seen}
use Rattle.a64_buffer.proofs.Unreached.{direct_all, direct_next, unreached_here}
use Rattle.a64_buffer.proofs.parts.Parts.first_unreached.Goals as goal

pub returns-then-is_some : goal.returns-then-is_some
returns-then-is_some g c =
    let within : c.loop-site.site-index < length c.args.self.now.uses.items = omega (arith, c.loop-site-test.true, ap length c.deref-site-items.ensures.value) in
    let is : c.site-item.result ≡ get_or c.args.self.now.uses.items c.loop-site.site-index c.site-item.result = c.site-item.is ∙ ap (λ us. get_or us c.loop-site.site-index c.site-item.result) c.deref-site-items.ensures.value in
    unreached_here g.K.MachInstLabelUse.kinds (seen c.args.self.now) c.loop-site.site-index c.site-item.result c.site-item.result c.unreached_label-label.result within is c.unreached_label-label.ensures (sym c.is_some.ensures ∙ c.if-is_some.true) c.loop-site.invariant

pub loop-site-preserved : goal.loop-site-preserved
loop-site-preserved g c =
    let within : c.loop-site.site-index < length c.args.self.now.uses.items = omega (arith, c.loop-site-test.true, ap length c.deref-site-items.ensures.value) in
    let is : c.site-item.result ≡ get_or c.args.self.now.uses.items c.loop-site.site-index c.site-item.result = c.site-item.is ∙ ap (λ us. get_or us c.loop-site.site-index c.site-item.result) c.deref-site-items.ensures.value in
    direct_next g.K.MachInstLabelUse.kinds (seen c.args.self.now) c.loop-site.site-index c.site-item.result c.site-item.result c.unreached_label-label.result within is c.unreached_label-label.ensures (sym c.is_some.ensures ∙ c.if-is_some.false) c.loop-site.invariant

pub returns : goal.returns
returns g c =
    let past : length c.args.self.now.uses.items ≤ c.loop-site.site-index = omega (arith, c.loop-site-test.false, ap length c.deref-site-items.ensures.value) in
    direct_all g.K.MachInstLabelUse.kinds (seen c.args.self.now) c.loop-site.site-index past c.loop-site.invariant
