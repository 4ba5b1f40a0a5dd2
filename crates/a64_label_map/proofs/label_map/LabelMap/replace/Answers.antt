use Rattle.std.proofs.Common.{◌≡◌, length, sym, subst, arith}
use Rattle.std.proofs.lemmas.List.{with_items_is}
use Rattle.a64_label_map.specs.Shared.{IsBalanced}
use Rattle.a64_label_map.proofs.Wholes.{balanced_put}
use Rattle.a64_label_map.proofs.label_map.LabelMap.replace.Goals as goal

pub invariant_of-self : goal.invariant_of-self
invariant_of-self g c =
    let long : length c.put.new.table ≡ c.self.inside.table.len = omega (arith, c.put.auto.table, c.deref_mut.ensures.len) in
    let before : IsBalanced c.deref_mut.result.now c.self.inside.others c.self.inside.count c.self.inside.expected = subst (λ t. IsBalanced t c.self.inside.others c.self.inside.count c.self.inside.expected) (sym c.deref_mut.ensures.value) c.self.invariant in
    subst (λ t. IsBalanced t c.put.new.others c.self.inside.count c.self.inside.expected) (sym (with_items_is c.self.inside.table c.put.new.table long))
    (balanced_put c.deref_mut.result.now c.put.new.table c.self.inside.others c.put.new.others c.self.inside.count c.self.inside.count c.self.inside.expected c.args.number c.args.value _ before c.in-Ok.ensures.shared c.put.auto.table c.ranges.number.fits c.in-Ok.ensures.ok c.in-Ok.ensures.old (omega arith) (omega arith))
