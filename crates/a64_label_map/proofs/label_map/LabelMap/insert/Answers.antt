use Rattle.std.proofs.Common.{◌≡◌, ◌+◌, ◌≤◌, ◌^◌, length, cond, is_some, sym, subst, arith}
use Rattle.std.proofs.lemmas.List.{with_items_is}
use Rattle.a64_label_map.specs.Shared.{IsBalanced}
use Rattle.a64_label_map.proofs.Wholes.{balanced_put}
use Rattle.a64_label_map.proofs.Counted.{count_within}
use Rattle.a64_label_map.proofs.label_map.LabelMap.insert.Goals as goal

pub overflow_add-self : goal.overflow_add-self
overflow_add-self g c =
    let few : c.self.inside.count ≤ 2 ^ 32 = count_within c.self.inside.table.items c.self.inside.others c.self.inside.count c.self.inside.expected c.self.invariant in
    omega arith

pub invariant_of-self-then-is_none : goal.invariant_of-self-then-is_none
invariant_of-self-then-is_none g c =
    let long : length c.put.new.table ≡ c.self.inside.table.len = omega (arith, c.put.auto.table, c.deref_mut.ensures.len) in
    let before : IsBalanced c.deref_mut.result.now c.self.inside.others c.self.inside.count c.self.inside.expected = subst (λ t. IsBalanced t c.self.inside.others c.self.inside.count c.self.inside.expected) (sym c.deref_mut.ensures.value) c.self.invariant in
    let one : c.self.inside.count + 1 ≤ c.self.inside.count + cond (is_some c.in_ok-old.old) 0 1 = subst (λ t. c.self.inside.count + 1 ≤ c.self.inside.count + cond t 0 1) (sym c.if-is_none.ensures) (omega arith) in
    subst (λ t. IsBalanced t c.put.new.others (c.self.inside.count + 1) c.self.inside.expected) (sym (with_items_is c.self.inside.table c.put.new.table long))
    (balanced_put c.deref_mut.result.now c.put.new.table c.self.inside.others c.put.new.others c.self.inside.count (c.self.inside.count + 1) c.self.inside.expected c.args.number c.args.value c.in_ok-old.old before c.in_ok-old.ensures.shared c.put.auto.table c.ranges.number.fits c.in_ok-old.ensures.ok c.in_ok-old.ensures.old (omega arith) one)

pub invariant_of-self-else-is_none : goal.invariant_of-self-else-is_none
invariant_of-self-else-is_none g c =
    let long : length c.put.new.table ≡ c.self.inside.table.len = omega (arith, c.put.auto.table, c.deref_mut.ensures.len) in
    let before : IsBalanced c.deref_mut.result.now c.self.inside.others c.self.inside.count c.self.inside.expected = subst (λ t. IsBalanced t c.self.inside.others c.self.inside.count c.self.inside.expected) (sym c.deref_mut.ensures.value) c.self.invariant in
    subst (λ t. IsBalanced t c.put.new.others c.self.inside.count c.self.inside.expected) (sym (with_items_is c.self.inside.table c.put.new.table long))
    (balanced_put c.deref_mut.result.now c.put.new.table c.self.inside.others c.put.new.others c.self.inside.count c.self.inside.count c.self.inside.expected c.args.number c.args.value c.in_ok-old.old before c.in_ok-old.ensures.shared c.put.auto.table c.ranges.number.fits c.in_ok-old.ensures.ok c.in_ok-old.ensures.old (omega arith) (omega arith))
