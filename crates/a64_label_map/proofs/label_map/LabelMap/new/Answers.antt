use Rattle.std.proofs.Common.{◌≡◌, [], ◌++◌, length, ◌∙◌, ap, arith, nat_cmp}
use Rattle.std.specs.FinMap.{get, from_entries, get-empty}
use Rattle.a64_label_map.specs.Shared.{numbered}
use Rattle.a64_label_map.proofs.label_map.LabelMap.new.Goals as goal

pub invariant_of-result : goal.invariant_of-result
invariant_of-result g c =
    let none : numbered 0 c.new.result.items ++ c.new-2.result.entries ≡ [] = λ i. numbered 0 (c.new.ensures.items i) ++ c.new-2.ensures.empty i in
    record {
      shared = record {
        short = omega (arith, ap length c.new.ensures.items);
        apart = λ number below. absurd (omega (arith, ap length c.new.ensures.items));
      };
      counted = omega arith;
      within = λ number far. ap (λ es. get (from_entries {R = nat_cmp} es) number) none ∙ get-empty nat_cmp number;
      few = omega (arith, ap length c.new.ensures.items);
    }
