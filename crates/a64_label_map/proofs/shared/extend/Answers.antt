use Rattle.std.proofs.Common.{◌≡◌, ◌<◌, ◌^◌, length, ◌∙◌, ap, arith}
use Rattle.std.proofs.lemmas.List.{length_push}
use Rattle.a64_label_map.specs.Shared.{whole, AreShared}
use Rattle.a64_label_map.proofs.Wholes.{moved, padded_whole}
use Rattle.a64_label_map.proofs.shared.extend.Goals as goal

pub loop-number-preserved : goal.loop-number-preserved
loop-number-preserved g c =
    let below : c.loop-number.number < 2 ^ 32 = omega arith in
    let step : AreShared c.push_reserved.new.self.items c.remove-value.new.self × (whole c.push_reserved.new.self.items c.remove-value.new.self ≡ whole c.loop-number.table.items c.loop-number.others) =
    moved c.loop-number.table.items c.push_reserved.new.self.items c.loop-number.others c.remove-value.new.self c.loop-number.number c.remove-value.result c.loop-number.invariant.shared c.loop-number.invariant.long below c.remove-value.ensures.value c.remove-value.ensures.updates.0 c.push_reserved.ensures.items in
    record {
      shared = step.0;
      same = step.1 ∙ c.loop-number.invariant.same;
      long = omega (arith, ap length c.push_reserved.ensures.items, length_push c.loop-number.table.items c.remove-value.result);
      most = omega arith;
      least = omega arith;
      room = omega arith;
    }

pub returns-then-is_empty-clause-whole : goal.returns-then-is_empty-clause-whole
returns-then-is_empty-clause-whole g c = padded_whole c.args.table.now.items c.pad.new.table.items c.args.others.now c.pad.ensures.values
