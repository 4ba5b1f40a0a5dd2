use Rattle.std.proofs.Common.{length, ap, arith}
use Rattle.std.proofs.lemmas.List.{length_push}
use Rattle.a64_label_map.proofs.Numbered.{listed_none, listed_some}
use Rattle.a64_label_map.proofs.shared.list_table.Goals as goal

pub loop-number-preserved-in_default : goal.loop-number-preserved-in_default
loop-number-preserved-in_default g c = record {
  items = listed_none c.args.table.now c.loop-number.list.items c.loop-number.number c.index-table-number.result c.loop-number-test.true c.index-table-number.is c.in_default.is c.loop-number.invariant.items;
  few = omega arith;
  room = c.loop-number.invariant.room;
}

pub loop-number-preserved : goal.loop-number-preserved
loop-number-preserved g c = record {
  items = listed_some c.args.table.now c.loop-number.list.items c.push_reserved.new.self.items c.loop-number.number c.index-table-number.result c.in-Some.value c.loop-number-test.true c.index-table-number.is c.in-Some.is c.loop-number.invariant.items c.push_reserved.ensures.items;
  few = omega (arith, ap length c.push_reserved.ensures.items, length_push c.loop-number.list.items (c.loop-number.number, c.in-Some.value));
  room = omega arith;
}

pub loop-number-init : goal.loop-number-init
loop-number-init g c = record {
  items = c.in_ok-list.ensures.items;
  few = omega (arith, ap length c.in_ok-list.ensures.items);
  room = omega (arith, c.in_ok-list.ensures.capacity);
}
