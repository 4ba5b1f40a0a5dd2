use Rattle.a64_buffer.proofs.Clients.{grown_none, grown_bound, grown_direct}
use Rattle.a64_tests.proofs.load.code_of.Goals as goal

pub add_uses_and_item-requires-clause-grown : goal.add_uses_and_item-requires-clause-grown
add_uses_and_item-requires-clause-grown g c = rw (c.new-buffer.ensures) (grown_none g.K.MachInstLabelUse.kinds g.met.K.MachInstLabelUse.lawful 1 _)

pub finish-requires-clause-bound : goal.finish-requires-clause-bound
finish-requires-clause-bound g c = grown_bound g.K.MachInstLabelUse.kinds g.met.K.MachInstLabelUse.lawful 0 10000 1 c.add_uses_and_item.new.buffer c.cur_offset-end.ensures.whole c.in_ok-add_uses_and_item.ensures

pub finish-requires-clause-direct : goal.finish-requires-clause-direct
finish-requires-clause-direct g c = grown_direct g.K.MachInstLabelUse.kinds g.met.K.MachInstLabelUse.lawful 0 10000 1 c.add_uses_and_item.new.buffer c.cur_offset-end.ensures.whole c.in_ok-add_uses_and_item.ensures
