use Rattle.std.proofs.Common.{◌+◌, None, arith}
use Rattle.a64_buffer.specs.declared.site.Target.TheVariants.{IslandEnd}
use Rattle.a64_buffer.specs.Buffer.{end_of}
use Rattle.a64_buffer.specs.Classes.{first, second}
use Rattle.a64_buffer.specs.Sound.{seen}
use Rattle.a64_buffer.proofs.Costs.{burden_third}
use Rattle.a64_buffer.proofs.Rooms.{room_of_each, each_of_room}
use Rattle.a64_buffer.proofs.Reaching.{some_item, reached_rooms, rooms_reach}
use Rattle.a64_buffer.proofs.parts.Parts.has_room.Goals as goal

pub have_room-requires-clause-first : goal.have_room-requires-clause-first
have_room-requires-clause-first g c = omega (arith, c.requires.waiting.burdens.first_is, burden_third g.K.MachInstLabelUse.kinds first c.args.self.now.uses.items, c.requires.owed)

pub have_room-requires-clause-second : goal.have_room-requires-clause-second
have_room-requires-clause-second g c = omega (arith, c.requires.waiting.burdens.second_is, burden_third g.K.MachInstLabelUse.kinds second c.args.self.now.uses.items, c.requires.owed)

pub returns : goal.returns
returns g c = (
  λ t.
      room_of_each g.K.MachInstLabelUse.kinds g.met.K.MachInstLabelUse.lawful (end_of (seen c.args.self.now)) (c.from.result + c.from-2.result + 4) c.args.more _ _ _ c.args.self.now.uses.items c.requires.kinded (omega arith) c.requires.waiting.burdens.first_is c.requires.waiting.burdens.second_is c.requires.waiting.burdens.third_is
      (reached_rooms g.K.MachInstLabelUse.kinds c.args.self.now.uses.items c.args.self.now.queues (c.from.result + c.from-2.result + 4) c.args.self.now.burdens.first c.args.self.now.burdens.second c.args.self.now.burdens.third (some_item c.args.self.now.queues (omega (arith, c.have_room.ensures.ranks))) c.requires.waiting.limits (c.have_room.ensures.reach.0 t)),
  λ fits.
      c.have_room.ensures.reach.1
      (rooms_reach g.K.MachInstLabelUse.kinds c.args.self.now.uses.items c.args.self.now.queues (c.from.result + c.from-2.result + 4) c.args.self.now.burdens.first c.args.self.now.burdens.second c.args.self.now.burdens.third (record { offset = 0; target = IslandEnd; kind = g.K.MachInstLabelUse.kinds.jump; stop = None }) (omega arith) (omega (arith, c.requires.waiting.burdens.first_is, burden_third g.K.MachInstLabelUse.kinds first c.args.self.now.uses.items, c.requires.owed)) (omega (arith, c.requires.waiting.burdens.second_is, burden_third g.K.MachInstLabelUse.kinds second c.args.self.now.uses.items, c.requires.owed)) (omega (arith, c.requires.waiting.burdens.third_is, c.requires.owed)) c.requires.waiting.limits
      (each_of_room g.K.MachInstLabelUse.kinds g.met.K.MachInstLabelUse.lawful (end_of (seen c.args.self.now)) (c.from.result + c.from-2.result + 4) c.args.more _ _ _ c.args.self.now.uses.items c.requires.kinded (omega arith) c.requires.waiting.burdens.first_is c.requires.waiting.burdens.second_is c.requires.waiting.burdens.third_is fits)),
)
