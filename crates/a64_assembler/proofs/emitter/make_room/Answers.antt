use Rattle.std.proofs.Common.{inr}
use Rattle.a64_assembler.proofs.MadeRooms.{too_large}
use Rattle.a64_assembler.proofs.emitter.make_room.Goals as goal

pub returns-then-not-room_for-clause-cause : goal.returns-then-not-room_for-clause-cause
returns-then-not-room_for-clause-cause c = too_large _ _ _ _ _ _ c.in_ok-write_island.ensures.ok c.in_ok-write_island-2.ensures.ok c.if-not-room_for.ensures.worst

pub returns-then-not-room_for-clause-made : goal.returns-then-not-room_for-clause-made
returns-then-not-room_for-clause-made c = inr (inr (c.write_island.new.buffer, (c.if-room_for.ensures.worst, c.in_ok-write_island.ensures.ok), (c.if-room_for-2.ensures.worst, c.in_ok-write_island-2.ensures.ok)))

pub returns-clause-made : goal.returns-clause-made
returns-clause-made c = inr (inr (c.write_island.new.buffer, (c.if-room_for.ensures.worst, c.in_ok-write_island.ensures.ok), (c.if-room_for-2.ensures.worst, c.in_ok-write_island-2.ensures.ok)))
