use Rattle.a64_assemble.proofs.NextRooms.{HasPassed}
use Rattle.a64_assemble.proofs.ahead.next_room.Given as goal

-- the items so far have no words, and so many bytes more are needed because of places for islands
abbrev pub invariant-loop-item : goal.invariant-loop-item
invariant-loop-item l = record { passed : HasPassed l.frame l.info l.items l.item-index l.places }
