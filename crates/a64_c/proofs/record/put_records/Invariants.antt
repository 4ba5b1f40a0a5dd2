use Rattle.std.proofs.Common.{◌≡◌, ◌++◌, map, take, drop}
use Rattle.a64_c.proofs.record.put_records.Given as goal

-- the records of the subjects up to here stand in front of what was there
abbrev pub invariant-loop-index : goal.invariant-loop-index
invariant-loop-index g l = l.room ≡ map g.R.Record.record_of (take l.index l.subjects) ++ drop l.index l.initial.room
