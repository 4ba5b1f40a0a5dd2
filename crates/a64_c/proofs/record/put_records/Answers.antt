use Rattle.std.proofs.Common.{◌≡◌, ◌∙◌, ◌<◌, ◌≤◌, length, min, arith}
use Rattle.std.proofs.Math.Nat.{min-le_left, min-le_right}
use Rattle.a64_c.proofs.Fronts.{front_more, front_whole}
use Rattle.a64_c.proofs.record.put_records.Goals as goal

pub loop-index-preserved : goal.loop-index-preserved
loop-index-preserved g c =
    let below : c.loop-index.index < min (length c.args.subjects.now) (length c.args.room.now) = rw c.min-count.ensures at c.loop-index-test.true in
    let subjects : min (length c.args.subjects.now) (length c.args.room.now) ≤ length c.args.subjects.now = min-le_left _ _ in
    let room : min (length c.args.subjects.now) (length c.args.room.now) ≤ length c.args.room.now = min-le_right _ _ in
    rw (c.loop-index.invariant, c.of.ensures) (front_more g.R.Record.record_of c.args.subjects.now c.args.room.now c.loop-index.index c.index-subjects-index.result (omega arith) (omega arith) c.index-subjects-index.is)

pub returns : goal.returns
returns g c =
    let all : c.loop-index.index ≡ c.min-count.result = omega arith in
    rw c.loop-index.invariant (front_whole g.R.Record.record_of c.args.subjects.now c.args.room.now c.loop-index.index (all ∙ c.min-count.ensures))
