use Rattle.std.proofs.Common.{◌≡◌, ◌+◌, ◌-◌, ◌^◌, rules, arith}
use Rattle.std.specs.Prelude.{nat_le}
use Rattle.std.proofs.lemmas.List.Sorted.{IsPartitionPoint-from_clause}
use Rattle.a64_assemble.specs.Tally.{mark_at}
use Rattle.a64_assemble.proofs.Parting.{parted, first_at}
use Rattle.a64_assemble.proofs.loose.first_waiting.Goals as goal

pub returns : goal.returns
returns c =
    let marks = c.args.marks.now in
    let index = c.args.index in
    let all : index + 1 - 1 ≡ index = omega arith in
    let parts = parted marks index (index + 1 - 1) all c.requires.within c.requires.rising in
    let point = IsPartitionPoint-from_clause (λ m. nat_le (2 ^ 20) ((mark_at marks index).size - m.size)) _ _ c.partition_point.ensures.partitioned parts (λ a r q k. search rules) in
    first_at marks index (index + 1 - 1) all c.requires.within c.partition_point.result c.partition_point.ensures.bound point
