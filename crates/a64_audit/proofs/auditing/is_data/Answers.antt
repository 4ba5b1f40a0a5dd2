use Rattle.std.proofs.Common.{◌≡◌, ℕ, List, ◌<◌, ◌≤◌, length, get_or, inl, inr, ap, ◌∙◌, rules, arith}
use Rattle.std.proofs.lemmas.Bool.{leb-true, le-leb, cases_lt}
use Rattle.a64_audit.specs.Entries.{contents_of}
use Rattle.a64_audit.proofs.Ranges.{begin_at, ends_parted, in_data, not_in_data}
use Rattle.a64_audit.proofs.auditing.is_data.Goals as goal

pub returns-in-Some : goal.returns-in-Some
returns-in-Some c =
    let file = contents_of c.args.file.now in
    let place = c.args.place in
    let index = c.partition_point-index.result in
    let same = c.as_slice-ranges.ensures.value in
    let there = ends_parted file c.requires place index c.as_slice-ranges.result.now same c.partition_point-index.ensures.partitioned (λ a r q k. search rules) in
    let look = c.in-Some.ensures.lookup in
    let lt : index < length file.ranges = omega (arith, look.3.0, ap length same) in
    let begins : c.in-Some.field-0.now.0 ≡ begin_at file index = ap (λ (r : ℕ × ℕ). r.0) (look.3.1 (0, 0)) ∙ ap (λ (rs : List (ℕ × ℕ)). (get_or rs index (0, 0)).0) same in (
      λ low. in_data file c.requires place index there lt (omega (arith, begins, leb-true c.in-Some.field-0.now.0 place low)),
      λ lies. elim (cases_lt place (begin_at file index)) [
        | inl less ↦ absurd (not_in_data file c.requires place index there (λ _. less) lies)
        | inr more ↦ le-leb c.in-Some.field-0.now.0 place (omega (arith, begins, more))
      ],
    )

pub returns-in-None : goal.returns-in-None
returns-in-None c =
    let file = contents_of c.args.file.now in
    let place = c.args.place in
    let index = c.partition_point-index.result in
    let same = c.as_slice-ranges.ensures.value in
    let there = ends_parted file c.requires place index c.as_slice-ranges.result.now same c.partition_point-index.ensures.partitioned (λ a r q k. search rules) in
    let look = c.in-None.ensures.lookup in
    let past : length file.ranges ≤ index = omega (arith, look.3, ap length same) in
    (λ no. absurd cc, λ lies. absurd (not_in_data file c.requires place index there (λ lt. absurd (omega (arith, past, lt))) lies))
