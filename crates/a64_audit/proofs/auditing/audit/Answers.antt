use Rattle.std.proofs.Common.{ℕ, List, Bool, ◌+◌, ◌<◌, length, slice_index_or, refl, ap, subst, arith}
use Rattle.std.specs.List.Sorted.{IsNonDecreasing}
use Rattle.std.proofs.lemmas.List.Sorted.{non_decreasing_from_is_sorted}
use Rattle.std.specs.Prelude.{MatchBool}
use Rattle.a64_audit.specs.Entries.{contents_of}
use Rattle.a64_audit.specs.Verdicts.{IsVerdict}
use Rattle.a64_audit.proofs.Places.{one_more, first_place}
use Rattle.a64_audit.proofs.OneVerdict.{one_verdict}
use Rattle.a64_audit.proofs.auditing.audit.Goals.{then-not-is_data+in_default-judge, else-not-is_data}
use Rattle.a64_audit.proofs.auditing.audit.Goals as goal

pub judge-requires-clause-ascending : goal.judge-requires-clause-ascending
judge-requires-clause-ascending c = λ up.
    let traps = c.deref.result.now in
    let sorted = non_decreasing_from_is_sorted traps c.is_sorted-ascending.result c.is_sorted-ascending.ensures.cases in
    let rise = subst (λ (b : Bool). MatchBool b (IsNonDecreasing traps) ((k : ℕ) × (k + 1 < length traps) × ((d : ℕ) → slice_index_or traps (k + 1) d < slice_index_or traps k d))) up sorted in
    subst (λ (xs : List ℕ). IsNonDecreasing xs) c.deref.ensures.value rise

pub loop-index-preserved : goal.loop-index-preserved
loop-index-preserved c = one_more (contents_of c.args.file.now) c.loop-index.index c.loop-index.invariant (λ code. elim c.if-not-is_data.branch [
  | then-not-is_data+in_default-judge w ↦ w.in_default-judge.ensures
  | else-not-is_data w ↦ absurd (code (w.if-not-is_data.ensures.0 refl))
])

pub returns-in-Some-judge-clause-clean : goal.returns-in-Some-judge-clause-clean
returns-in-Some-judge-clause-clean c = λ clean.
    let file = contents_of c.args.file.now in
    let first = first_place file c.loop-index.index c.in_default.ensures c.loop-index.invariant (omega (arith, c.loop-index-test.true, ap length c.deref-word-items.ensures.value)) (λ lies. absurd (let e = c.if-not-is_data.ensures.1 lies in cc)) in
    subst (IsVerdict file) clean (c.in-Some-judge.ensures first)

pub returns-in-Some-judge-clause-only : goal.returns-in-Some-judge-clause-only
returns-in-Some-judge-clause-only c = λ other holds.
    let file = contents_of c.args.file.now in
    let first = first_place file c.loop-index.index c.in_default.ensures c.loop-index.invariant (omega (arith, c.loop-index-test.true, ap length c.deref-word-items.ensures.value)) (λ lies. absurd (let e = c.if-not-is_data.ensures.1 lies in cc)) in
    one_verdict file c.in-Some-judge.verdict other (c.in-Some-judge.ensures first) holds
