use Rattle.std.proofs.Common.{Vec, Global, ◌+◌, ◌++◌, [], ◌∷◌, length, refl, None, Some, sym, ap, subst, ◌∙◌, arith}
use Rattle.a64_data.specs.declared.range.DataRange.{DataRange}
use Rattle.a64_data.specs.Marks.{AreRangesOf}
use Rattle.a64_data.proofs.Runs.{IsScanned, passes, begins, goes_on, closes, all_runs, all_closed, scanned_as}
use Rattle.a64_data.proofs.range.ranges_of.Goals.{in-None+then-marked, in-None+else-marked, in-Some+then-not-marked+in_ok-push-in-Some, in-Some+else-not-marked}
use Rattle.a64_data.proofs.range.ranges_of.Goals.{in-Some-open+in_ok-push, in_default}
use Rattle.a64_data.proofs.range.ranges_of.Goals as goal

pub loop-place-preserved : goal.loop-place-preserved
loop-place-preserved c =
    let marks = c.args.marks.now in
    let ranges = c.loop-place.ranges.items in
    let place = c.loop-place.place in
    let same = scanned_as marks in
    elim c.match-open.branch [
      | in-None+then-marked w ↦
          let so = subst (λ o. IsScanned marks ranges o place) w.in-None.is c.loop-place.invariant in
          same ranges c.match-open.ranges.items (Some place) c.match-open.open (place + 1) (ap (λ (v : Vec DataRange Global). v.items) w.ranges-is) w.open-is (so, begins marks ranges place w.if-marked.true)
      | in-None+else-marked w ↦
          let so = subst (λ o. IsScanned marks ranges o place) w.in-None.is c.loop-place.invariant in
          same ranges c.match-open.ranges.items None c.match-open.open (place + 1) (ap (λ (v : Vec DataRange Global). v.items) w.ranges-is) (w.open-is ∙ w.in-None.is) (passes marks ranges place w.if-marked.false so)
      | in-Some+then-not-marked+in_ok-push-in-Some w ↦
          let so = subst (λ o. IsScanned marks ranges o place) w.in-Some.is c.loop-place.invariant in
          same (ranges ++ record { begin = w.in-Some.begin; end = place } ∷ []) c.match-open.ranges.items None c.match-open.open (place + 1) (ap (λ (v : Vec DataRange Global). v.items) w.ranges-is ∙ w.in_ok-push-in-Some.ensures.items) w.open-is (closes marks ranges w.in-Some.begin place w.if-not-marked.true so.0 so.1)
      | in-Some+else-not-marked w ↦
          let so = subst (λ o. IsScanned marks ranges o place) w.in-Some.is c.loop-place.invariant in
          same ranges c.match-open.ranges.items (Some w.in-Some.begin) c.match-open.open (place + 1) (ap (λ (v : Vec DataRange Global). v.items) w.ranges-is) w.open-is (so.0, goes_on marks ranges w.in-Some.begin place w.if-not-marked.false so.1)
    ]

pub returns : goal.returns
returns c =
    let marks = c.args.marks.now in
    let ranges = c.loop-place.ranges.items in
    let place = c.loop-place.place in
    elim c.match-open-2.branch [
      | in-Some-open+in_ok-push w ↦
          let so = subst (λ o. IsScanned marks ranges o place) w.in-Some-open.is c.loop-place.invariant in
          subst (AreRangesOf marks) (sym (ap (λ (v : Vec DataRange Global). v.items) w.ranges-is ∙ w.in_ok-push.ensures.items))
          (all_closed marks ranges w.in-Some-open.begin place (length marks) (omega (arith, c.loop-place-test.false, c.loop-place.auto.place-end)) refl so.0 so.1)
      | in_default w ↦
          let so = subst (λ o. IsScanned marks ranges o place) w.in_default.is c.loop-place.invariant in
          subst (AreRangesOf marks) (sym (ap (λ (v : Vec DataRange Global). v.items) w.ranges-is)) (all_runs marks ranges place c.loop-place-test.false so)
    ]
