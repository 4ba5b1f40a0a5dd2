use Rattle.std.proofs.Common.{rules, ◌+◌, ◌<◌, ◌≤◌, ◌⊎◌, inl, inr, drop, length, arith}
use Rattle.std.proofs.lemmas.Bool.{cases_lt}
use Rattle.a64_report.specs.StubLines.{stub_lines}
use Rattle.a64_report.proofs.StubsLeft.{stubs_left, stubs_done}
use Rattle.a64_report.proofs.Gathering.{front_more, front_cut, all_put, on_err}
use Rattle.a64_report.proofs.stubs.put_stubs.Goals as goal

pub loop-index-preserved : goal.loop-index-preserved
loop-index-preserved g c =
    let places = c.args.places.now in
    let addresses = c.args.addresses.now in
    let i = c.loop-index.index in
    let both = c.loop-index-test.true in
    let within : i < length addresses = omega arith in
    let within_too : i < length places = omega arith in
    front_more (stub_lines (i + 1) (drop (i + 1) places) (drop (i + 1) addresses)) c.loop-index.invariant
    (rw (c.text_from.ensures, c.compose_stub-start.ensures.text) at c.in_ok-put.ensures.puts.ok)
    (stubs_left places addresses i 0 0 within_too within)

pub returns-in_err-put : goal.returns-in_err-put
returns-in_err-put g c =
    let places = c.args.places.now in
    let addresses = c.args.addresses.now in
    let i = c.loop-index.index in
    let both = c.loop-index-test.true in
    let within : i < length addresses = omega arith in
    let within_too : i < length places = omega arith in
    record {
      ok = search rules;
      err =
          on_err c.from_residual.result
          (front_cut (stub_lines (i + 1) (drop (i + 1) places) (drop (i + 1) addresses)) c.loop-index.invariant
          (rw (c.text_from.ensures, c.compose_stub-start.ensures.text) at c.in_err-put.ensures.puts.err)
          (stubs_left places addresses i 0 0 within_too within));
    }

pub returns : goal.returns
returns g c =
    let places = c.args.places.now in
    let addresses = c.args.addresses.now in
    let i = c.loop-index.index in
    let over = c.loop-index-test.false in
    let end = c.min-index-end.ensures in
    let some : (length places ≤ i) ⊎ (length addresses ≤ i) = elim (cases_lt i (length places)) [ inl within ↦ inr (omega arith) | inr past ↦ inl past ] in
    record { ok = all_put {rest = stub_lines i (drop i places) (drop i addresses)} c.loop-index.invariant (stubs_done places addresses i some); err = tt }
