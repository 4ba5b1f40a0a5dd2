use Rattle.std.proofs.Common.{◌≡◌, ◌∙◌, drop, inl}
use Rattle.std.specs.Vec.Iter.{into_iter_items}
use Rattle.a64_run.specs.Run.{kept_in}
use Rattle.a64_run.proofs.process.run_args.Goals as goal

-- the words of the run are those behind the first
pub returns-in-Ok : goal.returns-in-Ok
returns-in-Ok g c =
    let words : c.deref.result.now ≡ drop 1 (into_iter_items c.args.args) = c.deref.ensures.value ∙ c.in-Ok.ensures in
    inl (record {
      kept = kept_in c.run-ran.result;
      fault = c.run-ran.result.fault;
      answers = rw words at c.run-ran.ensures.answers;
      tells = c.run-ran.ensures.tells;
      status_is = c.run-ran.ensures.status;
    })
