use Rattle.std.proofs.Common.{[], ◌∷◌}
use Rattle.std.proofs.lemmas.Result.{on_ok_weaker, on_err_weaker}
use Rattle.a64_cells.specs.Words.{put_kept}
use Rattle.a64_emit.proofs.Called.{named_short, named_fits, call_named, call_worded, call_mapped, call_done}
use Rattle.a64_emit.proofs.Fitting.{failed}
use Rattle.a64_emit.proofs.Holding.{none_put}
use Rattle.a64_emit.proofs.call.put_call.Goals as goal

pub returns-in_err-record_callee : goal.returns-in_err-record_callee
returns-in_err-record_callee c =
    let cells = put_kept c.args.word c.args.callee.now c.args.kept ∷ [] in
    failed c.from_residual.result _ c.args.sink.now c.record_callee.new.sink cells c.from_residual.ensures.1
    (none_put c.args.sink.now c.record_callee.new.sink cells c.in_err-record_callee.ensures.err)

pub put4-requires : goal.put4-requires
put4-requires c =
    let a = c.args in
    record {
      short = named_short a.sink.now a.word a.callee.now a.kept c.record_callee.new.sink c.in_ok-record_callee.ensures.ok c.requires;
      fits = named_fits a.sink.now a.word a.callee.now a.kept c.record_callee.new.sink c.in_ok-record_callee.ensures.ok c.requires;
    }

pub returns-in_err-put4 : goal.returns-in_err-put4
returns-in_err-put4 c =
    let a = c.args in
    failed c.from_residual-in_err-put4.result _ a.sink.now c.put4.new.self (put_kept a.word a.callee.now a.kept ∷ []) c.from_residual-in_err-put4.ensures.1
    (call_named a.sink.now a.word a.callee.now a.kept c.record_callee.new.sink c.in_ok-record_callee.ensures.ok c.put4.new.self c.in_err-put4.ensures.err)

pub returns-in_err-record_map : goal.returns-in_err-record_map
returns-in_err-record_map c =
    let a = c.args in
    failed c.from_residual-in_err-record_map.result _ a.sink.now c.record_map.new.sink (put_kept a.word a.callee.now a.kept ∷ []) c.from_residual-in_err-record_map.ensures.1
    (call_worded a.sink.now a.word a.callee.now a.kept c.record_callee.new.sink c.in_ok-record_callee.ensures.ok c.put4.new.self c.in_ok-put4.ensures.ok c.record_map.new.sink c.in_err-record_map.ensures.err)

pub returns : goal.returns
returns c =
    let a = c.args in
    record {
      ok =
          on_ok_weaker c.add_call_site.result
          (call_done a.sink.now a.word a.callee.now a.kept c.record_callee.new.sink c.in_ok-record_callee.ensures.ok c.put4.new.self c.in_ok-put4.ensures.ok c.record_map.new.sink c.in_ok-record_map.ensures.ok c.add_call_site.new.self)
          c.add_call_site.ensures.ok;
      err =
          on_err_weaker c.add_call_site.result
          (call_mapped a.sink.now a.word a.callee.now a.kept c.record_callee.new.sink c.in_ok-record_callee.ensures.ok c.put4.new.self c.in_ok-put4.ensures.ok c.record_map.new.sink c.in_ok-record_map.ensures.ok c.add_call_site.new.self)
          c.add_call_site.ensures.err;
    }
