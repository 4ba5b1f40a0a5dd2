use Rattle.std.proofs.Common.{[], ◌∷◌, ◌++◌, subst}
use Rattle.std.proofs.lemmas.Result.{err_from_is_err_and}
use Rattle.a64_assembler.specs.Emitting.{EmitsAll, IsStopped}
use Rattle.a64_assembler.proofs.Emitted.{stopped_before, one_behind}
use Rattle.a64_assembler.proofs.emitter.Emitter.emit_with_number.Goals as goal

pub returns-in_err-emit_all : goal.returns-in_err-emit_all
returns-in_err-emit_all c =
    let p = err_from_is_err_and c.from_residual.result c.from_residual.ensures.1 in
    let stopped = subst (λ xs. IsStopped xs c.args.self.now c.emit_all.new.self p.0) c.as_slice.ensures (rw p.2 c.in_err-emit_all.ensures.cause) in
    rw (p.1) (record { ok = tt; cause = stopped_before c.args.insts.now.before.items (c.args.insts.now.operation ∷ []) _ _ _ stopped })

pub returns : goal.returns
returns c =
    subst (λ xs. EmitsAll (xs ++ c.args.insts.now.operation ∷ []) c.emit.result c.args.self.now c.emit.new.self) c.as_slice.ensures
    (one_behind c.as_slice.result.now c.args.insts.now.operation c.emit.result _ _ _ c.in_ok-emit_all.ensures.ok c.emit.ensures)
