use Rattle.std.proofs.Common.{◌≡◌, ℕ, List, Ok, Err, None, Some, IfErr, sym, subst, inl, inr, arith}
use Rattle.std.specs.Prelude.{Result}
use Rattle.std.specs.Result.{IsErr, IsErrAnd}
use Rattle.a64_buffer.specs.declared.force.ForceVeneers.{ForceVeneers}
use Rattle.a64_emit.specs.declared.code.Code.{Code}
use Rattle.a64_emit.specs.Faults.{fault_of, own_fault}
use Rattle.a64_assemble.specs.Assembled.{IsAssembled}
use Rattle.a64_c.specs.declared.answer.Refusal.{Refusal}
use Rattle.a64_c.specs.Answers.{IsCause}
use Rattle.a64_c.proofs.code.code_of.Goals as goal

-- a refusal that is handed on
handed_on : (text : List ℕ) (force : ForceVeneers) (result : Result Code Refusal) (refusal : Refusal) → IsErr result → IsErrAnd result (λ other. other ≡ refusal) → IsCause text force refusal → IfErr result (IsCause text force)
handed_on text force (Ok code) refusal err same cause = absurd cc
handed_on text force (Err other) refusal err same cause = subst (IsCause text force) (sym same) cause

pub returns-in_err-code-clause-err : goal.returns-in_err-code-clause-err
returns-in_err-code-clause-err c =
    let file = c.in_ok-file.file in
    handed_on c.args.text.now c.args.force c.from_residual-in_err-code.result _ c.from_residual-in_err-code.ensures.0 c.from_residual-in_err-code.ensures.1
    (elim c.in_err-code.ensures.err [
      | inl fault ↦
          let first = subst (λ items. fault_of file.frame file.info file.constants c.args.force items ≡ Some c.in_err-code.field-0.0) c.deref.ensures.value fault in
          (omega arith, inl (record { file = file; read = c.in_ok-file.ensures.answers.ok; first = first }))
      | inr want ↦
          let right = subst (λ items. own_fault file.frame file.info file.constants items ≡ None) c.deref.ensures.value want.1 in
          (omega arith, inr (want.0, record { file = file; read = c.in_ok-file.ensures.answers.ok; right = right }))
    ])

pub returns-clause-ok : goal.returns-clause-ok
returns-clause-ok c =
    let file = c.in_ok-file.file in
    let assembled = subst (λ items. IsAssembled file.frame file.info file.constants c.args.force items c.in_ok-code.code) c.deref.ensures.value c.in_ok-code.ensures.ok in
    record { short = omega arith; file = file; read = c.in_ok-file.ensures.answers.ok; assembled = assembled }
