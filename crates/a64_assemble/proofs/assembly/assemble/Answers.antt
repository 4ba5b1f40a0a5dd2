use Rattle.std.proofs.Common.{◌≡◌, ◌∙◌, true, Option, None, Some, Result, Ok, Err, ap, subst}
use Rattle.std.specs.Prelude.{IfSome, MatchResult}
use Rattle.std.specs.Result.{is_ok, result_ok}
use Rattle.a64_emit.specs.Faults.{or_else, second_binding, too_large, unbound_use}
use Rattle.a64_assemble.specs.Found.{IsFound}
use Rattle.a64_assemble.proofs.Checked.{fault_at_reach}
use Rattle.a64_assemble.proofs.Made.{assembled}
use Rattle.a64_emit.proofs.Restorable.{restored_exactly}
use Rattle.a64_assemble.proofs.assembly.assemble.Goals as goal

-- what holds where there is something, where there is
where_there : {T E P : Type 0} (r : Result T E) (o : Option T) → o ≡ result_ok r → is_ok r ≡ true → IfSome o (λ _. P) → P
where_there {T} {E} {P} (Ok x) o e ok h = subst (λ (q : Option T). IfSome q (λ _. P)) e h
where_there (Err x) o e ok h = absurd cc

pub returns-clause-ok : goal.returns-clause-ok
returns-clause-ok c =
    let frame = c.args.frame.now in
    let flags = c.args.info.now in
    let items = c.args.items.now in
    let once : second_binding items ≡ None = (rw c.in_ok-bound.was at c.bound_labels-bound.ensures.ok).0 in
    let told : MatchResult c.in_ok-found.found (IsFound frame flags items) (λ error. or_else (unbound_use frame flags items) (too_large frame flags items) ≡ Some error) =
    where_there c.as_ref.result c.ok.result c.ok.ensures.value (c.as_ref.ensures.variant ∙ ap is_ok c.in_ok-bound.was) c.in_ok-found.ensures.found in
    let found : IsFound frame flags items c.in_ok-found-2.found = rw c.in_ok-found-2.was at told in
    assembled frame flags c.args.force items once found.all_bound found.short c.in_ok-check_reach.ensures.ok c.args.constants.now c.in_ok-code.code c.in_ok-code.ensures c.restores_halfwords.ensures c.in_ok-found.ensures.halfwords
    (fault_at_reach frame flags c.args.constants.now c.args.force items c.in_ok-found.ensures.fault once found.all_bound found.addressed ∙ c.in_ok-check_reach.ensures.ok)

pub returns-clause-restores : goal.returns-clause-restores
returns-clause-restores c inst = restored_exactly c.args.frame.now c.args.info.now c.args.constants.now inst

pub returns-in_err-found-clause-restores : goal.returns-in_err-found-clause-restores
returns-in_err-found-clause-restores c inst = restored_exactly c.args.frame.now c.args.info.now c.args.constants.now inst

pub returns-in_err-bound-clause-restores : goal.returns-in_err-bound-clause-restores
returns-in_err-bound-clause-restores c inst = restored_exactly c.args.frame.now c.args.info.now c.args.constants.now inst

pub returns-in_err-found-2-clause-restores : goal.returns-in_err-found-2-clause-restores
returns-in_err-found-2-clause-restores c inst = restored_exactly c.args.frame.now c.args.info.now c.args.constants.now inst

pub returns-in_err-check_reach-clause-restores : goal.returns-in_err-check_reach-clause-restores
returns-in_err-check_reach-clause-restores c inst = restored_exactly c.args.frame.now c.args.info.now c.args.constants.now inst

pub returns-in_err-code-clause-restores : goal.returns-in_err-code-clause-restores
returns-in_err-code-clause-restores c inst = restored_exactly c.args.frame.now c.args.info.now c.args.constants.now inst
