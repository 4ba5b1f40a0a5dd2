use Rattle.std.proofs.Common.{◌≡◌, ◌∙◌, ◌⊎◌, ◌^◌, ◌<◌, Result, Ok, Err, None, Some, inr, ap, sym, arith, option_map}
use Rattle.std.specs.Prelude.{⊤, MatchResult}
use Rattle.std.proofs.lemmas.Bool.{not-true}
use Rattle.a64_emit.specs.declared.error.EmitError.TheVariants.{OutOfMemory, OutOfReach}
use Rattle.a64_emit.specs.Bounds.{whole}
use Rattle.a64_emit.specs.Reach.{out_of_reach}
use Rattle.a64_assemble.proofs.FarUses.{far_none, far_small}
use Rattle.a64_assemble.proofs.reach.check_reach.Goals.{then-not-found-via-then-not-found, then-not-found-via-else-not-found+then-found-le-NEAR_RANGE}
use Rattle.a64_assemble.proofs.reach.check_reach.Goals as goal

weaker : {T E : Type 0} (r : Result T E) (P P' : T → Type 0) (Q Q' : E → Type 0) → ((x : T) → P x → P' x) → ((e : E) → Q e → Q' e) → MatchResult r P Q → MatchResult r P' Q'
weaker (Ok x) P P' Q Q' p q h = p x h
weaker (Err e) P P' Q Q' p q h = q e h

pub returns-then-not-found-clause-ok : goal.returns-then-not-found-clause-ok
returns-then-not-found-clause-ok c =
    let frame = c.args.frame.now in
    let flags = c.args.info.now in
    let items = c.args.items.now in
    ap (option_map OutOfReach) (elim c.then-not-found.branch [
      | then-not-found-via-then-not-found w ↦ far_none frame flags c.args.force items items 0 (sym c.requires.found.near_is ∙ not-true c.args.found.near w.if-not-found.true)
      | then-not-found-via-else-not-found+then-found-le-NEAR_RANGE w ↦
          let small : whole frame flags items < 2 ^ 20 = omega (arith, c.requires.found.size_is, w.if-found-le-NEAR_RANGE.true) in
          far_small frame flags c.args.force items small items 0
    ])

pub returns-clause-ok : goal.returns-clause-ok
returns-clause-ok c =
    let reach = out_of_reach c.args.frame.now c.args.info.now c.args.force c.args.items.now in
    let quiet = c.is_quiet-quiet.ensures c.args.frame.now c.args.info.now c.args.items.now c.requires.found in
    weaker c.check_uses.result (λ _. reach ≡ None) (λ _. reach ≡ None) (λ error. reach ≡ Some error) (λ _. ⊤) (λ _ e. e) (λ _ _. tt) (c.check_uses.ensures c.args.force quiet)

pub returns-clause-err : goal.returns-clause-err
returns-clause-err c =
    let reach = out_of_reach c.args.frame.now c.args.info.now c.args.force c.args.items.now in
    let quiet = c.is_quiet-quiet.ensures c.args.frame.now c.args.info.now c.args.items.now c.requires.found in
    weaker c.check_uses.result (λ _. reach ≡ None) (λ _. ⊤) (λ error. reach ≡ Some error) (λ error. (error ≡ OutOfMemory) ⊎ (reach ≡ Some error)) (λ _ _. tt) (λ error e. inr e) (c.check_uses.ensures c.args.force quiet)
