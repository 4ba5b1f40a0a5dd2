use Rattle.std.proofs.Common.{refl, sym, ◌∙◌, arith}
use Rattle.std.proofs.lemmas.Grind.{common_steps}
use Rattle.std.specs.String.{string_bytes}
use Rattle.a64_role_lines.proofs.Members.{after_member, after_none, at_end_first, at_end_other, from_first_on}
use Rattle.a64_role_lines.proofs.register.push_clobbers.Goals as goal
use Rattle.a64_role_lines.proofs.register.push_clobbers.Goals.{then-contains+in_ok-push_member, else-contains}

pub loop-place-init : goal.loop-place-init
loop-place-init c = rw from_first_on refl

pub loop-place-preserved : goal.loop-place-preserved
loop-place-preserved c =
    let has_it = rw c.nth_register-register.ensures at c.contains.ensures in
    elim c.if-contains.branch [
      | then-contains+in_ok-push_member w ↦
          rw (w.is_first-is, w.out-is) (after_member _ _ _ _ _ _ c.loop-place-test.true (sym has_it ∙ w.if-contains.true) (rw c.nth_register-register.ensures at w.in_ok-push_member.ensures) c.loop-place.invariant)
      | else-contains w ↦
          rw (w.is_first-is, w.out-is) (after_none _ _ _ _ _ c.loop-place-test.true (sym has_it ∙ w.if-contains.false) c.loop-place.invariant)
    ]

pub returns-then-is_first : goal.returns-then-is_first
returns-then-is_first c =
    let whole = at_end_first _ _ (string_bytes c.loop-place.out) _ c.loop-place-test.false (rw c.if-is_first.true at c.loop-place.invariant) in
    grind (arith, common_steps, whole)

pub returns-else-is_first : goal.returns-else-is_first
returns-else-is_first c =
    at_end_other _ _ _ _ c.loop-place-test.false (rw c.if-is_first.false at c.loop-place.invariant)
