use Rattle.std.proofs.Common.{ℕ, ◌≡◌, ◌+◌, ◌*◌, Result, Ok, Err, arith, subst, sym}
use Rattle.std.specs.Prelude.{OnOk}
use Rattle.a64_buffer.proofs.Clients.{grown_bind}
use Rattle.a64_label_use.specs.LabelUses.{label_kinds}
use Rattle.a64_label_use.specs.LabelLaws.{label_kinds_lawful}
use Rattle.a64_stream.specs.Uses.{HasUses}
use Rattle.a64_stream.proofs.uses.add_uses.Goals as goal

-- what holds of an answer with a value
on_ok : {T E : Type 0} (r : Result T E) (P Q : Type 0) → (P → Q) → OnOk r P → OnOk r Q
on_ok (Ok x) P Q f p = f p
on_ok (Err e) P Q f p = p

pub add_use-requires-clause-uses : goal.add_use-requires-clause-uses
add_use-requires-clause-uses c = rw (c.in_ok-bind_label.ensures.ok)
    (grown_bind label_kinds label_kinds_lawful (4 * c.loop-number.number) (36 * c.loop-number.number) (c.args.count + 1) c.loop-number.number c.loop-number.buffer c.loop-number.invariant)

pub returns : goal.returns
returns c =
    let all : c.loop-number.number ≡ c.args.count = omega arith in
    on_ok c.bind_label-2.result _ _
    (λ h. subst (HasUses c.args.count c.args.count (c.args.count + 1)) (sym h)
    (grown_bind label_kinds label_kinds_lawful (4 * c.args.count) (36 * c.args.count) (c.args.count + 1) c.args.count c.loop-number.buffer
    (subst (λ (n : ℕ). HasUses c.args.count n n c.loop-number.buffer) all c.loop-number.invariant)))
    c.bind_label-2.ensures.ok
