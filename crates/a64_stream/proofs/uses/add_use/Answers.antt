use Rattle.std.proofs.Common.{ℕ, ◌≡◌, ◌+◌, ◌*◌, ◌++◌, ◌∷◌, [], Result, Ok, Err, arith, subst, sym, ◌∙◌}
use Rattle.std.specs.Prelude.{OnOk}
use Rattle.std.proofs.lemmas.Bool.{false≢true}
use Rattle.a64_buffer.specs.declared.site.Target.TheVariants.{Label}
use Rattle.a64_buffer.specs.Buffer.{Buffer, end_of, made_use}
use Rattle.a64_buffer.specs.Grown.{IsGrown}
use Rattle.a64_buffer.proofs.Clients.{made_room, use_fits, grown_use, grown_room}
use Rattle.a64_label_use.specs.declared.label_use.LabelUse.{LabelUse}
use Rattle.a64_label_use.specs.LabelUses.{label_kinds}
use Rattle.a64_label_use.specs.LabelLaws.{label_kinds_lawful}
use Rattle.a64_stream.specs.Uses.{HasUses}
use Rattle.a64_stream.proofs.uses.add_use.Goals as goal

-- what holds of an answer with a value
on_ok : {T E : Type 0} (r : Result T E) (P Q : Type 0) → (P → Q) → OnOk r P → OnOk r Q
on_ok (Ok x) P Q f p = f p
on_ok (Err e) P Q f p = p

pub use_label_at_offset-requires-clause-fits : goal.use_label_at_offset-requires-clause-fits
use_label_at_offset-requires-clause-fits c = rw (c.in_ok-put4.ensures.ok, c.cur_offset-offset.ensures.value)
    (use_fits label_kinds label_kinds_lawful c.make_room.new.buffer 0 c.branch-word.result.0 (Label c.destination.result) c.branch-word.result.1 c.cur_offset-offset.ensures.whole (omega arith) (made_room label_kinds 32 c.args.buffer.now c.make_room.new.buffer c.in_ok-make_room.ensures))

pub returns : goal.returns
returns c =
    let least : 4 * c.args.number + 4 ≡ 4 * (c.args.number + 1) = omega arith in
    let most : 36 * c.args.number + 4 + 32 ≡ 36 * (c.args.number + 1) = omega arith in
    let after : Buffer LabelUse = record c.make_room.new.buffer { words = c.make_room.new.buffer.words ++ c.branch-word.result.0 ∷ []; uses = c.make_room.new.buffer.uses ++ made_use label_kinds c.make_room.new.buffer.labels (end_of c.make_room.new.buffer) (Label c.destination.result) c.branch-word.result.1 ∷ [] } in
    on_ok c.use_label_at_offset.result _ _
    (λ h. subst (HasUses c.args.count (c.args.number + 1) (c.args.number + 1)) (sym (rw (c.in_ok-put4.ensures.ok, c.cur_offset-offset.ensures.value) at h))
    (subst (λ (l : ℕ). IsGrown label_kinds l (36 * (c.args.number + 1)) (c.args.count + 1) (c.args.number + 1) after) least
    (subst (λ (m : ℕ). IsGrown label_kinds (4 * c.args.number + 4) m (c.args.count + 1) (c.args.number + 1) after) most
    (grown_use label_kinds label_kinds_lawful (4 * c.args.number) (36 * c.args.number + 4) (c.args.count + 1) (c.args.number + 1) c.branch-word.result.0 (Label c.destination.result) c.branch-word.result.1 (end_of c.make_room.new.buffer) c.make_room.new.buffer
    (omega (arith, c.destination.ensures.last), λ v. absurd (false≢true (sym v ∙ c.branch-word.ensures)))
    (grown_room label_kinds label_kinds_lawful 32 (4 * c.args.number) (36 * c.args.number) (c.args.count + 1) (c.args.number + 1) c.args.buffer.now c.make_room.new.buffer c.in_ok-make_room.ensures c.requires.uses)))))
    c.use_label_at_offset.ensures.ok
