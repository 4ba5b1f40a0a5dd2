use Rattle.std.proofs.Common.{◌≡◌, Bool, true, sym, subst, ◌∙◌}
use Rattle.std.proofs.lemmas.Bool.{false≢true}
use Rattle.a64_text.specs.AddsLine.{AddsMade, AddsNamed, RestoresLast}
use Rattle.a64_text.specs.Names.{names_inst}
use Rattle.a64_text.proofs.Adds.{all_ok}
use Rattle.a64_text.proofs.Restores.{named_restored, none_made}
use Rattle.a64_text.proofs.read.add_named.Goals as goal
use Rattle.a64_text.proofs.read.add_named.Goals.{else-restored-via-then-restored+else-not-is_inst_name, else-restored-via-else-restored}

pub returns-then-not-branch : goal.returns-then-not-branch
returns-then-not-branch c = none_made c.args.name c.args.values.now c.args.state.now c.add_made.new.state c.args.restored c.in_ok-add_made.field-0 c.if-not-branch.true c.in_ok-add_made.ensures

pub returns-then-restored-2 : goal.returns-then-restored-2
returns-then-restored-2 c =
    let old = c.args.state.now in
    let mid = c.add_made.new.state in
    let new = c.restore_last.new.state in
    let made : AddsMade c.args.name c.args.values.now old mid true = subst (λ (b : Bool). AddsMade c.args.name c.args.values.now old mid b) c.if-not-branch.false c.in_ok-add_made.ensures in
    let named : names_inst c.args.name ≡ true =
    elim c.else-restored.branch [
      | else-restored-via-then-restored+else-not-is_inst_name w ↦ sym w.is_inst_name.ensures ∙ w.if-not-is_inst_name.false
      | else-restored-via-else-restored w ↦ absurd (false≢true (sym w.if-restored.false ∙ c.if-restored-2.true))
    ] in
    all_ok (λ (b : Bool). RestoresLast mid new b) (λ (b : Bool). AddsNamed c.args.restored c.args.name c.args.values.now old new b)
    (λ b last. named_restored c.args.name c.args.values.now old mid named c.requires made new c.args.restored b c.if-restored-2.true last)
    c.restore_last.result c.restore_last.ensures
