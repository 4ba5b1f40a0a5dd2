use Rattle.std.proofs.Common.{option_map, sym, ◌∙◌, ap}
use Rattle.a64_base.specs.declared.entity.MachLabel.{MachLabel}
use Rattle.a64_buffer.proofs.Unbound.{bound_of, none_from_is_some}
use Rattle.a64_buffer.proofs.parts.Parts.unbound_label.Goals as goal

pub returns-then-contains : goal.returns-then-contains
returns-then-contains g c = bound_of _ c.args.site.now c.in_ok-label.label.0 (sym c.target_label.ensures ∙ ap (option_map (λ (l : MachLabel). l.0)) c.in_ok-label.was) (sym c.contains.ensures ∙ c.if-contains.true)

pub returns-else-contains : goal.returns-else-contains
returns-else-contains g c = (
  sym c.target_label.ensures ∙ ap (option_map (λ (l : MachLabel). l.0)) c.in_ok-label.was,
  none_from_is_some _ (sym c.contains.ensures ∙ c.if-contains.false),
)
