use Rattle.std.proofs.Common.{List, subst}
use Rattle.a64_link.specs.declared.unit.Unit.{Unit}
use Rattle.a64_link.specs.Linked.{CallsArrive}
use Rattle.a64_run.proofs.linking.link_units.Goals as goal

pub returns-in-Ok-clause-calls : goal.returns-in-Ok-clause-calls
returns-in-Ok-clause-calls c = subst (λ (units : List Unit). CallsArrive units c.in-Ok.linked) c.deref.ensures.value c.in-Ok.ensures.calls
