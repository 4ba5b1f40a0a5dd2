use Rattle.std.proofs.Common.{ℕ, Bool, Option, refl, sym, ◌∙◌, subst}
use Rattle.a64_buffer.specs.declared.force.ForceVeneers.TheVariants.{No}
use Rattle.a64_emit.specs.Falls.{inst_falls}
use Rattle.a64_assemble.specs.Asks.{Asks, AsksNext}
use Rattle.a64_assemble.proofs.Stepped.{on_ok}
use Rattle.a64_assemble.proofs.putting.ask_behind.Goals as goal

pub ask-requires : goal.ask-requires
ask-requires c = record { short = c.requires.short (λ e. c.if-cur_offset-start.false (c.cur_offset.ensures.value ∙ sym e)) }

pub returns-then-cur_offset-start-clause-behind : goal.returns-then-cur_offset-start-clause-behind
returns-then-cur_offset-start-clause-behind c = λ moved. absurd (moved (sym c.if-cur_offset-start.true ∙ c.cur_offset.ensures.value))

pub returns-in-Some-clause-without : goal.returns-in-Some-clause-without
returns-in-Some-clause-without c =
    on_ok c.ask.result (λ asks e. absurd (c.if-cur_offset-start.false (c.cur_offset.ensures.value ∙ sym e))) c.ask.ensures

pub returns-in-Some-clause-behind : goal.returns-in-Some-clause-behind
returns-in-Some-clause-behind c =
    on_ok c.ask.result (λ asks moved. subst (λ (o : Option ℕ). AsksNext c.args.force (inst_falls c.args.inst.now) o c.args.buffer.now c.ask.new.buffer) (sym c.in-Some.is ∙ c.next_room.ensures)
    (subst (λ (jump : Bool). Asks c.in-Some.distance No c.args.force jump c.args.buffer.now c.ask.new.buffer) c.falls.ensures asks)) c.ask.ensures

pub returns-in-None-clause-behind : goal.returns-in-None-clause-behind
returns-in-None-clause-behind c = λ moved.
    subst (λ (o : Option ℕ). AsksNext c.args.force (inst_falls c.args.inst.now) o c.args.buffer.now c.args.buffer.now) (sym c.in-None.is ∙ c.next_room.ensures) refl
