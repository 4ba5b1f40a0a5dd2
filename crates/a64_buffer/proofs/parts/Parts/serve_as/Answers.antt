use Rattle.std.proofs.Common.{rules, ◌≡◌, ◌+◌, ◌<◌, ◌≤◌, true, ◌++◌, ◌∷◌, [], List, length, refl, sym, ◌∙◌, ap, subst, arith, get_or, take}
use Rattle.std.proofs.lemmas.List.{take_all, length-take-le, length_push, get_or_push}
use Rattle.a64_buffer.specs.declared.site.Use.{Use}
use Rattle.std.specs.BinaryHeap.{heap_len, heap_capacity}
use Rattle.a64_buffer.specs.declared.class.Class.TheVariants.{Far}
use Rattle.a64_buffer.specs.Classes.{rank_of, veneer_uses, weight_of, class, is_open}
use Rattle.a64_buffer.specs.Queues.{LoseRoom, IsLimit, AllHold, AllLimits}
use Rattle.a64_buffer.specs.Sound.{seen}
use Rattle.a64_buffer.specs.Space.{IsTracked}
use Rattle.a64_buffer.specs.Steps.{AddsUse}
use Rattle.a64_buffer.proofs.Queued.{island_hold, island_limit}
use Rattle.a64_buffer.proofs.Writing.{ready_wants}
use Rattle.a64_buffer.proofs.parts.Parts.serve_as.Goals as goal

-- one use more
added_count : {K : Type 0} (us us' : List (Use K)) (u : Use K) → length us ≤ length us' → AddsUse us us' u → length us' ≡ length us + 1
added_count us us' u le e = omega (arith, ap length e, length_push (take (length us) us') u, length-take-le (length us) us' le)

pub settle_class-requires-clause-from : goal.settle_class-requires-clause-from
settle_class-requires-clause-from g c = omega (arith, c.len-from.ensures, c.args.self.now.uses.ok.0, c.give-added.ensures.gives.given.part.later.count)

pub settle_class-requires-clause-wants : goal.settle_class-requires-clause-wants
settle_class-requires-clause-wants g c = ready_wants g.K.MachInstLabelUse.kinds g.met.K.MachInstLabelUse.lawful c.args.self.now c.args.index c.requires.ready c.args.class c.requires.class

pub settle_class-requires-clause-hold : goal.settle_class-requires-clause-hold
settle_class-requires-clause-hold g c =
    island_hold g.K.MachInstLabelUse.kinds (seen c.args.self.now) (seen c.give-added.new.self) c.give-added.new.self.uses.items c.len-from.result c.args.self.now.queues c.args.self.now.queues c.give-added.new.self.queues c.requires.kept.hold
    (λ rank q. record { limit = refl; first = refl; most = refl; next = refl; entries' = refl })
    c.give-added.ensures.keeps.queues c.give-added.ensures.gives.given.part.later refl (omega (arith, c.len-from.ensures, c.args.self.now.uses.ok.0))

pub settle_class-requires-clause-limits : goal.settle_class-requires-clause-limits
settle_class-requires-clause-limits g c =
    let given = c.give-added.ensures.gives.given in
    λ rank q l other.
    subst (λ qs. IsLimit g.K.MachInstLabelUse.kinds rank (take c.len-from.result c.give-added.new.self.uses.items) (get_or qs rank q).limit (get_or qs rank q).first) (sym c.give-added.ensures.keeps.queues)
    (island_limit g.K.MachInstLabelUse.kinds (seen c.args.self.now) (seen c.give-added.new.self) c.give-added.new.self.uses.items rank c.len-from.result _ _ given.part.later refl (omega (arith, c.len-from.ensures, c.args.self.now.uses.ok.0))
    (λ k d w e. given.spared k d w (λ z. other (ap rank_of (sym z) ∙ e)))
    (c.requires.kept.limits rank q l))

-- the use that is added last
added_last : {K : Type 0} (us us' : List (Use K)) (u d : Use K) → length us ≤ length us' → AddsUse us us' u → get_or us' (length us) d ≡ u
added_last us us' u d le e = ap (λ vs. get_or vs (length us) d) e ∙ get_or_push (take (length us) us') u d (length us) (length-take-le (length us) us' le)

-- a use that an island adds waits in the queue of the longest range
pub queue_use-requires-clause-room : goal.queue_use-requires-clause-room
queue_use-requires-clause-room g c = λ q w less.
    let given = c.give-added.ensures.gives.given in
    let old = c.args.self.now.uses.items in
    let count = added_count old c.give-added.new.self.uses.items c.in-Some.site given.part.later.count c.in-Some.ensures.added in
    let last = added_last old c.give-added.new.self.uses.items c.in-Some.site c.in-Some.site given.part.later.count c.in-Some.ensures.added in
    let opened : is_open g.K.MachInstLabelUse.kinds c.in-Some.site ≡ true = c.waiting_class.ensures.open' ∙ w in
    let far : c.waiting_class.result ≡ Far = sym (c.waiting_class.ensures.is w) ∙ (ap (class g.K.MachInstLabelUse.kinds) (sym last) ∙ given.fars (length old) c.in-Some.site (omega arith) (omega (arith, count)) (ap (is_open g.K.MachInstLabelUse.kinds) last ∙ opened)) in
    let lost : LoseRoom 0 c.args.self.now.queues c.settle_class.new.self.queues = subst (λ qs. LoseRoom 0 qs c.settle_class.new.self.queues) c.give-added.ensures.keeps.queues c.settle_class.ensures.room in
    subst (λ k. heap_len (get_or c.settle_class.new.self.queues (rank_of k) q).strays < heap_capacity (get_or c.settle_class.new.self.queues (rank_of k) q).strays) (sym far)
    (omega (arith, c.requires.kept.queued q, lost 4 q (omega arith), given.uses, count))

pub returns-in-Some-clause-keeps : goal.returns-in-Some-clause-keeps
returns-in-Some-clause-keeps g c =
    let given = c.give-added.ensures.gives.given in
    let at : c.len-from.result ≡ length c.args.self.now.uses.items = omega (arith, c.len-from.ensures, c.args.self.now.uses.ok.0) in
    let whole : take c.len-from.result c.give-added.new.self.uses.items ++ c.in-Some.site ∷ [] ≡ c.settle_class.new.self.uses.items = ap (λ n. take n c.give-added.new.self.uses.items ++ c.in-Some.site ∷ []) at ∙ sym c.in-Some.ensures.added ∙ sym (ap (λ p. p.uses.items) c.settle_class.ensures.rest) in
    let front : length (take c.len-from.result c.give-added.new.self.uses.items) ≡ c.len-from.result = length-take-le c.len-from.result c.give-added.new.self.uses.items (omega (arith, at, given.part.later.count)) in
    let lost : LoseRoom 0 c.args.self.now.queues c.settle_class.new.self.queues = subst (λ qs. LoseRoom 0 qs c.settle_class.new.self.queues) c.give-added.ensures.keeps.queues c.settle_class.ensures.room in
    record {
      kept = record {
        tracked = subst (IsTracked g.K.MachInstLabelUse.kinds) (sym c.settle_class.ensures.rest) c.give-added.ensures.keeps.tracked;
        hold = subst (λ us. AllHold g.K.MachInstLabelUse.kinds us c.queue_use.new.queues) whole (c.queue_use.ensures.hold _ front c.settle_class.ensures.hold);
        limits = subst (λ us. AllLimits g.K.MachInstLabelUse.kinds us c.queue_use.new.queues) whole (c.queue_use.ensures.limits _ front c.settle_class.ensures.limits);
        queued = λ q. omega (arith, c.requires.kept.queued q, lost 4 q (omega arith), c.queue_use.ensures.room 4 q (omega arith), given.uses, added_count c.args.self.now.uses.items c.give-added.new.self.uses.items c.in-Some.site given.part.later.count c.in-Some.ensures.added, ap (λ p. weight_of g.K.MachInstLabelUse.kinds veneer_uses p.uses.items) c.settle_class.ensures.rest);
      };
      room = search rules;
    }

pub returns-in_default-clause-keeps : goal.returns-in_default-clause-keeps
returns-in_default-clause-keeps g c =
    let whole : take c.len-from.result c.give-added.new.self.uses.items ≡ c.settle_class.new.self.uses.items = take_all c.len-from.result c.give-added.new.self.uses.items (omega (arith, c.len-from.ensures, c.args.self.now.uses.ok.0, c.in_default.ensures.added)) ∙ sym (ap (λ p. p.uses.items) c.settle_class.ensures.rest) in
    record {
      kept = record {
        tracked = subst (IsTracked g.K.MachInstLabelUse.kinds) (sym c.settle_class.ensures.rest) c.give-added.ensures.keeps.tracked;
        hold = subst (λ us. AllHold g.K.MachInstLabelUse.kinds us c.settle_class.new.self.queues) whole c.settle_class.ensures.hold;
        limits = subst (λ us. AllLimits g.K.MachInstLabelUse.kinds us c.settle_class.new.self.queues) whole c.settle_class.ensures.limits;
        queued = search rules;
      };
      room = search rules;
    }
