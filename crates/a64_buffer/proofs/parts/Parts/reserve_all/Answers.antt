use Rattle.std.proofs.Common.{◌≡◌, ◌+◌, ◌*◌, ◌≤◌, length, vec_capacity, ap, arith}
use Rattle.std.proofs.lemmas.List.{length-map}
use Rattle.a64_buffer.specs.declared.site.Use.{Use}
use Rattle.a64_buffer.specs.Buffer.{label_of}
use Rattle.a64_buffer.specs.Classes.{third, veneer_uses, trap_words, weight_of, burden}
use Rattle.a64_buffer.proofs.Memory.{few_uses, few_traps}
use Rattle.a64_buffer.proofs.parts.Parts.reserve_all.Goals as goal

pub returns-clause-ok : goal.returns-clause-ok
returns-clause-ok g c =
    let owed_is : c.args.self.now.burdens.third ≡ burden g.K.MachInstLabelUse.kinds third c.args.self.now.uses.items = c.requires.tracked.burdens.third_is in
    let uses_now = c.in_ok-reserve-2.ensures.items in
    let words : 4 * length c.reserve.new.self.items + burden g.K.MachInstLabelUse.kinds third c.reserve-2.new.self.items + 4 ≤ 4 * c.reserve.new.self.capacity = omega (arith, owed_is, c.in_ok-reserve.ensures.ok, ap length c.in_ok-reserve.ensures.items, ap (burden g.K.MachInstLabelUse.kinds third) uses_now) in
    let uses : length c.reserve-2.new.self.items + weight_of g.K.MachInstLabelUse.kinds veneer_uses c.reserve-2.new.self.items + 1 ≤ vec_capacity c.reserve-2.new.self = omega (arith, owed_is, c.in_ok-reserve-2.ensures.ok, c.in_ok-reserve-2.ensures.len, ap length uses_now, c.args.self.now.uses.ok.0, ap (weight_of g.K.MachInstLabelUse.kinds veneer_uses) uses_now, few_uses g.K.MachInstLabelUse.kinds c.args.self.now.uses.items) in
    let earlier : length c.reserve-2.new.self.items + weight_of g.K.MachInstLabelUse.kinds veneer_uses c.reserve-2.new.self.items + 1 ≤ vec_capacity c.reserve-3.new.self = omega (arith, owed_is, c.in_ok-reserve-3.ensures.ok, c.in_ok-reserve-3.ensures.len, c.args.self.now.earlier.ok.0, c.requires.tracked.chained.labels.same_length, length-map c.args.self.now.uses.items (λ (u : Use g.row.K.Denot). label_of u.target), ap length uses_now, ap (weight_of g.K.MachInstLabelUse.kinds veneer_uses) uses_now, few_uses g.K.MachInstLabelUse.kinds c.args.self.now.uses.items) in
    let traps : length c.reserve-4.new.self.items + weight_of g.K.MachInstLabelUse.kinds trap_words c.reserve-2.new.self.items ≤ vec_capacity c.reserve-4.new.self = omega (arith, owed_is, c.in_ok-reserve-4.ensures.ok, c.in_ok-reserve-4.ensures.len, ap length c.in_ok-reserve-4.ensures.items, c.args.self.now.traps.ok.0, ap (weight_of g.K.MachInstLabelUse.kinds trap_words) uses_now, few_traps g.K.MachInstLabelUse.kinds c.args.self.now.uses.items) in
    let islands : length c.reserve-5.new.self.items + 1 ≤ vec_capacity c.reserve-5.new.self = omega (arith, c.in_ok-reserve-5.ensures.ok, c.in_ok-reserve-5.ensures.len, ap length c.in_ok-reserve-5.ensures.items, c.args.self.now.islands.ok.0) in
    record { words = words; uses = uses; earlier = earlier; traps = traps; islands = islands }
