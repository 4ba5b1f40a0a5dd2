use Rattle.std.proofs.Common.{ℕ, ◌≡◌, Bool, true, ap, sym, ◌∙◌}
use Rattle.std.specs.Prelude.{◌&&◌, nat_lt}
use Rattle.std.specs.List.{list_any}
use Rattle.a64_link.specs.Units.{Relocation, is_call, room, near}
use Rattle.a64_link.proofs.Rooms.{same_above}
use Rattle.a64_link.proofs.checking.is_large.Goals as goal

pub returns : goal.returns
returns c =
    let some : list_any (λ (r : Relocation). is_call r.1) c.args.unit.now.relocs.items ≡ true =
    ap (list_any (λ (r : Relocation). is_call r.1)) (sym c.deref.ensures.value) ∙ sym c.has_call.ensures ∙ c.if-not-has_call.false
    in
    ap (λ (n : ℕ). nat_lt n c.room_of.result) c.from.ensures ∙ same_above c.room_of.result (room c.args.unit.now) c.room_of.ensures
    ∙ ap (λ (b : Bool). b && nat_lt near (room c.args.unit.now)) (sym some)
