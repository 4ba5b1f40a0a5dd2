use Rattle.std.proofs.Common.{ℕ, ℤ, pos, ◌+ℤ◌, to_z, of_z, w64, ◌≡◌, ◌+◌, ◌-◌, ◌*◌, ◌/◌, ◌^◌, ◌<◌, get_or, Some, true, false, List, length, sym, ap, subst, ◌∙◌, arith, rules}
use Rattle.std.proofs.lemmas.Int.{ints}
use Rattle.std.proofs.lemmas.List.{with_items_is}
use Rattle.a64_imms.specs.Offsets.{residue}
use Rattle.a64_link.specs.Units.{is_call, symbol_of}
use Rattle.a64_link.specs.Layout.{is_far, start_of, goal_of, thunk_of}
use Rattle.a64_buffer.specs.Kinds.{IsWithin}
use Rattle.a64_link.specs.Linking.{IsPut, IsAddressPut, IsLed, address_of}
use Rattle.a64_link.proofs.Stands.{put_length}
use Rattle.a64_link.proofs.Ready.{goal, here, at_site, at_address, thunk_fits, near_reaches, thunk_reaches}
use Rattle.a64_link.proofs.Puts.{as_address, as_far}
use Rattle.a64_link.proofs.linking.put_reloc.Goals as goal'

pub unreachable-requires : goal'.unreachable-requires
unreachable-requires c =
    let p = c.requires.plan in
    let w = (p.linkable.sites c.args.i c.args.unit.now c.requires.unit).known c.args.k c.args.reloc.now c.requires.reloc in
    c.in_default.not-Some w.0 (c.get.ensures ∙ p.symbols_are c.args.reloc.now.2 ∙ w.1)

pub bounds-plan-symbol : goal'.bounds-plan-symbol
bounds-plan-symbol c =
    let p = c.requires.plan in
    let e : symbol_of c.args.plan.now.units.now c.args.reloc.now.2 ≡ Some c.in-Some.symbol = sym (p.symbols_are c.args.reloc.now.2) ∙ sym c.get.ensures ∙ c.in-Some.is in
    let g = goal c.args.plan.now.units.now c.args.plan.now.base c.args.plan.now.sums.now c.args.plan.now.symbols.now c.args.plan.now.starts.now p c.args.reloc.now.2 c.in-Some.symbol e in
    omega (arith, g.is.within, p.starts_are.count)

pub offset_bounds-plan-symbol : goal'.offset_bounds-plan-symbol
offset_bounds-plan-symbol c =
    let p = c.requires.plan in
    let e : symbol_of c.args.plan.now.units.now c.args.reloc.now.2 ≡ Some c.in-Some.symbol = sym (p.symbols_are c.args.reloc.now.2) ∙ sym c.get.ensures ∙ c.in-Some.is in
    let g = goal c.args.plan.now.units.now c.args.plan.now.base c.args.plan.now.sums.now c.args.plan.now.symbols.now c.args.plan.now.starts.now p c.args.reloc.now.2 c.in-Some.symbol e in
    let lt : c.in-Some.symbol.unit < length c.args.plan.now.starts.now = omega (arith, g.is.within, p.starts_are.count) in
    search rules

pub overflow_add-goal : goal'.overflow_add-goal
overflow_add-goal c =
    let p = c.requires.plan in
    let e : symbol_of c.args.plan.now.units.now c.args.reloc.now.2 ≡ Some c.in-Some.symbol = sym (p.symbols_are c.args.reloc.now.2) ∙ sym c.get.ensures ∙ c.in-Some.is in
    omega (arith, (goal c.args.plan.now.units.now c.args.plan.now.base c.args.plan.now.sums.now c.args.plan.now.symbols.now c.args.plan.now.starts.now p c.args.reloc.now.2 c.in-Some.symbol e).small)

pub overflow_add-place : goal'.overflow_add-place
overflow_add-place c =
    let h = here c.args.plan.now.units.now c.args.plan.now.base c.args.plan.now.sums.now c.args.plan.now.symbols.now c.args.plan.now.starts.now c.requires.plan c.args.i c.args.unit.now c.requires.unit c.args.k c.args.reloc.now c.requires.reloc in
    omega (arith, h.small, h.within, h.room_is)

pub put_address-requires : goal'.put_address-requires
put_address-requires c =
    let no : is_call c.args.reloc.now.1 ≡ false = sym c.is_call.ensures ∙ c.if-not-is_call.true in
    let at = at_address c.args.plan.now.units.now c.args.plan.now.base c.args.plan.now.sums.now c.args.plan.now.symbols.now c.args.plan.now.starts.now c.requires.plan c.args.i c.args.unit.now c.requires.unit c.args.k c.args.reloc.now c.requires.reloc (length c.args.words.now.items) no c.requires.behind in
    omega (arith, at, ap length c.deref_mut.ensures.value)

pub returns-then-not-is_call : goal'.returns-then-not-is_call
returns-then-not-is_call c =
    let p = c.requires.plan in
    let e : symbol_of c.args.plan.now.units.now c.args.reloc.now.2 ≡ Some c.in-Some.symbol = sym (p.symbols_are c.args.reloc.now.2) ∙ sym c.get.ensures ∙ c.in-Some.is in
    let no : is_call c.args.reloc.now.1 ≡ false = sym c.is_call.ensures ∙ c.if-not-is_call.true in
    let at : ℕ = (start_of c.args.plan.now.starts.now c.args.i + c.args.reloc.now.0) / 4 in
    let back : to_z w64 (of_z w64 c.args.reloc.now.3) ≡ c.args.reloc.now.3 = omega (arith, ints, c.fits-reloc) in
    let long : length c.put_address.new.words ≡ c.args.words.now.len = omega (arith, c.put_address.auto.words, c.deref_mut.ensures.len) in
    let h1 : IsAddressPut c.args.words.now.items c.put_address.new.words at c.address.result =
    subst (λ (ws : List ℕ). IsAddressPut ws c.put_address.new.words at c.address.result) c.deref_mut.ensures.value c.put_address.ensures
    in
    let h2 : IsAddressPut c.args.words.now.items c.put_address.new.words at (address_of c.args.plan.now.units.now c.args.plan.now.base c.args.plan.now.starts.now c.args.reloc.now c.in-Some.symbol) =
    subst (λ (v : ℕ). IsAddressPut c.args.words.now.items c.put_address.new.words at v) (c.address.ensures ∙ ap (λ (z : ℤ). residue (2 ^ 64) (pos (c.args.plan.now.base + goal_of c.args.plan.now.starts.now c.in-Some.symbol) +ℤ z)) back) h1
    in
    subst (λ (ws : List ℕ). IsPut c.args.plan.now.units.now c.args.plan.now.base c.args.plan.now.starts.now c.args.i c.args.reloc.now c.args.words.now.items ws) (sym (with_items_is c.args.words.now c.put_address.new.words long))
    (record { symbol = c.in-Some.symbol; known = e; put = as_address c.args.plan.now.units.now c.args.plan.now.base c.args.plan.now.starts.now c.args.i c.args.reloc.now c.in-Some.symbol c.args.words.now.items c.put_address.new.words no h2 })

pub overflow_cast-thunk : goal'.overflow_cast-thunk
overflow_cast-thunk c =
    let far : is_far c.args.plan.now.units.now c.args.i c.args.reloc.now ≡ true = sym c.is_far.ensures ∙ c.if-is_far.true in
    omega (arith, thunk_fits c.args.plan.now.units.now c.args.plan.now.base c.args.plan.now.sums.now c.args.plan.now.symbols.now c.args.plan.now.starts.now c.requires.plan c.args.i c.args.unit.now c.requires.unit c.args.k c.args.reloc.now c.requires.reloc (length c.args.words.now.items) far c.requires.behind, c.len.ensures, c.args.words.now.ok.0)

pub overflow_mul-thunk : goal'.overflow_mul-thunk
overflow_mul-thunk c =
    let far : is_far c.args.plan.now.units.now c.args.i c.args.reloc.now ≡ true = sym c.is_far.ensures ∙ c.if-is_far.true in
    omega (arith, thunk_fits c.args.plan.now.units.now c.args.plan.now.base c.args.plan.now.sums.now c.args.plan.now.symbols.now c.args.plan.now.starts.now c.requires.plan c.args.i c.args.unit.now c.requires.unit c.args.k c.args.reloc.now c.requires.reloc (length c.args.words.now.items) far c.requires.behind, c.len.ensures, c.args.words.now.ok.0)

pub put_thunk-requires-clause-room : goal'.put_thunk-requires-clause-room
put_thunk-requires-clause-room c =
    let far : is_far c.args.plan.now.units.now c.args.i c.args.reloc.now ≡ true = sym c.is_far.ensures ∙ c.if-is_far.true in
    thunk_fits c.args.plan.now.units.now c.args.plan.now.base c.args.plan.now.sums.now c.args.plan.now.symbols.now c.args.plan.now.starts.now c.requires.plan c.args.i c.args.unit.now c.requires.unit c.args.k c.args.reloc.now c.requires.reloc (length c.args.words.now.items) far c.requires.behind

pub put_thunk-requires-clause-goal : goal'.put_thunk-requires-clause-goal
put_thunk-requires-clause-goal c =
    let p = c.requires.plan in
    let e : symbol_of c.args.plan.now.units.now c.args.reloc.now.2 ≡ Some c.in-Some.symbol = sym (p.symbols_are c.args.reloc.now.2) ∙ sym c.get.ensures ∙ c.in-Some.is in
    omega (arith, (goal c.args.plan.now.units.now c.args.plan.now.base c.args.plan.now.sums.now c.args.plan.now.symbols.now c.args.plan.now.starts.now p c.args.reloc.now.2 c.in-Some.symbol e).small)

pub lead-requires-clause-at : goal'.lead-requires-clause-at
lead-requires-clause-at c =
    omega (arith, at_site c.args.plan.now.units.now c.args.plan.now.base c.args.plan.now.sums.now c.args.plan.now.symbols.now c.args.plan.now.starts.now c.requires.plan c.args.i c.args.unit.now c.requires.unit c.args.k c.args.reloc.now c.requires.reloc (length c.args.words.now.items) c.requires.behind, ap length c.deref_mut-then-is_far.ensures.value, put_length c.args.words.now.items c.put_thunk.new.words.items _ c.in_ok-put_thunk.ensures)

pub lead-requires-clause-aligned : goal'.lead-requires-clause-aligned
lead-requires-clause-aligned c =
    let h = here c.args.plan.now.units.now c.args.plan.now.base c.args.plan.now.sums.now c.args.plan.now.symbols.now c.args.plan.now.starts.now c.requires.plan c.args.i c.args.unit.now c.requires.unit c.args.k c.args.reloc.now c.requires.reloc in
    omega (arith, h.aligned, h.whole)

pub lead-requires-clause-within : goal'.lead-requires-clause-within
lead-requires-clause-within c =
    let far : is_far c.args.plan.now.units.now c.args.i c.args.reloc.now ≡ true = sym c.is_far.ensures ∙ c.if-is_far.true in
    let call : is_call c.args.reloc.now.1 ≡ true = sym c.is_call.ensures ∙ c.if-not-is_call.false in
    let same : thunk_of c.args.plan.now.units.now c.args.plan.now.starts.now c.args.i c.args.unit.now c.args.k ≡ 4 * c.len.result = omega (arith, c.requires.behind, c.len.ensures, c.args.words.now.ok.0) in
    subst (λ (t : ℕ). IsWithin (2 ^ 27 - 1) (2 ^ 27) (get_or c.args.plan.now.starts.now c.args.i 0 + c.args.reloc.now.0) t) same (thunk_reaches c.args.plan.now.units.now c.args.plan.now.base c.args.plan.now.sums.now c.args.plan.now.symbols.now c.args.plan.now.starts.now c.requires.plan c.args.i c.args.unit.now c.requires.unit c.args.k c.args.reloc.now c.requires.reloc call far)

pub returns-then-is_far : goal'.returns-then-is_far
returns-then-is_far c =
    let e : symbol_of c.args.plan.now.units.now c.args.reloc.now.2 ≡ Some c.in-Some.symbol = sym (c.requires.plan.symbols_are c.args.reloc.now.2) ∙ sym c.get.ensures ∙ c.in-Some.is in
    let far : is_far c.args.plan.now.units.now c.args.i c.args.reloc.now ≡ true = sym c.is_far.ensures ∙ c.if-is_far.true in
    let call : is_call c.args.reloc.now.1 ≡ true = sym c.is_call.ensures ∙ c.if-not-is_call.false in
    let place : ℕ = start_of c.args.plan.now.starts.now c.args.i + c.args.reloc.now.0 in
    let mid = c.put_thunk.new.words in
    let long : length c.lead.new.words ≡ c.put_thunk.new.words.len = omega (arith, c.lead.auto.words, c.deref_mut-then-is_far.ensures.len) in
    let same : 4 * c.len.result ≡ 4 * length c.args.words.now.items = omega (arith, c.len.ensures, c.args.words.now.ok.0) in
    let h1 : IsLed c.put_thunk.new.words.items c.lead.new.words (place / 4) place (4 * c.len.result) =
    subst (λ (ws : List ℕ). IsLed ws c.lead.new.words (place / 4) place (4 * c.len.result)) c.deref_mut-then-is_far.ensures.value c.lead.ensures
    in
    let h2 : IsLed c.put_thunk.new.words.items c.lead.new.words (place / 4) place (4 * length c.args.words.now.items) =
    subst (λ (t : ℕ). IsLed c.put_thunk.new.words.items c.lead.new.words (place / 4) place t) same h1
    in
    subst (λ (ws : List ℕ). IsPut c.args.plan.now.units.now c.args.plan.now.base c.args.plan.now.starts.now c.args.i c.args.reloc.now c.args.words.now.items ws) (sym (with_items_is c.put_thunk.new.words c.lead.new.words long))
    (record { symbol = c.in-Some.symbol; known = e; put = as_far c.args.plan.now.units.now c.args.plan.now.base c.args.plan.now.starts.now c.args.i c.args.reloc.now c.in-Some.symbol c.args.words.now.items c.lead.new.words call far (record { mid = c.put_thunk.new.words.items; put = c.in_ok-put_thunk.ensures; led = h2 }) })

pub lead-requires-2-clause-at : goal'.lead-requires-2-clause-at
lead-requires-2-clause-at c = omega (arith, at_site c.args.plan.now.units.now c.args.plan.now.base c.args.plan.now.sums.now c.args.plan.now.symbols.now c.args.plan.now.starts.now c.requires.plan c.args.i c.args.unit.now c.requires.unit c.args.k c.args.reloc.now c.requires.reloc (length c.args.words.now.items) c.requires.behind, ap length c.deref_mut-2.ensures.value)

pub lead-requires-2-clause-aligned : goal'.lead-requires-2-clause-aligned
lead-requires-2-clause-aligned c =
    let e : symbol_of c.args.plan.now.units.now c.args.reloc.now.2 ≡ Some c.in-Some.symbol = sym (c.requires.plan.symbols_are c.args.reloc.now.2) ∙ sym c.get.ensures ∙ c.in-Some.is in
    let h = here c.args.plan.now.units.now c.args.plan.now.base c.args.plan.now.sums.now c.args.plan.now.symbols.now c.args.plan.now.starts.now c.requires.plan c.args.i c.args.unit.now c.requires.unit c.args.k c.args.reloc.now c.requires.reloc in
    let g = goal c.args.plan.now.units.now c.args.plan.now.base c.args.plan.now.sums.now c.args.plan.now.symbols.now c.args.plan.now.starts.now c.requires.plan c.args.reloc.now.2 c.in-Some.symbol e in
    omega (arith, h.aligned, h.whole, g.whole)

pub lead-requires-2-clause-within : goal'.lead-requires-2-clause-within
lead-requires-2-clause-within c =
    let e : symbol_of c.args.plan.now.units.now c.args.reloc.now.2 ≡ Some c.in-Some.symbol = sym (c.requires.plan.symbols_are c.args.reloc.now.2) ∙ sym c.get.ensures ∙ c.in-Some.is in
    let near : is_far c.args.plan.now.units.now c.args.i c.args.reloc.now ≡ false = sym c.is_far.ensures ∙ c.if-is_far.false in
    let call : is_call c.args.reloc.now.1 ≡ true = sym c.is_call.ensures ∙ c.if-not-is_call.false in
    near_reaches c.args.plan.now.units.now c.args.plan.now.base c.args.plan.now.sums.now c.args.plan.now.symbols.now c.args.plan.now.starts.now c.requires.plan c.args.i c.args.unit.now c.requires.unit c.args.k c.args.reloc.now c.requires.reloc c.in-Some.symbol e call near
