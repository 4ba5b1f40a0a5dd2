-- What holds where a relocation is put.
use Rattle.std.proofs.Common.{ℕ, ◌≡◌, ◌+◌, ◌-◌, ◌*◌, ◌/◌, ◌%◌, ◌<◌, ◌≤◌, ◌^◌, cond, List, take, get_or, sym, ap, ◌∙◌, arith, Bool, true, false, Some, nat_cmp}
use Rattle.std.specs.Prelude.{◌&&◌, nat_lt}
use Rattle.std.specs.FinMap.{FinMap}
use Rattle.std.specs.List.{count_by}
use Rattle.std.proofs.lemmas.Bool.{ltb-false}
use Rattle.std.proofs.lemmas.List.Sums.{sum_by-take-le}
use Rattle.a64_buffer.specs.Kinds.{IsWithin}
use Rattle.a64_base.specs.declared.entity.ExternalName.{ExternalName}
use Rattle.a64_link.specs.declared.unit.Unit.{Unit}
use Rattle.a64_link.specs.declared.unit.Symbol.{Symbol}
use Rattle.a64_link.specs.Units.{Relocation, is_call, room, size, span, near, symbol_of}
use Rattle.a64_link.specs.Layout.{is_far, stands_far, IsUnit, thunk_of}
use Rattle.a64_link.specs.Linking.{IsReloc, IsSite, IsPlan, site_size}
use Rattle.a64_link.proofs.Rooms.{count_step}
use Rattle.a64_link.proofs.Places.{extent_in, symbol_in}
use Rattle.a64_link.proofs.Geometry.{unit_there, ends_small, start_whole, reaches}

module _ (units : List Unit) (base : ℕ) (sums : List ℕ) (symbols : FinMap nat_cmp Symbol) (starts : List ℕ) (p : IsPlan units sums symbols starts) where
  -- where a symbol stands
  pub record IsGoal (s : Symbol) : Type 0 where
    pub unit : Unit
    pub is : IsUnit units s.unit unit
    pub within : s.place < size unit
    pub small : get_or starts s.unit 0 + s.place < 2 ^ 31
    pub whole : (get_or starts s.unit 0 + s.place) % 4 ≡ 0

  pub goal : (name : ExternalName) (s : Symbol) → symbol_of units name ≡ Some s → IsGoal s
  goal name s e =
      let w = unit_there units s.unit (symbol_in units name s e) in
      let placed = p.linkable.placed name s e in
      let in_unit = placed.within w.0 w.1 in
      let small = ends_small units sums starts p.sums_are p.starts_are s.unit w.0 w.1 in
      let whole = start_whole units sums starts p.sums_are p.starts_are s.unit w.0 w.1 in
      record { unit = w.0; is = w.1; within = in_unit; small = omega (arith, small, in_unit); whole = omega (arith, whole, placed.aligned) }

  module _ (r : Relocation) (s : Symbol) (e : symbol_of units r.2 ≡ Some s) where
    pub far_is : (i : ℕ) → is_call r.1 ≡ true → is_far units i r ≡ nat_lt near (span units i s.unit)
    far_is i c = ap (λ (b : Bool). b && stands_far units i (symbol_of units r.2)) c ∙ ap (stands_far units i) e

  module _ (i : ℕ) (unit : Unit) (u : IsUnit units i unit) (k : ℕ) (r : Relocation) (q : IsReloc unit k r) where
    pub site : IsSite unit r
    site = (p.linkable.sites i unit u).sites k r q

    -- the site's place, and the words of the unit
    pub record IsHere : Type 0 where
      pub small : get_or starts i 0 + room unit < 2 ^ 31
      pub whole : get_or starts i 0 % 16 ≡ 0
      pub aligned : r.0 % 4 ≡ 0
      pub within : r.0 + site_size r ≤ size unit
      pub room_is : size unit + 20 * count_by (is_far units i) (take k unit.relocs.items) ≤ room unit

    pub here : IsHere
    here = record {
      small = ends_small units sums starts p.sums_are p.starts_are i unit u;
      whole = start_whole units sums starts p.sums_are p.starts_are i unit u;
      aligned = site.aligned;
      within = site.within;
      room_is = omega (arith, extent_in units i unit, sum_by-take-le (λ x. cond (is_far units i x) 1 0) unit.relocs.items k);
    }

    -- a far call has room for its thunk
    pub thunk_room : is_far units i r ≡ true → size unit + 20 * count_by (is_far units i) (take k unit.relocs.items) + 20 ≤ room unit
    thunk_room far = omega (
      arith,
      extent_in units i unit,
      sum_by-take-le (λ x. cond (is_far units i x) 1 0) unit.relocs.items (k + 1),
      count_step (is_far units i) unit.relocs.items k r true q.within (ap (is_far units i) (q.is r) ∙ far),
    )

    -- a call that is not far reaches its goal
    pub near_reaches : (s : Symbol) → symbol_of units r.2 ≡ Some s → is_call r.1 ≡ true → is_far units i r ≡ false
        → IsWithin (2 ^ 27 - 1) (2 ^ 27) (get_or starts i 0 + r.0) (get_or starts s.unit 0 + s.place)
    near_reaches s e c f =
        let g = goal r.2 s e in
        let le : span units i s.unit ≤ near = ltb-false near (span units i s.unit) (sym (far_is r s e i c) ∙ f) in
        reaches units sums starts p.sums_are p.starts_are i s.unit r.0 s.place unit g.unit u g.is (omega (arith, site.within, ap {B = ℕ} (λ (b : Bool). cond b 4 8) c)) g.within le

    -- a call reaches its thunk
    pub thunk_reaches : is_call r.1 ≡ true → is_far units i r ≡ true → IsWithin (2 ^ 27 - 1) (2 ^ 27) (get_or starts i 0 + r.0) (thunk_of units starts i unit k)
    thunk_reaches c f =
        let reach = (p.linkable.sites i unit u).near k r q c in
        let room_ = thunk_room f in
        let h = here in
        record { ahead = omega (arith, reach, room_); behind = omega (arith, h.within) }

    -- where the site stands among words whose next thunk would be that of the relocation
    pub at_site : (n : ℕ) → 4 * n ≡ thunk_of units starts i unit k → (get_or starts i 0 + r.0) / 4 < n
    at_site n behind = omega (arith, here.within, one_size (is_call r.1))
      where
        one_size : (b : Bool) → 4 ≤ cond b 4 8
        one_size true = omega arith
        one_size false = omega arith

    pub at_address : (n : ℕ) → is_call r.1 ≡ false → 4 * n ≡ thunk_of units starts i unit k → (get_or starts i 0 + r.0) / 4 + 1 < n
    at_address n c behind = omega (arith, here.within, ap {B = ℕ} (λ (b : Bool). cond b 4 8) c, here.aligned, here.whole)

    pub thunk_fits : (n : ℕ) → is_far units i r ≡ true → 4 * n ≡ thunk_of units starts i unit k → 4 * n + 20 ≤ 2 ^ 31
    thunk_fits n far behind = omega (arith, here.small, thunk_room far, behind)
