-- What one element leaves: room for what follows, length, labels, and all that was there.
use Rattle.std.proofs.Common.{ℕ, zero, suc, ◌≡◌, ◌⊎◌, ◌+◌, ◌*◌, ◌<◌, ◌≤◌, true, List, [], ◌∷◌, ◌++◌, length, get_or, map, Option, None, Some, refl, sym, ap, ◌∙◌, subst, arith, inl, inr, Bool}
use Rattle.std.specs.Option.{unwrap_or}
use Rattle.std.specs.FinMap.{get, insert}
use Rattle.std.proofs.lemmas.Bool.{cases_eq}
use Rattle.std.proofs.lemmas.List.{append-nil, get_or_append_left, length-append}
use Rattle.a64_base.specs.declared.entity.TrapCode.{TrapCode}
use Rattle.a64_buffer.specs.declared.force.ForceVeneers.{ForceVeneers}
use Rattle.a64_buffer.specs.declared.force.ForceVeneers.TheVariants.{No}
use Rattle.a64_buffer.specs.Buffer.{Buffer, end_of}
use Rattle.a64_buffer.specs.Classes.{third, cost, burden, owed, Fits}
use Rattle.a64_buffer.specs.Later.{IsSameUse, HasMoreTraps, HasMoreRecords, IsLater}
use Rattle.a64_buffer.specs.Sound.{IsWhole}
use Rattle.a64_buffer.proofs.Laters.{same_use, later_none, later_trans}
use Rattle.a64_buffer.proofs.Rooms.{less_room}
use Rattle.a64_buffer.proofs.Sounds.{bind_weight, bind_room}
use Rattle.a64_buffer.proofs.Sounds as sounds
use Rattle.a64_label_use.specs.declared.label_use.LabelUse.{LabelUse}
use Rattle.a64_label_use.specs.LabelUses.{label_kinds}
use Rattle.a64_label_use.specs.LabelLaws.{label_kinds_lawful}
use Rattle.a64_cells.specs.Shapes.{Cell}
use Rattle.a64_cells.specs.Cells.{cell_word}
use Rattle.a64_emit.specs.Bounds.{ranges_in, size_of, charge_of}
use Rattle.a64_emit.specs.Layout.{placed, relocs_in, calls_in, patchable_in, maps_in, traps_in}
use Rattle.a64_emit.specs.Emission.{uses_from, appended, CellsFit, Binds}
use Rattle.a64_assemble.specs.Elements.{Element, Binding, Words, Asking, size_in, growth_in, hosts, add_more, words_room, next_room, room_of}
use Rattle.a64_assemble.specs.Asks.{Asks, AsksNext, PutsWords, Moves, MayMove}
use Rattle.a64_emit.proofs.Holding.{same_holding, no_more}
use Rattle.a64_assemble.proofs.Later.{new_from, longer}
use Rattle.a64_assemble.proofs.Marked.{between}
use Rattle.a64_emit.proofs.Putting.{put_burden, put_room}
use Rattle.a64_buffer.proofs.Islands.{front_short}
use Rattle.a64_assemble.proofs.Fronts.{island_ends, EndsAt}

-- ---- a put

-- without cells nothing changes
pub appended_none : (b : Buffer LabelUse) → appended b [] ≡ b
appended_none b = same_holding b _ _ _ _ _ _ _ _ (append-nil b.words) (append-nil b.uses) (append-nil b.traps) (no_more b.records)

module _ (b : Buffer LabelUse) (cells : List Cell) where
  -- and what was put fits
  pub put_fits : CellsFit b cells → Fits label_kinds (appended b cells) 0
  put_fits h = record { rooms = λ k d w o. let x = h.rooms k d w o in omega (arith, x, longer b cells) }

  pub put_owed : end_of (appended b cells) + owed label_kinds (appended b cells) ≤ end_of b + owed label_kinds b + size_of cells + 28 * length (ranges_in cells)
  put_owed = omega (arith, longer b cells, put_burden b cells third)

  -- the traps of cells
  later_traps : HasMoreTraps (end_of b) (end_of (appended b cells)) b.traps (b.traps ++ traps_in (placed (end_of b) cells))
  later_traps = record {
    more = traps_in (placed (end_of b) cells);
    are = refl;
    stand = record {
      behind = λ k d w. ((between (end_of b) cells).inside k d w).0;
      ahead = λ k d w. let i = (between (end_of b) cells).inside k d w in omega (arith, i.1, longer b cells);
      in_order = λ i j d lt w. rise i j d lt w;
    };
  }
    where
      rise : (i j : ℕ) (d : ℕ × TrapCode) → i < j → j < length (traps_in (placed (end_of b) cells)) → (get_or (traps_in (placed (end_of b) cells)) i d).0 ≤ (get_or (traps_in (placed (end_of b) cells)) j d).0
      rise i zero d lt w = absurd (omega arith)
      rise i (suc j) d lt w =
          let step = (between (end_of b) cells).rising j d (omega arith) in
          let e : j + 1 ≡ suc j = omega arith in
          let next = ap (λ n. (get_or (traps_in (placed (end_of b) cells)) n d).0) e in
          elim (cases_eq i j) [
            | inl same ↦ let at = ap (λ n. (get_or (traps_in (placed (end_of b) cells)) n d).0) same in omega (arith, step, next, at)
            | inr ne ↦ let x = rise i j d (omega arith) (omega arith) in omega (arith, x, step, next)
          ]

  -- and what else they record, behind what was recorded before
  later_records : HasMoreRecords b.records (appended b cells).records
  later_records = record {
    relocs = record { more = relocs_in (placed (end_of b) cells); are = refl };
    calls = record { more = calls_in (placed (end_of b) cells); are = refl };
    patchable = record { more = patchable_in (placed (end_of b) cells); are = refl };
    maps = record { more = maps_in (placed (end_of b) cells); are = refl };
  }

  pub put_later : IsLater b (appended b cells)
  put_later = record {
    end = omega (arith, longer b cells);
    words = λ i lt. get_or_append_left b.words (map cell_word cells) 0 i lt;
    count = omega (arith, length-append b.uses (uses_from b.labels (end_of b) cells));
    uses = λ k d lt. subst (IsSameUse (end_of b) (get_or b.uses k d)) (sym (get_or_append_left b.uses (uses_from b.labels (end_of b) cells) d k lt)) (same_use (end_of b) (get_or b.uses k d));
    fresh = λ k d low w. let from = new_from b cells k d low w in omega (arith, from.place_is);
    labels = λ l p e. e;
    constants = refl;
    traps = later_traps;
    records = later_records;
  }

-- ---- a binding

module _ (label : ℕ) (b b' : Buffer LabelUse) (whole : IsWhole label_kinds b) (unbound : get b.labels label ≡ None) (e : Binds (record { 0 = label }) b b') where
  pub bind_fits : (more : ℕ) → Fits label_kinds b more → Fits label_kinds b' more
  bind_fits more h = subst (λ c. Fits label_kinds c more) (sym e) (bind_room label_kinds label_kinds_lawful b whole label unbound more h)

  pub bind_later : IsLater b b'
  bind_later = subst (IsLater b) (sym e) (sounds.bind_later label_kinds label_kinds_lawful b whole label unbound)

pub bind_owed : (label : ℕ) (b b' : Buffer LabelUse) → Binds (record { 0 = label }) b b' → end_of b' + owed label_kinds b' ≤ end_of b + owed label_kinds b
bind_owed label b b' e = omega (arith, ap (λ (c : Buffer LabelUse). length c.words) e, ap (λ (c : Buffer LabelUse). burden label_kinds third c.uses) e, bind_weight label_kinds label (end_of b) (cost third) b.uses)

-- ---- asking

module _ {jump : Bool} (distance : ℕ) (asked force : ForceVeneers) (b b' : Buffer LabelUse) (a : Asks distance asked force jump b b') where
  pub ask_fits : Fits label_kinds b' distance
  ask_fits = elim a.outcome [ inl w ↦ w.island.fits | inr l ↦ subst (λ c. Fits label_kinds c distance) (sym l.same) l.fits ]

  pub ask_rooms : (more : ℕ) → Fits label_kinds b (more + 4) → Fits label_kinds b' more
  ask_rooms more h = elim a.outcome [ inl w ↦ w.island.rooms more h | inr l ↦ subst (λ c. Fits label_kinds c more) (sym l.same) (less_room label_kinds label_kinds_lawful (end_of b) b.uses (more + 4) more (omega arith) h) ]

  pub ask_owed : end_of b' + owed label_kinds b' ≤ end_of b + owed label_kinds b + 4
  ask_owed = elim a.outcome [ inl w ↦ omega (arith, w.island.owed, front_short label_kinds jump) | inr l ↦ subst (λ c. end_of c + owed label_kinds c ≤ end_of b + owed label_kinds b + 4) (sym l.same) (omega arith) ]

  pub ask_labels : b'.labels ≡ b.labels
  ask_labels = elim a.outcome [ inl w ↦ w.island.labels | inr l ↦ ap (λ c. c.labels) l.same ]

  pub ask_later : IsLater b b'
  ask_later = elim a.outcome [ inl w ↦ w.island.later | inr l ↦ subst (IsLater b) (sym l.same) (later_none b) ]

module _ (force : ForceVeneers) where
  -- ---- room for what follows

  -- cells that are none need no room, and others need their own
  own_room : (cells : List Cell) (o : Option ℕ) (b : Buffer LabelUse) → 1 ≤ length cells → Fits label_kinds b (unwrap_or (words_room cells o) 0) → Fits label_kinds b (size_of cells + 28 * length (ranges_in cells))
  own_room [] o b some h = absurd (omega arith)
  own_room (c ∷ cs) o b some h = h

  -- the conditions of words
  pub words_fit : {goes_on : Bool} (c : Cell) (cs : List Cell) (rest : List Element) (b : Buffer LabelUse) → MayMove (Words goes_on (c ∷ cs)) rest b → CellsFit b (c ∷ cs)
  words_fit c cs rest b may = put_room b (c ∷ cs) may.whole may.compact (omega arith) may.fits

  words_rooms : (goes_on : Bool) (cells : List Cell) (rest : List Element) (b b' : Buffer LabelUse) → MayMove (Words goes_on cells) rest b → PutsWords force goes_on cells rest b b' → Fits label_kinds b' (room_of rest)
  words_rooms goes_on [] rest b b' may p = subst (λ v. Fits label_kinds v (room_of rest)) (sym p) may.fits
  words_rooms goes_on (c ∷ cs) rest b b' may p = next (next_room rest) p
    where
      middle : Fits label_kinds (appended b (c ∷ cs)) 0
      middle = put_fits b (c ∷ cs) (words_fit c cs rest b may)

      next : (o : Option ℕ) → AsksNext force goes_on o (appended b (c ∷ cs)) b' → Fits label_kinds b' (unwrap_or o 0)
      next None e = subst (λ v. Fits label_kinds v 0) (sym e) middle
      next (Some x) a = ask_fits x No force (appended b (c ∷ cs)) b' a

  asked_rooms : (o : Option ℕ) (x : ℕ) (b b' : Buffer LabelUse) → Fits label_kinds b (unwrap_or (add_more 4 o) 0) → Asks x force force true b b' → Fits label_kinds b' (unwrap_or o 0)
  asked_rooms None x b b' h a = less_room label_kinds label_kinds_lawful (end_of b') b'.uses x 0 (omega arith) (ask_fits x force force b b' a)
  asked_rooms (Some n) x b b' h a = ask_rooms x force force b b' a n h

  pub move_rooms : (x : Element) (rest : List Element) (b b' : Buffer LabelUse) → MayMove x rest b → Moves force x rest b b' → Fits label_kinds b' (room_of rest)
  move_rooms (Binding label) rest b b' may p = bind_fits label b b' may.whole may.unbound p (room_of rest) may.fits
  move_rooms (Words goes_on cells) rest b b' may p = words_rooms goes_on cells rest b b' may p
  move_rooms (Asking space) rest b b' may p = asked_rooms (next_room rest) space b b' may.fits p

  -- ---- length

  words_owed : (goes_on : Bool) (cells : List Cell) (rest : List Element) (b b' : Buffer LabelUse) → PutsWords force goes_on cells rest b b' → end_of b' + owed label_kinds b' ≤ end_of b + owed label_kinds b + size_of cells + charge_of cells
  words_owed goes_on [] rest b b' p = subst (λ v. end_of v + owed label_kinds v ≤ end_of b + owed label_kinds b + 0 + 0) (sym p) (omega arith)
  words_owed goes_on (c ∷ cs) rest b b' p = next (next_room rest) p
    where
      next : (o : Option ℕ) → AsksNext force goes_on o (appended b (c ∷ cs)) b' → end_of b' + owed label_kinds b' ≤ end_of b + owed label_kinds b + size_of (c ∷ cs) + charge_of (c ∷ cs)
      next None e = subst (λ v. end_of v + owed label_kinds v ≤ end_of b + owed label_kinds b + size_of (c ∷ cs) + charge_of (c ∷ cs)) (sym e) (let z = put_owed b (c ∷ cs) in omega (arith, z))
      next (Some x) a = omega (arith, put_owed b (c ∷ cs), ask_owed x No force (appended b (c ∷ cs)) b' a)

  pub move_owed : (x : Element) (rest : List Element) (b b' : Buffer LabelUse) → Moves force x rest b b' → end_of b' + owed label_kinds b' ≤ end_of b + owed label_kinds b + growth_in x
  move_owed (Binding label) rest b b' p = omega (arith, bind_owed label b b' p)
  move_owed (Words goes_on cells) rest b b' p = omega (arith, words_owed goes_on cells rest b b' p)
  move_owed (Asking space) rest b b' p = omega (arith, ask_owed space force force b b' p)

  -- ---- labels

  words_labels : (goes_on : Bool) (cells : List Cell) (rest : List Element) (b b' : Buffer LabelUse) → PutsWords force goes_on cells rest b b' → b'.labels ≡ b.labels
  words_labels goes_on [] rest b b' p = ap (λ v. v.labels) p
  words_labels goes_on (c ∷ cs) rest b b' p = next (next_room rest) p
    where
      next : (o : Option ℕ) → AsksNext force goes_on o (appended b (c ∷ cs)) b' → b'.labels ≡ b.labels
      next None e = ap (λ v. v.labels) e
      next (Some x) a = ask_labels x No force (appended b (c ∷ cs)) b' a

  -- the labels that an element leaves
  abbrev pub HasBound : Element → Buffer LabelUse → Buffer LabelUse → Type 0
  HasBound (Binding label) b b' = b'.labels ≡ insert b.labels label (end_of b)
  HasBound (Words goes_on cells) b b' = b'.labels ≡ b.labels
  HasBound (Asking space) b b' = b'.labels ≡ b.labels

  pub move_labels : (x : Element) (rest : List Element) (b b' : Buffer LabelUse) → Moves force x rest b b' → HasBound x b b'
  move_labels (Binding label) rest b b' p = ap (λ v. v.labels) p
  move_labels (Words goes_on cells) rest b b' p = words_labels goes_on cells rest b b' p
  move_labels (Asking space) rest b b' p = ask_labels space force force b b' p

  -- ---- what came before stays

  pub next_later : (goes_on : Bool) (o : Option ℕ) (m b' : Buffer LabelUse) → AsksNext force goes_on o m b' → IsLater m b'
  next_later goes_on None m b' e = subst (IsLater m) (sym e) (later_none m)
  next_later goes_on (Some x) m b' a = ask_later x No force m b' a

  words_later : (goes_on : Bool) (cells : List Cell) (rest : List Element) (b b' : Buffer LabelUse) → PutsWords force goes_on cells rest b b' → IsLater b b'
  words_later goes_on [] rest b b' p = subst (IsLater b) (sym p) (later_none b)
  words_later goes_on (c ∷ cs) rest b b' p = later_trans b (appended b (c ∷ cs)) b' (put_later b (c ∷ cs)) (next_later goes_on (next_room rest) (appended b (c ∷ cs)) b' p)

  pub move_later : (x : Element) (rest : List Element) (b b' : Buffer LabelUse) → MayMove x rest b → Moves force x rest b b' → IsLater b b'
  move_later (Binding label) rest b b' may p = bind_later label b b' may.whole may.unbound p
  move_later (Words goes_on cells) rest b b' may p = words_later goes_on cells rest b b' p
  move_later (Asking space) rest b b' may p = ask_later space force force b b' p

-- ---- order

-- what an element adds to a buffer, with the island that may stand behind it
pub record Extends (x : Element) (b b' : Buffer LabelUse) : Type 0 where
  pub followed : ((end_of b' ≡ end_of b + size_in x) × (b'.islands ≡ b.islands)) ⊎ ((hosts x ≡ true) × (end_of b + size_in x + 4 ≤ end_of b') × (b'.islands ≡ b.islands ++ (end_of b + size_in x, end_of b') ∷ []))

module _ (force : ForceVeneers) where
  ask_at : {jump : Bool} (x : ℕ) (f g : ForceVeneers) (b b' : Buffer LabelUse) → Asks x f g jump b b' → EndsAt (end_of b) b.islands b'
  ask_at {jump = jump} x f g b b' a = elim a.outcome [ inl w ↦ island_ends jump b b' w.island | inr l ↦ inl (ap (λ v. end_of v) l.same, ap (λ v. v.islands) l.same) ]

  words_extends : (goes_on : Bool) (cells : List Cell) (rest : List Element) (b b' : Buffer LabelUse) → PutsWords force goes_on cells rest b b' → Extends (Words goes_on cells) b b'
  words_extends goes_on [] rest b b' p = record { followed = inl (omega (arith, ap (λ v. end_of v) p), ap (λ v. v.islands) p) }
  words_extends goes_on (c ∷ cs) rest b b' p = next (next_room rest) p
    where
      next : (o : Option ℕ) → AsksNext force goes_on o (appended b (c ∷ cs)) b' → Extends (Words goes_on (c ∷ cs)) b b'
      next None e = record { followed = inl (ap (λ v. end_of v) e ∙ longer b (c ∷ cs), ap (λ v. v.islands) e) }
      next (Some x) a = elim (ask_at x No force (appended b (c ∷ cs)) b' a) [
        | inl same ↦ record { followed = inl (same.0 ∙ longer b (c ∷ cs), same.1) }
        | inr more ↦ record { followed = inr (refl, omega (arith, more.0, longer b (c ∷ cs)), more.1 ∙ ap (λ e. b.islands ++ (e, end_of b') ∷ []) (longer b (c ∷ cs))) }
      ]

  pub move_extends : (x : Element) (rest : List Element) (b b' : Buffer LabelUse) → Moves force x rest b b' → Extends x b b'
  move_extends (Binding label) rest b b' p = record { followed = inl (omega (arith, ap (λ (v : Buffer LabelUse). length v.words) p), ap (λ v. v.islands) p) }
  move_extends (Words goes_on cells) rest b b' p = words_extends goes_on cells rest b b' p
  move_extends (Asking space) rest b b' p = record {
    followed = elim (ask_at space force force b b' p) [
      | inl same ↦ inl (omega (arith, same.0), same.1)
      | inr more ↦ let e : end_of b ≡ end_of b + 0 = omega arith in inr (refl, omega (arith, more.0), more.1 ∙ ap (λ e. b.islands ++ (e, end_of b') ∷ []) e)
    ];
  }

pub grown_by : (x : Element) (b b' : Buffer LabelUse) → Extends x b b' → end_of b + size_in x ≤ end_of b'
grown_by x b b' e = elim e.followed [ inl flat ↦ omega (arith, flat.0) | inr island ↦ omega (arith, island.1) ]
