-- The traps of cells that stand one behind another.
use Rattle.std.proofs.Common.{ℕ, ◌≡◌, ◌+◌, ◌-◌, ◌*◌, ◌<◌, ◌≤◌, ◌⊎◌, suc, zero, List, [], ◌∷◌, ◌++◌, length, get_or, map, Option, None, Some, refl, ap, arith, inl, inr}
use Rattle.std.specs.Prelude.{All, option_map}
use Rattle.std.specs.List.{cons_option}
use Rattle.std.specs.List.Sorted.{IsStrictlyIncreasing}
use Rattle.std.proofs.lemmas.Bool.{cases_lt}
use Rattle.std.proofs.lemmas.List.{get_or_append_left, get_or-append_right, get_or-map, length-append, length-map}
use Rattle.std.proofs.lemmas.List.Elements.{All-append}
use Rattle.a64_base.specs.declared.entity.TrapCode.{TrapCode}
use Rattle.a64_cells.specs.Shapes.{Cell}
use Rattle.a64_emit.specs.Layout.{placed, traps_in}

-- traps by place, each from one place on and before another
pub record AreBetween (from to : ℕ) (traps : List (ℕ × TrapCode)) : Type 0 where
  pub inside : (k : ℕ) (d : ℕ × TrapCode) → k < length traps → (from ≤ (get_or traps k d).0) × ((get_or traps k d).0 < to)
  pub rising : (k : ℕ) (d : ℕ × TrapCode) → k + 1 < length traps → (get_or traps k d).0 < (get_or traps (k + 1) d).0

pub one_more : (from to : ℕ) (o : Option TrapCode) (traps : List (ℕ × TrapCode)) → AreBetween (from + 4) to traps → from + 4 ≤ to → AreBetween from to (cons_option (option_map (λ code. (from, code)) o) traps)
one_more from to None traps h l = record {
  inside = λ k d w. let i = h.inside k d w in (omega (arith, i.0), i.1);
  rising = h.rising;
}
one_more from to (Some code) traps h l = record { inside = inside; rising = rising }
  where
    inside : (k : ℕ) (d : ℕ × TrapCode) → k < suc (length traps) → (from ≤ (get_or ((from, code) ∷ traps) k d).0) × ((get_or ((from, code) ∷ traps) k d).0 < to)
    inside zero d w = (omega arith, omega arith)
    inside (suc k) d w = let i = h.inside k d (omega arith) in (omega (arith, i.0), i.1)

    rising : (k : ℕ) (d : ℕ × TrapCode) → k + 1 < suc (length traps) → (get_or ((from, code) ∷ traps) k d).0 < (get_or ((from, code) ∷ traps) (k + 1) d).0
    rising zero d w = let i = h.inside 0 d (omega arith) in omega (arith, i.0)
    rising (suc k) d w =
        let r = h.rising k d (omega arith) in
        let e : suc k + 1 ≡ suc (k + 1) = omega arith in
        let there = ap (λ n. (get_or ((from, code) ∷ traps) n d).0) e in
        omega (arith, r, there)

pub between : (place : ℕ) (cells : List Cell) → AreBetween place (place + 4 * length cells) (traps_in (placed place cells))
between place [] = record { inside = λ k d w. absurd (omega arith); rising = λ k d w. absurd (omega arith) }
between place (c ∷ cs) = one_more place (place + 4 * length (c ∷ cs)) c.marks.trap (traps_in (placed (place + 4) cs)) (wider (between (place + 4) cs)) (omega arith)
  where
    wider : AreBetween (place + 4) (place + 4 + 4 * length cs) (traps_in (placed (place + 4) cs)) → AreBetween (place + 4) (place + 4 * length (c ∷ cs)) (traps_in (placed (place + 4) cs))
    wider h = record { inside = λ k d w. let i = h.inside k d w in (i.0, omega (arith, i.1)); rising = h.rising }

-- traps behind others are by place, where both are
module _ (traps new : List (ℕ × TrapCode)) (end to : ℕ) (behind_all : AreBetween end to new) where
  pub ordered_behind : IsStrictlyIncreasing (map (λ t. t.0) traps) → All (λ t. t.0 < end) traps → IsStrictlyIncreasing (map (λ t. t.0) (traps ++ new))
  ordered_behind ordered below k w =
      let inside : k + 1 < length (traps ++ new) = omega (arith, w, length-map (traps ++ new) (λ (t : ℕ × TrapCode). t.0)) in
      let here : get_or (map (λ (t : ℕ × TrapCode). t.0) (traps ++ new)) k 0 ≡ (get_or (traps ++ new) k d).0 = get_or-map (λ (t : ℕ × TrapCode). t.0) (traps ++ new) k d 0 (omega (arith, inside)) in
      let next : get_or (map (λ (t : ℕ × TrapCode). t.0) (traps ++ new)) (k + 1) 0 ≡ (get_or (traps ++ new) (k + 1) d).0 = get_or-map (λ (t : ℕ × TrapCode). t.0) (traps ++ new) (k + 1) d 0 inside in
      let less = at inside (cases_lt (k + 1) (length traps)) in
      omega (arith, here, next, less)
    where
      d : ℕ × TrapCode
      d = (0, record { 0 = 0 })

      old_place : (j : ℕ) → j < length traps → (get_or (traps ++ new) j d).0 ≡ (get_or traps j d).0
      old_place j l = ap (λ (t : ℕ × TrapCode). t.0) (get_or_append_left traps new d j l)

      new_place : (j : ℕ) → length traps ≤ j → (get_or (traps ++ new) j d).0 ≡ (get_or new (j - length traps) d).0
      new_place j l = ap (λ (t : ℕ × TrapCode). t.0) (get_or-append_right traps new (length traps) j d refl l)

      at : k + 1 < length (traps ++ new) → (k + 1 < length traps) ⊎ (length traps ≤ k + 1) → (get_or (traps ++ new) k d).0 < (get_or (traps ++ new) (k + 1) d).0
      at inside (inl old) =
          let a = get_or-map (λ (t : ℕ × TrapCode). t.0) traps k d 0 (omega arith) in
          let b = get_or-map (λ (t : ℕ × TrapCode). t.0) traps (k + 1) d 0 old in
          let o = ordered k (omega (arith, length-map traps (λ (t : ℕ × TrapCode). t.0))) in
          omega (arith, a, b, o, old_place k (omega arith), old_place (k + 1) old)
      at inside (inr ge) = elim (cases_lt k (length traps)) [
        | inl last ↦
            let b = below k d last in
            let i = behind_all.inside (k + 1 - length traps) d (omega (arith, inside, length-append traps new)) in
            omega (arith, b, i.0, old_place k last, new_place (k + 1) ge)
        | inr behind ↦
            let step : k + 1 - length traps ≡ k - length traps + 1 = omega arith in
            let r = behind_all.rising (k - length traps) d (omega (arith, inside, length-append traps new)) in
            omega (arith, r, new_place k behind, new_place (k + 1) ge, ap (λ n. (get_or new n d).0) step)
      ]

module _ (traps : List (ℕ × TrapCode)) (end : ℕ) (cells : List Cell) where
  -- with the traps of cells at the end all are still before the end
  pub below_more : (end' : ℕ) → All (λ t. t.0 < end) traps → end' ≡ end + 4 * length cells → All (λ t. t.0 < end') (traps ++ traps_in (placed end cells))
  below_more end' below long = All-append (λ t. t.0 < end') traps (traps_in (placed end cells))
      (λ k d w. let b = below k d w in omega (arith, b, long))
      (λ k d w. let i = (between end cells).inside k d w in omega (arith, i.1, long))

  -- and by place
  pub ordered_more : IsStrictlyIncreasing (map (λ t. t.0) traps) → All (λ t. t.0 < end) traps → IsStrictlyIncreasing (map (λ t. t.0) (traps ++ traps_in (placed end cells)))
  ordered_more = ordered_behind traps (traps_in (placed end cells)) end (end + 4 * length cells) (between end cells)
