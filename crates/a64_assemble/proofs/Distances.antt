-- Sums over elements, as one more of them is put.
use Rattle.std.proofs.Common.{ℕ, ◌≡◌, ◌+◌, ◌*◌, ◌<◌, ◌≤◌, List, [], ◌∷◌, ◌++◌, length, take, drop, sym, ap, subst, arith}
use Rattle.std.specs.Prelude.{slice_index, IfSome, Bool, true}
use Rattle.std.proofs.lemmas.List.{take_more}
use Rattle.std.proofs.lemmas.List.Elements.{All-same}
use Rattle.a64_buffer.specs.declared.site.Use.{Use}
use Rattle.a64_buffer.specs.declared.force.ForceVeneers.{ForceVeneers}
use Rattle.a64_buffer.specs.Buffer.{Buffer, end_of, label_of}
use Rattle.a64_buffer.specs.Classes.{owed, owed_to}
use Rattle.a64_buffer.specs.Sound.{IsWhole}
use Rattle.a64_label_use.specs.declared.label_use.LabelUse.{LabelUse}
use Rattle.a64_label_use.specs.LabelUses.{label_kinds}
use Rattle.a64_emit.specs.Emission.{site_of}
use Rattle.a64_emit.specs.Reach.{is_near}
use Rattle.a64_assemble.specs.Elements.{Element, Asking, growths_in, element_at}
use Rattle.a64_assemble.specs.Asks.{Moves}
use Rattle.a64_assemble.specs.LooseUses.{alive, loose_in, waiting_from, IsBehind, AreSpread}
use Rattle.a64_assemble.specs.Progress.{HasPut, IsUsedIn, StandsIn, HasDistances}
use Rattle.a64_assemble.proofs.Moving.{grown_by, move_owed, move_extends}
use Rattle.a64_assemble.proofs.Alive.{alive_step}
use Rattle.a64_assemble.proofs.Origins.{used_step, near_step}
use Rattle.a64_assemble.proofs.Spreading.{behind_step, owed_now, grows_step, spread_step}

module _ (xs : List Element) where
  -- before the first element
  pub distances_none : (b : Buffer LabelUse) → b.words ≡ [] → b.uses ≡ [] → HasDistances xs 0 [] b
  distances_none b words uses = record {
    used = All-same (λ (u : Use LabelUse). IfSome (label_of u.target) (IsUsedIn xs)) b.uses [] uses (λ k d w. absurd (omega arith));
    near = All-same (λ (u : Use LabelUse). is_near (site_of u).1 ≡ true → StandsIn xs 0 (end_of b ∷ []) u) b.uses [] uses (λ k d w. absurd (omega arith));
    live = λ test. let z = nothing_owed test in omega (arith, z);
    behind = λ i le. subst (λ i. IsBehind xs 0 (end_of b ∷ []) b i) (let z : 0 ≡ i = omega arith in z) (record { sizes = omega arith; waiting = let z = ap (waiting_from (end_of b)) uses in omega (arith, z) });
    grows = λ i le. subst (λ i. end_of b + owed label_kinds b ≤ slice_index (end_of b ∷ []) i + growths_in (drop i (take 0 xs)) + 28 * loose_in (take i xs)) (let z : 0 ≡ i = omega arith in z) (let z = ap (λ us. owed label_kinds (record b { uses = us })) uses in omega (arith, z));
    spread = λ i j le top. subst (λ i. AreSpread xs (end_of b ∷ []) i j) (let z : 0 ≡ i = omega arith in z) (subst (AreSpread xs (end_of b ∷ []) 0) (let z : 0 ≡ j = omega arith in z) (record { least = omega arith; most = omega arith }));
  }
    where
      nothing_owed : (test : ℕ → Bool) → owed_to label_kinds test b ≡ 0
      nothing_owed test = ap (λ us. owed_to label_kinds test (record b { uses = us })) uses

  pub distances_step : (force : ForceVeneers) (k : ℕ) (places : List ℕ) (b b' : Buffer LabelUse) → k < length xs → IsWhole label_kinds b → IsWhole label_kinds b' → HasPut force xs (k + 1) (places ++ end_of b ∷ []) b' → length places ≡ k → HasDistances xs k places b → Moves force (element_at xs k) (drop (k + 1) xs) b b' → HasDistances xs (k + 1) (places ++ end_of b ∷ []) b'
  distances_step force k places b b' within whole whole' put count h p =
      let x : Element = element_at xs k in
      let rest : List Element = drop (k + 1) xs in
      let grown = grown_by x b b' (move_extends force x rest b b' p) in
      let live : (test : ℕ → Bool) → owed_to label_kinds test b' ≤ 28 * alive test (take (k + 1) xs) = λ test.
      subst (λ ys. owed_to label_kinds test b' ≤ 28 * alive test ys) (sym (take_more xs k (Asking 0) within)) (alive_step force test (take k xs) x rest b b' whole h.live p) in
      let behind = behind_step force xs k places b b' count within rest p grown (λ i d w. (whole'.sound.placed i d w).inside) h.behind in
      let now = owed_now force xs k places b b' count within rest p grown whole'.fits put.laid.first live behind in
      let grow = grows_step force xs k places b b' count within rest p grown now (move_owed force x rest b b' p) h.grows in
      record {
        used = used_step force xs k rest b b' within p h.used;
        near = near_step force xs k places rest b b' count p h.near;
        live = live;
        behind = behind;
        grows = grow;
        spread = spread_step force xs k places b b' count within rest p grown behind grow h.spread;
      }
