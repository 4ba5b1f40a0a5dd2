-- What the finished code of elements is: laid, short, and with islands only where they may stand.
use Rattle.std.proofs.Common.{ℕ, ◌≡◌, ◌+◌, ◌<◌, ◌≤◌, true, List, [], ◌∷◌, ◌++◌, All, length, get_or, map, take, Option, None, Some, refl, sym, ap, ◌∙◌, subst, arith, inl, inr, false}
use Rattle.std.specs.Prelude.{Contains, IsSome, MatchOption}
use Rattle.std.proofs.lemmas.Option.{same_Some}
use Rattle.std.proofs.lemmas.Bool.{false≢true}
use Rattle.std.proofs.lemmas.List.{get_or_append_left, get_or-take, length-take-le}
use Rattle.std.proofs.lemmas.List.Elements.{All-same}
use Rattle.a64_buffer.specs.declared.finish.Finished.{Finished}
use Rattle.a64_buffer.specs.declared.force.ForceVeneers.{ForceVeneers}
use Rattle.a64_buffer.specs.declared.force.ForceVeneers.TheVariants.{Yes}
use Rattle.a64_buffer.specs.declared.site.Target.{Target}
use Rattle.a64_buffer.specs.declared.site.Target.TheVariants.{Label, Constant, Trap, IslandEnd}
use Rattle.a64_buffer.specs.Buffer.{Buffer, end_of}
use Rattle.a64_buffer.specs.Classes.{wants, class, class_of}
use Rattle.a64_buffer.specs.Finished.{IsFinished}
use Rattle.a64_buffer.specs.Leads.{TargetLeads}
use Rattle.a64_buffer.proofs.Laters.{later_trans}
use Rattle.a64_label_use.specs.declared.label_use.LabelUse.{LabelUse}
use Rattle.a64_label_use.specs.LabelUses.{label_kinds}
use Rattle.a64_emit.specs.Layout.{standing}
use Rattle.a64_emit.specs.Emission.{IsPut}
use Rattle.a64_assemble.specs.Elements.{Element, Binding, Words, Asking, cells_in, size_in, whole_in, is_asking, element_at, falls_in}
use Rattle.a64_assemble.specs.Stations.{IsIslandBehind, IsLaid, end_of_element}
use Rattle.a64_assemble.specs.OpenUses.{SomeOpenAt, IsCaused, WasAsked}
use Rattle.a64_assemble.specs.Progress.{AreGood, AreQuiet, HasPut}
use Rattle.a64_assemble.proofs.Later.{put_later}
use Rattle.a64_assemble.proofs.Standings.{still}
use Rattle.a64_assemble.proofs.Forcing.{none_open}
use Rattle.a64_assemble.proofs.Promoting.{AreBefore, is_caused}
use Rattle.a64_assemble.proofs.BoundLabels.{bound_by_is}
use Rattle.a64_assemble.proofs.Stationed.{rises, has_size}
use Rattle.a64_assemble.proofs.Progress.{bounded_all}
use Rattle.a64_buffer.specs.Later.{IsLater}

no_size : (x : Element) → is_asking x ≡ true → size_in x ≡ 0
no_size (Binding l) e = refl
no_size (Words goes_on cells) e = absurd (false≢true e)
no_size (Asking space) e = refl

-- in finished code each use that may want something stops somewhere
pub all_stop : (b : Buffer LabelUse) (code : Finished) (f : IsFinished label_kinds b code) → All (λ u. wants (class label_kinds u) ≡ true → IsSome u.stop) f.final.uses
all_stop b code f j d w want = go (get_or f.final.uses j d).target (get_or f.final.uses j d).kind (get_or f.final.uses j d).stop want (f.leads j d w)
  where
    go : (t : Target) (kind : LabelUse) (o : Option ℕ) → wants (class_of label_kinds t kind) ≡ true → MatchOption o (t ≡ IslandEnd) (TargetLeads label_kinds code.bytes.items (b.islands ++ (end_of b, end_of f.final) ∷ []) b.labels b.constants code.traps.items kind t) → IsSome o
    go t kind (Some s) want l = refl
    go (Label l) kind None want e = absurd (let z : Label l ≡ IslandEnd = e in cc)
    go (Constant c) kind None want e = absurd (let z : Constant c ≡ IslandEnd = e in cc)
    go (Trap c) kind None want e = absurd (let z : Trap c ≡ IslandEnd = e in cc)
    go IslandEnd kind None want e = absurd (false≢true want)

module _ (force : ForceVeneers) (xs : List Element) (good : AreGood xs) (places : List ℕ) (b : Buffer LabelUse) (h : HasPut force xs (length xs) places b) (code : Finished) (f : IsFinished label_kinds b code) where
  -- the code is at most the sizes, the charges and the asked spaces long
  pub code_short : length code.bytes.items ≤ whole_in xs
  code_short = omega (arith, f.same_length, f.longest, bounded_all force xs good places b h)

  pub code_laid : IsLaid xs (length xs) places code.islands.items code.pool
  code_laid = subst (λ end. IsLaid xs (length xs) places code.islands.items end) (sym f.pool) (subst (λ is. IsLaid xs (length xs) places is (end_of b)) (sym f.islands) h.laid)

  -- each cell stands at its place in the last buffer
  pub cells_final : All (IsPut f.final) (standing (map cells_in (take (length xs) xs)) places)
  cells_final i d w = put_later b f.final (still b f.final f.later) (get_or (standing (map cells_in (take (length xs) xs)) places) i d) (h.cells i d w)

  -- where execution does not go on behind an island's element, no label is bound to its end
  bound_before : (island : ℕ × ℕ) (z : WasAsked force xs (length xs) (places ++ end_of b ∷ []) b island) → falls_in (element_at xs z.after) ≡ false → AreBefore z.moment
  bound_before island z stops label place at =
      let by = bound_by_is (take (z.after + 1) xs) label (z.only label place at) in
      let few = length-take-le (z.after + 1) xs (omega (arith, z.within)) in
      let early : by.0 < z.after + 1 = omega (arith, by.1, few) in
      let inside : by.0 < length xs = omega (arith, early, z.within) in
      let element : element_at xs by.0 ≡ Binding label = sym (get_or-take (z.after + 1) xs by.0 (Asking 0) early) ∙ by.2 in
      let later : IsLater z.moment b = later_trans z.moment z.written b z.has.later z.since in
      let same : place ≡ get_or places by.0 0 = same_Some _ _ (sym (later.labels label place at) ∙ h.labels.bound by.0 label inside element) in
      let station : get_or (places ++ end_of b ∷ []) by.0 0 ≡ get_or places by.0 0 = get_or_append_left places (end_of b ∷ []) 0 by.0 (omega (arith, inside, h.laid.each_placed)) in
      let order = rises xs (length xs) places b.islands (end_of b) h.laid by.0 z.after (omega (arith, early)) (omega (arith, z.within)) in
      omega (arith, same, station, order, z.at, z.stands.begins, has_size (element_at xs z.after) z.stands.hosted stops)

  -- each island is needed where it stands, or forced
  pub code_caused : All (IsCaused xs f.final force (places ++ code.pool ∷ [])) code.islands.items
  code_caused =
      subst (λ end. All (IsCaused xs f.final force (places ++ end ∷ [])) code.islands.items) (sym f.pool)
      (All-same (IsCaused xs f.final force (places ++ end_of b ∷ [])) code.islands.items b.islands f.islands
      (λ i d w. is_caused force xs (places ++ end_of b ∷ []) b f.final (get_or b.islands i d) f.later (all_stop b code f) (h.asked i d w) (bound_before (get_or b.islands i d) (h.asked i d w))))

  -- quiet input has none
  pub code_quiet : AreQuiet force xs → code.islands.items ≡ []
  code_quiet q = f.islands ∙ (h.quiet q).0

  -- and where islands are forced, one stands behind each element that asks for one and at which a use is open
  pub code_forced : force ≡ Yes → (i : ℕ) → i < length xs → is_asking (element_at xs i) ≡ true → SomeOpenAt xs f.final i (get_or places i 0)
      → Contains b.islands (get_or places i 0, get_or (places ++ end_of b ∷ []) (i + 1) 0) × IsIslandBehind xs (places ++ end_of b ∷ []) i (get_or places i 0, get_or (places ++ end_of b ∷ []) (i + 1) 0)
  code_forced now i w is open' =
      let s : List ℕ = places ++ end_of b ∷ [] in
      let at : get_or s i 0 ≡ get_or places i 0 = get_or_append_left places (end_of b ∷ []) 0 i (omega (arith, w, h.laid.each_placed)) in
      let size : size_in (element_at xs i) ≡ 0 = no_size (element_at xs i) is in
      elim (h.forced now i w is) [
        | inr left ↦ absurd (none_open xs left.moment f.final i left.whole left.closed left.bound (later_trans left.moment b f.final left.later f.later) (subst (SomeOpenAt xs f.final i) (sym (left.at ∙ at)) open'))
        | inl island ↦ elim (h.laid.next i w) [
          | inl flat ↦ absurd (omega (arith, flat, island, size))
          | inr there ↦
              let p : (end_of_element xs s i, get_or s (i + 1) 0) ≡ (get_or places i 0, get_or s (i + 1) 0) = ap (λ e. (e, get_or s (i + 1) 0)) (let z : end_of_element xs s i ≡ get_or places i 0 = omega (arith, at, size) in z) in
              subst (λ island. Contains b.islands island × IsIslandBehind xs s i island) p there
        ]
      ]
