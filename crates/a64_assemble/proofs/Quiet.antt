-- Where all code is shorter than each range, no island is written.
use Rattle.std.proofs.Common.{ℕ, ◌≡◌, ◌+◌, ◌-◌, ◌^◌, ◌≤◌, List, [], ◌∷◌, ◌++◌, map, All, get_or, Option, None, Some, refl, sym, ap, ◌∙◌, subst, arith, inl, inr, Bool}
use Rattle.std.specs.Option.{unwrap_or}
use Rattle.std.proofs.lemmas.List.Sums.{sum_by-cons}
use Rattle.std.proofs.lemmas.List.Elements.{All-same, All-append, All-map}
use Rattle.a64_buffer.specs.declared.site.Use.{Use}
use Rattle.a64_buffer.specs.declared.site.Target.TheVariants.{IslandEnd}
use Rattle.a64_buffer.specs.declared.force.ForceVeneers.{ForceVeneers}
use Rattle.a64_buffer.specs.declared.force.ForceVeneers.TheVariants.{No, Yes}
use Rattle.a64_buffer.specs.Buffer.{Buffer, end_of, closed_at}
use Rattle.a64_buffer.specs.Classes.{level_of, class, owed, Fits}
use Rattle.a64_buffer.proofs.Costs.{burden_third}
use Rattle.a64_buffer.proofs.Rooms.{open_wants}
use Rattle.a64_label_use.specs.declared.label_use.LabelUse.{LabelUse}
use Rattle.a64_label_use.specs.declared.label_use.LabelUse.TheVariants as uses
use Rattle.a64_label_use.specs.LabelUses.{label_kinds}
use Rattle.a64_cells.specs.Shapes.{Cell}
use Rattle.a64_cells.specs.Cells.{sites_of}
use Rattle.a64_emit.specs.Bounds.{size_of, charge_of}
use Rattle.a64_emit.specs.Emission.{uses_from, appended}
use Rattle.a64_assemble.specs.Elements.{Element, Binding, Words, Asking, growth_in, space_in, whole_in, add_more, words_room, next_room, room_of}
use Rattle.a64_assemble.specs.Asks.{Asks, AsksNext, PutsWords, Moves, NeedsNone}
use Rattle.a64_assemble.specs.OpenUses.{SiteIsQuiet, IsQuietElement, UseIsQuiet}
use Rattle.a64_assemble.proofs.Moving.{put_owed}
use Rattle.a64_emit.proofs.Putting.{made_site}
use Rattle.a64_assemble.proofs.Opens.{misfit}

-- what the next words need is within all
room_le_words : (cells : List Cell) (o : Option ℕ) (n : ℕ) → unwrap_or o 0 ≤ n → unwrap_or (words_room cells o) 0 ≤ size_of cells + charge_of cells + n
room_le_words [] o n h = omega arith
room_le_words (c ∷ cs) o n h = omega arith

add_le : (o : Option ℕ) (n : ℕ) → unwrap_or o 0 ≤ n → unwrap_or (add_more 4 o) 0 ≤ 4 + n
add_le None n h = omega arith
add_le (Some m) n h = omega arith

pub room_le : (xs : List Element) → room_of xs ≤ whole_in xs
room_le [] = omega arith
room_le (Binding label ∷ xs) = omega (arith, sum_by-cons (λ x. growth_in x + space_in x) (Binding label) xs, room_le xs)
room_le (Words goes_on cells ∷ xs) = omega (arith, sum_by-cons (λ x. growth_in x + space_in x) (Words goes_on cells) xs, room_le_words cells (next_room xs) (whole_in xs) (room_le xs))
room_le (Asking space ∷ xs) = omega (arith, sum_by-cons (λ x. growth_in x + space_in x) (Asking space) xs, add_le (next_room xs) (whole_in xs) (room_le xs))

module _ (force : ForceVeneers) (size : ℕ) where
  quiet_fits : (m : Buffer LabelUse) (x : ℕ) → All (UseIsQuiet force size) m.uses → end_of m + owed label_kinds m + 4 + x ≤ size → Fits label_kinds m x
  quiet_fits m x all le = record {
    rooms = λ k d w o. let z = (all k d w (open_wants label_kinds (get_or m.uses k d) o)).1 in omega (arith, z, burden_third label_kinds (level_of (class label_kinds (get_or m.uses k d))) m.uses);
  }

  quiet_unforced : (m : Buffer LabelUse) (x : ℕ) → All (UseIsQuiet force size) m.uses → force ≡ Yes → (Fits label_kinds m x → ⊥) → ⊥
  quiet_unforced m x all forced never =
      let z = misfit (end_of m) m.uses x never in
      let d : Use LabelUse = record { offset = 0; target = IslandEnd; kind = uses.Branch26; stop = None } in
      let e : force ≡ No = (all z.index d z.within (open_wants label_kinds (get_or m.uses z.index d) (z.opened d))).0 in
      let f : No ≡ Yes = sym e ∙ forced in
      cc

  quiet_asks : {jump : Bool} (m b' : Buffer LabelUse) (x : ℕ) (f g : ForceVeneers) → (f ≡ Yes → force ≡ Yes) → All (UseIsQuiet force size) m.uses → end_of m + owed label_kinds m + 4 + x ≤ size → Asks x f g jump m b' → b' ≡ m
  quiet_asks m b' x f g forced all le a = elim a.outcome [
    | inr l ↦ l.same
    | inl w ↦ elim w.cause [
      | inl never ↦ absurd (never (quiet_fits m x all le))
      | inr cause ↦ absurd (quiet_unforced m (2 ^ 32 - 1) all (forced cause.0) cause.1)
    ]
  ]

  abbrev pub StaysQuiet : Buffer LabelUse → Buffer LabelUse → Type 0
  StaysQuiet b b' = (b'.islands ≡ b.islands) × All (UseIsQuiet force size) b'.uses

  quiet_words : (goes_on : Bool) (cells : List Cell) (rest : List Element) (b b' : Buffer LabelUse) → All (SiteIsQuiet force size) (sites_of cells) → All (UseIsQuiet force size) b.uses → end_of b + owed label_kinds b + size_of cells + charge_of cells + room_of rest ≤ size → PutsWords force goes_on cells rest b b' → StaysQuiet b b'
  quiet_words goes_on [] rest b b' quiet all le p = (ap (λ v. v.islands) p, subst (λ v. All (UseIsQuiet force size) v.uses) (sym p) all)
  quiet_words goes_on (c ∷ cs) rest b b' quiet all le p = next (next_room rest) refl p
    where
      middle : All (UseIsQuiet force size) (b.uses ++ uses_from b.labels (end_of b) (c ∷ cs))
      middle = All-append (UseIsQuiet force size) b.uses (uses_from b.labels (end_of b) (c ∷ cs)) all (made_site b (c ∷ cs) (SiteIsQuiet force size) quiet)

      same : b' ≡ appended b (c ∷ cs) → StaysQuiet b b'
      same e = (ap (λ v. v.islands) e, subst (λ v. All (UseIsQuiet force size) v.uses) (sym e) middle)

      next : (o : Option ℕ) → next_room rest ≡ o → AsksNext force goes_on o (appended b (c ∷ cs)) b' → StaysQuiet b b'
      next None o e = same e
      next (Some x) o a = same (quiet_asks (appended b (c ∷ cs)) b' x No force (λ e. let z : No ≡ Yes = e in cc) middle (omega (arith, le, put_owed b (c ∷ cs), ap (λ o. unwrap_or o 0) o)) a)

  pub quiet_step : (x : Element) (rest : List Element) (b b' : Buffer LabelUse) → IsQuietElement force size x → All (UseIsQuiet force size) b.uses → end_of b + owed label_kinds b + growth_in x + space_in x + room_of rest ≤ size → Moves force x rest b b' → StaysQuiet b b'
  quiet_step (Binding label) rest b b' quiet all le p = (ap (λ v. v.islands) p, All-same (UseIsQuiet force size) b'.uses (map (closed_at label_kinds label (end_of b)) b.uses) (ap (λ v. v.uses) p) (All-map (UseIsQuiet force size) (closed_at label_kinds label (end_of b)) b.uses all))
  quiet_step (Words goes_on cells) rest b b' quiet all le p = quiet_words goes_on cells rest b b' quiet all (omega (arith, le)) p
  quiet_step (Asking space) rest b b' quiet all le p =
      let e : b' ≡ b = quiet_asks b b' space force force (λ e. e) all (omega (arith, le)) p in
      (ap (λ v. v.islands) e, subst (λ v. All (UseIsQuiet force size) v.uses) (sym e) all)

  -- behind an element's words there is room for what follows
  pub quiet_next : (x : Element) (rest : List Element) (b : Buffer LabelUse) → IsQuietElement force size x → All (UseIsQuiet force size) b.uses → end_of b + owed label_kinds b + growth_in x + space_in x + room_of rest ≤ size → NeedsNone force x rest b
  quiet_next (Binding label) rest b quiet all le = tt
  quiet_next (Words goes_on []) rest b quiet all le = tt
  quiet_next (Words goes_on (c ∷ cs)) rest b quiet all le = λ distance e.
      quiet_fits (appended b (c ∷ cs)) distance
      (All-append (UseIsQuiet force size) b.uses (uses_from b.labels (end_of b) (c ∷ cs)) all (made_site b (c ∷ cs) (SiteIsQuiet force size) quiet))
      (omega (arith, le, put_owed b (c ∷ cs), ap (λ o. unwrap_or o 0) e))
  quiet_next (Asking space) rest b quiet all le = (
    quiet_fits b space all (omega (arith, le)),
    λ forced. record {
      rooms = λ k d w o.
          let e : force ≡ No = (all k d w (open_wants label_kinds (get_or b.uses k d) o)).0 in
          let f : No ≡ Yes = sym e ∙ forced in
          absurd (let z : ⊥ = cc in z);
    },
  )
