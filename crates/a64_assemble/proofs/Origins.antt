-- Which element a use is of.
use Rattle.std.proofs.Common.{ℕ, ◌≡◌, ◌+◌, ◌<◌, ◌≤◌, ◌⊎◌, true, false, List, [], ◌∷◌, ◌++◌, map, All, length, get_or, Option, None, Some, refl, sym, ap, ◌∙◌, subst, arith, inl, inr, Bool}
use Rattle.std.specs.Prelude.{Contains, IfSome}
use Rattle.std.proofs.lemmas.Bool.{cases_lt, false≢true}
use Rattle.std.proofs.lemmas.List.{get_or_append_left, length_push, get_or_push, get_or_default}
use Rattle.std.proofs.lemmas.List.Elements.{All-append, All-same, All-map}
use Rattle.a64_buffer.specs.declared.site.Use.{Use}
use Rattle.a64_buffer.specs.declared.site.Target.{Target}
use Rattle.a64_buffer.specs.declared.site.Target.TheVariants.{Label, Constant, Trap, IslandEnd}
use Rattle.a64_buffer.specs.declared.force.ForceVeneers.{ForceVeneers}
use Rattle.a64_buffer.specs.declared.force.ForceVeneers.TheVariants.{No}
use Rattle.a64_buffer.specs.Buffer.{Buffer, end_of, label_of, closed_at}
use Rattle.a64_buffer.specs.Later.{IsSameUse}
use Rattle.a64_buffer.specs.Islands.{IsNewUse}
use Rattle.a64_label_use.specs.declared.label_use.LabelUse.{LabelUse}
use Rattle.a64_label_use.specs.declared.label_use.LabelUse.TheVariants as uses
use Rattle.a64_label_use.specs.LabelUses.{label_kinds}
use Rattle.a64_cells.specs.Shapes.{Cell}
use Rattle.a64_cells.specs.Cells.{sites_of}
use Rattle.a64_emit.specs.Emission.{uses_from, appended, site_of}
use Rattle.a64_emit.specs.Reach.{is_near}
use Rattle.a64_assemble.specs.Elements.{Element, Binding, Words, Asking, cells_in, next_room, element_at}
use Rattle.a64_assemble.specs.Asks.{Asks, AsksNext, PutsWords, Moves}
use Rattle.a64_assemble.specs.Progress.{IsUsedIn, StandsIn}
use Rattle.a64_emit.proofs.Putting.{made_low, made_high, made_site}
use Rattle.a64_assemble.proofs.Fronts.{given_use}

-- a fact of a use that depends on its place and its site
abbrev pub IsStable : (Use LabelUse → Type 0) → Type 0
IsStable P = (u v : Use LabelUse) → v.offset ≡ u.offset → v.target ≡ u.target → v.kind ≡ u.kind → P u → P v

module _ (force : ForceVeneers) (P : Use LabelUse → Type 0) (stable : IsStable P) (given : (m : Buffer LabelUse) (v : Use LabelUse) → All P m.uses → IsNewUse label_kinds true m v → P v) where
  all_asked : {jump : Bool} (x : ℕ) (f g : ForceVeneers) (m b' : Buffer LabelUse) → Asks x f g jump m b' → All P m.uses → All P b'.uses
  all_asked {jump = jump} x f g m b' a all = elim a.outcome [
    | inr l ↦ subst (λ v. All P v.uses) (sym l.same) all
    | inl w ↦ λ k d h. elim (cases_lt k (length m.uses)) [
      | inl lt ↦ let s : IsSameUse (end_of m) (get_or m.uses k d) (get_or b'.uses k d) = w.island.later.uses k d lt in stable (get_or m.uses k d) (get_or b'.uses k d) s.offset s.target s.kind (all k d lt)
      | inr ge ↦ given m (get_or b'.uses k d) all (given_use jump m (get_or b'.uses k d) (w.island.given k d ge h))
    ]
  ]

  all_words : (goes_on : Bool) (cells : List Cell) (rest : List Element) (b b' : Buffer LabelUse) → All P (uses_from b.labels (end_of b) cells) → PutsWords force goes_on cells rest b b' → All P b.uses → All P b'.uses
  all_words goes_on [] rest b b' made p all = subst (λ v. All P v.uses) (sym p) all
  all_words goes_on (c ∷ cs) rest b b' made p all = next (next_room rest) p
    where
      middle : All P (appended b (c ∷ cs)).uses
      middle = All-append P b.uses (uses_from b.labels (end_of b) (c ∷ cs)) all made

      next : (o : Option ℕ) → AsksNext force goes_on o (appended b (c ∷ cs)) b' → All P b'.uses
      next None e = subst (λ v. All P v.uses) (sym e) middle
      next (Some x) a = all_asked x No force (appended b (c ∷ cs)) b' a middle

  all_step : (x : Element) (rest : List Element) (b b' : Buffer LabelUse) → All P (uses_from b.labels (end_of b) (cells_in x)) → Moves force x rest b b' → All P b.uses → All P b'.uses
  all_step (Binding label) rest b b' made p all = All-same P b'.uses (map (closed_at label_kinds label (end_of b)) b.uses) (ap (λ v. v.uses) p) (All-map P (closed_at label_kinds label (end_of b)) b.uses (λ k d h. stable (get_or b.uses k d) (closed_at label_kinds label (end_of b) (get_or b.uses k d)) refl refl refl (all k d h)))
  all_step (Words goes_on cells) rest b b' made p all = all_words goes_on cells rest b b' made p all
  all_step (Asking space) rest b b' made p all = all_asked space force force b b' p all

-- a list contains what stands in it
each_contained : {X : Type 0} (xs : List X) → All (Contains xs) xs
each_contained xs k d w = (k, w, get_or_default xs k (get_or xs k d) d w)

-- each use of cells is of a site of theirs
made_of : (b : Buffer LabelUse) (cells : List Cell) → All (λ u. Contains (sites_of cells) (site_of u).1) (uses_from b.labels (end_of b) cells)
made_of b cells = made_site b cells (Contains (sites_of cells)) (each_contained (sites_of cells))

module _ (force : ForceVeneers) (xs : List Element) where
  -- ---- used labels

  pub used_step : (k : ℕ) (rest : List Element) (b b' : Buffer LabelUse) → k < length xs → Moves force (element_at xs k) rest b b' → All (λ u. IfSome (label_of u.target) (IsUsedIn xs)) b.uses → All (λ u. IfSome (label_of u.target) (IsUsedIn xs)) b'.uses
  used_step k rest b b' within p all =
      all_step force (λ u. IfSome (label_of u.target) (IsUsedIn xs))
      (λ u v o t q h. subst (λ t. IfSome (label_of t) (IsUsedIn xs)) (sym t) h)
      given
      (element_at xs k) rest b b'
      (λ j d w. made (get_or (uses_from b.labels (end_of b) (cells_in (element_at xs k))) j d) (made_of b (cells_in (element_at xs k)) j d w))
      p all
    where
      given : (m : Buffer LabelUse) (v : Use LabelUse) → All (λ u. IfSome (label_of u.target) (IsUsedIn xs)) m.uses → IsNewUse label_kinds true m v → IfSome (label_of v.target) (IsUsedIn xs)
      given m v all n = elim n [
        | inl end ↦ subst (λ t. IfSome (label_of t) (IsUsedIn xs)) (sym end.0) tt
        | inr g ↦ subst (λ t. IfSome (label_of t) (IsUsedIn xs)) (g.target v) (all g.parent v g.within)
      ]

      made : (u : Use LabelUse) → Contains (sites_of (cells_in (element_at xs k))) (site_of u).1 → IfSome (label_of u.target) (IsUsedIn xs)
      made u stands = go (label_of u.target) refl
        where
          go : (o : Option ℕ) → label_of u.target ≡ o → IfSome o (IsUsedIn xs)
          go None e = tt
          go (Some n) e = record { element = k; within = within; site = (site_of u).1; stands = stands; label_is = e }

  -- ---- uses that need their label near

  pub near_step : (k : ℕ) (places : List ℕ) (rest : List Element) (b b' : Buffer LabelUse) → length places ≡ k → Moves force (element_at xs k) rest b b' → All (λ u. is_near (site_of u).1 ≡ true → StandsIn xs k (places ++ (end_of b) ∷ []) u) b.uses → All (λ u. is_near (site_of u).1 ≡ true → StandsIn xs (k + 1) (places ++ (end_of b) ∷ [] ++ (end_of b') ∷ []) u) b'.uses
  near_step k places rest b b' count p all =
      all_step force (λ u. is_near (site_of u).1 ≡ true → StandsIn xs (k + 1) (places ++ (end_of b) ∷ [] ++ (end_of b') ∷ []) u)
      moved
      given
      (element_at xs k) rest b b'
      (λ j d w l.
      let lo = made_low b (cells_in (element_at xs k)) j d w in
      let hi = made_high b (cells_in (element_at xs k)) j d w in
      record { element = k; within = omega arith; stands = made_of b (cells_in (element_at xs k)) j d w; low = omega (arith, here, lo); high = omega (arith, here, hi) })
      p
      (λ j d w l. let z = all j d w l in record { element = z.element; within = omega (arith, z.within); stands = z.stands; low = omega (arith, keeps z.element (omega (arith, z.within)), z.low); high = omega (arith, keeps z.element (omega (arith, z.within)), z.high) })
    where
      keeps : (i : ℕ) → i ≤ k → get_or (places ++ (end_of b) ∷ [] ++ (end_of b') ∷ []) i 0 ≡ get_or (places ++ (end_of b) ∷ []) i 0
      keeps i le = get_or_append_left (places ++ (end_of b) ∷ []) ((end_of b') ∷ []) 0 i (omega (arith, le, count, length_push places (end_of b)))

      here : get_or (places ++ (end_of b) ∷ [] ++ (end_of b') ∷ []) k 0 ≡ end_of b
      here = keeps k (omega arith) ∙ get_or_push places (end_of b) 0 k count

      moved : IsStable (λ u. is_near (site_of u).1 ≡ true → StandsIn xs (k + 1) (places ++ (end_of b) ∷ [] ++ (end_of b') ∷ []) u)
      moved u v o t q h l =
          let same : (site_of v).1 ≡ (site_of u).1 = ap (λ t. record { kind = v.kind; target = t }) t ∙ ap (λ q. record { kind = q; target = u.target }) q in
          let z = h (ap is_near (sym same) ∙ l) in
          record { element = z.element; within = z.within; stands = subst (Contains (sites_of (cells_in (element_at xs z.element)))) (sym same) z.stands; low = omega (arith, z.low, o); high = omega (arith, z.high, o) }

      not_near : (v : Use LabelUse) → (v.target ≡ IslandEnd) ⊎ (v.kind ≡ uses.Branch26) ⊎ (v.kind ≡ uses.PCRel32) → is_near (site_of v).1 ≡ false
      not_near v n = elim n [
        | inl end ↦ ap (λ t. is_near (record { kind = v.kind; target = t })) end
        | inr more ↦ elim more [
          | inl jump ↦ ap (λ q. is_near (record { kind = q; target = v.target })) jump ∙ jumps v.target
          | inr far ↦ ap (λ q. is_near (record { kind = q; target = v.target })) far ∙ fars v.target
        ]
      ]
        where
          jumps : (t : Target) → is_near (record { kind = uses.Branch26; target = t }) ≡ false
          jumps (Label l) = refl
          jumps (Constant c) = refl
          jumps (Trap c) = refl
          jumps IslandEnd = refl

          fars : (t : Target) → is_near (record { kind = uses.PCRel32; target = t }) ≡ false
          fars (Label l) = refl
          fars (Constant c) = refl
          fars (Trap c) = refl
          fars IslandEnd = refl

      given : (m : Buffer LabelUse) (v : Use LabelUse) → All (λ u. is_near (site_of u).1 ≡ true → StandsIn xs (k + 1) (places ++ (end_of b) ∷ [] ++ (end_of b') ∷ []) u) m.uses → IsNewUse label_kinds true m v → is_near (site_of v).1 ≡ true → StandsIn xs (k + 1) (places ++ (end_of b) ∷ [] ++ (end_of b') ∷ []) v
      given m v all n l = absurd (false≢true (sym (not_near v (elim n [
        | inl end ↦ inl end.0
        | inr g ↦ inr g.kind
      ])) ∙ l))
