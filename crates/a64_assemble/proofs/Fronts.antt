-- What an island has, with a jump at its start or without.
use Rattle.std.proofs.Common.{ℕ, ◌≡◌, ◌⊎◌, ◌+◌, ◌<◌, ◌≤◌, Bool, true, false, cond, List, [], ◌∷◌, ◌++◌, length, get_or, map, Option, None, Some, refl, sym, ap, ◌∙◌, arith, inl, inr}
use Rattle.std.specs.Prelude.{nat_lt}
use Rattle.std.specs.List.{flat_map}
use Rattle.std.proofs.lemmas.Bool.{ltb-true, ltb-false, cases_lt, false≢true}
use Rattle.std.proofs.lemmas.List.{append-nil, length-map, get_or-map, get_or_append_left}
use Rattle.std.proofs.lemmas.Option.{slice_get-get_or, slice_get_past}
use Rattle.a64_inst.specs.declared.emission.EmitFlags.{EmitFlags}
use Rattle.a64_inst.specs.declared.frame.FrameLayout.{FrameLayout}
use Rattle.a64_inst.specs.declared.item.Item.{Item}
use Rattle.a64_inst.specs.declared.item.Item.TheVariants.{Bind, Emit}
use Rattle.a64_buffer.specs.declared.site.Use.{Use}
use Rattle.a64_buffer.specs.declared.force.ForceVeneers.{ForceVeneers}
use Rattle.a64_buffer.specs.Buffer.{Buffer, end_of}
use Rattle.a64_buffer.specs.Islands.{IsNewUse, HasIsland}
use Rattle.a64_buffer.specs.declared.site.Target.{Target}
use Rattle.a64_buffer.specs.Pieces as pieces
use Rattle.a64_buffer.proofs.Islands.{begun_new}
use Rattle.a64_label_use.specs.declared.label_use.LabelUse.{LabelUse}
use Rattle.a64_label_use.specs.LabelUses.{label_kinds}
use Rattle.a64_cells.specs.Cells.{kept_cells}
use Rattle.a64_emit.specs.Bounds.{asked_of}
use Rattle.a64_emit.specs.Falls.{inst_falls, falls, falls_at}
use Rattle.a64_emit.proofs.Asked.{asked_falls}
use Rattle.a64_assemble.specs.Elements.{Words, Asking, falls_in, element_of, elements_of, element_at}

-- a new use is what it is where an island has a jump
pub given_use : (jump : Bool) (b : Buffer LabelUse) (v : Use LabelUse) → IsNewUse label_kinds jump b v → IsNewUse label_kinds true b v
given_use true b v new = new
given_use false b v new = inr new

-- the code, and the islands, once room was asked for behind code that ends there
abbrev pub EndsAt : ℕ → List (ℕ × ℕ) → Buffer LabelUse → Type 0
EndsAt end islands b' = ((end_of b' ≡ end) × (b'.islands ≡ islands)) ⊎ ((end + 4 ≤ end_of b') × (b'.islands ≡ islands ++ (end, end_of b') ∷ []))

module _ {distance : ℕ} {force : ForceVeneers} where
  -- an island is listed where it has words
  pub island_ends : (jump : Bool) (b b' : Buffer LabelUse) → HasIsland label_kinds distance force jump b b' → EndsAt (end_of b) b.islands b'
  island_ends true b b' has = inr (has.long, has.islands)
  island_ends false b b' has = go (nat_lt (end_of b) (end_of b')) refl
    where
      go : (t : Bool) → nat_lt (end_of b) (end_of b') ≡ t → EndsAt (end_of b) b.islands b'
      go true e = inr (omega (arith, ltb-true (end_of b) (end_of b') e), has.islands ∙ ap (λ (t : Bool). b.islands ++ cond {A = List (ℕ × ℕ)} t ((end_of b, end_of b') ∷ []) []) e)
      go false e = inl (omega (arith, ltb-false (end_of b) (end_of b') e, has.later.end), has.islands ∙ (ap (λ (t : Bool). b.islands ++ cond {A = List (ℕ × ℕ)} t ((end_of b, end_of b') ∷ []) []) e ∙ append-nil b.islands))

  -- the jump over an island stays one
  pub over_stays : {jump : Bool} (b b' : Buffer LabelUse) → HasIsland label_kinds distance force jump b b'
      → (k : ℕ) (d : Use LabelUse) → length b.uses ≤ k → k < length (pieces.begun label_kinds jump b).uses → k < length b'.uses → pieces.site_of (get_or b'.uses k d) ≡ pieces.site_of (pieces.over_use label_kinds (end_of b))
  over_stays {jump} b b' has k d low inside h =
      let begun : List (Use LabelUse) = (pieces.begun label_kinds jump b).uses in
      let more : List (ℕ × Target × LabelUse) = flat_map (pieces.piece_sites label_kinds b.constants) (pieces.pieces label_kinds b.constants (end_of (pieces.begun label_kinds jump b)) has.served) in
      sym (get_or-map pieces.site_of b'.uses k d (pieces.site_of d) h)
      ∙ (ap (λ ss. get_or ss k (pieces.site_of d)) has.serves.uses_are
      ∙ (get_or_append_left (map pieces.site_of begun) more (pieces.site_of d) k (omega (arith, inside, length-map begun (pieces.site_of {K = LabelUse})))
      ∙ (get_or-map pieces.site_of begun k d (pieces.site_of d) inside
      ∙ ap pieces.site_of (begun_new label_kinds jump b k d low inside))))

module _ (frame : FrameLayout) (flags : EmitFlags) where
  -- execution goes on behind an item where it does behind its element
  falls_same : (x : Item) → falls_in (element_of frame flags x) ≡ falls x
  falls_same (Bind label) = refl
  falls_same (Emit inst kept) = go (asked_of inst) refl
    where
      go : (o : Option ℕ) → asked_of inst ≡ o → falls_in (element_of frame flags (Emit inst kept)) ≡ inst_falls inst
      go None e = ap (λ (o : Option ℕ). falls_in (elim o [ None ↦ Words (inst_falls inst) (kept_cells frame flags inst kept) | Some space ↦ Asking space ])) e
      go (Some space) e = ap (λ (o : Option ℕ). falls_in (elim o [ None ↦ Words (inst_falls inst) (kept_cells frame flags inst kept) | Some space ↦ Asking space ])) e ∙ sym (asked_falls frame flags inst space e)

  pub falls_is : (items : List Item) (i : ℕ) → i < length items → falls_in (element_at (elements_of frame flags items) i) ≡ falls_at items i
  falls_is items i within =
      let d : Item = Bind (record { 0 = 0 }) in
      ap falls_in (get_or-map (element_of frame flags) items i d (Asking 0) within)
      ∙ (falls_same (get_or items i d)
      ∙ sym (ap (λ (o : Option Item). elim o [ None ↦ false | Some item ↦ falls item ]) (slice_get-get_or items i d within)))

-- an item that falls is one of them
pub falls_within : (items : List Item) (i : ℕ) → falls_at items i ≡ true → i < length items
falls_within items i goes_on = elim (cases_lt i (length items)) [
  | inl lt ↦ lt
  | inr ge ↦ absurd (false≢true (sym (ap (λ (o : Option Item). elim o [ None ↦ false | Some item ↦ falls item ]) (slice_get_past items i ge)) ∙ goes_on))
]
