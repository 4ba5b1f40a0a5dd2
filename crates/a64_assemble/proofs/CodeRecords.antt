-- Finished code has the records of its items, and its trap words are recorded, with islands between items.
use Rattle.std.proofs.Common.{ℕ, ◌≡◌, ◌⊎◌, ◌<◌, true, List, length, get_or, map, take, Some, refl, sym, ap, ◌∙◌, subst, arith, inl, inr}
use Rattle.std.specs.Prelude.{Contains, IfSome, IsSome, MatchOption, ◌↔◌}
use Rattle.std.specs.List.Sorted.{IsStrictlyIncreasing}
use Rattle.std.proofs.lemmas.Bool.{cases_lt, false≢true}
use Rattle.std.proofs.lemmas.List.{get_or_default}
use Rattle.a64_base.specs.declared.entity.TrapCode.{TrapCode}
use Rattle.a64_inst.specs.declared.emission.EmitFlags.{EmitFlags}
use Rattle.a64_inst.specs.declared.frame.FrameLayout.{FrameLayout}
use Rattle.a64_inst.specs.declared.item.Item.{Item}
use Rattle.a64_buffer.specs.declared.site.Use.{Use}
use Rattle.a64_buffer.specs.declared.site.Target.{Target}
use Rattle.a64_buffer.specs.declared.site.Target.TheVariants.{Trap}
use Rattle.a64_buffer.specs.declared.finish.Finished.{Finished}
use Rattle.a64_buffer.specs.declared.force.ForceVeneers.{ForceVeneers}
use Rattle.a64_buffer.specs.Buffer.{Records, Buffer, end_of, label_of, IsFree}
use Rattle.a64_buffer.specs.ByPlace.{AreByPlace}
use Rattle.a64_buffer.specs.Classes.{wants, class, class_of}
use Rattle.a64_buffer.specs.Finished.{IsFinished}
use Rattle.a64_emit.specs.declared.code.Code.{Code}
use Rattle.a64_label_use.specs.declared.label_use.LabelUse.{LabelUse}
use Rattle.a64_cells.specs.declared.site.Site.{Site}
use Rattle.a64_label_use.specs.LabelUses.{label_kinds}
use Rattle.a64_cells.specs.Shapes.{Cell}
use Rattle.a64_cells.specs.Cells.{cell_word, cells_of}
use Rattle.a64_emit.specs.Emission.{site_of, HasUse, IsPut}
use Rattle.a64_emit.specs.Layout.{standing, records_in}
use Rattle.a64_emit.specs.Contents.{IsCellUse}
use Rattle.a64_emit.specs.Records.{IsTrapOf, IsDeferredTrap, HasRecords}
use Rattle.a64_assemble.proofs.Arrivals.{no_use, IsOutput, end_is, old_site, final_use, final_index, stops_at, site_leads}
use Rattle.a64_assemble.proofs.Recorded.{relocs_from_items, calls_from_items, patchable_from_items, maps_from_items, traps_exact}
use Rattle.a64_assemble.proofs.FieldKinds.{one_stop}
use Rattle.a64_emit.proofs.Targets.{IsCodeTarget, IsCodeSite}
use Rattle.a64_assemble.specs.Elements.{cells_in, elements_of}
use Rattle.a64_assemble.specs.Progress.{HasPut}
use Rattle.a64_assemble.specs.Owners.{AreOwned}
use Rattle.a64_assemble.specs.CellRecords.{AreRecorded}
use Rattle.a64_assemble.specs.TrapRecords.{IsStoppedTrap, HasTraps}
use Rattle.a64_assemble.proofs.Leading.{standing_targets, trap_kind, code_no_end, all_put}
use Rattle.a64_assemble.proofs.Itemized.{all_cells_are}
use Rattle.a64_assemble.proofs.Recording.{served_traps}

module _ (frame : FrameLayout) (flags : EmitFlags) (items : List Item) (force : ForceVeneers) (b : Buffer LabelUse) (code : Finished) (f : IsFinished label_kinds b code) (out : Code) (o : IsOutput code out) (h : HasPut force (elements_of frame flags items) (length (elements_of frame flags items)) out.places.items b) (owned : AreOwned (elements_of frame flags items) (length (elements_of frame flags items)) out.places.items b) (recorded : AreRecorded (elements_of frame flags items) (length (elements_of frame flags items)) out.places.items b) where
  abbrev cells : List (ℕ × Cell)
  cells = standing (map (cells_of frame flags) items) out.places.items

  abbrev use_at : ℕ → Use LabelUse
  use_at k = get_or f.final.uses k no_use

  -- the pool's trap words included
  all_traps : HasTraps cells f.final
  all_traps = subst (λ cs. HasTraps cs f.final) (all_cells_are frame flags items out.places.items)
      (served_traps (standing (map cells_in (take (length (elements_of frame flags items)) (elements_of frame flags items))) out.places.items) b b f.final refl (omega arith) f.later b.labels b.constants f.served f.serves recorded.traps)

  traps_are : out.traps.items ≡ f.final.traps
  traps_are = o.traps ∙ f.traps

  no_label : (t : Target) (trap : TrapCode) → t ≡ Trap trap → IsSome (label_of t) → ⊥
  no_label t trap e s = false≢true (subst (λ (t : Target). IsSome (label_of t)) e s)

  -- a use of a trap is that of a cell
  cell_of : (k : ℕ) (trap : TrapCode) → k < length f.final.uses → (use_at k).target ≡ Trap trap → (k < length b.uses) × IsCellUse cells (site_of (use_at k))
  cell_of k trap w target = elim (cases_lt k (length b.uses)) [
    | inl old ↦ (old, at old)
    | inr new ↦ absurd (no_label (use_at k).target trap target (f.given k no_use new w).labelled)
  ]
    where
      at : k < length b.uses → IsCellUse cells (site_of (use_at k))
      at old =
          let here : (get_or b.uses k no_use).target ≡ Trap trap = sym (f.later.uses k no_use old).target ∙ target in
          let want : wants (class label_kinds (get_or b.uses k no_use)) ≡ true = ap (λ t. wants (class_of label_kinds t (get_or b.uses k no_use).kind)) here in
          elim (owned k no_use old want) [
            | inl c ↦ subst (λ cs. IsCellUse cs (site_of (use_at k))) (all_cells_are frame flags items out.places.items) (subst (IsCellUse (standing (map cells_in (take (length (elements_of frame flags items)) (elements_of frame flags items))) out.places.items)) (sym (old_site b code f out o k no_use old)) c)
            | inr j ↦ absurd (no_label (get_or b.uses k no_use).target trap here j.labelled)
          ]

  -- a deferred trap that has its trap word
  deferred_of : (t : ℕ × TrapCode) → IsStoppedTrap f.final t → IsDeferredTrap frame flags items out t.0 t.1
  deferred_of t s = at (cell_of s.index t.1 s.within (s.target no_use))
    where
      at : (s.index < length b.uses) × IsCellUse cells (site_of (use_at s.index)) → IsDeferredTrap frame flags items out t.0 t.1
      at (old, (cell, there, place, site)) =
          let put : IsPut b cell = subst (IsPut b) there.2 (all_put frame flags items force b code f out o h there.0 cell there.1) in
          let r : HasUse b.uses cell.0 (site_of (use_at s.index)).1 = record {
            index = s.index;
            within = old;
            is = λ d. ap site_of (get_or_default b.uses s.index d no_use old) ∙ (sym (old_site b code f out o s.index no_use old) ∙ ap (λ n. (n, (site_of (use_at s.index)).1)) (sym place));
          } in
          let u = final_use b code f out o cell put (site_of (use_at s.index)).1 r in
          record {
            from = cell.0;
            cell = cell.1;
            kind = (use_at s.index).kind;
            stands = there;
            site_is = site ∙ ap (λ (t : Target). Some (record { kind = (use_at s.index).kind; target = t })) (s.target no_use);
            stops = stops_at b code f out o cell (site_of (use_at s.index)).1 u t.0 (ap (λ n. (get_or f.final.uses n no_use).stop) (final_index b code f out o cell put (site_of (use_at s.index)).1 r) ∙ s.stop no_use);
          }

  -- a deferred trap is recorded at its stop
  is_recorded : (place : ℕ) (trap : TrapCode) → IsDeferredTrap frame flags items out place trap → Contains out.traps.items (place, trap)
  is_recorded place trap t =
      let c = t.stands in
      let site : Site = record { kind = t.kind; target = Trap trap } in
      let put : IsPut b (t.from, t.cell) = subst (IsPut b) c.2 (all_put frame flags items force b code f out o h c.0 (t.from, t.cell) c.1) in
      let target : IsCodeTarget (Trap trap) t.kind =
      subst (λ s. IfSome s IsCodeSite) t.site_is (subst (λ (s : ℕ × Cell). IfSome s.1.site IsCodeSite) c.2 (standing_targets frame flags items out.places.items c.0 (t.from, t.cell) c.1)) in
      let r : HasUse b.uses t.from site = subst (λ s. MatchOption s (IsFree b.uses t.from) (HasUse b.uses t.from)) t.site_is put.site in
      let leads = site_leads b code f out o (t.from, t.cell) put site (code_no_end (Trap trap) t.kind target) r in
      let same : leads.0 ≡ place = one_stop out t.kind (cell_word t.cell) t.from leads.0 place (trap_kind (Trap trap) t.kind tt target) leads.1 t.stops in
      subst (λ n. Contains out.traps.items (n, trap)) same leads.2.recorded

  code_traps_ordered : IsStrictlyIncreasing (map (λ t. t.0) out.traps.items)
  code_traps_ordered = subst (λ (ts : List (ℕ × TrapCode)). IsStrictlyIncreasing (map (λ t. t.0) ts)) (sym traps_are) all_traps.ordered

  -- the traps are those of the items, and those of deferred traps at their stops
  code_traps : (place : ℕ) (trap : TrapCode) → Contains out.traps.items (place, trap) ↔ (IsTrapOf frame flags items out.places.items place trap ⊎ IsDeferredTrap frame flags items out place trap)
  code_traps place trap = (
    λ c. elim (all_traps.known (place, trap) (subst (λ (ts : List (ℕ × TrapCode)). Contains ts (place, trap)) traps_are c)) [
      | inl own ↦ inl ((traps_exact frame flags out.places.items items place trap).0 own)
      | inr stopped ↦ inr (deferred_of (place, trap) stopped)
    ],
    λ t. elim t [
      | inl own ↦ subst (λ (ts : List (ℕ × TrapCode)). Contains ts (place, trap)) (sym traps_are) (all_traps.own (place, trap) ((traps_exact frame flags out.places.items items place trap).1 own))
      | inr deferred ↦ is_recorded place trap deferred
    ],
  )

  -- what else the buffer has recorded
  records_are : b.records ≡ records_in cells
  records_are = subst (λ cs. b.records ≡ records_in cs) (all_cells_are frame flags items out.places.items) recorded.records

  -- the code ends where the buffer does
  to_end : {A : Type 0} {place_of : A → ℕ} {xs : List A} → AreByPlace place_of 0 (end_of f.final) xs → AreByPlace place_of 0 (length out.bytes.items) xs
  to_end {place_of} {xs} p = subst (λ end. AreByPlace place_of 0 end xs) (sym (end_is b code f out o)) p

  -- the code has the records of its items, and no others, by place
  pub code_records : out.relocs.items ≡ code.relocs.items → out.calls.items ≡ code.calls.items → out.patchable.items ≡ code.patchable.items → out.maps.items ≡ code.maps.items → HasRecords frame flags items out
  code_records relocs calls patchable maps = record {
    by_place = record {
      traps = subst (λ ts. AreByPlace (λ t. t.0) 0 (length out.bytes.items) ts) (sym traps_are) (to_end f.recorded.traps);
      relocs = subst (AreByPlace (λ r. r.0) 0 (length out.bytes.items)) (sym (relocs ∙ f.relocs ∙ ap (λ rs. rs.relocs) (sym f.records_kept))) (to_end f.recorded.relocs);
      calls = subst (AreByPlace (λ place. place) 0 (length out.bytes.items)) (sym (calls ∙ f.calls ∙ ap (λ rs. rs.calls) (sym f.records_kept))) (to_end f.recorded.calls);
      patchable = subst (AreByPlace (λ c. c.0) 0 (length out.bytes.items)) (sym (patchable ∙ f.patchable ∙ ap (λ rs. rs.patchable) (sym f.records_kept))) (to_end f.recorded.patchable);
      maps = subst (AreByPlace (λ m. m.0) 0 (length out.bytes.items)) (sym (maps ∙ f.maps ∙ ap (λ rs. rs.maps) (sym f.records_kept))) (to_end f.recorded.maps);
    };
    relocs = relocs ∙ f.relocs ∙ ap (λ (rs : Records). rs.relocs) records_are ∙ relocs_from_items frame flags out.places.items items;
    traps_ordered = code_traps_ordered;
    traps = code_traps;
    calls = calls ∙ f.calls ∙ ap (λ (rs : Records). rs.calls) records_are ∙ calls_from_items frame flags out.places.items items;
    patchable = patchable ∙ f.patchable ∙ ap (λ (rs : Records). rs.patchable) records_are ∙ patchable_from_items frame flags out.places.items items;
    maps = maps ∙ f.maps ∙ ap (λ (rs : Records). rs.maps) records_are ∙ maps_from_items frame flags out.places.items items;
  }
