-- Islands stand in finished code only where they may, and wherever they are forced.
use Rattle.std.proofs.Common.{ℕ, ◌≡◌, ◌+◌, ◌<◌, ◌≤◌, true, List, [], ◌∷◌, ◌++◌, All, length, get_or, sym, ap, ◌∙◌, subst, arith, inl, inr}
use Rattle.std.specs.Prelude.{Contains}
use Rattle.std.proofs.lemmas.List.{length-map, get_or_append_left, get_or_default}
use Rattle.std.proofs.lemmas.List.Elements.{All-same}
use Rattle.std.proofs.lemmas.Option.{slice_get-get_or, slice_get_within}
use Rattle.a64_inst.specs.declared.emission.EmitFlags.{EmitFlags}
use Rattle.a64_inst.specs.declared.frame.FrameLayout.{FrameLayout}
use Rattle.a64_inst.specs.declared.item.Item.{Item}
use Rattle.a64_buffer.specs.declared.site.Use.{Use}
use Rattle.a64_buffer.specs.declared.finish.Finished.{Finished}
use Rattle.a64_buffer.specs.declared.force.ForceVeneers.{ForceVeneers}
use Rattle.a64_buffer.specs.declared.force.ForceVeneers.TheVariants.{Yes}
use Rattle.a64_buffer.specs.Buffer.{Buffer, end_of}
use Rattle.a64_buffer.specs.Finished.{IsFinished}
use Rattle.a64_emit.specs.declared.code.Code.{Code}
use Rattle.a64_label_use.specs.declared.label_use.LabelUse.{LabelUse}
use Rattle.a64_label_use.specs.LabelUses.{label_kinds}
use Rattle.a64_emit.specs.Emission.{site_of}
use Rattle.a64_assemble.specs.Elements.{Element, element_of, elements_of}
use Rattle.a64_assemble.specs.Stations.{IsIslandBehind}
use Rattle.a64_assemble.specs.OpenUses.{is_open_at, SomeOpenAt, IsCaused}
use Rattle.a64_assemble.specs.Progress.{AreGood, HasPut}
use Rattle.a64_assemble.specs.Owners.{AreOwned}
use Rattle.a64_assemble.specs.Placement as placement
use Rattle.a64_assemble.proofs.Arrivals.{no_use, IsOutput, pool_is}
use Rattle.a64_assemble.proofs.Finishing.{code_laid, code_caused, code_forced, code_short}
use Rattle.a64_assemble.proofs.Islanded.{island_after}
use Rattle.a64_assemble.proofs.Itemized.{whole_same}
use Rattle.a64_assemble.proofs.Needing.{some_same, need_in, takes_near, takes_far, leaves_far, open_known, open_stands}

module _ (frame : FrameLayout) (flags : EmitFlags) (items : List Item) (force : ForceVeneers) (b : Buffer LabelUse) (code : Finished) (f : IsFinished label_kinds b code) (out : Code) (o : IsOutput code out) (good : AreGood (elements_of frame flags items)) (h : HasPut force (elements_of frame flags items) (length (elements_of frame flags items)) out.places.items b) (owned : AreOwned (elements_of frame flags items) (length (elements_of frame flags items)) out.places.items b) where
  abbrev xs : List Element
  xs = elements_of frame flags items

  abbrev use_at : ℕ → Use LabelUse
  use_at k = get_or f.final.uses k no_use

  count_is : length xs ≡ length items
  count_is = length-map items (element_of frame flags)

  by_need : (island : ℕ × ℕ) → Contains b.islands island → IsCaused xs f.final force (out.places.items ++ code.pool ∷ []) island → island.1 ≤ out.pool → placement.IsIslandByNeed frame flags items out force island
  by_need island listed c low =
      let within = c.within in
      let long : island.0 ≤ island.1 = (let x = c.stands.long in omega (arith, x)) in
      record {
        after = c.after;
        within = omega (arith, within, count_is);
        stands = island_after frame flags items force b code f out o h c.after island c.within listed (subst (λ end. IsIslandBehind xs (out.places.items ++ end ∷ []) c.after island) f.pool c.stands);
        space = c.space;
        space_is = c.space_is;
        cause = elim c.cause [
          | inl need ↦ inl (need_in frame flags items force b code f out o h owned c.after island.0 island.0 c.space (λ site. Unit {0}) c.within (omega (arith, long, low)) need)
          | inr forced ↦ inr (forced.0, forced.1, ((use_at forced.2.index).offset, (site_of (use_at forced.2.index)).1, open_stands frame flags items force b code f out o h owned c.after island.0 island.0 forced.2.index c.within (omega (arith, long, low)) forced.2.within (forced.2.open' no_use)))
        ];
        near = takes_near frame flags items force b code f out o h owned c.after island c.within long low c.holds.near;
        far = elim c.holds.far [
          | inl leaves ↦ inl (leaves_far frame flags items force b code f out o h owned c.after island c.within low leaves.0, leaves.1)
          | inr takes ↦ inr (
            takes_far frame flags items force b code f out o h owned c.after island c.within low takes.0,
            elim takes.1 [
              | inl need ↦ inl (need_in frame flags items force b code f out o h owned c.after island.0 island.1 c.space (placement.IsFar frame flags items out) c.within low need)
              | inr forced ↦ inr forced
            ],
          )
        ];
      }

  -- each island stands where it is needed or forced, and takes what it must
  pub islands_by_need : All (placement.IsIslandByNeed frame flags items out force) out.islands.items
  islands_by_need = All-same (placement.IsIslandByNeed frame flags items out force) out.islands.items code.islands.items o.islands
      (λ i d w. by_need (get_or code.islands.items i d) (subst (λ is. Contains is (get_or code.islands.items i d)) f.islands (i, w, get_or_default code.islands.items i (get_or code.islands.items i d) d w)) (code_caused force xs good out.places.items b h code f i d w) (let x = (code_laid force xs good out.places.items b h code f).below i d w in omega (arith, x, o.pool)))

  -- and where islands are forced, one stands behind each item that asks for one and at which a use is open
  pub islands_forced : force ≡ Yes → placement.AreForced frame flags items out
  islands_forced now k place within asks at some =
      let inside : k < length xs = omega (arith, within, count_is) in
      let placed = slice_get_within out.places.items k place at in
      let here : get_or out.places.items k 0 ≡ place = some_same (sym (slice_get-get_or out.places.items k 0 placed) ∙ at) in
      let station : get_or (out.places.items ++ end_of b ∷ []) k 0 ≡ get_or out.places.items k 0 = get_or_append_left out.places.items (end_of b ∷ []) 0 k placed in
      let low : place ≤ out.pool = (let x = h.laid.rising k (omega (arith, inside)) in omega (arith, x, station, here, pool_is b code f out o)) in
      let u = open_known frame flags items force b code f out o h owned k place place some.0 inside low some.1 in
      let island = code_forced force xs good out.places.items b h code f now k inside asks
      (subst (λ n. SomeOpenAt xs f.final k n) (sym here) (record { index = u.index; within = u.within; open' = λ d. subst (λ v. is_open_at xs f.final k place v ≡ true) (get_or_default f.final.uses u.index no_use d u.within) u.open' })) in
      let end : ℕ = get_or (out.places.items ++ end_of b ∷ []) (k + 1) 0 in (
        end,
        island_after frame flags items force b code f out o h k (place, end) inside (subst (λ n. Contains b.islands (n, end)) here island.0) (subst (λ n. IsIslandBehind xs (out.places.items ++ end_of b ∷ []) k (n, end)) here island.1),
      )

  -- the code is at most the sizes, the charges and the asked spaces long
  pub bytes_short : placement.IsShort frame flags items out
  bytes_short = omega (arith, code_short force xs good out.places.items b h code f, whole_same frame flags items, ap length o.bytes)
