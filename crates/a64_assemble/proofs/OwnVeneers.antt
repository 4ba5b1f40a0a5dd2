-- In finished code the uses of cells stop ahead of themselves, and no two branches at one veneer.
use Rattle.std.proofs.Common.{ℕ, ◌≡◌, ◌⊎◌, ◌<◌, true, List, [], ◌∷◌, ◌++◌, length, get_or, Some, sym, ap, ◌∙◌, subst, arith, inl, inr}
use Rattle.std.specs.Prelude.{IsSome}
use Rattle.std.proofs.lemmas.Bool.{cases_lt, cases_eq, false≢true}
use Rattle.a64_inst.specs.declared.emission.EmitFlags.{EmitFlags}
use Rattle.a64_inst.specs.declared.frame.FrameLayout.{FrameLayout}
use Rattle.a64_inst.specs.declared.item.Item.{Item}
use Rattle.a64_buffer.specs.declared.site.Use.{Use}
use Rattle.a64_buffer.specs.declared.site.Target.{Target}
use Rattle.a64_buffer.specs.declared.finish.Finished.{Finished}
use Rattle.a64_buffer.specs.declared.force.ForceVeneers.{ForceVeneers}
use Rattle.a64_buffer.specs.Buffer.{Buffer, end_of, label_of, goal_of}
use Rattle.a64_buffer.specs.Classes.{class, wants}
use Rattle.a64_buffer.specs.Finished.{IsFinished}
use Rattle.a64_buffer.specs.Sound.{MayShare}
use Rattle.a64_buffer.proofs.Growth.{stands_there}
use Rattle.a64_buffer.proofs.Serving.{label_no_constant}
use Rattle.a64_emit.specs.declared.code.Code.{Code}
use Rattle.a64_label_use.specs.declared.label_use.LabelUse.{LabelUse}
use Rattle.a64_cells.specs.declared.site.Site.{Site}
use Rattle.a64_label_use.specs.LabelUses.{label_kinds}
use Rattle.a64_emit.specs.Emission.{site_of}
use Rattle.a64_emit.specs.Contents.{site_class}
use Rattle.a64_emit.specs.Leads.{StopsAt}
use Rattle.a64_assemble.specs.Elements.{elements_of}
use Rattle.a64_assemble.specs.Progress.{HasPut}
use Rattle.a64_assemble.specs.Owners.{AreOwned}
use Rattle.a64_assemble.specs.OwnStops.{IsStopOf, StopAhead, HaveOwnVeneers}
use Rattle.a64_assemble.specs.Placement.{IsLabelAt}
use Rattle.a64_assemble.proofs.Arrivals.{no_use, IsOutput}
use Rattle.a64_assemble.proofs.Placing.{known_cell, label_at, stop_said}

module _ (frame : FrameLayout) (flags : EmitFlags) (items : List Item) (force : ForceVeneers) (b : Buffer LabelUse) (code : Finished) (f : IsFinished label_kinds b code) (out : Code) (o : IsOutput code out) (h : HasPut force (elements_of frame flags items) (length (elements_of frame flags items)) out.places.items b) (owned : AreOwned (elements_of frame flags items) (length (elements_of frame flags items)) out.places.items b) where
  abbrev use_at : ℕ → Use LabelUse
  use_at k = get_or f.final.uses k no_use

  -- ---- a cell's use, as the finished buffer has it

  record Known (u : ℕ × Site) (stop : ℕ) : Type 0 where
    index : ℕ
    inside : index < length f.final.uses
    is : site_of (use_at index) ≡ u
    stop_is : (use_at index).stop ≡ Some stop

  known : (u : ℕ × Site) (stop : ℕ) → IsStopOf frame flags items out u stop → Known u stop
  known u stop s =
      let k = known_cell frame flags items force b code f out o h owned u s.is in
      let inside : k.index < length f.final.uses = omega (arith, k.within, f.later.count) in
      let want : wants (class label_kinds (use_at k.index)) ≡ true = ap (λ (t : ℕ × Site). wants (site_class t.1)) k.is ∙ s.wanting in
      record {
        index = k.index;
        inside = inside;
        is = k.is;
        stop_is = stop_said frame flags items force b code f out o h owned k.index inside want stop (subst (λ (t : ℕ × Site). StopsAt out t.1.kind 0 t.0 stop) (sym k.is) s.stops);
      }

  -- ---- ahead

  at_goal : (u : ℕ × Site) (stop : ℕ) (n : Known u stop) → goal_of b.labels (use_at n.index).target ≡ Some stop → IsLabelAt frame flags items out u stop
  at_goal u stop n goal = label_at frame flags items force b code f out o h owned u stop (subst (λ (t : ℕ × Site). goal_of b.labels t.1.target ≡ Some stop) n.is goal)

  pub code_ahead : StopAhead frame flags items out
  code_ahead u stop s =
      let n = known u stop s in
      elim (stands_there label_kinds f.final (b.islands ++ (end_of b, end_of f.final) ∷ []) f.final_sound.stops n.index stop no_use n.inside n.stop_is).ahead [
        | inl lt ↦ inl (omega (arith, lt, ap (λ (t : ℕ × Site). t.0) n.is))
        | inr goal ↦ inr (at_goal u stop n (subst (λ labels. goal_of labels (use_at n.index).target ≡ Some stop) f.labels_kept goal))
      ]

  -- ---- veneers

  -- what two branches share is the place of a label of theirs
  shared : (s t : Target) (stop : ℕ) → IsSome (label_of s) → IsSome (label_of t) → MayShare b.labels stop s t → (goal_of b.labels s ≡ Some stop) ⊎ (goal_of b.labels t ≡ Some stop)
  shared s t stop ls lt m = elim m [
    | inl load ↦ absurd (label_no_constant s ls load.0)
    | inr one ↦ elim one [
      | inl first ↦ elim first [ inl goal ↦ inl goal | inr end ↦ absurd (false≢true (subst (λ x. IsSome (label_of x)) end ls)) ]
      | inr second ↦ elim second [ inl goal ↦ inr goal | inr end ↦ absurd (false≢true (subst (λ x. IsSome (label_of x)) end lt)) ]
    ]
  ]

  two : (u v : ℕ × Site) (stop : ℕ) (n : Known u stop) (p : Known v stop) → n.index < p.index → IsSome (label_of u.1.target) → IsSome (label_of v.1.target) → IsLabelAt frame flags items out u stop ⊎ IsLabelAt frame flags items out v stop
  two u v stop n p lt lu lv =
      elim (shared (use_at n.index).target (use_at p.index).target stop
      (subst (λ (t : ℕ × Site). IsSome (label_of t.1.target)) (sym n.is) lu)
      (subst (λ (t : ℕ × Site). IsSome (label_of t.1.target)) (sym p.is) lv)
      (f.own_stops n.index p.index stop no_use lt p.inside n.stop_is p.stop_is)) [
        | inl goal ↦ inl (at_goal u stop n goal)
        | inr goal ↦ inr (at_goal v stop p goal)
      ]

  pub own_veneers : HaveOwnVeneers frame flags items out
  own_veneers u v stop ne lu lv su sv =
      let n = known u stop su in
      let p = known v stop sv in
      elim (cases_eq n.index p.index) [
        | inl same ↦ absurd (ne (ap (λ (t : ℕ × Site). t.0) (sym n.is ∙ (ap (λ k. site_of (use_at k)) same ∙ p.is))))
        | inr apart ↦ elim (cases_lt n.index p.index) [
          | inl lt ↦ two u v stop n p lt lu lv
          | inr ge ↦ elim (two v u stop p n (omega (arith, ge, apart)) lv lu) [ inl goal ↦ inr goal | inr goal ↦ inl goal ]
        ]
      ]
