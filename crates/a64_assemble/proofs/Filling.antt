-- The islands and the pool of finished code hold what uses wait for, and nothing else.
use Rattle.std.proofs.Common.{ℕ, ◌≡◌, ◌⊎◌, ◌+◌, ◌-◌, ◌*◌, ◌/◌, ◌<◌, ◌≤◌, true, false, List, [], ◌∷◌, ◌++◌, length, get_or, map, take, Option, None, Some, refl, sym, ap, ◌∙◌, subst, arith, inl, inr, Bool}
use Rattle.std.specs.Prelude.{All, Contains, IfSome, IsSome, ◌&&◌, nat_le, slice_get}
use Rattle.std.specs.List.{flat_map}
use Rattle.std.specs.FinMap.{get}
use Rattle.std.proofs.lemmas.Bool.{cases_lt, false≢true, le-leb}
use Rattle.std.proofs.lemmas.List.{length-append, length-map, length-take-le, get_or-map, get_or-take, get_or-append-add, get_or_default}
use Rattle.std.proofs.lemmas.List.Elements.{All-same}
use Rattle.std.proofs.lemmas.Option.{slice_get-get_or, slice_get_within}
use Rattle.a64_base.specs.declared.entity.MachLabel.{MachLabel}
use Rattle.a64_inst.specs.declared.emission.EmitFlags.{EmitFlags}
use Rattle.a64_inst.specs.declared.frame.FrameLayout.{FrameLayout}
use Rattle.a64_inst.specs.declared.item.Item.{Item}
use Rattle.a64_inst.specs.declared.item.Item.TheVariants.{Bind}
use Rattle.a64_buffer.specs.declared.site.Use.{Use}
use Rattle.a64_buffer.specs.declared.site.Target.{Target}
use Rattle.a64_buffer.specs.declared.site.Target.TheVariants.{Label, Constant, Trap, IslandEnd}
use Rattle.a64_buffer.specs.declared.class.Class.TheVariants.{Near, Middle}
use Rattle.a64_buffer.specs.declared.finish.Finished.{Finished}
use Rattle.a64_buffer.specs.declared.force.ForceVeneers.{ForceVeneers}
use Rattle.a64_buffer.specs.Constants.{AreConstants}
use Rattle.a64_words.specs.Word.{outside, word_at}
use Rattle.a64_buffer.specs.Buffer.{Buffer, end_of, label_of, goal_of, is_within, IsBound}
use Rattle.a64_buffer.specs.Classes.{class, class_of, wants}
use Rattle.a64_buffer.specs.Kinds.{IsWithin}
use Rattle.a64_buffer.specs.Later.{IsLater}
use Rattle.a64_buffer.specs.Pieces as pieces
use Rattle.a64_buffer.specs.Pieces.{IsServed, front_size}
use Rattle.a64_buffer.specs.Finished.{IsFinished}
use Rattle.a64_buffer.specs.Held.{HoldsArea}
use Rattle.a64_buffer.proofs.Growth.{stands_there}
use Rattle.a64_buffer.proofs.Laters.{later_trans}
use Rattle.a64_emit.specs.declared.code.Code.{Code}
use Rattle.a64_label_use.specs.declared.label_use.LabelUse.{LabelUse}
use Rattle.a64_label_use.specs.declared.label_use.LabelUse.TheVariants as uses
use Rattle.a64_cells.specs.declared.site.Site.{Site}
use Rattle.a64_label_use.specs.LabelUses.{label_kinds, mask_for}
use Rattle.a64_cells.specs.Shapes.{Cell}
use Rattle.a64_cells.specs.Cells.{cells_of}
use Rattle.a64_emit.specs.Layout.{standing}
use Rattle.a64_emit.specs.Emission.{site_of}
use Rattle.a64_emit.specs.Contents.{IsCellUse, IsFarOff}
use Rattle.a64_emit.specs.Leads.{areas}
use Rattle.a64_assemble.proofs.Arrivals.{no_use, IsOutput, old_site, use_settled, end_is, pool_is}
use Rattle.a64_assemble.specs.Elements.{Element, Binding, Asking, cells_in, element_of, elements_of, element_at, falls_in, is_bound_by}
use Rattle.a64_assemble.specs.OpenUses.{WasAsked}
use Rattle.a64_assemble.specs.Progress.{HasPut}
use Rattle.a64_assemble.specs.Owners.{AreOwned}
use Rattle.a64_assemble.specs.Placement.{IsVeneerWord, IsWanting, IsOpenIn}
use Rattle.a64_assemble.specs.Fillings.{IsLateOrFar, HoldsPieces, IsFilledIsland, IsFilledPool}
use Rattle.a64_assemble.proofs.Areas.{served_stops, use_is, use_says, old_wanting, holds_pieces}
use Rattle.a64_assemble.proofs.BoundLabels.{bound_at}
use Rattle.a64_assemble.proofs.Itemized.{all_cells_are, binding_item}
use Rattle.a64_assemble.proofs.Islanded.{island_after}
use Rattle.a64_assemble.proofs.Needing.{some_same}
use Rattle.a64_assemble.proofs.Owners.{IsPieceJump, piece_jump, short_kind}
use Rattle.a64_assemble.proofs.Placing.{label_is, says_stop}
use Rattle.a64_assemble.proofs.Fronts.{falls_is}
use Rattle.a64_assemble.proofs.Opens.{some_place}
use Rattle.a64_emit.specs.Falls.{falls_at}

module _ (frame : FrameLayout) (flags : EmitFlags) (items : List Item) (force : ForceVeneers) (b : Buffer LabelUse) (code : Finished) (f : IsFinished label_kinds b code) (out : Code) (o : IsOutput code out) (h : HasPut force (elements_of frame flags items) (length (elements_of frame flags items)) out.places.items b) (owned : AreOwned (elements_of frame flags items) (length (elements_of frame flags items)) out.places.items b) (are : AreConstants b.constants) (all_bound : All (IsBound b.labels) b.uses) where
  abbrev xs : List Element
  xs = elements_of frame flags items

  abbrev use_at : ℕ → Use LabelUse
  use_at k = get_or f.final.uses k no_use

  abbrev cells : List (ℕ × Cell)
  cells = standing (map (cells_of frame flags) items) out.places.items

  -- ---- labels

  -- the label of a use is bound, and listed
  pub record HasGoal (label : MachLabel) : Type 0 where
    pub goal : ℕ
    pub bound : get b.labels label.0 ≡ Some goal
    pub listed : Contains out.labels.items (label, goal)

  has_goal : (label : MachLabel) (k : ℕ) → k < length b.uses → (get_or b.uses k no_use).target ≡ Label label → HasGoal label
  has_goal label k lt target = go (get b.labels label.0) refl (subst (λ (t : Target). IfSome (label_of t) (λ l. IsSome (get b.labels l))) target (all_bound k no_use lt))
    where
      go : (g : Option ℕ) → get b.labels label.0 ≡ g → IsSome g → HasGoal label
      go None e s = absurd (false≢true s)
      go (Some goal) e s = record {
        goal = goal;
        bound = e;
        listed = subst (λ (ls : List (MachLabel × ℕ)). Contains ls (label, goal)) (sym o.labels) ((f.labels.listed label goal).1 e);
      }

  -- ---- the pool

  pub pool_holds : HoldsArea label_kinds out.bytes.items b.constants f.final.uses b.labels b.labels (end_of b) (end_of b) (end_of f.final)
  pool_holds = subst (λ bytes. HoldsArea label_kinds bytes b.constants f.final.uses b.labels b.labels (end_of b) (end_of b) (end_of f.final)) (sym o.bytes) f.pool_holds

  -- a use of one of the shorter urgencies is a cell's
  short_cell : (k : ℕ) → k < length f.final.uses → (class label_kinds (use_at k) ≡ Near) ⊎ (class label_kinds (use_at k) ≡ Middle) → IsCellUse cells (site_of (use_at k))
  short_cell k w short = elim (cases_lt k (length b.uses)) [
    | inl old ↦
        let same = f.later.uses k no_use old in
        let site = old_site b code f out o k no_use old in
        let want : wants (class label_kinds (get_or b.uses k no_use)) ≡ true = ap (λ (s : ℕ × Site). wants (class_of label_kinds s.1.target s.1.kind)) (sym site) ∙ short_wants short in
        elim (owned k no_use old want) [
          | inl c ↦ subst (λ cs. IsCellUse cs (site_of (use_at k))) (all_cells_are frame flags items out.places.items) (subst (IsCellUse (standing (map cells_in (take (length xs) xs)) out.places.items)) (sym site) c)
          | inr j ↦ absurd (not_jump (same.kind ∙ j.kind))
        ]
    | inr new ↦ elim (f.given k no_use new w).kind [
      | inl jump ↦ absurd (not_jump jump)
      | inr far ↦ absurd (not_far far)
    ]
  ]
    where
      kinds : ((use_at k).kind ≡ uses.Branch14) ⊎ ((use_at k).kind ≡ uses.Branch19)
      kinds = (short_kind (use_at k).target (use_at k).kind short).1

      short_wants : (class label_kinds (use_at k) ≡ Near) ⊎ (class label_kinds (use_at k) ≡ Middle) → wants (class label_kinds (use_at k)) ≡ true
      short_wants s = elim s [ inl n ↦ ap wants n | inr n ↦ ap wants n ]

      not_jump : (use_at k).kind ≡ uses.Branch26 → ⊥
      not_jump e = elim kinds [ inl s ↦ (let z : uses.Branch14 ≡ uses.Branch26 = sym s ∙ e in cc) | inr s ↦ (let z : uses.Branch19 ≡ uses.Branch26 = sym s ∙ e in cc) ]

      not_far : (use_at k).kind ≡ uses.PCRel32 → ⊥
      not_far e = elim kinds [ inl s ↦ (let z : uses.Branch14 ≡ uses.PCRel32 = sym s ∙ e in cc) | inr s ↦ (let z : uses.Branch19 ≡ uses.PCRel32 = sym s ∙ e in cc) ]

  abbrev Told : Type 0
  Told = ℕ × Target × LabelUse

  reaches : (kind : LabelUse) (offset place : ℕ) → IsWithin (label_kinds.forward kind) (label_kinds.backward kind) offset place → is_within label_kinds kind offset place ≡ true
  reaches kind offset place w = ap (λ t. t && nat_le offset (place + label_kinds.backward kind)) (le-leb place (offset + label_kinds.forward kind) w.ahead) ∙ le-leb offset (place + label_kinds.backward kind) w.behind

  -- a jump word in the pool is a veneer word
  pool_veneer : (k : ℕ) → length b.uses ≤ k → k < length f.final.uses → wants (class label_kinds (use_at k)) ≡ true → ((use_at k).kind ≡ uses.Branch26) × IsVeneerWord frame flags items out (use_at k).offset (use_at k).target
  pool_veneer k new w want =
      let front : List Told = map pieces.site_of b.uses in
      let between : List Told = flat_map (pieces.piece_sites label_kinds b.constants) (pieces.pieces label_kinds b.constants (end_of b) f.served) in
      let words : List ℕ = flat_map (pieces.piece_words label_kinds b.constants) (pieces.pieces label_kinds b.constants (end_of b) f.served) in
      let told : Told = (0, IslandEnd, uses.Branch26) in
      let long : length front ≡ length b.uses = length-map b.uses (pieces.site_of {K = LabelUse}) in
      let all = length-append front between in
      let count : length f.final.uses ≡ length front + length between = sym (length-map f.final.uses (pieces.site_of {K = LabelUse})) ∙ (ap length f.serves.uses_are ∙ all) in
      let back : length front + (k - length front) ≡ k = omega (arith, long, new) in
      let here : get_or between (k - length front) told ≡ pieces.site_of (use_at k) =
      sym (get_or-append-add front between (k - length front) told)
      ∙ (ap (λ n. get_or (front ++ between) n told) back
      ∙ (ap (λ ss. get_or ss k told) (sym f.serves.uses_are) ∙ get_or-map pieces.site_of f.final.uses k no_use told w)) in
      let wanting : wants (class_of label_kinds (get_or between (k - length front) told).1 (get_or between (k - length front) told).2) ≡ true = ap (λ (t : Told). wants (class_of label_kinds t.1 t.2)) here ∙ want in
      let j : IsPieceJump b.constants (end_of b) f.served (pieces.site_of (use_at k)) = subst (IsPieceJump b.constants (end_of b) f.served) here (piece_jump b.constants (end_of b) f.served f.serves.stops (k - length front) told (omega (arith, back, count, w)) wanting) in
      let q : IsServed label_kinds b.labels b f.final (get_or f.served j.served no_use) = f.serves.waited j.served no_use j.within in
      let is : use_at q.index ≡ get_or f.served j.served no_use = q.is no_use in
      let final_end : end_of f.final ≡ end_of b + 4 * length words = omega (arith, ap length f.serves.words, length-append b.words words) in
      let short : (class label_kinds (use_at q.index) ≡ Near) ⊎ (class label_kinds (use_at q.index) ≡ Middle) = subst (λ (u : Use LabelUse). (class label_kinds u ≡ Near) ⊎ (class label_kinds u ≡ Middle)) (sym is) (j.class_is no_use) in
      let kinds = short_kind (use_at q.index).target (use_at q.index).kind short in
      let target : (use_at q.index).target ≡ (use_at k).target = ap (λ (u : Use LabelUse). u.target) is ∙ j.target no_use in
      let stop : (use_at q.index).stop ≡ Some (use_at k).offset = ap (λ (u : Use LabelUse). u.stop) is ∙ j.stops no_use in
      let want_user : wants (class label_kinds (use_at q.index)) ≡ true = elim short [ inl n ↦ ap wants n | inr n ↦ ap wants n ] in
      let jump : (use_at k).kind ≡ uses.Branch26 = j.kind in
      let settled = use_settled b code f out o k no_use w in
      let at : (use_at k).offset / 4 ≡ length b.words + j.number = omega (arith, j.place_is) in
      let put : get_or f.final.words ((use_at k).offset / 4) 0 ≡ 0x14000000 =
      ap (λ n. get_or f.final.words n 0) at ∙ (ap (λ ws. get_or ws (length b.words + j.number) 0) f.serves.words ∙ (get_or-append-add b.words words j.number 0 ∙ j.word)) in
      let pool = pool_is b code f out o in
      let last = end_is b code f out o in (
        jump,
        record {
          area =
              let n : length out.islands.items + 0 ≡ length out.islands.items = omega arith in
              let area_is : get_or (areas out) (length out.islands.items) (0, 0) ≡ (out.pool, length out.bytes.items) = ap (λ i. get_or (areas out) i (0, 0)) (sym n) ∙ get_or-append-add out.islands.items ((out.pool, length out.bytes.items) ∷ []) 0 (0, 0) in
              record {
                index = length out.islands.items;
                within = omega (arith, length-append out.islands.items ((out.pool, length out.bytes.items) ∷ []));
                begins = omega (arith, ap (λ (i : ℕ × ℕ). i.0) area_is, pool, j.place_is);
                ends = omega (arith, ap (λ (i : ℕ × ℕ). i.1) area_is, last, final_end, j.place_is, j.inside);
              };
          word = subst (λ kind. outside (mask_for kind) (word_at out.bytes.items (use_at k).offset) ≡ outside (mask_for kind) (get_or f.final.words ((use_at k).offset / 4) 0)) jump settled.rest ∙ ap (outside (mask_for uses.Branch26)) put;
          labelled = subst (λ t. IsSome (label_of t)) target kinds.0;
          user = (use_at q.index).offset;
          kind = (use_at q.index).kind;
          short = kinds.1;
          use' = subst (λ t. IsCellUse cells ((use_at q.index).offset, record { kind = (use_at q.index).kind; target = t })) target (short_cell q.index q.within short);
          stops = says_stop frame flags items force b code f out o h owned q.index q.within want_user (use_at k).offset stop;
          not_over = λ island after there falls begins.
              let known : Contains b.islands island = subst (λ is. Contains is island) (o.islands ∙ f.islands) there.listed in
              let below : island.1 ≤ end_of b = subst (λ (i : ℕ × ℕ). i.1 ≤ end_of b) known.2 (h.laid.below known.0 island known.1) in
              let tall : island.0 + 4 ≤ island.1 = subst (λ (i : ℕ × ℕ). i.0 + 4 ≤ i.1) known.2 (h.laid.once known.0 island known.1).stands.long in
              omega (arith, below, tall, begins, j.place_is);
          away = λ there.
              let stops = stands_there label_kinds f.final (b.islands ++ (end_of b, end_of f.final) ∷ []) f.final_sound.stops q.index (use_at k).offset no_use q.within stop in
              let goal : goal_of b.labels (use_at k).target ≡ Some (use_at k).offset = label_is frame flags items force b code f out o h owned ((use_at q.index).offset, record { kind = (use_at q.index).kind; target = (use_at k).target }) (use_at k).offset there in
              let far : is_within label_kinds (use_at q.index).kind (use_at q.index).offset (use_at k).offset ≡ false = subst (λ g. IfSome g (λ place. is_within label_kinds (use_at q.index).kind (use_at q.index).offset place ≡ false)) goal
              (subst (λ t. IfSome (goal_of b.labels t) (λ place. is_within label_kinds (use_at q.index).kind (use_at q.index).offset place ≡ false)) target
              (subst (λ (u : Use LabelUse). IfSome (goal_of b.labels u.target) (λ place. is_within label_kinds u.kind u.offset place ≡ false)) (sym is) q.far_off)) in
              false≢true (sym far ∙ reaches (use_at q.index).kind (use_at q.index).offset (use_at k).offset stops.within);
        },
      )

  -- what the pool serves is a cell's use or a veneer word
  pool_wanting : (u : Use LabelUse) (c : Contains f.final.uses u) → wants (class label_kinds u) ≡ true → IsWanting frame flags items out u.offset (site_of u).1
  pool_wanting u c want = elim (cases_lt c.0 (length b.uses)) [
    | inl old ↦ old_wanting frame flags items force b code f out o h owned u c want old
    | inr new ↦
        let is : use_at c.0 ≡ u = use_is frame flags items force b code f out o h owned u c in
        let wanting : wants (class label_kinds (use_at c.0)) ≡ true = ap (λ (v : Use LabelUse). wants (class label_kinds v)) is ∙ want in
        subst (λ (v : Use LabelUse). IsWanting frame flags items out v.offset (site_of v).1) is
        (record { wanting = wanting; is = inr (pool_veneer c.0 new c.1 wanting) })
  ]

  -- the label of a use is bound
  target_goal : (u : Use LabelUse) (c : Contains f.final.uses u) (label : MachLabel) → u.target ≡ Label label → HasGoal label
  target_goal u c label e =
      let target : (use_at c.0).target ≡ Label label = ap (λ (v : Use LabelUse). v.target) (use_is frame flags items force b code f out o h owned u c) ∙ e in
      elim (cases_lt c.0 (length b.uses)) [
        | inl old ↦ has_goal label c.0 old (sym (f.later.uses c.0 no_use old).target ∙ target)
        | inr new ↦ (let v = f.given c.0 no_use new c.1 in has_goal label v.parent v.within (v.target no_use ∙ target))
      ]

  -- its label is out of its range
  pool_far : (u : Use LabelUse) → Contains f.final.uses u → IfSome (goal_of b.labels u.target) (λ place. is_within label_kinds u.kind u.offset place ≡ false) → wants (class label_kinds u) ≡ true → IsFarOff b.constants out (site_of u)
  pool_far u c far want = go u.target refl far want
    where
      go : (t : Target) → u.target ≡ t → IfSome (goal_of b.labels t) (λ place. is_within label_kinds u.kind u.offset place ≡ false) → wants (class_of label_kinds t u.kind) ≡ true → IsFarOff b.constants out (u.offset, record { kind = u.kind; target = t })
      go (Label label) e far w =
          let g = target_goal u c label e in
          (g.goal, g.listed, subst (λ (x : Option ℕ). IfSome x (λ place. is_within label_kinds u.kind u.offset place ≡ false)) g.bound far)
      go (Constant n) e far w = tt
      go (Trap x) e far w = tt
      go IslandEnd e far w = absurd (false≢true w)

  -- the pool holds what uses still wait for, in the order of islands, and nothing else
  pub pool_filled : IsFilledPool frame flags items b.constants out
  pool_filled =
      let pool = pool_is b code f out o in
      subst (λ n. HoldsPieces frame flags items b.constants out n n (length out.bytes.items) (IsFarOff b.constants out)) (sym pool)
      (subst (λ n. HoldsPieces frame flags items b.constants out (end_of b) (end_of b) n (IsFarOff b.constants out)) (sym (end_is b code f out o))
      (holds_pieces frame flags items force b code f out o h owned are b.labels (end_of b) (end_of b) (end_of f.final) pool_holds (IsFarOff b.constants out)
      (λ k l. pool_wanting (get_or pool_holds.served k no_use) (pool_holds.among k no_use l) (pool_holds.wanting k no_use l))
      (λ k l. pool_far (get_or pool_holds.served k no_use) (pool_holds.among k no_use l) (pool_holds.far_off k no_use l) (pool_holds.wanting k no_use l))))

  -- ---- an island

  module _ (island : ℕ × ℕ) (listed : Contains b.islands island) (z : WasAsked force (elements_of frame flags items) (length (elements_of frame flags items)) (out.places.items ++ end_of b ∷ []) b island) where
    abbrev m : Buffer LabelUse
    m = z.moment

    abbrev front : Bool
    front = falls_in (element_at (elements_of frame flags items) z.after)

    since_moment : IsLater m b
    since_moment = later_trans m z.written b z.has.later z.since

    abbrev start : ℕ
    start = end_of z.moment + front_size front

    pub island_holds : HoldsArea label_kinds out.bytes.items b.constants f.final.uses z.moment.labels b.labels (end_of z.moment) start (end_of z.written)
    island_holds =
        subst (λ bytes. HoldsArea label_kinds bytes b.constants f.final.uses z.moment.labels b.labels (end_of z.moment) start (end_of z.written)) (sym o.bytes)
        (f.islands_hold z.distance force front z.moment z.written z.whole z.has z.since)

    -- a use that the island serves
    module _ (k : ℕ) (l : k < length island_holds.served) where
      abbrev u : Use LabelUse
      u = get_or island_holds.served k no_use

      c : Contains f.final.uses u
      c = island_holds.among k no_use l

      want : wants (class label_kinds u) ≡ true
      want = island_holds.wanting k no_use l

      far_off : IfSome (goal_of m.labels u.target) (λ place. is_within label_kinds u.kind u.offset place ≡ false)
      far_off = island_holds.far_off k no_use l

      is : use_at c.0 ≡ u
      is = use_is frame flags items force b code f out o h owned u c

      -- it was made before the buffer was finished
      old : c.0 < length b.uses
      old = elim (cases_lt c.0 (length b.uses)) [
        | inl lt ↦ lt
        | inr ge ↦ absurd (let x = f.later.fresh c.0 no_use ge c.1 in let y = island_holds.placed k no_use l in omega (arith, x, y, ap (λ (v : Use LabelUse). v.offset) is, z.since.end))
      ]

      -- its label is out of its range, or bound later
      island_late : IsLateOrFar frame flags items b.constants out z.after (site_of u)
      island_late = go u.target refl far_off want
        where
          go : (t : Target) → u.target ≡ t → IfSome (goal_of m.labels t) (λ place. is_within label_kinds u.kind u.offset place ≡ false) → wants (class_of label_kinds t u.kind) ≡ true → IsLateOrFar frame flags items b.constants out z.after (u.offset, record { kind = u.kind; target = t })
          go (Constant n) e far w = tt
          go (Trap x) e far w = tt
          go IslandEnd e far w = absurd (false≢true w)
          go (Label label) e far w = (g.goal, g.listed, where_bound (cases_lt z.after only.0))
            where
              g : HasGoal label
              g = target_goal u c label e

              only : (i : ℕ) × (i < length xs) × (element_at xs i ≡ Binding label.0) × (get_or out.places.items i 0 ≡ g.goal)
              only = h.labels.only label.0 g.goal g.bound

              bound_there : only.0 ≤ z.after → IsSome (get m.labels label.0)
              bound_there le =
                  let inside : only.0 < length (take (z.after + 1) xs) = omega (arith, le, z.within, length-take-le (z.after + 1) xs (omega (arith, z.within))) in
                  z.bound label.0 (bound_at (take (z.after + 1) xs) only.0 label.0 inside (get_or-take (z.after + 1) xs only.0 (Asking 0) (omega (arith, le)) ∙ only.2))

              out_of_range : (p : Option ℕ) → get m.labels label.0 ≡ p → IsSome p → is_within label_kinds u.kind u.offset g.goal ≡ false
              out_of_range None at s = absurd (false≢true s)
              out_of_range (Some place) at s =
                  let same : place ≡ g.goal = some_same (sym (since_moment.labels label.0 place at) ∙ g.bound) in
                  subst (λ n. is_within label_kinds u.kind u.offset n ≡ false) same (subst (λ (x : Option ℕ). IfSome x (λ place. is_within label_kinds u.kind u.offset place ≡ false)) at far)

              where_bound : (z.after < only.0) ⊎ (only.0 ≤ z.after) → (is_within label_kinds u.kind u.offset g.goal ≡ false) ⊎ ((i : ℕ) × (z.after < i) × (slice_get items i ≡ Some (Bind label)))
              where_bound (inl later) = inr (only.0, later, binding_item frame flags items only.0 label.0 (let x = only.1 in omega (arith, x, length-map items (element_of frame flags))) only.2)
              where_bound (inr early) = inl (out_of_range (get m.labels label.0) refl (bound_there early))

      -- it stops there or behind
      stop_there : (stop : ℕ) × (u.stop ≡ Some stop) × (start ≤ stop)
      stop_there = served_stops b.constants start island_holds.served island_holds.stops k no_use l

      -- where its label was bound by then, it does not reach that
      not_at_label : goal_of m.labels u.target ≡ Some stop_there.0 → ⊥
      not_at_label goal =
          let stops : (use_at c.0).stop ≡ Some stop_there.0 = ap (λ (v : Use LabelUse). v.stop) is ∙ stop_there.1 in
          let reached : is_within label_kinds u.kind u.offset stop_there.0 ≡ true =
          subst (λ (v : Use LabelUse). is_within label_kinds v.kind v.offset stop_there.0 ≡ true) is
          (reaches (use_at c.0).kind (use_at c.0).offset stop_there.0 (stands_there label_kinds f.final (b.islands ++ (end_of b, end_of f.final) ∷ []) f.final_sound.stops c.0 stop_there.0 no_use c.1 stops).within) in
          let far : is_within label_kinds u.kind u.offset stop_there.0 ≡ false = subst (λ g. IfSome g (λ place. is_within label_kinds u.kind u.offset place ≡ false)) goal far_off in
          false≢true (sym far ∙ reached)

      -- nor does it stop at its label's place, if that was bound by then
      bound_goal : (label : MachLabel) (i stop : ℕ) → u.target ≡ Label label → i ≤ z.after → slice_get items i ≡ Some (Bind label) → slice_get out.places.items i ≡ Some stop → goal_of m.labels u.target ≡ Some stop
      bound_goal label i stop target early item place =
          let d : Item = Bind label in
          let within = slice_get_within items i (Bind label) item in
          let there : get_or items i d ≡ Bind label = some_same (sym (slice_get-get_or items i d within) ∙ item) in
          let element : element_at xs i ≡ Binding label.0 = get_or-map (element_of frame flags) items i d (Asking 0) within ∙ ap (element_of frame flags) there in
          let inside : i < length xs = omega (arith, within, length-map items (element_of frame flags)) in
          let by : is_bound_by (take (z.after + 1) xs) label.0 ≡ true =
          bound_at (take (z.after + 1) xs) i label.0 (omega (arith, early, length-take-le (z.after + 1) xs (omega (arith, z.within))))
          (get_or-take (z.after + 1) xs i (Asking 0) (omega (arith, early)) ∙ element) in
          let placed = slice_get_within out.places.items i stop place in
          let here : get_or out.places.items i 0 ≡ stop = some_same (sym (slice_get-get_or out.places.items i 0 placed) ∙ place) in
          let g = some_place (get m.labels label.0) (z.bound label.0 by) in
          let same : g.0 ≡ stop = some_same (sym (since_moment.labels label.0 g.0 g.1) ∙ h.labels.bound i label.0 inside element) ∙ here in
          ap (goal_of m.labels) target ∙ (g.1 ∙ ap (λ n. Some n) same)

      -- and it is open there
      island_open : IsOpenIn frame flags items out z.after island.0 island.1 (site_of u)
      island_open = record {
        is = old_wanting frame flags items force b code f out o h owned u c want old;
        before = let x = island_holds.placed k no_use l in omega (arith, x, z.ends);
        stop = stop_there.0;
        stops = use_says frame flags items force b code f out o h owned u c want stop_there.0 stop_there.1;
        from = let x = stop_there.2 in omega (arith, x, z.at);
        away = λ label i target early item place. not_at_label (bound_goal label i stop_there.0 target early item place);
      }

    abbrev May : ℕ × Site → Type 0
    May u = IsOpenIn frame flags items out z.after island.0 island.1 u × IsLateOrFar frame flags items b.constants out z.after u

    island_filled : IsFilledIsland frame flags items b.constants out island
    island_filled =
        let inside : z.after < length xs = z.within in
        record {
          after = z.after;
          within = omega (arith, inside, length-map items (element_of frame flags));
          stands = island_after frame flags items force b code f out o h z.after island z.within listed z.stands;
          holds =
              let begin : end_of m ≡ island.0 = z.at in
              let falls : front ≡ falls_at items z.after = falls_is frame flags items z.after (omega (arith, inside, length-map items (element_of frame flags))) in
              let start_is : start ≡ island.0 + front_size (falls_at items z.after) = omega (arith, begin, ap front_size falls) in
              subst (λ n. HoldsPieces frame flags items b.constants out n (island.0 + front_size (falls_at items z.after)) island.1 May) begin
              (subst (λ n. HoldsPieces frame flags items b.constants out (end_of m) n island.1 May) start_is
              (subst (λ n. HoldsPieces frame flags items b.constants out (end_of m) start n May) z.ends
              (holds_pieces frame flags items force b code f out o h owned are m.labels (end_of m) start (end_of z.written) island_holds May
              (λ k l. old_wanting frame flags items force b code f out o h owned (u k l) (c k l) (want k l) (old k l))
              (λ k l. (island_open k l, island_late k l)))));
        }

  -- each island holds what uses waited for there, in the order of islands, and nothing else
  pub islands_filled : All (IsFilledIsland frame flags items b.constants out) out.islands.items
  islands_filled = All-same (IsFilledIsland frame flags items b.constants out) out.islands.items b.islands (o.islands ∙ f.islands)
      (λ i d w. island_filled (get_or b.islands i d) (i, w, get_or_default b.islands i (get_or b.islands i d) d w) (h.asked i d w))
