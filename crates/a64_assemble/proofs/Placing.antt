-- The uses that finished code has by its bytes are those that the buffer knows.
use Rattle.std.proofs.Common.{ℕ, pos, ◌≡◌, ◌⊎◌, ◌+◌, ◌*◌, ◌/◌, ◌<◌, ◌≤◌, true, false, List, [], ◌∷◌, ◌++◌, All, length, get_or, map, take, Option, None, Some, refl, sym, ap, ◌∙◌, subst, arith, inl, inr}
use Rattle.std.specs.Prelude.{Contains, IsSome, IfSome, MatchOption, is_some}
use Rattle.std.specs.FinMap.{get}
use Rattle.std.proofs.lemmas.Bool.{cases_lt, cases_eq, false≢true, cases_Bool}
use Rattle.std.proofs.lemmas.List.{length-append, get_or_append_left, get_or_default, length-map}
use Rattle.a64_base.specs.declared.entity.MachLabel.{MachLabel}
use Rattle.a64_inst.specs.declared.emission.EmitFlags.{EmitFlags}
use Rattle.a64_inst.specs.declared.frame.FrameLayout.{FrameLayout}
use Rattle.a64_inst.specs.declared.item.Item.{Item}
use Rattle.a64_buffer.specs.declared.site.Use.{Use}
use Rattle.a64_buffer.specs.declared.site.Target.{Target}
use Rattle.a64_buffer.specs.declared.site.Target.TheVariants.{Label, Constant, Trap, IslandEnd}
use Rattle.a64_buffer.specs.declared.finish.Finished.{Finished}
use Rattle.a64_buffer.specs.declared.force.ForceVeneers.{ForceVeneers}
use Rattle.a64_buffer.specs.Areas.{InArea}
use Rattle.a64_words.specs.Word.{outside, word_at}
use Rattle.a64_buffer.specs.Kinds.{GoesTo}
use Rattle.a64_buffer.specs.Buffer.{Buffer, end_of, label_of, goal_of, IsFree}
use Rattle.a64_buffer.specs.Classes.{wants, class, class_of}
use Rattle.a64_buffer.specs.Sound.{IsJump, IsFar, IsStop, LeadsOn, HasJump}
use Rattle.a64_buffer.specs.Finished.{IsFinished}
use Rattle.a64_buffer.proofs.Growth.{stands_there}
use Rattle.a64_emit.specs.declared.code.Code.{Code}
use Rattle.a64_label_use.specs.declared.label_use.LabelUse.{LabelUse}
use Rattle.a64_label_use.specs.declared.label_use.LabelUse.TheVariants as uses
use Rattle.a64_cells.specs.declared.site.Site.{Site}
use Rattle.a64_label_use.specs.LabelUses.{label_kinds, mask_for, adds_distance}
use Rattle.a64_cells.specs.Shapes.{Cell}
use Rattle.a64_cells.specs.Cells.{cells_of}
use Rattle.a64_emit.specs.Layout.{standing}
use Rattle.a64_emit.specs.Emission.{site_of, HasUse, IsPut}
use Rattle.a64_emit.specs.Contents.{site_class, IsCellUse}
use Rattle.a64_emit.specs.Leads.{areas, StopsAt}
use Rattle.a64_assemble.specs.Elements.{Element, cells_in, elements_of, falls_in, element_of, element_at}
use Rattle.a64_assemble.specs.Stations.{IsIslandBehind}
use Rattle.a64_assemble.specs.Progress.{HasPut}
use Rattle.a64_assemble.specs.Owners.{IsGivenJump, AreOwned}
use Rattle.a64_assemble.specs.Placement.{IsLabelAt, IsVeneerWord, IsWanting}
use Rattle.a64_assemble.proofs.Arrivals.{no_use, IsOutput, pool_is, use_settled, word_free, old_site}
use Rattle.a64_assemble.proofs.Finishing.{all_stop}
use Rattle.a64_assemble.proofs.Fronts.{falls_within, falls_is}
use Rattle.a64_assemble.proofs.Stationed.{not_inside, not_within}
use Rattle.a64_assemble.proofs.Islanded.{has_jump, island_behind}
use Rattle.a64_assemble.proofs.Itemized.{all_cells_are}
use Rattle.a64_assemble.proofs.FieldKinds.{wanting_kind}

-- ---- where a word leads

-- the words of kinds that replace a field say by themselves where they lead
goes_so : (kind : LabelUse) (put word place stop : ℕ) → adds_distance kind ≡ false → GoesTo label_kinds kind put word place stop → GoesTo label_kinds kind 0 word place stop
goes_so uses.Branch14 put word place stop e g = g
goes_so uses.Branch19 put word place stop e g = g
goes_so uses.Branch26 put word place stop e g = g
goes_so uses.Ldr19 put word place stop e g = g
goes_so uses.Adr21 put word place stop e g = g
goes_so uses.PCRel32 put word place stop e g = absurd (false≢true (sym e))

one_number : {m n : ℕ} → pos m ≡ pos n → m ≡ n
one_number e = cc

one_stop : (kind : LabelUse) (word place s t : ℕ) → adds_distance kind ≡ false → GoesTo label_kinds kind 0 word place s → GoesTo label_kinds kind 0 word place t → s ≡ t
one_stop uses.Branch14 word place s t e g h = one_number (sym g ∙ h)
one_stop uses.Branch19 word place s t e g h = one_number (sym g ∙ h)
one_stop uses.Branch26 word place s t e g h = one_number (sym g ∙ h)
one_stop uses.Ldr19 word place s t e g h = one_number (sym g ∙ h)
one_stop uses.Adr21 word place s t e g h = one_number (sym g ∙ h)
one_stop uses.PCRel32 word place s t e g h = absurd (false≢true (sym e))

some_number : {m n : ℕ} → Some m ≡ Some n → m ≡ n
some_number e = cc

-- a branch of one of the shorter kinds to a label may want something
short_wants : (t : Target) (kind : LabelUse) → IsSome (label_of t) → (kind ≡ uses.Branch14) ⊎ (kind ≡ uses.Branch19) → wants (class_of label_kinds t kind) ≡ true
short_wants (Label l) kind s e = elim e [ inl k ↦ ap (λ k. wants (class_of label_kinds (Label l) k)) k | inr k ↦ ap (λ k. wants (class_of label_kinds (Label l) k)) k ]
short_wants (Constant c) kind s e = absurd (false≢true s)
short_wants (Trap c) kind s e = absurd (false≢true s)
short_wants IslandEnd kind s e = absurd (false≢true s)

-- ---- uses by bytes

module _ (frame : FrameLayout) (flags : EmitFlags) (items : List Item) (force : ForceVeneers) (b : Buffer LabelUse) (code : Finished) (f : IsFinished label_kinds b code) (out : Code) (o : IsOutput code out) (h : HasPut force (elements_of frame flags items) (length (elements_of frame flags items)) out.places.items b) (owned : AreOwned (elements_of frame flags items) (length (elements_of frame flags items)) out.places.items b) where
  abbrev xs : List Element
  xs = elements_of frame flags items

  abbrev cells : List (ℕ × Cell)
  cells = standing (map (cells_of frame flags) items) out.places.items

  abbrev use_at : ℕ → Use LabelUse
  use_at k = get_or f.final.uses k no_use

  islands_are : out.islands.items ≡ b.islands
  islands_are = o.islands ∙ f.islands

  pool_at : out.pool ≡ end_of b
  pool_at = pool_is b code f out o

  final_within : (k : ℕ) → k < length b.uses → k < length f.final.uses
  final_within k w = omega (arith, w, f.later.count)

  old_wants : (k : ℕ) → k < length b.uses → wants (class label_kinds (use_at k)) ≡ true → wants (class label_kinds (get_or b.uses k no_use)) ≡ true
  old_wants k w want = ap (λ (s : ℕ × Site). wants (site_class s.1)) (sym (old_site b code f out o k no_use w)) ∙ want

  adds_none : (k : ℕ) → k < length f.final.uses → wants (class label_kinds (use_at k)) ≡ true → adds_distance (use_at k).kind ≡ false
  adds_none k w want = wanting_kind (use_at k).target (use_at k).kind want (f.final_sound.kinded k no_use w)

  -- the word of a use that may want something says where it stops
  pub says_stop : (k : ℕ) → k < length f.final.uses → wants (class label_kinds (use_at k)) ≡ true → (stop : ℕ) → (use_at k).stop ≡ Some stop → StopsAt out (use_at k).kind 0 (use_at k).offset stop
  says_stop k w want stop e =
      let settled = use_settled b code f out o k no_use w in
      let goes = subst (λ g. IfSome g (GoesTo label_kinds (use_at k).kind (get_or f.final.words ((use_at k).offset / 4) 0) (word_at out.bytes.items (use_at k).offset) (use_at k).offset)) e settled.stops in
      goes_so (use_at k).kind (get_or f.final.words ((use_at k).offset / 4) 0) (word_at out.bytes.items (use_at k).offset) (use_at k).offset stop (adds_none k w want) goes

  -- and it says no other place
  pub stop_said : (k : ℕ) → k < length f.final.uses → wants (class label_kinds (use_at k)) ≡ true → (stop : ℕ) → StopsAt out (use_at k).kind 0 (use_at k).offset stop → (use_at k).stop ≡ Some stop
  stop_said k w want stop says = go (use_at k).stop refl (all_stop b code f k no_use w want)
    where
      go : (g : Option ℕ) → (use_at k).stop ≡ g → IsSome g → g ≡ Some stop
      go None e s = absurd (false≢true s)
      go (Some t) e s = ap (λ n. Some n) (one_stop (use_at k).kind (word_at out.bytes.items (use_at k).offset) (use_at k).offset t stop (adds_none k w want) (says_stop k w want t e) says)

  -- ---- labels

  -- where a label is bound to, it is listed, and the other way round
  pub label_at : (u : ℕ × Site) (place : ℕ) → goal_of b.labels u.1.target ≡ Some place → IsLabelAt frame flags items out u place
  label_at u place e = go u.1.target e
    where
      go : (t : Target) → goal_of b.labels t ≡ Some place → IsLabelAt frame flags items out (u.0, record { kind = u.1.kind; target = t }) place
      go (Label label) e = subst (λ (ls : List (MachLabel × ℕ)). Contains ls (label, place)) (sym o.labels) ((f.labels.listed label place).1 e)
      go (Constant n) e = absurd (let z : None ≡ Some place = e in cc)
      go (Trap c) e = absurd (let z : None ≡ Some place = e in cc)
      go IslandEnd e = absurd (let z : None ≡ Some place = e in cc)

  pub label_is : (u : ℕ × Site) (place : ℕ) → IsLabelAt frame flags items out u place → goal_of b.labels u.1.target ≡ Some place
  label_is u place at = go u.1.target at
    where
      go : (t : Target) → IsLabelAt frame flags items out (u.0, record { kind = u.1.kind; target = t }) place → goal_of b.labels t ≡ Some place
      go (Label label) at = (f.labels.listed label place).0 (subst (λ (ls : List (MachLabel × ℕ)). Contains ls (label, place)) o.labels at)
      go (Constant n) at = absurd at
      go (Trap c) at = absurd at
      go IslandEnd at = absurd at

  -- no label stands in an island, but at the begin of one with a jump
  no_label_inside : (island : ℕ × ℕ) → Contains b.islands island → (t : Target) (place : ℕ) → goal_of b.labels t ≡ Some place → (HasJump b.uses island → island.0 < place) → island.0 ≤ place → place < island.1 → ⊥
  no_label_inside island listed (Label label) place e behind low high =
      let z = h.laid.once listed.0 island listed.1 in
      let stands = subst (IsIslandBehind xs (out.places.items ++ end_of b ∷ []) z.after) listed.2 z.stands in
      let only = h.labels.only label.0 place e in
      let at : get_or (out.places.items ++ end_of b ∷ []) only.0 0 ≡ place = get_or_append_left out.places.items (end_of b ∷ []) 0 only.0 (let w = only.1 in omega (arith, w, h.laid.each_placed)) ∙ only.3 in
      elim (cases_Bool (falls_in (element_at xs z.after))) [
        | inl goes_on ↦
            let less = behind (has_jump frame flags items force b code f out o h z.after island z.within listed stands goes_on) in
            not_inside xs (length xs) out.places.items b.islands (end_of b) h.laid island listed only.0 only.1 (omega (arith, less, at)) (omega (arith, high, at))
        | inr stops ↦ not_within xs (length xs) out.places.items b.islands (end_of b) h.laid island z.after z.within stands stops only.0 only.1 (omega (arith, low, at)) (omega (arith, high, at))
      ]
  no_label_inside island listed (Constant n) place e behind low high = let z : None ≡ Some place = e in cc
  no_label_inside island listed (Trap c) place e behind low high = let z : None ≡ Some place = e in cc
  no_label_inside island listed IslandEnd place e behind low high = let z : None ≡ Some place = e in cc

  -- a use of a label is not the jump over an island
  not_jump : (k : ℕ) (d : Use LabelUse) → k < length b.uses → IsSome (label_of (get_or b.uses k d).target) → (island : ℕ × ℕ) → (get_or b.uses k d).offset ≡ island.0 → HasJump b.uses island → ⊥
  not_jump k d w labelled island at (i, u, inside, is, front) =
      let same : get_or b.uses i d ≡ u = get_or_default b.uses i d u inside ∙ is in
      let place : (get_or b.uses i d).offset ≡ (get_or b.uses k d).offset = ap (λ (v : Use LabelUse). v.offset) same ∙ (front.0 ∙ sym at) in
      elim (cases_eq i k) [
        | inl e ↦ false≢true (sym (ap (λ t. is_some (label_of t)) (ap (λ n. (get_or b.uses n d).target) (sym e) ∙ (ap (λ (v : Use LabelUse). v.target) same ∙ front.1))) ∙ labelled)
        | inr ne ↦ elim (cases_lt i k) [
          | inl lt ↦ f.sound.apart i k d lt w place
          | inr ge ↦ f.sound.apart k i d (omega (arith, ge, ne)) inside (sym place)
        ]
      ]

  -- ---- a use that the buffer knows stands in the bytes

  pub cell_in : (k : ℕ) (d : Use LabelUse) → k < length b.uses → IsCellUse (standing (map cells_in (take (length xs) xs)) out.places.items) (site_of (get_or b.uses k d)) → IsCellUse cells (site_of (get_or f.final.uses k d))
  cell_in k d w c = subst (IsCellUse cells) (sym (old_site b code f out o k d w)) (subst (λ cs. IsCellUse cs (site_of (get_or b.uses k d))) (all_cells_are frame flags items out.places.items) c)

  veneer_in : (k : ℕ) → k < length b.uses → IsGivenJump (standing (map cells_in (take (length xs) xs)) out.places.items) b (get_or b.uses k no_use) → IsVeneerWord frame flags items out (use_at k).offset (use_at k).target
  veneer_in k w j =
      let same = f.later.uses k no_use w in
      let at : (use_at k).offset ≡ (get_or b.uses k no_use).offset = same.offset in
      let p = f.later.uses j.parent no_use j.within in
      let kind : (use_at j.parent).kind ≡ (get_or b.uses j.parent no_use).kind = p.kind in
      let target : (use_at j.parent).target ≡ (use_at k).target = p.target ∙ (j.target no_use ∙ sym same.target) in
      let short : ((use_at j.parent).kind ≡ uses.Branch14) ⊎ ((use_at j.parent).kind ≡ uses.Branch19) = elim (j.short no_use) [ inl s ↦ inl (kind ∙ s) | inr s ↦ inr (kind ∙ s) ] in
      let labelled : IsSome (label_of (use_at j.parent).target) = subst (λ t. IsSome (label_of t)) (sym (p.target ∙ j.target no_use)) j.labelled in
      let want : wants (class label_kinds (use_at j.parent)) ≡ true = short_wants (use_at j.parent).target (use_at j.parent).kind labelled short in
      let there : (use_at j.parent).stop ≡ Some (use_at k).offset = p.kept (get_or b.uses k no_use).offset (j.stops no_use) ∙ ap (λ n. Some n) (sym at) in
      let settled = use_settled b code f out o k no_use (final_within k w) in
      let jump : (use_at k).kind ≡ uses.Branch26 = same.kind ∙ j.kind in
      let put : get_or f.final.words ((use_at k).offset / 4) 0 ≡ 0x14000000 = ap (λ n. get_or f.final.words (n / 4) 0) at ∙ (f.later.words ((get_or b.uses k no_use).offset / 4) (let x = j.inside in omega (arith, x)) ∙ j.word) in
      record {
        area = subst (λ n. InArea (areas out) n 4) (sym at) (listed_area j.island (get_or b.uses k no_use).offset j.listed j.from j.before);
        word = subst (λ kind. outside (mask_for kind) (word_at out.bytes.items (use_at k).offset) ≡ outside (mask_for kind) (get_or f.final.words ((use_at k).offset / 4) 0)) jump settled.rest ∙ ap (outside (mask_for uses.Branch26)) put;
        labelled = subst (λ t. IsSome (label_of t)) target labelled;
        user = (use_at j.parent).offset;
        kind = (use_at j.parent).kind;
        short = short;
        use' = subst (λ t. IsCellUse cells ((use_at j.parent).offset, record { kind = (use_at j.parent).kind; target = t })) target (cell_in j.parent no_use j.within (j.owned no_use));
        stops = says_stop j.parent (final_within j.parent j.within) want (use_at k).offset there;
        not_over = λ island i there falls begins.
            let known : Contains b.islands island = subst (λ is. Contains is island) islands_are there.listed in
            let inside : i < length items = falls_within items i falls in
            let within : i < length xs = omega (arith, inside, length-map items (element_of frame flags)) in
            let stands = island_behind frame flags items force b code f out o h i island within there in
            let jump = has_jump frame flags items force b code f out o h i island within known stands (falls_is frame flags items i inside ∙ falls) in
            not_jump k no_use w j.labelled island (sym at ∙ begins) jump;
        away = λ there.
            no_label_inside j.island j.listed (use_at k).target (use_at k).offset (label_is ((use_at j.parent).offset, record { kind = (use_at j.parent).kind; target = (use_at k).target }) (use_at k).offset there)
            (λ jump. elim (cases_eq j.island.0 (get_or b.uses k no_use).offset) [
              | inl e ↦ absurd (not_jump k no_use w j.labelled j.island (sym e) jump)
              | inr ne ↦ (let x = j.from in omega (arith, x, at, ne))
            ])
            (let x = j.from in omega (arith, x, at)) (let x = j.before in omega (arith, x, at));
      }
    where
      listed_area : (island : ℕ × ℕ) (place : ℕ) → Contains b.islands island → island.0 ≤ place → place + 4 ≤ island.1 → InArea (areas out) place 4
      listed_area island place listed low high =
          let is : get_or (areas out) listed.0 (0, 0) ≡ island =
          get_or_append_left out.islands.items ((out.pool, length out.bytes.items) ∷ []) (0, 0) listed.0 (let n = ap length islands_are in let l = listed.1 in omega (arith, n, l))
          ∙ (ap (λ is. get_or is listed.0 (0, 0)) islands_are ∙ (get_or_default b.islands listed.0 (0, 0) island listed.1 ∙ listed.2)) in
          let n = ap length islands_are in
          let l = listed.1 in
          record {
            index = listed.0;
            within = omega (arith, n, l, length-append out.islands.items ((out.pool, length out.bytes.items) ∷ []));
            begins = let e = ap (λ (i : ℕ × ℕ). i.0) is in omega (arith, e, low);
            ends = let e = ap (λ (i : ℕ × ℕ). i.1) is in omega (arith, e, high);
          }

  pub wanting_in : (k : ℕ) → k < length b.uses → wants (class label_kinds (use_at k)) ≡ true → IsWanting frame flags items out (use_at k).offset (site_of (use_at k)).1
  wanting_in k w want = record {
    wanting = want;
    is = elim (owned k no_use w (old_wants k w want)) [
      | inl c ↦ inl (cell_in k no_use w c)
      | inr j ↦ inr ((f.later.uses k no_use w).kind ∙ j.kind, veneer_in k w j)
    ];
  }

  -- ---- and what stands in the bytes the finished buffer knows, and the buffer before it what stands before the pool

  pub record IsFinalUse (u : ℕ × Site) : Type 0 where
    pub index : ℕ
    pub within : index < length f.final.uses
    pub is : site_of (use_at index) ≡ u

  pub record IsKnownUse (u : ℕ × Site) : Type 0 where
    pub index : ℕ
    pub within : index < length b.uses
    pub is : site_of (use_at index) ≡ u

  pub known_cell : (u : ℕ × Site) → IsCellUse cells u → IsKnownUse u
  known_cell u c =
      let all : All (IsPut b) cells = subst (λ cs. All (IsPut b) cs) (all_cells_are frame flags items out.places.items) h.cells in
      let put : IsPut b c.0 = subst (IsPut b) c.1.2 (all c.1.0 c.0 c.1.1) in
      let r : HasUse b.uses c.0.0 u.1 = subst (λ s. MatchOption s (IsFree b.uses c.0.0) (HasUse b.uses c.0.0)) c.3 put.site in
      record { index = r.index; within = r.within; is = old_site b code f out o r.index no_use r.within ∙ (r.is no_use ∙ ap (λ n. (n, u.1)) c.2) }

  -- what stands where a shorter branch stops
  module _ (place : ℕ) (target : Target) (v : IsVeneerWord frame flags items out place target) where
    user_known : IsKnownUse (v.user, record { kind = v.kind; target = target })
    user_known = known_cell (v.user, record { kind = v.kind; target = target }) v.use'

    abbrev user : Use LabelUse
    user = use_at user_known.index

    user_within : user_known.index < length f.final.uses
    user_within = final_within user_known.index user_known.within

    user_wants : wants (class label_kinds user) ≡ true
    user_wants = ap (λ (s : ℕ × Site). wants (site_class s.1)) user_known.is ∙ short_wants target v.kind v.labelled v.short

    user_stops : user.stop ≡ Some place
    user_stops = stop_said user_known.index user_within user_wants place (subst (λ (s : ℕ × Site). StopsAt out s.1.kind 0 s.0 place) (sym user_known.is) v.stops)

    user_leads : IsStop label_kinds f.final (b.islands ++ (end_of b, end_of f.final) ∷ []) user.target user.kind user.offset place
    user_leads = stands_there label_kinds f.final (b.islands ++ (end_of b, end_of f.final) ∷ []) f.final_sound.stops user_known.index place no_use user_within user_stops

    -- no far veneer stands there
    no_far : IsFar label_kinds f.final (b.islands ++ (end_of b, end_of f.final) ∷ []) user.target place → ⊥
    no_far far =
        let aligned = user_leads.aligned in
        let here : 4 * (place / 4) ≡ place = omega (arith, aligned) in
        let start : place / 4 + 0 ≡ place / 4 = omega arith in
        let also : place + 4 * 0 ≡ 4 * (place / 4) = omega (arith, here) in
        let put : get_or f.final.words (place / 4) 0 ≡ 0x98000090 = ap (λ n. get_or f.final.words n 0) (sym start) ∙ far.stands.at 0 (omega arith) in
        let free : IsFree f.final.uses (4 * (place / 4)) = subst (IsFree f.final.uses) also (far.stands.free 0 (omega arith)) in
        let word : word_at out.bytes.items place ≡ 0x98000090 = ap (word_at out.bytes.items) (sym here) ∙ (word_free b code f out o (place / 4) (let i = far.stands.inside in omega (arith, i, here)) free ∙ put) in
        no_jump (ap (outside (mask_for uses.Branch26)) (sym word) ∙ v.word)
      where
        no_jump : outside (mask_for uses.Branch26) 0x98000090 ≡ 0x14000000 → ⊥
        no_jump e = let z : 0x98000000 ≡ 0x14000000 = e in omega (arith, z)

    final_jump : IsFinalUse (place, record { kind = uses.Branch26; target = target })
    final_jump = go target refl v.labelled
      where
        jump : IsJump label_kinds f.final (b.islands ++ (end_of b, end_of f.final) ∷ []) user.target place → IsFinalUse (place, record { kind = uses.Branch26; target = target })
        jump j =
            let u = j.use' in
            record {
              index = u.index;
              within = u.within;
              is =
                  ap (λ n. (n, record { kind = (use_at u.index).kind; target = (use_at u.index).target })) (u.offset_is no_use)
                  ∙ (ap (λ kind. (place, record { kind = kind; target = (use_at u.index).target })) (u.kind_is no_use)
                  ∙ (ap (λ target. (place, record { kind = uses.Branch26; target = target })) (u.target_is no_use)
                  ∙ ap (λ (s : ℕ × Site). (place, record { kind = uses.Branch26; target = s.1.target })) user_known.is));
            }

        go : (t : Target) → target ≡ t → IsSome (label_of t) → IsFinalUse (place, record { kind = uses.Branch26; target = target })
        go (Label l) e s = elim (subst (λ t. LeadsOn label_kinds f.final (b.islands ++ (end_of b, end_of f.final) ∷ []) user.kind t place) (ap (λ (s : ℕ × Site). s.1.target) user_known.is ∙ e) user_leads.leads) [
          | inl goal ↦ absurd (v.away (label_at (v.user, record { kind = v.kind; target = target }) place (subst (λ t. goal_of b.labels t ≡ Some place) (sym e) (ap (λ labels. get labels l.0) (sym f.labels_kept) ∙ goal))))
          | inr more ↦ elim more.1 [
            | inl j ↦ jump (subst (λ t. IsJump label_kinds f.final (b.islands ++ (end_of b, end_of f.final) ∷ []) t place) (sym (ap (λ (s : ℕ × Site). s.1.target) user_known.is ∙ e)) j.1)
            | inr far ↦ absurd (no_far (subst (λ t. IsFar label_kinds f.final (b.islands ++ (end_of b, end_of f.final) ∷ []) t place) (sym (ap (λ (s : ℕ × Site). s.1.target) user_known.is ∙ e)) far))
          ]
        ]
        go (Constant c) e s = absurd (false≢true s)
        go (Trap c) e s = absurd (false≢true s)
        go IslandEnd e s = absurd (false≢true s)

  pub wanting_final : (place : ℕ) (site : Site) → IsWanting frame flags items out place site → IsFinalUse (place, site)
  wanting_final place site w = elim w.is [
    | inl c ↦ (let u = known_cell (place, site) c in record { index = u.index; within = final_within u.index u.within; is = u.is })
    | inr v ↦ subst (λ kind. IsFinalUse (place, record { kind = kind; target = site.target })) (sym v.0) (final_jump place site.target v.1)
  ]

  pub wanting_known : (place : ℕ) (site : Site) → IsWanting frame flags items out place site → place < out.pool → IsKnownUse (place, site)
  wanting_known place site w early =
      let u = wanting_final place site w in
      record {
        index = u.index;
        within = elim (cases_lt u.index (length b.uses)) [
          | inl old ↦ old
          | inr new ↦ (let fresh = f.later.fresh u.index no_use new u.within in absurd (omega (arith, fresh, ap (λ (s : ℕ × Site). s.0) u.is, early, pool_at)))
        ];
        is = u.is;
      }
