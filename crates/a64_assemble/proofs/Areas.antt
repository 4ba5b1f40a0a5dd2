-- What an island or the pool holds by what the buffer tells of it, told from the bytes of finished code.
use Rattle.std.proofs.Common.{ℕ, pos, ◌+ℤ◌, ◌≡◌, ◌⊎◌, ◌+◌, ◌*◌, ◌<◌, ◌≤◌, suc, zero, true, false, List, [], ◌∷◌, length, get_or, map, Some, refl, sym, ap, ◌∙◌, subst, arith, inl, inr}
use Rattle.std.specs.Prelude.{All, Any, Contains, IfSome, IsSome}
use Rattle.std.specs.List.{AllPairs}
use Rattle.std.specs.Ordering.{nat_cmp}
use Rattle.std.specs.FinMap.{FinMap, get}
use Rattle.std.proofs.lemmas.Bool.{false≢true}
use Rattle.std.proofs.lemmas.List.{length-map, get_or-map, get_or_default}
use Rattle.a64_inst.specs.declared.emission.EmitFlags.{EmitFlags}
use Rattle.a64_inst.specs.declared.frame.FrameLayout.{FrameLayout}
use Rattle.a64_inst.specs.declared.item.Item.{Item}
use Rattle.a64_buffer.specs.declared.site.Use.{Use}
use Rattle.a64_buffer.specs.declared.site.Target.{Target}
use Rattle.a64_buffer.specs.declared.site.Target.TheVariants.{Label, Constant, Trap, IslandEnd}
use Rattle.a64_buffer.specs.declared.class.Class.{Class}
use Rattle.a64_buffer.specs.declared.class.Class.TheVariants.{Near, Middle, Load, Trapping, Far, Direct}
use Rattle.a64_buffer.specs.declared.finish.Finished.{Finished}
use Rattle.a64_buffer.specs.declared.force.ForceVeneers.{ForceVeneers}
use Rattle.a64_buffer.specs.Constants.{AreConstants, IsConstant}
use Rattle.a64_words.specs.Word.{word_at, words_of}
use Rattle.a64_buffer.specs.Kinds.{GoesTo}
use Rattle.a64_buffer.specs.Buffer.{Buffer, goal_of}
use Rattle.a64_buffer.specs.Classes.{class, class_of, wants}
use Rattle.a64_buffer.specs.Sound.{IsKinded}
use Rattle.a64_buffer.specs.Chain.{constant_of}
use Rattle.a64_buffer.specs.Pieces as pieces
use Rattle.a64_buffer.specs.Pieces.{StopsAtPiece, StopsWith}
use Rattle.a64_buffer.specs.Held.{HoldsArea}
use Rattle.a64_buffer.specs.Finished.{IsFinished}
use Rattle.a64_words.proofs.WordLists.{words_whole}
use Rattle.a64_emit.specs.declared.code.Code.{Code}
use Rattle.a64_label_use.specs.declared.label_use.LabelUse.{LabelUse}
use Rattle.a64_label_use.specs.declared.label_use.LabelUse.TheVariants as uses
use Rattle.a64_cells.specs.declared.site.Site.{Site}
use Rattle.a64_label_use.specs.LabelUses.{label_kinds, distance_in, adds_distance}
use Rattle.a64_emit.specs.Emission.{site_of}
use Rattle.a64_emit.specs.Contents.{ComesBefore, Fills, site_class}
use Rattle.a64_emit.specs.Leads.{StopsAt}
use Rattle.a64_assemble.proofs.Arrivals.{no_use, IsOutput}
use Rattle.a64_assemble.proofs.Filled.{fills}
use Rattle.a64_assemble.proofs.FieldKinds.{wanting_kind}
use Rattle.a64_assemble.specs.Elements.{elements_of}
use Rattle.a64_assemble.specs.Progress.{HasPut}
use Rattle.a64_assemble.specs.Owners.{AreOwned}
use Rattle.a64_assemble.specs.Placement.{IsWanting}
use Rattle.a64_assemble.specs.Fillings.{IsFirstFrom, StopsBetween, StopsBy, HoldsPieces}
use Rattle.a64_assemble.proofs.Placing.{IsKnownUse, IsFinalUse, known_cell, label_at, says_stop, stop_said, wanting_final, wanting_in}

-- the words of a constant are as long as it is
sized : (constants : FinMap nat_cmp (List ℕ)) → AreConstants constants → (number : ℕ) (content : List ℕ) → get constants number ≡ Some content → 4 * length (words_of content) ≡ length content
sized constants are number content e = of (subst (λ o. IfSome o IsConstant) e (are number))
  where
    of : IsConstant content → 4 * length (words_of content) ≡ length content
    of (inl four) = words_whole content (omega (arith, four))
    of (inr (inl eight)) = words_whole content (omega (arith, eight))
    of (inr (inr sixteen)) = words_whole content (omega (arith, sixteen))

pub field_says : (kind : LabelUse) (put word place stop : ℕ) → adds_distance kind ≡ false → GoesTo label_kinds kind put word place stop → pos place +ℤ distance_in kind word ≡ pos stop
field_says uses.Branch14 put word place stop e g = g
field_says uses.Branch19 put word place stop e g = g
field_says uses.Branch26 put word place stop e g = g
field_says uses.Ldr19 put word place stop e g = g
field_says uses.Adr21 put word place stop e g = g
field_says uses.PCRel32 put word place stop e g = absurd (false≢true (sym e))

wanting_direct : (c : Class) → wants c ≡ true → c ≡ Direct → ⊥
wanting_direct c w e = false≢true (sym (ap wants e) ∙ w)

constant_wants : (t : Target) (kind : LabelUse) → IsSome (constant_of t) → wants (class_of label_kinds t kind) ≡ true
constant_wants (Label x) kind s = absurd (false≢true s)
constant_wants (Constant x) kind s = refl
constant_wants (Trap x) kind s = absurd (false≢true s)
constant_wants IslandEnd kind s = absurd (false≢true s)

-- uses that stop at pieces have stops, where these begin or behind that
pub served_stops : (constants : FinMap nat_cmp (List ℕ)) (place : ℕ) (us : List (Use LabelUse)) → All (StopsAtPiece label_kinds constants) (pieces.pieces label_kinds constants place us) → (k : ℕ) (d : Use LabelUse) → k < length us → (stop : ℕ) × ((get_or us k d).stop ≡ Some stop) × (place ≤ stop)
served_stops constants place [] all k d l = absurd (omega (arith, l))
served_stops constants place (u ∷ us) all zero d l = (pieces.stop_for label_kinds constants (class label_kinds u) u.target place, all 0 (place, u) (omega arith), own (class label_kinds u))
  where
    own : (c : Class) → place ≤ pieces.stop_for label_kinds constants c u.target place
    own Near = omega arith
    own Middle = omega arith
    own Load = omega arith
    own Trapping = omega arith
    own Far = omega arith
    own Direct = omega arith
served_stops constants place (u ∷ us) all (suc k) d l =
    let s = served_stops constants (place + 4 * length (pieces.words_for label_kinds constants (class label_kinds u) u.target place)) us (λ j e h. all (suc j) e (omega (arith, h))) k d (omega (arith, l)) in
    (s.0, s.1, let x = s.2 in omega (arith, x))

module _ (frame : FrameLayout) (flags : EmitFlags) (items : List Item) (force : ForceVeneers) (b : Buffer LabelUse) (code : Finished) (f : IsFinished label_kinds b code) (out : Code) (o : IsOutput code out) (h : HasPut force (elements_of frame flags items) (length (elements_of frame flags items)) out.places.items b) (owned : AreOwned (elements_of frame flags items) (length (elements_of frame flags items)) out.places.items b) where
  abbrev use_at : ℕ → Use LabelUse
  use_at k = get_or f.final.uses k no_use

  -- a use of the finished buffer, by its number
  pub use_is : (u : Use LabelUse) (c : Contains f.final.uses u) → use_at c.0 ≡ u
  use_is u c = get_or_default f.final.uses c.0 no_use u c.1 ∙ c.2

  -- its word says where it stops
  pub use_says : (u : Use LabelUse) → Contains f.final.uses u → wants (class label_kinds u) ≡ true → (stop : ℕ) → u.stop ≡ Some stop → StopsAt out u.kind 0 u.offset stop
  use_says u c want stop e =
      let is : use_at c.0 ≡ u = use_is u c in
      subst (λ (v : Use LabelUse). StopsAt out v.kind 0 v.offset stop) is
      (says_stop frame flags items force b code f out o h owned c.0 c.1 (ap (λ (v : Use LabelUse). wants (class label_kinds v)) is ∙ want) stop (ap (λ (v : Use LabelUse). v.stop) is ∙ e))

  use_field : (u : Use LabelUse) → Contains f.final.uses u → wants (class label_kinds u) ≡ true → (stop : ℕ) → u.stop ≡ Some stop → pos u.offset +ℤ distance_in u.kind (word_at out.bytes.items u.offset) ≡ pos stop
  use_field u c want stop e =
      let kinded = subst (λ (v : Use LabelUse). IsKinded label_kinds v.target v.kind) (use_is u c) (f.final_sound.kinded c.0 no_use c.1) in
      field_says u.kind 0 (word_at out.bytes.items u.offset) u.offset stop (wanting_kind u.target u.kind want kinded) (use_says u c want stop e)

  -- one that was made before the buffer was finished, and wants something, is a cell's or a veneer word
  pub old_wanting : (u : Use LabelUse) (c : Contains f.final.uses u) → wants (class label_kinds u) ≡ true → c.0 < length b.uses → IsWanting frame flags items out u.offset (site_of u).1
  old_wanting u c want old =
      let is : use_at c.0 ≡ u = use_is u c in
      subst (λ (v : Use LabelUse). IsWanting frame flags items out v.offset (site_of v).1) is
      (wanting_in frame flags items force b code f out o h owned c.0 old (ap (λ (v : Use LabelUse). wants (class label_kinds v)) is ∙ want))

  module _ (are : AreConstants b.constants) (bound : FinMap nat_cmp ℕ) (begin from to : ℕ) (a : HoldsArea label_kinds out.bytes.items b.constants f.final.uses bound b.labels begin from to) where
    pieces_fill : Fills b.constants out from (map site_of a.served) to
    pieces_fill =
        fills b.constants (sized b.constants are) out from a.served a.fills
        (λ k d l. wanting_direct (class label_kinds (get_or a.served k d)) (a.wanting k d l))
        (λ k d l. use_field (get_or a.served k d) (a.among k d l) (a.wanting k d l))
        a.stops to a.ends

    order : AllPairs ComesBefore (map site_of a.served)
    order j k d lt l =
        let inside : k < length a.served = omega (arith, l, length-map a.served site_of) in
        subst (λ s. ComesBefore s (get_or (map site_of a.served) k d)) (sym (get_or-map site_of a.served j no_use d (omega (arith, lt, inside))))
        (subst (ComesBefore (site_of (get_or a.served j no_use))) (sym (get_or-map site_of a.served k no_use d inside)) (a.in_order j k no_use lt inside))

    -- a use of a constant that stops there or behind does not stand before the one for which the constant was copied
    first : (k : ℕ) → k < length a.served → IsFirstFrom frame flags items b.constants out begin (site_of (get_or a.served k no_use))
    first k l some v c target stop low says =
        let j : IsKnownUse frame flags items force b code f out o h owned v = known_cell frame flags items force b code f out o h owned v c in
        let known : j.index < length f.final.uses = omega (arith, j.within, f.later.count) in
        let final_target : (use_at j.index).target ≡ (get_or a.served k no_use).target = ap (λ (t : ℕ × Site). t.1.target) j.is ∙ target in
        let want : wants (class label_kinds (use_at j.index)) ≡ true = constant_wants (use_at j.index).target (use_at j.index).kind (subst (λ t. IsSome (constant_of t)) (sym final_target) some) in
        let stop_is : (use_at j.index).stop ≡ Some stop = stop_said frame flags items force b code f out o h owned j.index known want stop (subst (λ (t : ℕ × Site). StopsAt out t.1.kind 0 t.0 stop) (sym j.is) says) in
        let less = subst (λ g. IfSome g (λ stop. begin ≤ stop → (get_or a.served k no_use).offset ≤ (use_at j.index).offset)) stop_is (a.first' k no_use l some j.index no_use known final_target) low in
        omega (arith, less, ap (λ (t : ℕ × Site). t.0) j.is)

    -- ---- what stops there

    -- a use has its stop by a piece, told from the bytes
    by_piece : (u : ℕ × Site) (v : Use LabelUse) (stop : ℕ) → site_of v ≡ u → v.stop ≡ Some stop → Any (StopsWith v) a.served → Any (StopsBy frame flags items b.constants out stop u) (map site_of a.served)
    by_piece u v stop is e (i, x, within, at, with') = (
      i,
      site_of x,
      omega (arith, within, length-map a.served site_of),
      get_or-map site_of a.served i x (site_of x) within ∙ ap site_of at,
      elim with' [
        | inl same ↦ inl (ap site_of (sym same) ∙ is)
        | inr copy ↦
            let target : x.target ≡ u.1.target = sym copy.1 ∙ ap (λ (t : ℕ × Site). t.1.target) is in
            let want : wants (class label_kinds x) ≡ true = subst (λ (y : Use LabelUse). wants (class label_kinds y) ≡ true) at (a.wanting i x within) in
            inr (
              subst (λ t. IsSome (constant_of t)) target copy.0,
              target,
              use_says x (subst (Contains f.final.uses) at (a.among i x within)) want stop (sym copy.2 ∙ e),
            )
      ],
    )

    answers : (u : ℕ × Site) (stop : ℕ) → StopsBetween frame flags items b.constants out begin to u stop → Any (StopsBy frame flags items b.constants out stop u) (map site_of a.served)
    answers u stop s =
        let n : IsFinalUse frame flags items force b code f out o h owned u = wanting_final frame flags items force b code f out o h owned u.0 u.1 s.is in
        let want : wants (class label_kinds (use_at n.index)) ≡ true = ap (λ (t : ℕ × Site). wants (site_class t.1)) n.is ∙ s.is.wanting in
        let stop_is : (use_at n.index).stop ≡ Some stop = stop_said frame flags items force b code f out o h owned n.index n.within want stop (subst (λ (t : ℕ × Site). StopsAt out t.1.kind 0 t.0 stop) (sym n.is) s.stops) in
        elim (subst (λ g. IfSome g (λ stop. begin ≤ stop → stop < to → (goal_of b.labels (use_at n.index).target ≡ Some stop) ⊎ Any (StopsWith (use_at n.index)) a.served)) stop_is (a.answered n.index no_use n.within want) s.from s.before) [
          | inl goal ↦ absurd (s.away (label_at frame flags items force b code f out o h owned u stop (subst (λ (t : ℕ × Site). goal_of b.labels t.1.target ≡ Some stop) n.is goal)))
          | inr piece ↦ by_piece u (use_at n.index) stop n.is stop_is piece
        ]

    -- ---- what holds of each served use

    all_sites : (P : ℕ × Site → Type 0) → ((k : ℕ) → k < length a.served → P (site_of (get_or a.served k no_use))) → All P (map site_of a.served)
    all_sites P each k d l =
        let inside : k < length a.served = omega (arith, l, length-map a.served site_of) in
        subst P (sym (get_or-map site_of a.served k no_use d inside)) (each k inside)

    -- the pieces, in finished code
    pub holds_pieces : (MayServe : ℕ × Site → Type 0)
        → ((k : ℕ) → k < length a.served → IsWanting frame flags items out (get_or a.served k no_use).offset (site_of (get_or a.served k no_use)).1)
        → ((k : ℕ) → k < length a.served → MayServe (site_of (get_or a.served k no_use)))
        → HoldsPieces frame flags items b.constants out begin from to MayServe
    holds_pieces MayServe wanting may = record {
      served = map site_of a.served;
      uses_are = all_sites (λ u. IsWanting frame flags items out u.0 u.1) wanting;
      in_order = order;
      first = all_sites (IsFirstFrom frame flags items b.constants out begin) first;
      may_serve = all_sites MayServe may;
      fills = pieces_fill;
      answered = answers;
    }
