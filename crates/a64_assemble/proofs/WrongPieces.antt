-- Stops in an island or in the pool that its pieces refuse: a piece serves what it is for, and nothing else.
use Rattle.std.proofs.Common.{ℕ, zero, suc, pos, ◌≡◌, ◌≢◌, ◌⊎◌, ◌+◌, ◌<◌, ◌≤◌, false, List, [], ◌∷◌, length, get_or, refl, sym, ap, ◌∙◌, subst, arith, inl, inr}
use Rattle.std.specs.Prelude.{IfSome, IsSome}
use Rattle.std.specs.Ordering.{nat_cmp}
use Rattle.std.specs.FinMap.{FinMap}
use Rattle.std.proofs.lemmas.Bool.{cases_lt, cases_eq, false≢true}
use Rattle.std.proofs.lemmas.List.{get_or_default}
use Rattle.a64_inst.specs.declared.emission.EmitFlags.{EmitFlags}
use Rattle.a64_inst.specs.declared.frame.FrameLayout.{FrameLayout}
use Rattle.a64_inst.specs.declared.item.Item.{Item}
use Rattle.a64_buffer.specs.declared.class.Class.{Class}
use Rattle.a64_buffer.specs.declared.class.Class.TheVariants.{Near, Middle, Load, Trapping, Far, Direct}
use Rattle.a64_buffer.specs.declared.site.Target.{Target}
use Rattle.a64_buffer.specs.declared.site.Target.TheVariants.{Label, Constant, Trap, IslandEnd}
use Rattle.a64_buffer.specs.Chain.{constant_of}
use Rattle.a64_buffer.specs.Pieces.{content_of, stop_for}
use Rattle.a64_words.specs.Word.{word_at}
use Rattle.a64_emit.specs.declared.code.Code.{Code}
use Rattle.a64_cells.specs.declared.site.Site.{Site}
use Rattle.a64_label_use.specs.LabelUses.{label_kinds, adds_distance}
use Rattle.a64_emit.proofs.Burdens.{target_kinded}
use Rattle.a64_emit.proofs.Targets.{IsCodeSite}
use Rattle.a64_cells.specs.Shapes.{Cell}
use Rattle.a64_emit.specs.Contents.{site_class, order_of, piece_size, HasPiece, Fills}
use Rattle.a64_assemble.specs.Placement.{UseStopsAt, IsWanting}
use Rattle.a64_assemble.specs.Fillings.{StopsBetween, StopsBy, HoldsPieces}
use Rattle.a64_assemble.proofs.Areas.{field_says}
use Rattle.a64_assemble.proofs.FieldKinds.{wanting_kind}
use Rattle.a64_assemble.proofs.Leading.{standing_targets}

-- how many bytes of a piece stand where its use stops, and behind that
abbrev pub bytes_for : FinMap nat_cmp (List ℕ) → Class → Target → ℕ
bytes_for constants Near target = 4
bytes_for constants Middle target = 4
bytes_for constants Load target = length (content_of constants target)
bytes_for constants Trapping target = 4
bytes_for constants Far target = 20
bytes_for constants Direct target = 0

module _ (frame : FrameLayout) (flags : EmitFlags) (items : List Item) (constants : FinMap nat_cmp (List ℕ)) (code : Code) where
  abbrev size_of : ℕ × Site → ℕ → ℕ
  size_of u place = piece_size constants (site_class u.1) u.1.target place

  abbrev stop_in : ℕ × Site → ℕ → ℕ
  stop_in u place = stop_for label_kinds constants (site_class u.1) u.1.target place

  abbrev bytes_of : ℕ × Site → ℕ
  bytes_of u = bytes_for constants (site_class u.1) u.1.target

  -- ---- where pieces stand

  abbrev piece_at : ℕ → List (ℕ × Site) → ℕ → ℕ
  piece_at from [] k = from
  piece_at from (u ∷ us) zero = from
  piece_at from (u ∷ us) (suc k) = piece_at (from + size_of u from) us k

  piece_low : (from : ℕ) (us : List (ℕ × Site)) (k : ℕ) → from ≤ piece_at from us k
  piece_low from [] k = omega arith
  piece_low from (u ∷ us) zero = omega arith
  piece_low from (u ∷ us) (suc k) = omega (arith, piece_low (from + size_of u from) us k)

  piece_stands : (from to : ℕ) (us : List (ℕ × Site)) (k : ℕ) (d : ℕ × Site) → Fills constants code from us to → k < length us → HasPiece constants code (piece_at from us k) (get_or us k d)
  piece_stands from to [] k d fills h = absurd (omega (arith, h))
  piece_stands from to (u ∷ us) zero d fills h = fills.0
  piece_stands from to (u ∷ us) (suc k) d fills h = piece_stands (from + size_of u from) to us k d fills.1 (omega (arith, h))

  piece_behind : (from : ℕ) (us : List (ℕ × Site)) (j k : ℕ) (d : ℕ × Site) → j < k → k < length us → piece_at from us j + size_of (get_or us j d) (piece_at from us j) ≤ piece_at from us k
  piece_behind from [] j k d lt h = absurd (omega (arith, h))
  piece_behind from (u ∷ us) j zero d lt h = absurd (omega (arith, lt))
  piece_behind from (u ∷ us) zero (suc k) d lt h = piece_low (from + size_of u from) us k
  piece_behind from (u ∷ us) (suc j) (suc k) d lt h = piece_behind (from + size_of u from) us j k d (omega (arith, lt)) (omega (arith, h))

  stop_low : (c : Class) (t : Target) (place : ℕ) → place ≤ stop_for label_kinds constants c t place
  stop_low Near t place = omega arith
  stop_low Middle t place = omega arith
  stop_low Load t place = omega arith
  stop_low Trapping t place = omega arith
  stop_low Far t place = omega arith
  stop_low Direct t place = omega arith

  stop_high : (c : Class) (t : Target) (place : ℕ) → stop_for label_kinds constants c t place + bytes_for constants c t ≡ place + piece_size constants c t place
  stop_high Near t place = refl
  stop_high Middle t place = refl
  stop_high Load t place = omega arith
  stop_high Trapping t place = refl
  stop_high Far t place = refl
  stop_high Direct t place = refl

  -- ---- where their uses stop

  -- a use that may want something of an island replaces a field of its word
  replaces : (u : ℕ × Site) → IsWanting frame flags items code u.0 u.1 → adds_distance u.1.kind ≡ false
  replaces u w = elim w.is [
    | inl c ↦
        wanting_kind u.1.target u.1.kind w.wanting
        (target_kinded u.1.target u.1.kind (subst (λ s. IfSome s IsCodeSite) c.3 (subst (λ (s : ℕ × Cell). IfSome s.1.site IsCodeSite) c.1.2 (standing_targets frame flags items code.places.items c.1.0 c.0 c.1.1))))
    | inr v ↦ ap adds_distance v.0
  ]

  stop_is : (v : ℕ × Site) (place stop : ℕ) → IsWanting frame flags items code v.0 v.1 → HasPiece constants code place v → UseStopsAt frame flags items code v.0 v.1.kind stop → stop_in v place ≡ stop
  stop_is v place stop w has says =
      let said = field_says v.1.kind 0 (word_at code.bytes.items v.0) v.0 stop (replaces v w) says in
      one (sym has.stops ∙ said)
    where
      one : {m n : ℕ} → pos m ≡ pos n → m ≡ n
      one e = cc

  -- ---- what the pieces of an area refuse

  module _ (begin from to : ℕ) (MayServe : ℕ × Site → Type 0) (h : HoldsPieces frame flags items constants code begin from to MayServe) where
    -- a use stops by the piece of one of these numbers
    record Answer (u : ℕ × Site) (stop : ℕ) : Type 0 where
      number : ℕ
      within : number < length h.served
      by : StopsBy frame flags items constants code stop u (get_or h.served number u)
      stops : stop_in (get_or h.served number u) (piece_at from h.served number) ≡ stop

    answer : (u : ℕ × Site) (stop : ℕ) → StopsBetween frame flags items constants code begin to u stop → Answer u stop
    answer u stop s = go (h.answered u stop s)
      where
        go : (k : ℕ) × (v : ℕ × Site) × (k < length h.served) × (get_or h.served k v ≡ v) × StopsBy frame flags items constants code stop u v → Answer u stop
        go (k, v, within, at, by) =
            let here : get_or h.served k u ≡ v = get_or_default h.served k u v within ∙ at in
            let says : UseStopsAt frame flags items code v.0 v.1.kind stop = elim by [
              | inl e ↦ subst (λ (x : ℕ × Site). UseStopsAt frame flags items code x.0 x.1.kind stop) (sym e) s.stops
              | inr copy ↦ copy.2
            ] in
            record {
              number = k;
              within = within;
              by = subst (StopsBy frame flags items constants code stop u) (sym here) by;
              stops =
                  stop_is (get_or h.served k u) (piece_at from h.served k) stop (h.uses_are k u within) (piece_stands from to h.served k u h.fills within)
                  (subst (λ (x : ℕ × Site). UseStopsAt frame flags items code x.0 x.1.kind stop) (sym here) says);
            }

    -- the copy of a constant has as many bytes for each of its uses
    same_bytes : (stop : ℕ) (u v : ℕ × Site) → StopsBy frame flags items constants code stop u v → bytes_of v ≡ bytes_of u
    same_bytes stop u v (inl e) = ap bytes_of e
    same_bytes stop u v (inr copy) = load u.1.target v.1.target copy.0 copy.1
      where
        load : (t x : Target) → IsSome (constant_of t) → x ≡ t → bytes_of (v.0, record { kind = v.1.kind; target = x }) ≡ bytes_of (u.0, record { kind = u.1.kind; target = t })
        load (Constant n) x s e = ap (λ t. bytes_of (v.0, record { kind = v.1.kind; target = t })) e
        load (Label l) x s e = absurd (false≢true s)
        load (Trap c) x s e = absurd (false≢true s)
        load IslandEnd x s e = absurd (false≢true s)

    turn : (u v : ℕ × Site) (s t : ℕ) (x : Answer u s) (y : Answer v t) → x.number < y.number → s + bytes_of u ≤ t
    turn u v s t x y lt =
        let p : ℕ = piece_at from h.served x.number in
        let q : ℕ = piece_at from h.served y.number in
        let a : ℕ × Site = get_or h.served x.number u in
        let c : ℕ × Site = get_or h.served y.number v in
        let behind = piece_behind from h.served x.number y.number u lt y.within in
        let high = stop_high (site_class a.1) a.1.target p in
        let low = stop_low (site_class c.1) c.1.target q in
        omega (arith, behind, high, low, x.stops, y.stops, same_bytes s u a x.by)

    -- nothing stops at the jump over an island, but where its label stands
    pub none_at_jump : (u : ℕ × Site) (stop : ℕ) → StopsBetween frame flags items constants code begin to u stop → stop < from → ⊥
    none_at_jump u stop s less =
        let x = answer u stop s in
        let v : ℕ × Site = get_or h.served x.number u in
        let low = stop_low (site_class v.1) v.1.target (piece_at from h.served x.number) in
        omega (arith, low, less, x.stops, piece_low from h.served x.number)

    -- nothing stops there that might not be served there, but loads at the copy for one that might
    pub none_unserved : (u : ℕ × Site) (stop : ℕ) → StopsBetween frame flags items constants code begin to u stop → ((v : ℕ × Site) → StopsBy frame flags items constants code stop u v → MayServe v → ⊥) → ⊥
    none_unserved u stop s none =
        let x = answer u stop s in
        none (get_or h.served x.number u) x.by (h.may_serve x.number u x.within)

    -- two uses stop at pieces of their own, one behind the other, where they do not load one constant: no two constants
    -- share bytes, no constant is a trap word, and no two branches share a veneer
    pub each_its_own : (u v : ℕ × Site) (s t : ℕ) → StopsBetween frame flags items constants code begin to u s → StopsBetween frame flags items constants code begin to v t → u.0 ≢ v.0 → (IsSome (constant_of u.1.target) → u.1.target ≢ v.1.target) → (s + bytes_of u ≤ t) ⊎ (t + bytes_of v ≤ s)
    each_its_own u v s t su sv ne other =
        let x = answer u s su in
        let y = answer v t sv in
        elim (cases_eq x.number y.number) [
          | inl same ↦ absurd (one x.by (subst (StopsBy frame flags items constants code t v) (sym (ap (λ k. get_or h.served k u) same ∙ get_or_default h.served y.number u v y.within)) y.by))
          | inr apart ↦ elim (cases_lt x.number y.number) [
            | inl lt ↦ inl (turn u v s t x y lt)
            | inr ge ↦ inr (turn v u t s y x (omega (arith, ge, apart)))
          ]
        ]
      where
        one : {w : ℕ × Site} → StopsBy frame flags items constants code s u w → StopsBy frame flags items constants code t v w → ⊥
        one (inl e) (inl g) = ne (ap (λ (x : ℕ × Site). x.0) (sym e ∙ g))
        one (inl e) (inr copy) =
            let target : u.1.target ≡ v.1.target = ap (λ (x : ℕ × Site). x.1.target) (sym e) ∙ copy.1 in
            other (subst (λ x. IsSome (constant_of x)) (sym target) copy.0) target
        one (inr copy) (inl g) = other copy.0 (sym copy.1 ∙ ap (λ (x : ℕ × Site). x.1.target) g)
        one (inr copy) (inr more) = other copy.0 (sym copy.1 ∙ more.1)

    -- and in the order of islands: no use stops in what aligns the copy for one that comes before it
    pub in_turn : (u v : ℕ × Site) (s t : ℕ) → StopsBetween frame flags items constants code begin to u s → StopsBetween frame flags items constants code begin to v t
        → ((a c : ℕ × Site) → IsWanting frame flags items code a.0 a.1 → IsWanting frame flags items code c.0 c.1 → StopsBy frame flags items constants code s u a → StopsBy frame flags items constants code t v c → order_of a < order_of c)
        → s + bytes_of u ≤ t
    in_turn u v s t su sv before =
        let x = answer u s su in
        let y = answer v t sv in
        let less = before (get_or h.served x.number u) (get_or h.served y.number v) (h.uses_are x.number u x.within) (h.uses_are y.number v y.within) x.by y.by in
        elim (cases_lt x.number y.number) [
          | inl lt ↦ turn u v s t x y lt
          | inr ge ↦ elim (cases_eq x.number y.number) [
            | inl same ↦ absurd (omega (arith, less, ap order_of (ap (λ k. get_or h.served k u) same ∙ get_or_default h.served y.number u v y.within)))
            | inr ne ↦
                let other = (h.in_order y.number x.number u (omega (arith, ge, ne)) x.within).0 in
                absurd (omega (arith, less, other, ap order_of (get_or_default h.served y.number u v y.within)))
          ]
        ]
