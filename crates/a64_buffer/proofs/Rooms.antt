-- What keeps open uses within reach.
use Rattle.std.proofs.Common.{ℕ, zero, suc, ◌≡◌, ◌+◌, ◌%◌, ◌≤◌, Bool, true, false, cond, List, [], ◌∷◌, ◌++◌, All, get_or, take, Option, None, Some, refl, sym, ap, ◌∙◌, subst, arith, inl, inr}
use Rattle.std.specs.Prelude.{◌&&◌, is_none, nat_eq}
use Rattle.std.proofs.lemmas.List.{get_or_append_left, length-append}
use Rattle.std.proofs.lemmas.List.Elements.{All-push}
use Rattle.std.proofs.lemmas.List.Sums.{sum_by-take-drop}
use Rattle.a64_buffer.specs.declared.site.Use.{Use}
use Rattle.a64_buffer.specs.declared.site.Target.{Target}
use Rattle.a64_buffer.specs.declared.site.Target.TheVariants.{Label, Constant, Trap, IslandEnd}
use Rattle.a64_buffer.specs.Kinds.{Kinds, IsLawful}
use Rattle.a64_buffer.specs.declared.class.Class.{Class}
use Rattle.a64_buffer.specs.declared.class.Class.TheVariants.{Near, Middle, Far}
use Rattle.a64_buffer.specs.Classes.{Level, first, second, third, urgency_number, level_of, wants, cost, cost_in, label_class, class, class_of, range_of, is_open, weigh, burden, HasRoom}
use Rattle.a64_buffer.specs.Sound.{IsPlaced, IsKinded}
use Rattle.a64_buffer.specs.Steps.{Within, UseHasRoom}
use Rattle.a64_buffer.proofs.Costs.{cost_third, most_cost, burden_third, SomeOpen, some_or_none, none_first, none_second, none_third, weight-append, weight-cons}

-- an urgency is that of the class that a label's use has by it
urgency_is : (n : ℕ) → 1 ≤ n → n ≤ 3 → urgency_number (level_of (label_class true n)) ≡ n
urgency_is zero p q = absurd (omega arith)
urgency_is (suc zero) p q = refl
urgency_is (suc (suc zero)) p q = refl
urgency_is (suc (suc (suc zero))) p q = refl
urgency_is (suc (suc (suc (suc n)))) p q = absurd (omega arith)

-- a use of a label that may have a veneer may want one
pub label_wants : (n : ℕ) → wants (label_class true n) ≡ true
label_wants n = by (nat_eq n 1) (nat_eq n 2)
  where
    by : (x y : Bool) → wants (cond x Near (cond y Middle Far)) ≡ true
    by true y = refl
    by false true = refl
    by false false = refl

both_true : (a b : Bool) → (a && b) ≡ true → (a ≡ true) × (b ≡ true)
both_true true b e = (refl, e)
both_true false b e = absurd (let z : false ≡ true = e in cc)

module _ {K : Type 0} (r : Kinds K) where
  -- what is open has no stop, and wants something
  pub open_wants : (u : Use K) → is_open r u ≡ true → wants (class r u) ≡ true
  open_wants u e = (both_true (wants (class r u)) (is_none u.stop) e).0

  pub open_stop : (u : Use K) → is_open r u ≡ true → u.stop ≡ None
  open_stop u e = go u.stop (both_true (wants (class r u)) (is_none u.stop) e).1
    where
      go : (o : Option ℕ) → is_none o ≡ true → o ≡ None
      go None e = refl
      go (Some t) e = absurd (let z : false ≡ true = e in cc)

module _ {K : Type 0} (r : Kinds K) (law : IsLawful r) where
  -- the range of a use that may want something is that of its urgency
  label_urgency : (kind : K) (v : Bool) → r.veneers kind ≡ v → wants (label_class v (r.urgency kind)) ≡ true → urgency_number (level_of (label_class v (r.urgency kind))) ≡ r.urgency kind
  label_urgency kind false e w = absurd (let z : false ≡ true = w in cc)
  label_urgency kind true e w = urgency_is (r.urgency kind) (law.veneer_urgency kind e) (law.urgency_most kind)

  pub wanting_urgency : (target : Target) (kind : K) → IsKinded r target kind → wants (class_of r target kind) ≡ true → urgency_number (level_of (class_of r target kind)) ≡ r.urgency kind
  wanting_urgency (Label label) kind k w = label_urgency kind (r.veneers kind) refl w
  wanting_urgency (Constant constant) kind k w = sym k
  wanting_urgency (Trap code) kind k w = sym k
  wanting_urgency IslandEnd kind k w = absurd (let z : false ≡ true = w in cc)

  some_urgency : (l : Level) → 1 ≤ urgency_number l
  some_urgency first = omega arith
  some_urgency second = omega arith
  some_urgency third = omega arith

  pub wanting_range : (target : Target) (kind : K) → IsKinded r target kind → wants (class_of r target kind) ≡ true → r.forward kind ≡ range_of r (level_of (class_of r target kind))
  wanting_range target kind k w =
      let e : urgency_number (level_of (class_of r target kind)) ≡ r.urgency kind = wanting_urgency target kind k w in
      law.one_range kind (let one = some_urgency (level_of (class_of r target kind)) in omega arith) ∙ ap r.range (sym e)

  pub widest : (l : Level) → range_of r l ≤ r.range 3
  widest first = omega (arith, law.range_second, law.range_third)
  widest second = omega (arith, law.range_third)
  widest third = omega arith

  -- ---- room

  pub within_from : (end : ℕ) (uses : List (Use K)) (more : ℕ) → HasRoom r end uses more → Within r end uses (more + 4)
  within_from end uses more h = record { rooms = λ k d w o. let x = h.rooms k d w o in omega arith }

  pub room_from : (end : ℕ) (uses : List (Use K)) (more : ℕ) → Within r end uses (more + 4) → HasRoom r end uses more
  room_from end uses more h = record { rooms = λ k d w o. let x = h.rooms k d w o in omega arith }

  -- the jump of an island takes the four bytes
  pub jump_within : (end : ℕ) (uses : List (Use K)) (more : ℕ) → Within r end uses (more + 4) → Within r (end + 4) uses more
  jump_within end uses more h = record { rooms = λ k d w o. let x = h.rooms k d w o in omega arith }

  pub less_room : (end : ℕ) (uses : List (Use K)) (more less : ℕ) → less ≤ more → HasRoom r end uses more → HasRoom r end uses less
  less_room end uses more less le h = record { rooms = λ k d w o. let x = h.rooms k d w o in omega arith }

  -- a use of an urgency that is open says that the range is not used up
  open_within : (end : ℕ) (uses : List (Use K)) (more : ℕ) (l : Level) (d : Use K) → All (IsPlaced end) uses → Within r end uses more → SomeOpen r l uses → more + burden r l uses ≤ range_of r l
  open_within end uses more l d placed h s =
      let x = h.rooms s.index d s.within (s.here d).0 in
      let p : IsPlaced end (get_or uses s.index d) = placed s.index d s.within in
      let y : end + more + burden r l uses ≤ (get_or uses s.index d).offset + range_of r l = subst (λ l. end + more + burden r l uses ≤ (get_or uses s.index d).offset + range_of r l) (s.here d).1 x in
      omega (arith, p.inside)

  -- what is owed fits the longest range behind the end, where anything is open
  pub next_within : (end : ℕ) (uses : List (Use K)) (more : ℕ) (d : Use K) → All (IsPlaced end) uses → Within r end uses more → more ≤ r.range 3 → more + burden r third uses ≤ r.range 3
  next_within end uses more d placed h own = elim (some_or_none r third uses) [
    | inl s ↦ open_within end uses more third d placed h s
    | inr n ↦ elim (some_or_none r second uses) [
      | inl s ↦ omega (arith, none_third r uses n, open_within end uses more second d placed h s, law.third_of_second)
      | inr m ↦ elim (some_or_none r first uses) [
        | inl s ↦ omega (arith, none_third r uses n, none_second r uses m, open_within end uses more first d placed h s, law.third_of_first)
        | inr k ↦ omega (arith, none_third r uses n, none_second r uses m, none_first r uses k)
      ]
    ]
  ]

  -- room with more uses, and at a later end, is room with the first of them
  pub part_room : (end : ℕ) (us vs : List (Use K)) (more end' more' : ℕ) → end' + more' ≤ end + more → HasRoom r end (us ++ vs) more → HasRoom r end' us more'
  part_room end us vs more end' more' le h = record {
    rooms = λ k d w o.
        let same : get_or (us ++ vs) k d ≡ get_or us k d = get_or_append_left us vs d k w in
        let x = h.rooms k d (omega (arith, length-append us vs)) (ap (is_open r) same ∙ o) in
        let l : burden r (level_of (class r (get_or us k d))) us ≤ burden r (level_of (class r (get_or (us ++ vs) k d))) (us ++ vs) = omega (arith, ap (λ u. burden r (level_of (class r u)) (us ++ vs)) same, weight-append r (cost (level_of (class r (get_or us k d)))) us vs) in
        omega (arith, x, l, ap (λ u. u.offset + range_of r (level_of (class r u))) same);
  }

  -- no use is open: then there is room for anything
  pub none_room : (end : ℕ) (uses : List (Use K)) (more : ℕ) → All (λ u. is_open r u ≡ false) uses → HasRoom r end uses more
  none_room end uses more n = record { rooms = λ k d w o. absurd (let z : false ≡ true = sym (n k d w) ∙ o in cc) }

-- ---- room, use by use

-- a part of the uses has no more than all may want
pub part_burden : {K : Type 0} (r : Kinds K) (l : Level) (uses : List (Use K)) (k : ℕ) → burden r l (take k uses) ≤ burden r third uses
part_burden r l uses k = omega (arith, burden_third r l (take k uses), sum_by-take-drop (weigh r (cost third)) uses k)

pub few_bytes : (l : Level) (c : Class) → cost l c ≤ 28
few_bytes l c = omega (arith, cost_third l c, most_cost c)

module _ {K : Type 0} (r : Kinds K) (law : IsLawful r) (end from more first' second' third' : ℕ) (uses : List (Use K)) (kinded : All (λ u. IsKinded r u.target u.kind) uses) (from_is : from ≡ end + more + 4) (first_is : first' ≡ burden r first uses) (second_is : second' ≡ burden r second uses) (third_is : third' ≡ burden r third uses) where
  at_level : (l : Level) → cost_in l first' second' third' ≡ burden r l uses
  at_level first = first_is
  at_level second = second_is
  at_level third = third_is

  pub room_of_each : All (UseHasRoom r from first' second' third') uses → HasRoom r end uses more
  room_of_each h = record {
    rooms = λ k d w o. let x = h k d w o in omega (arith, from_is, at_level (level_of (class r (get_or uses k d))), wanting_range r law (get_or uses k d).target (get_or uses k d).kind (kinded k d w) (open_wants r (get_or uses k d) o));
  }

  pub each_of_room : HasRoom r end uses more → All (UseHasRoom r from first' second' third') uses
  each_of_room h k d w o = let x = h.rooms k d w o in omega (arith, from_is, at_level (level_of (class r (get_or uses k d))), wanting_range r law (get_or uses k d).target (get_or uses k d).kind (kinded k d w) (open_wants r (get_or uses k d) o))

-- ---- room for one more use

module _ {K : Type 0} (r : Kinds K) (law : IsLawful r) where
  -- uses whose ranges are longer than the code and all that is owed have room
  pub wide_room : (end more : ℕ) (uses : List (Use K)) → All (λ u. IsKinded r u.target u.kind) uses → All (λ u. is_open r u ≡ true → end + more + 4 + burden r third uses ≤ r.forward u.kind) uses → HasRoom r end uses more
  wide_room end more uses kinded h = record {
    rooms = λ k d w o.
        let x : end + more + 4 + burden r third uses ≤ r.forward (get_or uses k d).kind = h k d w o in
        let y = burden_third r (level_of (class r (get_or uses k d))) uses in
        omega (arith, x, y, wanting_range r law (get_or uses k d).target (get_or uses k d).kind (kinded k d w) (open_wants r (get_or uses k d) o));
  }

  -- a use of an urgency that is open leaves a word before its range is used up
  open_room : (end : ℕ) (uses : List (Use K)) (more : ℕ) (l : Level) (d : Use K) → end % 4 ≡ 0 → All (IsPlaced end) uses → HasRoom r end uses more → SomeOpen r l uses → more + 8 + burden r l uses ≤ range_of r l
  open_room end uses more l d whole placed h s =
      let x = h.rooms s.index d s.within (s.here d).0 in
      let p : IsPlaced end (get_or uses s.index d) = placed s.index d s.within in
      let y : end + more + 4 + burden r l uses ≤ (get_or uses s.index d).offset + range_of r l = subst (λ l. end + more + 4 + burden r l uses ≤ (get_or uses s.index d).offset + range_of r l) (s.here d).1 x in
      omega (arith, p.inside, p.aligned, whole)

  -- and so does a use of the last word, if what is to come alone leaves it
  pub end_room : (end : ℕ) (uses : List (Use K)) (more : ℕ) (l : Level) (d : Use K) → end % 4 ≡ 0 → All (IsPlaced end) uses → HasRoom r end uses more → more + 8 ≤ range_of r l → more + 8 + burden r l uses ≤ range_of r l
  end_room end uses more first d whole placed h own = elim (some_or_none r first uses) [
    | inl s ↦ open_room end uses more first d whole placed h s
    | inr n ↦ omega (arith, none_first r uses n)
  ]
  end_room end uses more second d whole placed h own = elim (some_or_none r second uses) [
    | inl s ↦ open_room end uses more second d whole placed h s
    | inr n ↦ elim (some_or_none r first uses) [
      | inl s ↦ omega (arith, none_second r uses n, open_room end uses more first d whole placed h s, law.range_second)
      | inr m ↦ omega (arith, none_second r uses n, none_first r uses m)
    ]
  ]
  end_room end uses more third d whole placed h own = elim (some_or_none r third uses) [
    | inl s ↦ open_room end uses more third d whole placed h s
    | inr n ↦ elim (some_or_none r second uses) [
      | inl s ↦ omega (arith, none_third r uses n, open_room end uses more second d whole placed h s, law.third_of_second)
      | inr m ↦ elim (some_or_none r first uses) [
        | inl s ↦ omega (arith, none_third r uses n, none_second r uses m, open_room end uses more first d whole placed h s, law.third_of_first)
        | inr k ↦ omega (arith, none_third r uses n, none_second r uses m, none_first r uses k)
      ]
    ]
  ]

  -- one more use, of the last word: it has room where so much room is left, and its range is long enough
  pub use_room : (end : ℕ) (uses : List (Use K)) (more : ℕ) (v : Use K) → end % 4 ≡ 0 → All (IsPlaced end) uses → HasRoom r end uses (more + 28) → v.offset + 4 ≡ end → more + 36 ≤ range_of r (level_of (class r v)) → HasRoom r end (uses ++ v ∷ []) more
  use_room end uses more v whole placed h at own = record {
    rooms = All-push (λ (u : Use K). is_open r u ≡ true → end + more + 4 + burden r (level_of (class r u)) (uses ++ v ∷ []) ≤ u.offset + range_of r (level_of (class r u))) uses v
        (λ k d w o. let x = h.rooms k d w o in omega (arith, added (level_of (class r (get_or uses k d)))))
        (λ o. omega (arith, added (level_of (class r v)), at, end_room end uses (more + 28) (level_of (class r v)) v whole placed h (omega arith)));
  }
    where
      added : (l : Level) → burden r l (uses ++ v ∷ []) ≤ burden r l uses + 28
      added l = omega (arith, weight-append r (cost l) uses (v ∷ []), weight-cons r (cost l) v [], one (is_open r v), few_bytes l (class r v))
        where
          one : (o : Bool) → cond o (cost l (class r v)) 0 ≤ cost l (class r v)
          one true = omega arith
          one false = omega arith
