-- The thunks of units, as a list.
use Rattle.std.proofs.Common.{ℕ, zero, suc, ◌≡◌, ◌+◌, ◌<◌, ◌^◌, cond, Bool, true, false, List, [], ◌∷◌, ◌++◌, length, get_or, map, sym, ◌∙◌, ap, ap₂, subst, arith, append_assoc}
use Rattle.std.specs.List.{Contains, filter, flat_map, enumerate_from}
use Rattle.std.specs.List.Sorted.{IsStrictlyIncreasing}
use Rattle.std.proofs.lemmas.List.{get_or_default}
use Rattle.std.proofs.lemmas.List.Elements.{Contains-append_left, Contains-append_right}
use Rattle.std.proofs.lemmas.List.Concat.{flat_map-cons}
use Rattle.std.proofs.lemmas.List.FromFn.{length-enumerate_from, get_or-enumerate_from}
use Rattle.std.proofs.lemmas.List.Sums.{sum_by-take-le}
use Rattle.a64_link.specs.declared.unit.Unit.{Unit}
use Rattle.a64_link.specs.Units.{Relocation}
use Rattle.a64_link.specs.Layout.{AreSums, AreStarts, IsUnit, is_far, thunk_of}
use Rattle.a64_link.specs.Linking.{IsReloc}
use Rattle.a64_link.specs.Linked.{thunks_in, all_thunks}
use Rattle.a64_link.proofs.Places.{extent_in}
use Rattle.a64_link.proofs.Geometry.{ends_small}
use Rattle.a64_link.proofs.Thunks.{first_thunks, thunk_step, list_step, thunks_increase}

-- ---- elements of lists

in_map : {X Y : Type 0} (f : X → Y) (xs : List X) (x : X) → Contains xs x → Contains (map f xs) (f x)
in_map f [] x (k, lt, at) = absurd (omega arith)
in_map f (y ∷ xs) x (zero, lt, at) = (zero, omega arith, ap f at)
in_map f (y ∷ xs) x (suc k, lt, at) = let r = in_map f xs x (k, omega arith, at) in (suc r.0, omega (arith, r.1), r.2)

first_kept : {X : Type 0} (b : Bool) (x y : X) (xs : List X) → y ≡ x → b ≡ true → Contains (cond b (y ∷ xs) xs) x
first_kept true x y xs at is = (zero, omega arith, at)
first_kept false x y xs at is = absurd cc

later_kept : {X : Type 0} (b : Bool) (x y : X) (xs : List X) → Contains xs x → Contains (cond b (y ∷ xs) xs) x
later_kept true x y xs h = (suc h.0, omega (arith, h.1), h.2)
later_kept false x y xs h = h

in_filter : {X : Type 0} (p : X → Bool) (xs : List X) (x : X) → p x ≡ true → Contains xs x → Contains (filter p xs) x
in_filter p [] x is (k, lt, at) = absurd (omega arith)
in_filter p (y ∷ xs) x is (zero, lt, at) = first_kept (p y) x y (filter p xs) at (ap p at ∙ is)
in_filter p (y ∷ xs) x is (suc k, lt, at) = later_kept (p y) x y (filter p xs) (in_filter p xs x is (k, omega arith, at))

in_flat_map : {X A : Type 0} (f : X → List A) (xs : List X) (x : X) (a : A) → Contains xs x → Contains (f x) a → Contains (flat_map f xs) a
in_flat_map f [] x a (k, lt, at) h = absurd (omega arith)
in_flat_map f (y ∷ xs) x a (zero, lt, at) h = subst (λ l. Contains l a) (sym (flat_map-cons f y xs)) (Contains-append_left (f y) (flat_map f xs) a (subst (λ z. Contains (f z) a) (sym at) h))
in_flat_map f (y ∷ xs) x a (suc k, lt, at) h = subst (λ l. Contains l a) (sym (flat_map-cons f y xs)) (Contains-append_right (f y) (flat_map f xs) a (in_flat_map f xs x a (k, omega arith, at) h))

numbered : {X : Type 0} (xs : List X) (k : ℕ) (x : X) → k < length xs → get_or xs k x ≡ x → Contains (enumerate_from 0 xs) (k, x)
numbered xs k x lt is =
    let same : 0 + k ≡ k = omega arith in
    (k, omega (arith, length-enumerate_from 0 xs), get_or-enumerate_from 0 xs k (k, x) lt ∙ ap₂ (λ m y. (m, y)) same is)

module _ (units : List Unit) (starts : List ℕ) where
  -- the thunk of a call that has one is listed
  pub thunk_listed : (i : ℕ) (unit : Unit) (k : ℕ) (r : Relocation) → IsUnit units i unit → IsReloc unit k r → is_far units i r ≡ true → Contains (all_thunks units starts) (thunk_of units starts i unit k)
  thunk_listed i unit k r u q far =
      let reloc = numbered unit.relocs.items k r q.within (q.is r) in
      let kept = in_filter (λ (e : ℕ × Relocation). is_far units i e.1) (enumerate_from 0 unit.relocs.items) (k, r) far reloc in
      let own = in_map (λ (e : ℕ × Relocation). thunk_of units starts i unit e.0) (filter (λ (e : ℕ × Relocation). is_far units i e.1) (enumerate_from 0 unit.relocs.items)) (k, r) kept in
      in_flat_map (λ (e : ℕ × Unit). thunks_in units starts e.0 e.1) (enumerate_from 0 units) (i, unit) (thunk_of units starts i unit k) (numbered units i unit u.within (u.is unit)) own

  -- the list is in order of the places
  pub thunks_ordered : AreStarts units starts → (thunks : List ℕ) → thunks ≡ all_thunks units starts → IsStrictlyIncreasing thunks
  thunks_ordered a thunks is = subst IsStrictlyIncreasing (sym is) (thunks_increase units starts a)

  module _ (i : ℕ) (unit : Unit) where
    -- thunks stand below 2^31
    pub thunk_small : (sums : List ℕ) → AreSums units sums → AreStarts units starts → IsUnit units i unit → (n : ℕ) → thunk_of units starts i unit n < 2 ^ 31
    thunk_small sums s a u n = omega (arith, ends_small units sums starts s a i unit u, extent_in units i unit, sum_by-take-le (λ r. cond (is_far units i r) 1 0) unit.relocs.items n)

    -- one relocation more, of which it is known whether its call has a thunk
    pub one_more : (k : ℕ) (relocs : List Relocation) (d : Relocation) (b : Bool) (old now new : List ℕ) (next after : ℕ) → relocs ≡ unit.relocs.items → k < length relocs → is_far units i (get_or relocs k d) ≡ b
        → now ≡ old ++ first_thunks units starts i unit k → next ≡ thunk_of units starts i unit k → new ≡ now ++ cond b (next ∷ []) [] → after ≡ next + cond b 20 0
        → (new ≡ old ++ first_thunks units starts i unit (k + 1)) × (after ≡ thunk_of units starts i unit (k + 1))
    one_more k relocs d b old now new next after is lt is_b is_now is_next is_new is_after =
        let r : Relocation = get_or relocs k d in
        let q : IsReloc unit k r = record { within = subst (λ (l : List Relocation). k < length l) is lt; is = λ e. ap (λ (l : List Relocation). get_or l k e) (sym is) ∙ get_or_default relocs k e d lt } in
        let more = list_step units starts i unit k r q in
        let step = thunk_step units starts i unit k r q in (
          is_new
              ∙ ap₂ (λ (xs : List ℕ) (t : ℕ). xs ++ cond b (t ∷ []) []) is_now is_next
              ∙ append_assoc old (first_thunks units starts i unit k) (cond b (thunk_of units starts i unit k ∷ []) [])
              ∙ ap (λ (c : Bool). old ++ (first_thunks units starts i unit k ++ cond c (thunk_of units starts i unit k ∷ []) [])) (sym is_b)
              ∙ ap (λ (xs : List ℕ). old ++ xs) (sym more),
          is_after ∙ ap₂ (λ (t : ℕ) (c : Bool). t + cond c 20 0) is_next (sym is_b) ∙ sym step,
        )
