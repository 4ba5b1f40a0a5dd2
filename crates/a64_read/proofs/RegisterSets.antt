-- Sets of registers, told by their members in order.
use Rattle.std.proofs.Common.{◌≡◌, ◌≢◌, ◌↔◌, ℕ, zero, suc, ◌<◌, ◌≤◌, ◌+◌, ◌-◌, ◌/◌, ◌%◌, ◌^◌, ◌==◌, Bool, true, false, List, [], ◌∷◌, Option, Some, None, refl, sym, ap, subst, ◌∙◌, arith, if◌then◌else◌, nat_lt, nat_eq, length, drop, get_or, drop-cons, add-one}
use Rattle.std.specs.Int.{bit_at}
use Rattle.std.specs.List.{AllByRecursion}
use Rattle.std.specs.Prelude.{IfSome}
use Rattle.std.proofs.lemmas.Bool.{false≢true}
use Rattle.std.proofs.lemmas.Bool.Decides.{nat_tests}
use Rattle.std.proofs.lemmas.Nat.Bits.{bit_at-lt, bit_at-suc, bit_at_lowest}
use Rattle.a64_base.specs.Bits.{has_bit}
use Rattle.a64_base.specs.RegisterNumbers.{RealRegister}
use Rattle.a64_base.specs.Sets.{has}
use Rattle.a64_base.specs.declared.reg.RegClass.{RegClass}
use Rattle.a64_base.specs.declared.reg.RegClass.TheVariants.{Int, Float}
use Rattle.a64_base.specs.declared.set.PRegSet.{PRegSet}
use Rattle.a64_read.specs.Clobbers.{clobbers_text, members, members_from, nth_register, IsPRegSet}
use Rattle.a64_tokens.specs.Fields.{preg_text, IsPReg}
use Rattle.a64_tokens.specs.Lists.{list_text}
use Rattle.a64_tokens.specs.Reads.{Reads}

-- ---- numbers with the same bits are equal

same_bit : (a b n : ℕ) → has_bit a n ≡ has_bit b n → bit_at a n ≡ bit_at b n
same_bit a b n e = grind (arith, nat_tests, bit_at-lt a n, bit_at-lt b n, e)

same_bits : (w a b : ℕ) → a < 2 ^ w → b < 2 ^ w → ((n : ℕ) → n < w → bit_at a n ≡ bit_at b n) → a ≡ b
same_bits zero a b la lb same = omega (arith, la, lb)
same_bits (suc w) a b la lb same =
    let halves : a / 2 ≡ b / 2 = same_bits w (a / 2) (b / 2) (omega (arith, la)) (omega (arith, lb)) (λ n l. sym (bit_at-suc a n) ∙ same (suc n) (omega (arith, l)) ∙ bit_at-suc b n) in
    let lowest : a % 2 ≡ b % 2 = sym (bit_at_lowest a) ∙ same 0 (omega arith) ∙ bit_at_lowest b in
    omega (arith, halves, lowest)

-- ---- the order of registers

place : RegClass → ℕ → ℕ
place Int n = if nat_eq n 63 then 32 else n
place Float n = 33 + n

abbrev place_of : RealRegister → ℕ
place_of p = place p.class p.number

place_nth : (n : ℕ) → place_of (nth_register n) ≡ n
unfolding place
place_nth n = go (nat_lt n 32) refl (nat_eq n 32) refl
  where
    go : (low : Bool) → nat_lt n 32 ≡ low → (stack : Bool) → nat_eq n 32 ≡ stack → place_of (if low then record { number = n; class = Int } else if stack then record { number = 63; class = Int } else record { number = n - 33; class = Float }) ≡ n
    go true is stack its = let other : nat_eq n 63 ≡ false = grind (arith, nat_tests, is) in rw other refl
    go false is true its = grind (arith, nat_tests, its)
    go false is false its = grind (arith, nat_tests, is, its)

pub nth_same : (m n : ℕ) → nth_register m ≡ nth_register n → m ≡ n
nth_same m n e = sym (place_nth m) ∙ ap place_of e ∙ place_nth n

nth_integer : (n : ℕ) → n < 32 → nth_register n ≡ record { number = n; class = Int }
nth_integer n l = let is : nat_lt n 32 ≡ true = grind (arith, nat_tests, l) in rw is refl

nth_float : (n : ℕ) → nth_register (33 + n) ≡ record { number = n; class = Float }
nth_float n =
    let not_low : nat_lt (33 + n) 32 ≡ false = grind (arith, nat_tests) in
    let not_stack : nat_eq (33 + n) 32 ≡ false = grind (arith, nat_tests) in
    let back : 33 + n - 33 ≡ n = omega arith in
    rw (not_low, not_stack, back) refl

-- ---- sets with the same registers are equal

abbrev set_of : ℕ → Bool → ℕ → PRegSet
set_of integers stack floats = record { integers = integers; stack = stack; floats = floats }

module _ (s t : PRegSet) (same : (k : ℕ) → k < 65 → has s (nth_register k) ≡ has t (nth_register k)) where
  integer_same : (n : ℕ) → n < 32 → has_bit s.integers n ≡ has_bit t.integers n
  integer_same n l =
      let other : (n == 63) ≡ false = grind (arith, nat_tests, l) in
      rw (nth_integer n l, other) at (same n (omega (arith, l)))

  stack_same : s.stack ≡ t.stack
  stack_same = same 32 (omega arith)

  float_same : (n : ℕ) → n < 32 → has_bit s.floats n ≡ has_bit t.floats n
  float_same n l = rw (nth_float n) at (same (33 + n) (omega (arith, l)))

  pub same_set : IsPRegSet s → IsPRegSet t → s ≡ t
  same_set fs ft =
      let integers : s.integers ≡ t.integers = same_bits 32 s.integers t.integers fs.0 ft.0 (λ n l. same_bit s.integers t.integers n (integer_same n l)) in
      let floats : s.floats ≡ t.floats = same_bits 32 s.floats t.floats fs.1 ft.1 (λ n l. same_bit s.floats t.floats n (float_same n l)) in
      ap (λ (i : ℕ). set_of i s.stack s.floats) integers ∙ ap (λ (b : Bool). set_of t.integers b s.floats) stack_same ∙ ap (λ (f : ℕ). set_of t.integers t.stack f) floats

-- ---- members from a place on

abbrev step : PRegSet → ℕ → ℕ → Bool → List RealRegister
step x n more b = if b then nth_register n ∷ members_from x (suc n) more else members_from x (suc n) more

-- they begin no earlier
later_step : (x : PRegSet) (more n k : ℕ) (rest : List RealRegister) → (members_from x (suc n) more ≡ nth_register k ∷ rest → suc n ≤ k) → (b : Bool) → step x n more b ≡ nth_register k ∷ rest → n ≤ k
later_step x more n k rest others true e = let first : nth_register n ≡ nth_register k = cc in omega (arith, nth_same n k first)
later_step x more n k rest others false e = omega (arith, others e)

later : (x : PRegSet) (more n k : ℕ) (rest : List RealRegister) → members_from x n more ≡ nth_register k ∷ rest → n ≤ k
later x zero n k rest e = absurd cc
later x (suc more) n k rest e = later_step x more n k rest (later x more (suc n) k rest) (has x (nth_register n)) e

none_from : (x : PRegSet) (more n : ℕ) → ((k : ℕ) → n ≤ k → has x (nth_register k) ≡ false) → members_from x n more ≡ []
none_from x zero n none = refl
none_from x (suc more) n none = rw (none n (omega arith)) (none_from x more (suc n) (λ k l. none k (omega (arith, l))))

none_step : (x : PRegSet) (more n k : ℕ) → (members_from x (suc n) more ≡ [] → n ≢ k → has x (nth_register k) ≡ false) → (b : Bool) → has x (nth_register n) ≡ b → step x n more b ≡ [] → (here : Bool) → nat_eq n k ≡ here → has x (nth_register k) ≡ false
none_step x more n k others true is e here its = absurd cc
none_step x more n k others false is e true its = let same : n ≡ k = grind (arith, nat_tests, its) in subst (λ (m : ℕ). has x (nth_register m) ≡ false) same is
none_step x more n k others false is e false its = others e (λ s. false≢true (sym its ∙ grind (arith, nat_tests, s)))

has_none : (x : PRegSet) (more n : ℕ) → members_from x n more ≡ [] → (k : ℕ) → n ≤ k → k < n + more → has x (nth_register k) ≡ false
has_none x zero n e k l h = absurd (omega (arith, l, h))
has_none x (suc more) n e k l h = none_step x more n k (λ none other. has_none x more (suc n) none k (omega (arith, l, other)) (omega (arith, h))) (has x (nth_register n)) refl e (nat_eq n k) refl

-- ---- registers are read up to a place

abbrev Agree : ℕ → PRegSet → PRegSet → Type 0
Agree n x set = (k : ℕ) → k < n → has x (nth_register k) ≡ has set (nth_register k)

agree_more : (n : ℕ) (x set : PRegSet) → Agree n x set → has x (nth_register n) ≡ has set (nth_register n) → Agree (suc n) x set
agree_more n x set agree here k l = go (nat_eq k n) refl
  where
    go : (b : Bool) → nat_eq k n ≡ b → has x (nth_register k) ≡ has set (nth_register k)
    go true is = let same : n ≡ k = grind (arith, nat_tests, is) in subst (λ (m : ℕ). has x (nth_register m) ≡ has set (nth_register m)) same here
    go false is = let other : k ≢ n = λ s. false≢true (sym is ∙ grind (arith, nat_tests, s)) in agree k (omega (arith, l, other))

-- the set has those before the place, and none from there on. Any set has all registers exactly where it has
-- the same before the place, and those that are left from there on
pub record Walk (registers left : List RealRegister) (set : PRegSet) (n : ℕ) : Type 0 where
  pub free : (k : ℕ) → n ≤ k → has set (nth_register k) ≡ false
  pub same : (x : PRegSet) → (members x ≡ registers) ↔ (Agree n x set × (members_from x n (65 - n) ≡ left))

pub begins : (registers : List RealRegister) (set : PRegSet) → ((q : RealRegister) → has set q ≡ false) → Walk registers registers set 0
unfolding members
begins registers set none = record {
  free = λ k l. none (nth_register k);
  same = λ x. (λ e. ((λ k l. absurd (omega (arith, l))), e), λ h. h.1);
}

module _ (registers rest : List RealRegister) (set : PRegSet) where
  -- the place of no register that is left
  skip : (n r : ℕ) → Walk registers (nth_register r ∷ rest) set n → n < r → r < 65 → Walk registers (nth_register r ∷ rest) set (suc n)
  skip n r w l h = record {
    free = λ k m. w.free k (omega (arith, m));
    same = λ x. (
      λ e. let g = (w.same x).0 e in front x (has x (nth_register n)) refl g.0 (sym (ap (members_from x n) count) ∙ g.1),
      λ g. (w.same x).1 ((λ k m. g.0 k (omega (arith, m))), ap (members_from x n) count ∙ back x (g.0 n (omega arith) ∙ w.free n (omega arith)) g.1),
    );
  }
    where
      count : 65 - n ≡ suc (65 - suc n)
      count = omega (arith, l, h)

      front : (x : PRegSet) (b : Bool) → has x (nth_register n) ≡ b → Agree n x set → step x n (65 - suc n) b ≡ nth_register r ∷ rest → Agree (suc n) x set × (members_from x (suc n) (65 - suc n) ≡ nth_register r ∷ rest)
      front x true is agree e = let first : nth_register n ≡ nth_register r = cc in absurd (omega (arith, l, nth_same n r first))
      front x false is agree e = (agree_more n x set agree (is ∙ sym (w.free n (omega arith))), e)

      back : (x : PRegSet) → has x (nth_register n) ≡ false → members_from x (suc n) (65 - suc n) ≡ nth_register r ∷ rest → step x n (65 - suc n) (has x (nth_register n)) ≡ nth_register r ∷ rest
      back x is e = rw is e

  reach : (d n r : ℕ) → r ≡ n + d → r < 65 → Walk registers (nth_register r ∷ rest) set n → Walk registers (nth_register r ∷ rest) set r
  reach zero n r e h w = let same : n ≡ r = omega (arith, e) in subst (λ (m : ℕ). Walk registers (nth_register r ∷ rest) set m) same w
  reach (suc d) n r e h w = reach d (suc n) r (omega (arith, e)) h (skip n r w (omega (arith, e)) h)

  -- the place of the next register
  take : (new : PRegSet) (n : ℕ) → Walk registers (nth_register n ∷ rest) set n → n < 65 → has new (nth_register n) ≡ true → ((q : RealRegister) → q ≢ nth_register n → has new q ≡ has set q) → Walk registers rest new (suc n)
  take new n w h added others = record {
    free = λ k m. others (nth_register k) (λ e. absurd (omega (arith, m, nth_same k n e))) ∙ w.free k (omega (arith, m));
    same = λ x. (
      λ e. let g = (w.same x).0 e in front x (has x (nth_register n)) refl g.0 (sym (ap (members_from x n) count) ∙ g.1),
      λ g. (w.same x).1 ((λ k m. g.0 k (omega (arith, m)) ∙ before k m), ap (members_from x n) count ∙ back x (g.0 n (omega arith) ∙ added) g.1),
    );
  }
    where
      count : 65 - n ≡ suc (65 - suc n)
      count = omega (arith, h)

      before : (k : ℕ) → k < n → has new (nth_register k) ≡ has set (nth_register k)
      before k m = others (nth_register k) (λ e. absurd (omega (arith, m, nth_same k n e)))

      front : (x : PRegSet) (b : Bool) → has x (nth_register n) ≡ b → Agree n x set → step x n (65 - suc n) b ≡ nth_register n ∷ rest → Agree (suc n) x new × (members_from x (suc n) (65 - suc n) ≡ rest)
      front x true is agree e = let tails : members_from x (suc n) (65 - suc n) ≡ rest = cc in (agree_more n x new (λ k m. agree k m ∙ sym (before k m)) (is ∙ sym added), tails)
      front x false is agree e = absurd (omega (arith, later x (65 - suc n) (suc n) n rest e))

      back : (x : PRegSet) → has x (nth_register n) ≡ true → members_from x (suc n) (65 - suc n) ≡ rest → step x n (65 - suc n) (has x (nth_register n)) ≡ nth_register n ∷ rest
      back x is e = rw (is, e) refl

  pub takes : (new : PRegSet) (register : RealRegister) (n r : ℕ) → nth_register r ≡ register → Walk registers (register ∷ rest) set n → n ≤ r → r < 65 → has new register ≡ true → ((q : RealRegister) → q ≢ register → has new q ≡ has set q) → Walk registers rest new (r + 1)
  takes new register n r is w l h added others =
      let here = subst (λ (p : RealRegister). Walk registers (p ∷ rest) set n) (sym is) w in
      let there = reach (r - n) n r (omega (arith, l)) h here in
      let next : suc r ≡ r + 1 = omega arith in
      subst (λ (m : ℕ). Walk registers rest new m) next
      (take new r there h (subst (λ (p : RealRegister). has new p ≡ true) (sym is) added) (λ q o. others q (λ e. o (e ∙ sym is))))

  -- the place of a register before
  pub too_early : (register : RealRegister) (n r : ℕ) → nth_register r ≡ register → Walk registers (register ∷ rest) set n → r < n → Reads IsPRegSet members registers None
  too_early register n r is w l = record {
    some = tt;
    only = λ x fits e.
        let here = subst (λ (p : RealRegister). Walk registers (p ∷ rest) set n) (sym is) w in
        let g = (here.same x).0 (sym e) in
        absurd (omega (arith, l, later x (65 - n) n r rest g.1));
  }

pub all_taken : (registers : List RealRegister) (set : PRegSet) (n : ℕ) → Walk registers [] set n → n ≤ 65 → IsPRegSet set → Reads IsPRegSet members registers (Some set)
all_taken registers set n w within fits = record {
  some = (fits, sym ((w.same set).1 ((λ k l. refl), none_from set (65 - n) n w.free)));
  only = λ x its e.
      let g = (w.same x).0 (sym e) in
      ap (λ (s : PRegSet). Some s) (sym (same_set x set (all x g.0 g.1) its fits));
}
  where
    all : (x : PRegSet) → Agree n x set → members_from x n (65 - n) ≡ [] → (k : ℕ) → k < 65 → has x (nth_register k) ≡ has set (nth_register k)
    all x agree none k l = go (nat_lt k n) refl
      where
        go : (b : Bool) → nat_lt k n ≡ b → has x (nth_register k) ≡ has set (nth_register k)
        go true is = agree k (grind (arith, nat_tests, is))
        go false is =
            let behind : n ≤ k = grind (arith, nat_tests, is) in
            has_none x (65 - n) n none k behind (omega (arith, l, within)) ∙ sym (w.free k behind)

-- the registers that are left, and the next in front
pub registers_at : (registers : List RealRegister) (i : ℕ) (register : RealRegister) → i < length registers → get_or registers i register ≡ register → drop i registers ≡ register ∷ drop (i + 1) registers
registers_at registers i register lt is = drop-cons registers i register lt ∙ ap (λ (p : RealRegister). p ∷ drop (suc i) registers) is ∙ rw add-one refl

pub none_left : (registers : List RealRegister) (i : ℕ) → length registers ≤ i → drop i registers ≡ []
none_left [] zero le = refl
none_left [] (suc i) le = refl
none_left (p ∷ ps) zero le = absurd (omega (arith, le))
none_left (p ∷ ps) (suc i) le = none_left ps i (omega (arith, le))

-- ---- the text of a set is that of its members

nth_fits : (n : ℕ) → n < 65 → IsPReg (nth_register n)
nth_fits n l = go (nat_lt n 32) refl (nat_eq n 32) refl
  where
    go : (low : Bool) → nat_lt n 32 ≡ low → (stack : Bool) → nat_eq n 32 ≡ stack → IsPReg (if low then record { number = n; class = Int } else if stack then record { number = 63; class = Int } else record { number = n - 33; class = Float })
    go true is stack its = rw is refl
    go false is true its = refl
    go false is false its = grind (arith, nat_tests, l, is, its)

fits_step : (x : PRegSet) (more n : ℕ) → n < 65 → AllByRecursion IsPReg (members_from x (suc n) more) → (b : Bool) → AllByRecursion IsPReg (step x n more b)
fits_step x more n l are true = (nth_fits n l, are)
fits_step x more n l are false = are

members_fit : (x : PRegSet) (more n : ℕ) → n + more ≡ 65 → AllByRecursion IsPReg (members_from x n more)
members_fit x zero n e = tt
members_fit x (suc more) n e = fits_step x more n (omega (arith, e)) (members_fit x more (suc n) (omega (arith, e))) (has x (nth_register n))

all_fit : (x : PRegSet) → AllByRecursion IsPReg (members x)
unfolding members
all_fit x = members_fit x 65 0 (omega arith)

module _ (token : List ℕ) where
  pub no_registers : Reads (AllByRecursion IsPReg) (list_text preg_text) token None → Reads IsPRegSet clobbers_text token None
  no_registers h = record { some = tt; only = λ x fits e. let none : None ≡ Some (members x) = h.only (members x) (all_fit x) e in absurd cc }

  module _ (registers : List RealRegister) (h : Reads (AllByRecursion IsPReg) (list_text preg_text) token (Some registers)) where
    some_set : (r : Option PRegSet) → IfSome r (λ x. IsPRegSet x × (registers ≡ members x)) → IfSome r (λ x. IsPRegSet x × (token ≡ clobbers_text x))
    some_set None k = tt
    some_set (Some x) k = (k.0, h.some.1 ∙ ap (λ (l : List RealRegister). list_text preg_text l) k.1)

    set_told : (r : Option PRegSet) → Reads IsPRegSet members registers r → Reads IsPRegSet clobbers_text token r
    set_told r k = record {
      some = some_set r k.some;
      only = λ x fits e.
          let found : Some registers ≡ Some (members x) = h.only (members x) (all_fit x) e in
          let same : registers ≡ members x = cc in
          k.only x fits same;
    }

    pub set_read : (slice : List RealRegister) → slice ≡ registers → (r : Option PRegSet) → Reads IsPRegSet members slice r → Reads IsPRegSet clobbers_text token r
    set_read slice same r k = set_told r (subst (λ (l : List RealRegister). Reads IsPRegSet members l r) same k)
