-- Fields take up bits of their own, and so a word has in them what they were given.
use Rattle.std.proofs.Common.{ℕ, ◌≡◌, ◌+◌, ◌-◌, ◌*◌, ◌/◌, ◌%◌, ◌^◌, ◌<◌, ◌≤◌, List, [], ◌∷◌, refl, sym, ◌∙◌, ap, arith, map, suc, zero, length, drop, get_or, subst, add_assoc, bit_and, bit_or}
use Rattle.std.proofs.Math.Seq.{drop-nil}
use Rattle.std.proofs.Math.Nat.{mod-eq_of_lt}
use Rattle.std.specs.Int.Bits.{and_zero_l, and_zero_r}
use Rattle.std.proofs.lemmas.Nat.{and_comm, and_assoc, or_disjoint, and_or_apart, and_le_r, shl-shr, mod_below, pow_pos}
use Rattle.std.proofs.lemmas.Nat.Bits.{and_high, bit_at_and, bit_at_or, same_from_bits}
use Rattle.a64_rows.specs.declared.slots.Slot.{Slot}
use Rattle.a64_rows.specs.declared.slots.Slot.TheVariants.{Bits, Doubled}
use Rattle.a64_rows.specs.Forms.{place_of, width_of, weight_of, sum_of, FitSlots, value_in, mask_of, mask_of_all, HasTwins}

-- ---- numbers that share no bits

-- a number that shares no bits with x nor with the mask m adds nothing under m
pub add_apart : (a x m : ℕ) → bit_and a x ≡ 0 → bit_and x m ≡ 0 → bit_and (a + x) m ≡ bit_and a m
add_apart a x m h k = rw (← or_disjoint a x h) (and_or_apart m a x k)

sum_apart : (a b m : ℕ) → bit_and a m ≡ 0 → bit_and b m ≡ 0 → bit_and a b ≡ 0 → bit_and (a + b) m ≡ 0
sum_apart a b m p q h = add_apart a b m h q ∙ p

-- a number within a mask is apart from what the mask is apart from
apart_within : (a m n : ℕ) → bit_and a m ≡ a → bit_and m n ≡ 0 → bit_and a n ≡ 0
apart_within a m n w h = ap (λ x. bit_and x n) (sym w) ∙ and_assoc n a m ∙ ap (λ x. bit_and a x) h ∙ and_zero_r a

and_or : (w a b : ℕ) → bit_and w (bit_or a b) ≡ bit_or (bit_and w a) (bit_and w b)
and_or w a b =
    same_from_bits (bit_and w (bit_or a b)) (bit_or (bit_and w a) (bit_and w b))
    (λ i. omega (arith, bit_at_and w (bit_or a b) i, bit_at_or a b i, bit_at_or (bit_and w a) (bit_and w b) i, bit_at_and w a i, bit_at_and w b i))

-- the bits under two masks that share none are those under each
pub under_both : (w a b : ℕ) → bit_and a b ≡ 0 → bit_and w (a + b) ≡ bit_and w a + bit_and w b
under_both w a b h =
    let none : bit_and (bit_and w a) (bit_and w b) ≡ 0 =
    and_assoc (bit_and w b) w a
    ∙ ap (λ x. bit_and w x) (ap (λ x. bit_and a x) (and_comm w b) ∙ sym (and_assoc w a b) ∙ ap (λ x. bit_and x w) h ∙ and_zero_l w)
    ∙ and_zero_r w in
    ap (λ x. bit_and w x) (sym (or_disjoint a b h)) ∙ and_or w a b ∙ or_disjoint (bit_and w a) (bit_and w b) none

-- ---- one field

-- a value within its width stays within the field's bits
pub placed_within : (slot : Slot) (value : ℕ) → value < 2 ^ width_of slot → bit_and (value * weight_of slot) (mask_of slot) ≡ value * weight_of slot
placed_within (Bits lowest width) value h =
    and_high (value * 2 ^ lowest) width lowest ∙ ap (λ x. x % 2 ^ width * 2 ^ lowest) (shl-shr value lowest) ∙ ap (λ x. x * 2 ^ lowest) (mod-eq_of_lt h)
placed_within Doubled zero h = refl
placed_within Doubled (suc zero) h = refl
placed_within Doubled (suc (suc value)) h = absurd (omega arith)

-- bits that are a value at a place are read as that value
read_placed : (word place width value : ℕ) → bit_and word (2 ^ (width + place) - 2 ^ place) ≡ value * 2 ^ place → word / 2 ^ place % 2 ^ width ≡ value
read_placed word place width value e =
    sym (shl-shr (word / 2 ^ place % 2 ^ width) place) ∙ ap (λ x. x / 2 ^ place) (sym (and_high word width place) ∙ e) ∙ shl-shr value place

-- each of the two bits of a field that stands twice
read_twin : (word both place value : ℕ) → bit_and word both ≡ value * both → bit_and both (2 ^ (1 + place) - 2 ^ place) ≡ 2 ^ (1 + place) - 2 ^ place → bit_and (value * both) (2 ^ (1 + place) - 2 ^ place) ≡ value * 2 ^ place → word / 2 ^ place % 2 ^ 1 ≡ value
read_twin word both place value e inside placed =
    read_placed word place 1 value
    (ap (λ x. bit_and word x) (sym inside) ∙ sym (and_assoc (2 ^ (1 + place) - 2 ^ place) word both) ∙ ap (λ x. bit_and x (2 ^ (1 + place) - 2 ^ place)) e ∙ placed)

twin_placed : (value : ℕ) → value < 2 → (bit_and (value * (2 ^ 31 + 2 ^ 22)) (2 ^ (1 + 31) - 2 ^ 31) ≡ value * 2 ^ 31) × (bit_and (value * (2 ^ 31 + 2 ^ 22)) (2 ^ (1 + 22) - 2 ^ 22) ≡ value * 2 ^ 22)
twin_placed zero h = (refl, refl)
twin_placed (suc zero) h = (refl, refl)
twin_placed (suc (suc value)) h = absurd (omega arith)

-- a word that has a value in the bits of a field has it in the field
value_held : (slot : Slot) (word value : ℕ) → value < 2 ^ width_of slot → bit_and word (mask_of slot) ≡ value * weight_of slot → value_in word slot ≡ value
value_held (Bits lowest width) word value h e = read_placed word lowest width value e
value_held Doubled word value h e = read_twin word (2 ^ 31 + 2 ^ 22) 31 value e refl (twin_placed value h).0

-- the bits of a field are its value at its place, where the two bits of a field that stands twice are alike
bits_of_field : (slot : Slot) (word : ℕ) → HasTwins (slot ∷ []) word → bit_and word (mask_of slot) ≡ value_in word slot * weight_of slot
bits_of_field (Bits lowest width) word t = and_high word width lowest
bits_of_field Doubled word t =
    let high : bit_and word (2 ^ 31) ≡ word / 2 ^ 31 % 2 * 2 ^ 31 = and_high word 1 31 in
    let low : bit_and word (2 ^ 22) ≡ word / 2 ^ 22 % 2 * 2 ^ 22 = and_high word 1 22 in
    let same : word / 2 ^ 31 % 2 ≡ word / 2 ^ 22 % 2 = t.0 in
    under_both word (2 ^ 31) (2 ^ 22) refl ∙ omega arith

-- ---- all fields of a row

-- a number shares no bits with the fields
abbrev pub ClearOf : ℕ → List Slot → Type 0
ClearOf n [] = Unit {0}
ClearOf n (slot ∷ slots) = (bit_and n (mask_of slot) ≡ 0) × ClearOf n slots

-- no two fields share bits
abbrev pub Apart : List Slot → Type 0
Apart [] = Unit {0}
Apart (slot ∷ slots) = ClearOf (mask_of slot) slots × Apart slots

clear_within : (a m : ℕ) (slots : List Slot) → bit_and a m ≡ a → ClearOf m slots → ClearOf a slots
clear_within a m [] w c = tt
clear_within a m (slot ∷ slots) w c = (apart_within a m (mask_of slot) w c.0, clear_within a m slots w c.1)

clear_sum : (a b : ℕ) (slots : List Slot) → bit_and a b ≡ 0 → ClearOf a slots → ClearOf b slots → ClearOf (a + b) slots
clear_sum a b [] h c d = tt
clear_sum a b (slot ∷ slots) h c d = (sum_apart a b (mask_of slot) c.0 d.0 h, clear_sum a b slots h c.1 d.1)

pub clear_of_all : (n : ℕ) (slots : List Slot) → ClearOf n slots → Apart slots → bit_and n (mask_of_all slots) ≡ 0
clear_of_all n [] c a = and_zero_r n
clear_of_all n (slot ∷ slots) c a =
    and_comm n (mask_of_all (slot ∷ slots))
    ∙ sum_apart (mask_of slot) (mask_of_all slots) n (and_comm (mask_of slot) n ∙ c.0) (and_comm (mask_of_all slots) n ∙ clear_of_all n slots c.1 a.1) (clear_of_all (mask_of slot) slots a.0 a.1)

-- the values of fields are apart from what the fields are apart from
pub sum_clear : (slots : List Slot) (values : List ℕ) (n : ℕ) → FitSlots slots values → Apart slots → ClearOf n slots → bit_and (sum_of slots values) n ≡ 0
sum_clear [] [] n f a c = and_zero_l n
sum_clear [] (value ∷ values) n f a c = absurd f
sum_clear (slot ∷ slots) [] n f a c = absurd f
sum_clear (slot ∷ slots) (value ∷ values) n f a c =
    let inside : bit_and (value * weight_of slot) (mask_of slot) ≡ value * weight_of slot = placed_within slot value f.0 in
    sum_apart (value * weight_of slot) (sum_of slots values) n
    (apart_within (value * weight_of slot) (mask_of slot) n inside (and_comm (mask_of slot) n ∙ c.0))
    (sum_clear slots values n f.1 a.1 c.1)
    (and_comm (value * weight_of slot) (sum_of slots values) ∙ sum_clear slots values (value * weight_of slot) f.1 a.1 (clear_within (value * weight_of slot) (mask_of slot) slots inside a.0))

-- a word has the values at their places
abbrev pub Holds : ℕ → List Slot → List ℕ → Type 0
Holds word [] [] = Unit {0}
Holds word (slot ∷ slots) (value ∷ values) = (bit_and word (mask_of slot) ≡ value * weight_of slot) × Holds word slots values
Holds word _ _ = ⊥

swap_sum : (a b c : ℕ) → a + (b + c) ≡ b + (a + c)
swap_sum a b c = omega arith

-- the word that fields were added to has their values; `rest` is what was there before
pub sum_holds : (rest : ℕ) (slots : List Slot) (values : List ℕ) → FitSlots slots values → Apart slots → ClearOf rest slots → Holds (rest + sum_of slots values) slots values
sum_holds rest [] [] f a c = tt
sum_holds rest [] (value ∷ values) f a c = absurd f
sum_holds rest (slot ∷ slots) [] f a c = absurd f
sum_holds rest (slot ∷ slots) (value ∷ values) f a c =
    let inside : bit_and (value * weight_of slot) (mask_of slot) ≡ value * weight_of slot = placed_within slot value f.0 in
    let from_rest : bit_and (value * weight_of slot) rest ≡ 0 = apart_within (value * weight_of slot) (mask_of slot) rest inside (and_comm (mask_of slot) rest ∙ c.0) in
    let from_slots : ClearOf (value * weight_of slot) slots = clear_within (value * weight_of slot) (mask_of slot) slots inside a.0 in
    let between : bit_and rest (sum_of slots values) ≡ 0 = and_comm rest (sum_of slots values) ∙ sum_clear slots values rest f.1 a.1 c.1 in
    let from_others : bit_and (value * weight_of slot) (rest + sum_of slots values) ≡ 0 =
    and_comm (value * weight_of slot) (rest + sum_of slots values)
    ∙ sum_apart rest (sum_of slots values) (value * weight_of slot) (and_comm rest (value * weight_of slot) ∙ from_rest) (sum_clear slots values (value * weight_of slot) f.1 a.1 from_slots) between in
    let others_clear : bit_and (rest + sum_of slots values) (mask_of slot) ≡ 0 = sum_apart rest (sum_of slots values) (mask_of slot) c.0 (sum_clear slots values (mask_of slot) f.1 a.1 a.0) between in
    let here : bit_and (rest + (value * weight_of slot + sum_of slots values)) (mask_of slot) ≡ value * weight_of slot =
    ap (λ x. bit_and x (mask_of slot)) (swap_sum rest (value * weight_of slot) (sum_of slots values))
    ∙ add_apart (value * weight_of slot) (rest + sum_of slots values) (mask_of slot) from_others others_clear
    ∙ inside in
    let there : Holds (rest + value * weight_of slot + sum_of slots values) slots values =
    sum_holds (rest + value * weight_of slot) slots values f.1 a.1 (clear_sum rest (value * weight_of slot) slots (and_comm rest (value * weight_of slot) ∙ from_rest) c.1 from_slots) in
    let P : ℕ → Type 0 = λ x. Holds x slots values in
    (here, subst P (add_assoc rest (value * weight_of slot) (sum_of slots values)) there)

cons_eq : (x y : ℕ) (xs ys : List ℕ) → x ≡ y → xs ≡ ys → (x ∷ xs) ≡ (y ∷ ys)
cons_eq x y xs ys e f = cc

-- what a word holds is what is read from it
pub values_held : (word : ℕ) (slots : List Slot) (values : List ℕ) → FitSlots slots values → Holds word slots values → map (value_in word) slots ≡ values
values_held word [] [] f h = refl
values_held word [] (value ∷ values) f h = absurd f
values_held word (slot ∷ slots) [] f h = absurd f
values_held word (slot ∷ slots) (value ∷ values) f h =
    cons_eq (value_in word slot) value (map (value_in word) slots) values (value_held slot word value f.0 h.0) (values_held word slots values f.1 h.1)

pub twins_held : (word : ℕ) (slots : List Slot) (values : List ℕ) → FitSlots slots values → Holds word slots values → HasTwins slots word
twins_held word [] [] f h = tt
twins_held word [] (value ∷ values) f h = absurd f
twins_held word (slot ∷ slots) [] f h = absurd f
twins_held word (Bits lowest width ∷ slots) (value ∷ values) f h = twins_held word slots values f.1 h.1
twins_held word (Doubled ∷ slots) (value ∷ values) f h =
    let high : word / 2 ^ 31 % 2 ≡ value = read_twin word (2 ^ 31 + 2 ^ 22) 31 value h.0 refl (twin_placed value f.0).0 in
    let low : word / 2 ^ 22 % 2 ≡ value = read_twin word (2 ^ 31 + 2 ^ 22) 22 value h.0 refl (twin_placed value f.0).1 in
    (high ∙ sym low, twins_held word slots values f.1 h.1)

-- the values in a word add up to its bits under the fields
pub sum_of_values : (word : ℕ) (slots : List Slot) → Apart slots → HasTwins slots word → sum_of slots (map (value_in word) slots) ≡ bit_and word (mask_of_all slots)
sum_of_values word [] a t = sym (and_zero_r word)
sum_of_values word (Bits lowest width ∷ slots) a t =
    let here : bit_and word (mask_of (Bits lowest width)) ≡ value_in word (Bits lowest width) * 2 ^ lowest = bits_of_field (Bits lowest width) word tt in
    let there : sum_of slots (map (value_in word) slots) ≡ bit_and word (mask_of_all slots) = sum_of_values word slots a.1 t in
    let both : bit_and word (mask_of (Bits lowest width) + mask_of_all slots) ≡ bit_and word (mask_of (Bits lowest width)) + bit_and word (mask_of_all slots) =
    under_both word (mask_of (Bits lowest width)) (mask_of_all slots) (clear_of_all (mask_of (Bits lowest width)) slots a.0 a.1) in
    ap (λ x. x + sum_of slots (map (value_in word) slots)) (sym here) ∙ ap (λ x. bit_and word (mask_of (Bits lowest width)) + x) there ∙ sym both
sum_of_values word (Doubled ∷ slots) a t =
    let here : bit_and word (mask_of Doubled) ≡ value_in word Doubled * weight_of Doubled = bits_of_field Doubled word (t.0, tt) in
    let there : sum_of slots (map (value_in word) slots) ≡ bit_and word (mask_of_all slots) = sum_of_values word slots a.1 t.1 in
    let both : bit_and word (mask_of Doubled + mask_of_all slots) ≡ bit_and word (mask_of Doubled) + bit_and word (mask_of_all slots) =
    under_both word (mask_of Doubled) (mask_of_all slots) (clear_of_all (mask_of Doubled) slots a.0 a.1) in
    ap (λ x. x + sum_of slots (map (value_in word) slots)) (sym here) ∙ ap (λ x. bit_and word (mask_of Doubled) + x) there ∙ sym both

-- the fields of a word are filled by what it has in them
pub values_fit : (slots : List Slot) (word : ℕ) → FitSlots slots (map (value_in word) slots)
values_fit [] word = tt
values_fit (slot ∷ slots) word = (mod_below (word / 2 ^ place_of slot) (2 ^ width_of slot) (pow_pos (width_of slot)), values_fit slots word)

-- how much fields can add
pub sum_below : (slots : List Slot) (values : List ℕ) → FitSlots slots values → sum_of slots values ≤ mask_of_all slots
sum_below [] [] f = omega arith
sum_below [] (value ∷ values) f = absurd f
sum_below (slot ∷ slots) [] f = absurd f
sum_below (slot ∷ slots) (value ∷ values) f =
    let here : value * weight_of slot ≤ mask_of slot = rw (placed_within slot value f.0) at (and_le_r (value * weight_of slot) (mask_of slot)) in
    let there : sum_of slots values ≤ mask_of_all slots = sum_below slots values f.1 in
    omega arith

-- one more field of a word
pub record Step (i : ℕ) (slots : List Slot) (values : List ℕ) (slot : Slot) (value : ℕ) : Type 0 where
  pub inside : i < length values
  pub adds : sum_of (drop i slots) (drop i values) ≡ value * weight_of slot + sum_of (drop (suc i) slots) (drop (suc i) values)
  pub rest : FitSlots (drop (suc i) slots) (drop (suc i) values)

pub step : (i : ℕ) (slots : List Slot) (values : List ℕ) (default : Slot) → i < length slots → FitSlots (drop i slots) (drop i values) → Step i slots values (get_or slots i default) (get_or values i 0)
step i [] values default h f = absurd (omega arith)
step zero (slot ∷ slots) [] default h f = absurd f
step (suc i) (slot ∷ slots) [] default h f =
    let below : i < length slots = omega arith in
    let P : List ℕ → Type 0 = λ x. FitSlots (drop i slots) x in
    let none : i < 0 = (step i slots [] default below (subst P (sym (drop-nil i)) f)).inside in
    absurd (omega arith)
step zero (slot ∷ slots) (value ∷ values) default h f = record { inside = omega arith; adds = refl; rest = f.1 }
step (suc i) (slot ∷ slots) (value ∷ values) default h f =
    let below : i < length slots = omega arith in
    let next : Step i slots values (get_or slots i default) (get_or values i 0) = step i slots values default below f in
    record { inside = (let k : i < length values = next.inside in omega arith); adds = next.adds; rest = next.rest }
