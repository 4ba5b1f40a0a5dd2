-- The run of a far veneer.
use Rattle.std.proofs.Common.{ℕ, suc, ℤ, pos, negsuc, ◌≡◌, ◌<◌, ◌≤◌, ◌+◌, ◌-◌, ◌^◌, ◌%◌, ◌+ℤ◌, nat_lt, if◌then◌else◌, Bool, true, false, List, [], ◌∷◌, refl, sym, ap, ap₂, subst, inl, inr, ◌∙◌, arith}
use Rattle.std.proofs.lemmas.Int.{ints}
use Rattle.std.proofs.lemmas.Bool.{cases_lt, ltb-true, ltb-false}
use Rattle.a64_imms.specs.Offsets.{residue}
use Rattle.a64_words.specs.Word.{signed, word_at, StandAt}
use Rattle.a64_plan.specs.JumpMachine.{wrapped, extended, Arrives}
use Rattle.a64_plan.proofs.Jumps.{four_arrive}
use Rattle.a64_label_use.specs.FarJumps.{Loaded, fetched, JumpFar, LeadFar, first_words}

-- the word at a place, seen from its address
placed : (base place more : ℕ) → base < 2 ^ 64 → place + more < 2 ^ 64
    → wrapped (wrapped (wrapped (base + place) + more) + (2 ^ 64 - base)) ≡ place + more
placed base place more fits short = omega arith

word : (code : Loaded) (place more pc w : ℕ) → code.base < 2 ^ 64 → place + more < 2 ^ 64 → pc ≡ wrapped (wrapped (code.base + place) + more)
    → word_at code.bytes (place + more) ≡ w → fetched code pc ≡ w
word code place more pc w fits short e is =
    ap (λ n. word_at code.bytes (wrapped (n + (2 ^ 64 - code.base)))) e
    ∙ ap (word_at code.bytes) (placed code.base place more fits short) ∙ is

-- the sum of the two registers
ahead : (b m : ℕ) → wrapped (residue (2 ^ 64) (pos m) + wrapped (wrapped (wrapped b + 4) + 12)) ≡ residue (2 ^ 64) (pos (b + 16) +ℤ pos m)
ahead b m = omega arith

behind : (b m : ℕ) → m < 2 ^ 32 → wrapped (residue (2 ^ 64) (negsuc m) + wrapped (wrapped (wrapped b + 4) + 12)) ≡ residue (2 ^ 64) (pos (b + 16) +ℤ negsuc m)
behind b m fits = elim (cases_lt m (b + 16)) [
  | inl less ↦ let e : (pos (b + 16) +ℤ negsuc m) ≡ pos (b + 15 - m) = omega (arith, ints) in rw e (omega arith)
  | inr more ↦ let e : (pos (b + 16) +ℤ negsuc m) ≡ negsuc (m - (b + 16)) = omega (arith, ints) in rw e (omega arith)
]

reached : (b fifth : ℕ) → fifth < 2 ^ 32 → wrapped (extended fifth + wrapped (wrapped (wrapped b + 4) + 12)) ≡ residue (2 ^ 64) (pos (b + 16) +ℤ signed 32 fifth)
reached b fifth fits = at (nat_lt fifth (2 ^ 31)) refl
  where
    at : (small : Bool) → nat_lt fifth (2 ^ 31) ≡ small
        → wrapped (residue (2 ^ 64) (if small then pos fifth else negsuc (2 ^ 32 - 1 - fifth)) + wrapped (wrapped (wrapped b + 4) + 12))
        ≡ residue (2 ^ 64) (pos (b + 16) +ℤ (if small then pos fifth else negsuc (2 ^ 32 - suc fifth)))
    at true is = ahead b fifth
    at false is = let same : 2 ^ 32 - suc fifth ≡ 2 ^ 32 - 1 - fifth = omega arith in rw same (behind b (2 ^ 32 - 1 - fifth) (omega arith))

pub far_jump : JumpFar (0x98000090 ∷ 0x10000071 ∷ 0x8b110210 ∷ 0xd61f0200 ∷ [])
unfolding JumpFar
far_jump code old place fifth is (w1, (w2, (w3, (w4, (w5, _))))) fits =
    let base_fits = is.base_fits in
    let place_fits = is.place_fits in
    let pc_is = is.pc_is in
    let p1 : old.pc ≡ wrapped (wrapped (code.base + place) + 0) = omega arith in
    let p2 : wrapped (old.pc + 4) ≡ wrapped (wrapped (code.base + place) + 4) = omega arith in
    let p3 : wrapped (wrapped (old.pc + 4) + 4) ≡ wrapped (wrapped (code.base + place) + 8) = omega arith in
    let p4 : wrapped (wrapped (wrapped (old.pc + 4) + 4) + 4) ≡ wrapped (wrapped (code.base + place) + 12) = omega arith in
    let p5 : wrapped (old.pc + 16) ≡ wrapped (wrapped (code.base + place) + 16) = omega arith in
    let q1 : place + 0 ≡ place = omega arith in
    let q3 : place + 8 ≡ place + 4 + 4 = omega arith in
    let q4 : place + 12 ≡ place + 4 + 4 + 4 = omega arith in
    let q5 : place + 16 ≡ place + 4 + 4 + 4 + 4 = omega arith in
    let f1 : fetched code old.pc ≡ 0x98000090 = word code place 0 old.pc 0x98000090 base_fits (omega arith) p1 (ap (word_at code.bytes) q1 ∙ w1) in
    let f2 : fetched code (wrapped (old.pc + 4)) ≡ 0x10000071 = word code place 4 (wrapped (old.pc + 4)) 0x10000071 base_fits (omega arith) p2 w2 in
    let f3 : fetched code (wrapped (wrapped (old.pc + 4) + 4)) ≡ 0x8b110210 = word code place 8 (wrapped (wrapped (old.pc + 4) + 4)) 0x8b110210 base_fits (omega arith) p3 (ap (word_at code.bytes) q3 ∙ w3) in
    let f4 : fetched code (wrapped (wrapped (wrapped (old.pc + 4) + 4) + 4)) ≡ 0xd61f0200 = word code place 12 (wrapped (wrapped (wrapped (old.pc + 4) + 4) + 4)) 0xd61f0200 base_fits (omega arith) p4 (ap (word_at code.bytes) q4 ∙ w4) in
    let f5 : fetched code (wrapped (old.pc + 16)) ≡ fifth = word code place 16 (wrapped (old.pc + 16)) fifth base_fits (omega arith) p5 (ap (word_at code.bytes) q5 ∙ w5) in
    let y_is : wrapped (wrapped (old.pc + 4) + 12) ≡ wrapped (wrapped (wrapped (code.base + place) + 4) + 12) = omega arith in
    subst (Arrives (fetched code) old)
    (ap₂ (λ (m n : ℕ). wrapped (m + n)) (ap extended f5) y_is ∙ reached (code.base + place) fifth fits)
    (four_arrive (fetched code) old is.all_registers f1 f2 f3 f4)

-- places and addresses differ by the base
moved : (base a goal : ℕ) (z : ℤ) → (pos a +ℤ z) ≡ pos goal → (pos (base + a) +ℤ z) ≡ pos (base + goal)
moved base a goal (pos m) e = omega (arith, ints)
moved base a goal (negsuc m) e = omega (arith, ints)

-- what is kept of a sum modulo 2^32 in which a distance was added to zero
distance_is : (last goal offset : ℕ) → (last + offset) % 2 ^ 32 ≡ goal % 2 ^ 32 → last < 2 ^ 32 → goal < offset + 2 ^ 31 → offset ≤ goal + 2 ^ 31
    → (pos offset +ℤ signed 32 last) ≡ pos goal
distance_is last goal offset e fits ahead behind = at (nat_lt last (2 ^ 31)) refl
  where
    at : (small : Bool) → nat_lt last (2 ^ 31) ≡ small → (pos offset +ℤ (if small then pos last else negsuc (2 ^ 32 - suc last))) ≡ pos goal
    at true is = let less : last < 2 ^ 31 = ltb-true last (2 ^ 31) is in omega (arith, ints)
    at false is = let more : 2 ^ 31 ≤ last = ltb-false last (2 ^ 31) is in omega (arith, ints)

-- so the last word of a far veneer that was zero leads to a goal
pub lead_far : (last goal offset : ℕ) → (last + offset) % 2 ^ 32 ≡ goal % 2 ^ 32 → last < 2 ^ 32 → goal < offset + 2 ^ 31 → offset ≤ goal + 2 ^ 31 → LeadFar offset last goal
unfolding LeadFar JumpFar
lead_far last goal offset e fits ahead behind code old place at is stand =
    let leads : (pos (place + 16) +ℤ signed 32 last) ≡ pos goal = ap (λ (n : ℕ). pos n +ℤ signed 32 last) at ∙ distance_is last goal offset e fits ahead behind in
    let there : (pos (code.base + place + 16) +ℤ signed 32 last) ≡ pos (code.base + goal) =
    ap (λ (n : ℕ). pos n +ℤ signed 32 last) (omega arith) ∙ moved code.base (place + 16) goal (signed 32 last) leads
    in
    subst (Arrives (fetched code) old) (ap (residue (2 ^ 64)) there) (far_jump code old place last is stand fits)

-- the words of a far veneer, as they stand
pub jump_far : (bytes : List ℕ) → StandAt bytes 0 (0x98000090 ∷ 0x10000071 ∷ 0x8b110210 ∷ 0xd61f0200 ∷ []) → JumpFar (first_words bytes)
jump_far bytes (w1, (w2, (w3, (w4, _)))) = subst JumpFar (sym (four bytes w1 w2 w3 w4)) far_jump
  where
    four : (bytes : List ℕ) → word_at bytes 0 ≡ 0x98000090 → word_at bytes 4 ≡ 0x10000071 → word_at bytes 8 ≡ 0x8b110210 → word_at bytes 12 ≡ 0xd61f0200 → first_words bytes ≡ 0x98000090 ∷ 0x10000071 ∷ 0x8b110210 ∷ 0xd61f0200 ∷ []
    four bytes a b c d = ap₂ (λ m n. m ∷ n ∷ word_at bytes 8 ∷ word_at bytes 12 ∷ []) a b ∙ ap₂ (λ m n. 0x98000090 ∷ 0x10000071 ∷ m ∷ n ∷ []) c d
