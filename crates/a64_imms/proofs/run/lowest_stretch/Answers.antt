use Rattle.std.proofs.Common.{◌≡◌, ◌≢◌, ℕ, zero, suc, ◌-◌, ◌/◌, ◌%◌, ◌^◌, ◌<◌, Bool, true, false, if◌then◌else◌, sym, ap, ◌∙◌, refl, arith, w64}
use Rattle.std.specs.Int.{bit_at, trailing_zeros, trailing_ones}
use Rattle.std.proofs.Math.Nat.{div-le_self}
use Rattle.std.proofs.lemmas.Nat.Bits.{bit_at_lowest, bit_at-trailing_zeros, bit_at-trailing_ones}
use Rattle.a64_imms.proofs.run.lowest_stretch.Goals as goal

-- a bit that is not as the lowest one stands above it
apart : (n place : ℕ) (here : ℕ) → bit_at n place ≡ here → n % 2 ≢ here → 0 < place
apart n zero here at other = absurd (other (sym (bit_at_lowest n) ∙ at))
apart n (suc place) here at other = omega arith

-- There are some ones, since the number is odd from its lowest one on, and a zero follows them.
ones_are : (n ones length : ℕ) → 0 < n → n % 2 ≡ 0 → n < 2 ^ 64 → ones ≡ n / 2 ^ trailing_zeros w64 n → length ≡ trailing_ones w64 ones
    → (0 < length) × (bit_at ones length ≡ 0)
ones_are n ones length some even fits from is =
    let odd : ones % 2 ≡ 1 = ap (λ m. m % 2) from ∙ (bit_at-trailing_zeros w64 n some fits).1 in
    let small : ones < 2 ^ 64 - 1 = omega (arith, from, div-le_self n (2 ^ trailing_zeros w64 n)) in
    let ended = bit_at-trailing_ones w64 ones (omega arith) in
    let zero_at : bit_at ones length ≡ 0 = ap (bit_at ones) is ∙ ended.1 in
    (apart ones length 0 zero_at (λ e. absurd (omega (arith, e, odd))), zero_at)

-- what is shifted too far is 0, and so even
evened : (b : Bool) (n : ℕ) → n % 2 ≡ 0 → (if b then n else 0) % 2 ≡ 0
evened true n even = even
evened false n even = refl

-- the ones further up begin behind that zero
behind : (rest : ℕ) → rest ≢ 0 → rest < 2 ^ 64 → rest % 2 ≡ 0 → 0 < trailing_zeros w64 rest
behind rest some fits even =
    apart rest (trailing_zeros w64 rest) 1 (bit_at-trailing_zeros w64 rest (omega (arith, some)) fits).1 (λ e. absurd (omega (arith, e, even)))

pub returns-then-rest-eq0-clause-ones : goal.returns-then-rest-eq0-clause-ones
returns-then-rest-eq0-clause-ones c =
    (ones_are c.args.value _ _ c.requires.some c.requires.even c.ranges.value.fits refl c.trailing_ones-length.ensures).0

pub returns-else-rest-eq0-clause-ones : goal.returns-else-rest-eq0-clause-ones
returns-else-rest-eq0-clause-ones c =
    (ones_are c.args.value _ _ c.requires.some c.requires.even c.ranges.value.fits refl c.trailing_ones-length.ensures).0

pub returns-else-rest-eq0-clause-within : goal.returns-else-rest-eq0-clause-within
returns-else-rest-eq0-clause-within c =
    let ended = (ones_are c.args.value _ _ c.requires.some c.requires.even c.ranges.value.fits refl c.trailing_ones-length.ensures).1 in
    let even : c.unbounded_shr-rest.result % 2 ≡ 0 = ap (λ m. m % 2) c.unbounded_shr-rest.ensures ∙ evened _ _ ended in
    let further = behind c.unbounded_shr-rest.result c.if-rest-eq0.false c.unbounded_shr-rest.type_inv even in
    omega (arith, further)
