use Rattle.std.proofs.Common.{◌≡◌, ℕ, ◌+◌, ◌<◌, eqb, false, List, [], ◌∷◌, length, take, subst, sym, arith, inl, inr, ◌∙◌}
use Rattle.std.specs.Str.Parse.{AllDigits, digits_value}
use Rattle.std.proofs.lemmas.List.{take_all}
use Rattle.std.proofs.lemmas.Bool.{eqb-true}
use Rattle.a64_tokens.proofs.Decimals.{is_none, is_some, one_more, digits_so_far, other_byte, too_large}
use Rattle.a64_tokens.proofs.decimal.read_u64.Goals as goal
use Rattle.a64_tokens.proofs.decimal.read_u64.Goals.{then-is_empty-via-then-is_empty, then-is_empty-via-else-is_empty+then-token-gt20, then-is_empty-via-else-is_empty+else-token-gt20+then-token-gt1, then-token-eq48, else-token-eq48}

some_byte : (token : List ℕ) → eqb (length token) 0 ≡ false → 0 < length token
some_byte [] h = absurd cc
some_byte (b ∷ token) h = omega arith

pub returns-then-is_empty : goal.returns-then-is_empty
returns-then-is_empty c = is_none c.args.token.now (λ n fits can.
    elim c.then-is_empty.branch [
      | then-is_empty-via-then-is_empty w ↦ omega (arith, eqb-true (length c.args.token.now) 0 (sym c.is_empty.ensures ∙ w.if-is_empty.true))
      | then-is_empty-via-else-is_empty+then-token-gt20 w ↦ omega arith
      | then-is_empty-via-else-is_empty+else-token-gt20+then-token-gt1 w ↦ elim w.if-token-eq48.branch [ then-token-eq48 w' ↦ omega arith | else-token-eq48 w' ↦ omega arith ]
    ])

pub returns-then-byte-lt48 : goal.returns-then-byte-lt48
returns-then-byte-lt48 c = other_byte c.args.token.now c.loop-byte.byte-index c.loop-byte-test.true (λ low high. omega arith)

pub returns-in_err-checked_mul : goal.returns-in_err-checked_mul
returns-in_err-checked_mul c =
    let e = one_more c.args.token.now c.loop-byte.byte-index c.loop-byte.value c.loop-byte-test.true (omega arith) (omega arith) c.loop-byte.invariant.value in
    rw c.from_residual.ensures (too_large c.args.token.now (c.loop-byte.byte-index + 1) (omega (arith, c.in_err-checked_mul.ensures, e)))

pub returns-in_err-value : goal.returns-in_err-value
returns-in_err-value c =
    let e = one_more c.args.token.now c.loop-byte.byte-index c.loop-byte.value c.loop-byte-test.true (omega arith) (omega arith) c.loop-byte.invariant.value in
    rw c.from_residual-in_err-value.ensures (too_large c.args.token.now (c.loop-byte.byte-index + 1) (omega (arith, c.in_err-value.ensures, c.in_ok-checked_mul.ensures.1, c.from-digit.ensures, e)))

pub loop-byte-preserved : goal.loop-byte-preserved
loop-byte-preserved c =
    let e = one_more c.args.token.now c.loop-byte.byte-index c.loop-byte.value c.loop-byte-test.true (omega arith) (omega arith) c.loop-byte.invariant.value in
    record {
      digits = digits_so_far c.args.token.now c.loop-byte.byte-index c.loop-byte-test.true (omega arith) (omega arith) c.loop-byte.invariant.digits;
      below = omega (arith, c.in_ok-value.ensures.0, c.in_ok-value.ensures.1);
      value = omega (arith, c.in_ok-value.ensures.1, c.in_ok-checked_mul.ensures.1, c.from-digit.ensures, e);
    }

pub returns : goal.returns
returns c =
    let whole : take c.loop-byte.byte-index c.args.token.now ≡ c.args.token.now = take_all c.loop-byte.byte-index c.args.token.now c.loop-byte-test.false in
    let digits : AllDigits 10 c.args.token.now = subst (λ w. AllDigits 10 w) whole c.loop-byte.invariant.digits in
    let value : c.loop-byte.value ≡ digits_value 10 c.args.token.now = rw whole at c.loop-byte.invariant.value in
    let nonempty : 0 < length c.args.token.now = some_byte c.args.token.now (sym c.is_empty.ensures ∙ c.if-is_empty.false) in
    rw value (is_some c.args.token.now digits nonempty (λ zero. elim c.if-token-gt1.either [ inl e ↦ omega arith | inr e ↦ absurd (e zero) ]) (omega arith))
