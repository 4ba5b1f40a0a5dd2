use Rattle.std.proofs.Common.{refl}
use Rattle.a64_read.specs.CallLaws.{location_equals}
use Rattle.a64_read.specs.Locations.{location_text, IsLocation}
use Rattle.a64_read.proofs.RegisterPairReads.{no_equals, no_front, no_back, both_read, both_fit, both_text, none_made, pair_made, call_ret_of, call_ret_parts}
use Rattle.a64_tokens.proofs.Splits.{behind}
use Rattle.a64_read.proofs.call_pair.read_call_ret.Goals as goal

pub returns-in_err-back : goal.returns-in_err-back
returns-in_err-back c =
    let token = c.args.token.now in
    let front = c.cut.result.0.now in
    rw c.from_residual.ensures (none_made (both_fit location_text IsLocation location_equals token front) (both_text location_text IsLocation location_equals token front) call_ret_of call_ret_parts (λ x. refl) (λ pair. refl) token
    (no_equals location_text IsLocation location_equals token front c.cut.result.1 c.in_err-back.was c.cut.ensures))

pub returns-in_err-vreg : goal.returns-in_err-vreg
returns-in_err-vreg c =
    let token = c.args.token.now in
    let front = c.cut.result.0.now in
    rw c.from_residual-in_err-vreg.ensures (none_made (both_fit location_text IsLocation location_equals token front) (both_text location_text IsLocation location_equals token front) call_ret_of call_ret_parts (λ x. refl) (λ pair. refl) token
    (no_front location_text IsLocation location_equals token front c.in_ok-back.back.now (behind 61 token front c.cut.result.1 c.in_ok-back.back c.in_ok-back.was c.cut.ensures) c.in_err-vreg.ensures))

pub returns-in_err-location : goal.returns-in_err-location
returns-in_err-location c =
    let token = c.args.token.now in
    let front = c.cut.result.0.now in
    rw c.from_residual-in_err-location.ensures (none_made (both_fit location_text IsLocation location_equals token front) (both_text location_text IsLocation location_equals token front) call_ret_of call_ret_parts (λ x. refl) (λ pair. refl) token
    (no_back location_text IsLocation location_equals token front c.in_ok-back.back.now (behind 61 token front c.cut.result.1 c.in_ok-back.back c.in_ok-back.was c.cut.ensures) c.in_err-location.ensures))

pub returns : goal.returns
returns c =
    let token = c.args.token.now in
    let front = c.cut.result.0.now in
    rw c.from_reg.ensures (pair_made (both_fit location_text IsLocation location_equals token front) (both_text location_text IsLocation location_equals token front) call_ret_of call_ret_parts (λ x. refl) (λ pair. refl) token (c.in_ok-vreg.vreg, c.in_ok-location.location)
    (both_read location_text IsLocation location_equals token front c.in_ok-back.back.now (behind 61 token front c.cut.result.1 c.in_ok-back.back c.in_ok-back.was c.cut.ensures) c.in_ok-vreg.vreg c.in_ok-location.location c.in_ok-vreg.ensures c.in_ok-location.ensures))
