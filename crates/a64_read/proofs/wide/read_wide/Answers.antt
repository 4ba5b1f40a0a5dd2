use Rattle.std.proofs.Common.{arith, refl, ap, ◌∙◌, List}
use Rattle.a64_tokens.specs.declared.value.Value.{Value}
use Rattle.a64_read.specs.At.{u32_at}
use Rattle.a64_read.proofs.Wides.{no_pair, no_wide, is_wide}
use Rattle.a64_read.proofs.wide.read_wide.Goals as goal
use Rattle.a64_read.proofs.wide.read_wide.Goals.{then-bits-gt65535-via-then-bits-gt65535, then-bits-gt65535-via-else-bits-gt65535+then-shift-gt48, then-bits-gt65535-via-else-bits-gt65535+else-shift-gt48+then-shift-ne0}

pub returns-in_err-read_fields : goal.returns-in_err-read_fields
returns-in_err-read_fields c = rw c.from_residual.ensures (no_pair c.args.token.now c.in_err-read_fields.ensures.read)

pub returns-then-bits-gt65535 : goal.returns-then-bits-gt65535
returns-then-bits-gt65535 c = no_wide c.args.token.now c.read_fields.new.values.items c.in_ok-read_fields.ensures.read c.get-bits.result c.get-shift.result
    (c.get-bits.ensures ∙ ap (λ (t : List Value). u32_at t 0) c.as_slice.ensures.value) (c.get-shift.ensures ∙ ap (λ (t : List Value). u32_at t 1) c.as_slice-2.ensures.value) (λ w fits bits_are place_is.
    elim c.then-bits-gt65535.branch [
      | then-bits-gt65535-via-then-bits-gt65535 v ↦ omega (arith, fits.0)
      | then-bits-gt65535-via-else-bits-gt65535+then-shift-gt48 v ↦ omega (arith, fits.1)
      | then-bits-gt65535-via-else-bits-gt65535+else-shift-gt48+then-shift-ne0 v ↦ omega arith
    ])

pub returns : goal.returns
returns c = is_wide c.args.token.now c.read_fields.new.values.items c.in_ok-read_fields.ensures.read c.get-bits.result c.get-shift.result
    (c.get-bits.ensures ∙ ap (λ (t : List Value). u32_at t 0) c.as_slice.ensures.value) (c.get-shift.ensures ∙ ap (λ (t : List Value). u32_at t 1) c.as_slice-2.ensures.value)
    _ (omega arith, omega arith) refl (omega arith)
