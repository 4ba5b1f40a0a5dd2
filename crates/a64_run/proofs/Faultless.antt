-- The file that `gen` makes has no fault.
use Rattle.std.proofs.Common.{◌≡◌, ℕ, ◌^◌, cond, ap, ◌∙◌, Option, None, Some}
use Rattle.std.proofs.lemmas.Bool.{lt-leb}
use Rattle.a64_buffer.specs.declared.force.ForceVeneers.{ForceVeneers}
use Rattle.a64_emit.specs.declared.error.EmitError.{EmitError}
use Rattle.a64_emit.specs.declared.error.EmitError.TheVariants.{TooLarge}
use Rattle.a64_emit.specs.Bounds.{whole}
use Rattle.a64_emit.specs.Faults.{or_else, own_fault, second_binding, unbound_use, too_large, fault_of}
use Rattle.a64_emit.specs.Reach.{out_of_reach}
use Rattle.a64_text.specs.States.{default_frame, default_flags}
use Rattle.a64_run.specs.Commands.{IsCount}
use Rattle.a64_run.specs.Gen.{gen_items, gen_constants}
use Rattle.a64_run.proofs.GenItems.{own_free, once_bound, uses_free, whole_small, reach_free}

-- the second fault is the first, where there is none before it
second_is : (first second : Option EmitError) → first ≡ None → or_else first second ≡ second
second_is first second none = ap (λ o. or_else o second) none

not_large : (count : ℕ) → IsCount count → too_large default_frame default_flags (gen_items count) ≡ None
not_large count h = ap (λ b. cond b (Some TooLarge) None) (lt-leb (2 ^ 31) (whole default_frame default_flags (gen_items count)) (whole_small default_frame default_flags count h))

pub gen_faultless : (count : ℕ) (force : ForceVeneers) → IsCount count → fault_of default_frame default_flags (gen_constants count) force (gen_items count) ≡ None
gen_faultless count force h =
    let items = gen_items count in
    let frame = default_frame in
    let flags = default_flags in
    let reach = out_of_reach frame flags force items in
    let sized = or_else (too_large frame flags items) reach in
    let used = or_else (unbound_use frame flags items) sized in
    second_is (own_fault frame flags (gen_constants count) items) (or_else (second_binding items) used) (own_free frame flags count)
    ∙ second_is (second_binding items) used (once_bound count)
    ∙ second_is (unbound_use frame flags items) sized (uses_free frame flags count)
    ∙ second_is (too_large frame flags items) reach (not_large count h)
    ∙ reach_free frame flags force count
