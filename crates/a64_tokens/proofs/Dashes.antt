-- What a dash says, where a number may stand.
use Rattle.std.proofs.Common.{◌≡◌, ℕ, List, Option, Some, None, refl, sym, ◌∙◌, arith}
use Rattle.std.specs.Prelude.{codes}
use Rattle.std.specs.Fmt.{decimal}
use Rattle.a64_base.specs.declared.entity.TrapCode.{TrapCode}
use Rattle.a64_base.specs.declared.entity.UserStackMap.{UserStackMap}
use Rattle.a64_tokens.specs.Fields.{flags_text, IsFlags, map_text, IsMapNumber}
use Rattle.a64_tokens.specs.Reads.{Reads, IsU64}
use Rattle.a64_tokens.proofs.Decimals.{decimal_first}

-- no number is a dash
no_number : (token : List ℕ) (n : ℕ) → token ≡ codes "-" → IsU64 n → token ≡ decimal n → ⊥
no_number token n dash fits e = omega (arith, decimal_first (codes "-") n fits (sym dash ∙ e))

no_flags : (token : List ℕ) (x : Option TrapCode) → token ≡ codes "-" → IsFlags x → token ≡ flags_text x → Some None ≡ Some x
no_flags token None dash fits e = refl
no_flags token (Some code) dash fits e = absurd (no_number token code.0 dash (omega (arith, fits)) e)

pub is_dash : (token : List ℕ) (made : Option TrapCode) → made ≡ None → token ≡ codes "-" → Reads IsFlags flags_text token (Some made)
is_dash token made none dash = rw none (record { some = (tt, dash); only = λ x fits e. no_flags token x dash fits e })

no_map : (token : List ℕ) (x : Option UserStackMap) → token ≡ codes "-" → IsMapNumber x → token ≡ map_text x → Some None ≡ Some x
no_map token None dash fits e = refl
no_map token (Some map) dash fits e = absurd (no_number token map.0 dash (omega (arith, fits)) e)

pub is_no_map : (token : List ℕ) → token ≡ codes "-" → Reads IsMapNumber map_text token (Some None)
is_no_map token dash = record { some = (tt, dash); only = λ x fits e. no_map token x dash fits e }
