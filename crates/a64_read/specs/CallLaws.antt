-- What is passed to functions, what comes back, and registers may stand in a list.
use Rattle.std.specs.Prelude.{ℕ, ◌≡◌, ◌==◌, ◌++◌, if◌then◌else◌, Bool, true, false, codes, List, []}
use Rattle.std.specs.Prelude.{◌∷◌, map, refl}
use Rattle.std.proofs.Common.{arith, ap, sym, ◌∙◌, append_assoc, get_or, subst}
use Rattle.std.specs.Fmt.{decimal, signed_decimal}
use Rattle.std.specs.List.{join_with_byte, AllByRecursion}
use Rattle.a64_base.specs.RegisterNumbers.{RealRegister}
use Rattle.a64_base.specs.declared.reg.RegClass.{RegClass}
use Rattle.a64_base.specs.declared.reg.RegClass.TheVariants.{Int, Float}
use Rattle.a64_inst.specs.declared.call.CallArgPair.{CallArgPair}
use Rattle.a64_inst.specs.declared.call.CallRetPair.{CallRetPair}
use Rattle.a64_inst.specs.declared.call.RetLocation.{RetLocation}
use Rattle.a64_inst.specs.declared.call.RetLocation.TheVariants as locations
use Rattle.a64_read.specs.Calls.{call_arg_text, IsCallArg, call_ret_text, IsCallRet}
use Rattle.a64_tokens.specs.Fields.{HasNo, preg_text, real_text, reg_text, IsPReg}
use Rattle.a64_read.specs.Locations.{location_text, IsLocation}
use Rattle.a64_read.specs.PairLaws.{no_dash, pair_apart}
use Rattle.a64_read.specs.RegisterLaws.{append_apart, at_each, comma, equals, real_apart, reg_apart}
use Rattle.a64_read.specs.RegisterLaws.{signed_apart, type_apart, IsBetween}
use Rattle.a64_tokens.specs.SplitLaws.{comma_apart, pairs_apart}
use Rattle.a64_tokens.specs.Splitting.{comma_pairs, comma_tokens}
use Rattle.a64_tokens.specs.Types.{type_text}

pub call_arg_apart : (arg : CallArgPair) (args : List CallArgPair)
    → AllByRecursion IsCallArg (arg ∷ args)
    → comma_tokens (join_with_byte 44 (map call_arg_text (arg ∷ args)))
    ≡ map call_arg_text (arg ∷ args)
call_arg_apart =
    comma_apart call_arg_text IsCallArg (λ arg fits. pair_apart (arg.vreg, arg.preg) fits)

pub call_arg_no_dash : (arg : CallArgPair) → IsCallArg arg → call_arg_text arg ≡ codes "-" → ⊥
call_arg_no_dash arg fits e = no_dash (reg_text arg.vreg) (reg_text arg.preg) e

-- ---- the comma of a result stands in its place

abbrev location_front : RetLocation → List ℕ
location_front (locations.Reg preg ty) = codes "reg(" ++ reg_text preg
location_front (locations.Stack offset ty) = codes "stack(" ++ signed_decimal offset

abbrev location_back : RetLocation → List ℕ
location_back (locations.Reg preg ty) = type_text ty ++ 41 ∷ []
location_back (locations.Stack offset ty) = type_text ty ++ 41 ∷ []

location_halves : (location : RetLocation)
    → location_text location ≡ location_front location ++ 44 ∷ location_back location
location_halves (locations.Reg preg ty) =
    ap (λ (t : List ℕ). codes "reg("
    ++ t) (append_assoc (reg_text preg) (44 ∷ type_text ty) (41 ∷ []))
location_halves (locations.Stack offset ty) =
    ap (λ (t : List ℕ). codes "stack("
    ++ t) (append_assoc (signed_decimal offset) (44 ∷ type_text ty) (41 ∷ []))

module _ (c : ℕ) (is : IsBetween c) where
  back_apart : (ty : _) → HasNo c (type_text ty ++ 41 ∷ [])
  back_apart ty =
      append_apart c (type_text ty) (41
      ∷ []) (type_apart c is ty) (at_each (λ c. HasNo c (41 ∷ [])) refl refl refl c is)

  halves_apart : (location : RetLocation) → IsLocation location
      → HasNo c (location_front location) × HasNo c (location_back location)
  halves_apart (locations.Reg preg ty) fits = (
    append_apart c (codes "reg(") (reg_text preg)
        (at_each (λ c. HasNo c (codes "reg(")) refl refl refl c is) (reg_apart c is preg fits.0.0),
    back_apart ty,
  )
  halves_apart (locations.Stack offset ty) fits = (
    append_apart c (codes "stack(") (signed_decimal offset)
        (at_each (λ c. HasNo c (codes "stack(")) refl refl refl c is)
        (signed_apart c is offset fits.0.0),
    back_apart ty,
  )

-- no place has an equals sign
pub location_equals : (location : RetLocation) → IsLocation location
    → HasNo 61 (location_text location)
location_equals location fits =
    let both = halves_apart 61 equals location fits in
    subst (λ (t : List ℕ). HasNo 61 t) (sym (location_halves location))
    (append_apart 61 (location_front location) (44 ∷ location_back location) both.0 both.1)

abbrev ret_front : CallRetPair → List ℕ
ret_front ret = reg_text ret.vreg ++ 61 ∷ location_front ret.location

abbrev ret_back : CallRetPair → List ℕ
ret_back ret = location_back ret.location

ret_halves : (ret : CallRetPair) → call_ret_text ret ≡ ret_front ret ++ 44 ∷ ret_back ret
ret_halves ret =
    ap (λ (t : List ℕ). reg_text ret.vreg ++ 61 ∷ t) (location_halves ret.location)
    ∙ sym (append_assoc (reg_text ret.vreg) (61 ∷ location_front ret.location) (44
    ∷ location_back ret.location))

ret_plain : (ret : CallRetPair) → IsCallRet ret → HasNo 44 (ret_front ret) × HasNo 44 (ret_back ret)
ret_plain ret fits =
    let both = halves_apart 44 comma ret.location fits.1 in (
      append_apart 44 (reg_text ret.vreg) (61
          ∷ location_front ret.location) (reg_apart 44 comma ret.vreg fits.0) both.0,
      both.1,
    )

pub call_ret_apart : (ret : CallRetPair) (rets : List CallRetPair)
    → AllByRecursion IsCallRet (ret ∷ rets)
    → comma_pairs (join_with_byte 44 (map call_ret_text (ret ∷ rets)))
    ≡ map call_ret_text (ret ∷ rets)
call_ret_apart = pairs_apart call_ret_text IsCallRet ret_front ret_back ret_halves ret_plain

pub call_ret_no_dash : (ret : CallRetPair) → IsCallRet ret → call_ret_text ret ≡ codes "-" → ⊥
call_ret_no_dash ret fits e = no_dash (reg_text ret.vreg) (location_text ret.location) e

-- ---- registers of the machine

pub preg_apart : (p : RealRegister) (ps : List RealRegister) → AllByRecursion IsPReg (p ∷ ps)
    → comma_tokens (join_with_byte 44 (map preg_text (p ∷ ps))) ≡ map preg_text (p ∷ ps)
preg_apart = comma_apart preg_text IsPReg (λ p fits. real_apart 44 comma p.class p.number fits)

integer_no_dash : (zero sp : Bool) (n : ℕ)
    → (if zero then codes "xzr" else if sp then codes "sp" else (codes "x" ++ decimal n))
    ≡ codes "-" → ⊥
integer_no_dash true sp n e = omega (arith, ap (λ (t : List ℕ). get_or t 0 0) e)
integer_no_dash false true n e = omega (arith, ap (λ (t : List ℕ). get_or t 0 0) e)
integer_no_dash false false n e = omega (arith, ap (λ (t : List ℕ). get_or t 0 0) e)

real_no_dash : (class : RegClass) (n : ℕ) → real_text class n ≡ codes "-" → ⊥
real_no_dash Int n e = integer_no_dash (n == 31) (n == 63) n e
real_no_dash Float n e = omega (arith, ap (λ (t : List ℕ). get_or t 0 0) e)

pub preg_no_dash : (p : RealRegister) → IsPReg p → preg_text p ≡ codes "-" → ⊥
preg_no_dash p fits e = real_no_dash p.class p.number e
