-- Registers in which values enter and leave functions may stand in a list.
use Rattle.std.specs.Prelude.{ℕ, ◌≡◌, ◌++◌, codes, List, [], ◌∷◌, map}
use Rattle.std.specs.List.{join_with_byte, AllByRecursion}
use Rattle.std.proofs.Common.{arith, ap, get_or, length, length-append}
use Rattle.a64_base.specs.declared.reg.Reg.{Reg}
use Rattle.a64_inst.specs.declared.pair.ArgPair.{ArgPair}
use Rattle.a64_inst.specs.declared.pair.RetPair.{RetPair}
use Rattle.a64_tokens.specs.Fields.{HasNo, reg_text}
use Rattle.a64_read.specs.RegisterLaws.{append_apart, comma, reg_apart}
use Rattle.a64_tokens.specs.SplitLaws.{comma_apart}
use Rattle.a64_tokens.specs.Splitting.{comma_tokens}
use Rattle.a64_read.specs.RegisterPairs.{register_pair_text, IsRegisterPair, arg_pair_text}
use Rattle.a64_read.specs.RegisterPairs.{IsArgPair, ret_pair_text, IsRetPair}

pub pair_apart : (pair : Reg × Reg) → IsRegisterPair pair → HasNo 44 (register_pair_text pair)
pair_apart pair fits =
    append_apart 44 (reg_text pair.0) (61
    ∷ reg_text pair.1) (reg_apart 44 comma pair.0 fits.0) (reg_apart 44 comma pair.1 fits.1)

pub no_dash : (xs ys : List ℕ) → xs ++ 61 ∷ ys ≡ codes "-" → ⊥
no_dash [] ys e = omega (arith, ap (λ (t : List ℕ). get_or t 0 0) e)
no_dash (x ∷ xs) ys e = omega (arith, length-append xs (61 ∷ ys), ap (λ (t : List ℕ). length t) e)

pub arg_apart : (arg : ArgPair) (args : List ArgPair) → AllByRecursion IsArgPair (arg ∷ args)
    → comma_tokens (join_with_byte 44 (map arg_pair_text (arg ∷ args)))
    ≡ map arg_pair_text (arg ∷ args)
arg_apart = comma_apart arg_pair_text IsArgPair (λ arg fits. pair_apart (arg.vreg, arg.preg) fits)

pub arg_no_dash : (arg : ArgPair) → IsArgPair arg → arg_pair_text arg ≡ codes "-" → ⊥
arg_no_dash arg fits e = no_dash (reg_text arg.vreg) (reg_text arg.preg) e

pub ret_apart : (ret : RetPair) (rets : List RetPair) → AllByRecursion IsRetPair (ret ∷ rets)
    → comma_tokens (join_with_byte 44 (map ret_pair_text (ret ∷ rets)))
    ≡ map ret_pair_text (ret ∷ rets)
ret_apart = comma_apart ret_pair_text IsRetPair (λ ret fits. pair_apart (ret.vreg, ret.preg) fits)

pub ret_no_dash : (ret : RetPair) → IsRetPair ret → ret_pair_text ret ≡ codes "-" → ⊥
ret_no_dash ret fits e = no_dash (reg_text ret.vreg) (reg_text ret.preg) e
