-- Texts of registers.
use Rattle.std.proofs.Common.{◌≡◌, ℕ, ◌<◌, ◌≤◌, ◌-◌, Bool, true, false, if◌then◌else◌, eqb, List, [], ◌∷◌, ◌++◌, length, take, drop, get_or, ◌⊎◌, inl, inr, Option, Some, None, refl, sym, ap, ◌∙◌, arith}
use Rattle.std.specs.Prelude.{codes}
use Rattle.std.specs.Fmt.{decimal}
use Rattle.std.proofs.Math.Seq.{take-length}
use Rattle.std.proofs.lemmas.Bool.{eqb-true, ne_eqb}
use Rattle.a64_base.specs.RegisterNumbers.{RealRegister, IsRegisterNumber}
use Rattle.a64_base.specs.declared.reg.Reg.{Reg}
use Rattle.a64_base.specs.declared.reg.RegKind.TheVariants.{Real, Virtual}
use Rattle.a64_base.specs.declared.reg.RegClass.{RegClass}
use Rattle.a64_base.specs.declared.reg.RegClass.TheVariants.{Int, Float}
use Rattle.a64_tokens.specs.Reads.{Reads, IsBelowHundred}
use Rattle.a64_tokens.specs.Fields.{integer_text, real_text, virtual_text, preg_text, IsPReg, reg_text, IsReg}
use Rattle.a64_tokens.proofs.Decimals.{decimal_first}

abbrev integer : ℕ → Reg
integer n = Real (record { number = n; class = Int })

-- the registers whose text is x and these bytes: the zero register, and the numbered ones
abbrev IsZero : List ℕ → Reg → Type 0
IsZero rest reg = (rest ≡ codes "zr") × (reg ≡ integer 31)

abbrev IsNumbered : List ℕ → Reg → Type 0
IsNumbered rest reg = (n : ℕ) × (n ≤ 30) × (rest ≡ decimal n) × (reg ≡ integer n)

abbrev AfterX : List ℕ → Reg → Type 0
AfterX rest reg = IsZero rest reg ⊎ IsNumbered rest reg

tail : (a b : ℕ) (xs ys : List ℕ) → a ∷ xs ≡ b ∷ ys → xs ≡ ys
tail a b xs ys e = cc

below : (n : ℕ) → IsRegisterNumber Int n → eqb n 31 ≡ false → eqb n 63 ≡ false → n ≤ 30
below n fits not_zero not_sp = grind (arith, fits, not_zero, not_sp)

after_integer : (rest : List ℕ) (n : ℕ) (zero sp : Bool) → IsRegisterNumber Int n → eqb n 31 ≡ zero → eqb n 63 ≡ sp → 120 ∷ rest ≡ (if zero then codes "xzr" else if sp then codes "sp" else (codes "x" ++ decimal n)) → AfterX rest (integer n)
after_integer rest n true sp fits z s e = inl (tail 120 120 rest (122 ∷ 114 ∷ []) e, ap integer (eqb-true n 31 z))
after_integer rest n false true fits z s e = absurd (omega (arith, ap (λ (t : List ℕ). get_or t 0 0) e))
after_integer rest n false false fits z s e = inr (n, below n fits z s, tail 120 120 rest (decimal n) e, refl)

after_real : (rest : List ℕ) (class : RegClass) (n : ℕ) → IsRegisterNumber class n → 120 ∷ rest ≡ real_text class n → AfterX rest (Real (record { number = n; class = class }))
after_real rest Int n fits e = after_integer rest n (eqb n 31) (eqb n 63) fits refl refl e
after_real rest Float n fits e = absurd (omega (arith, ap (λ (t : List ℕ). get_or t 0 0) e))

after_virtual : (rest : List ℕ) (class : RegClass) (n : ℕ) → 120 ∷ rest ≡ virtual_text class n → ⊥
after_virtual rest Int n e = omega (arith, ap (λ (t : List ℕ). get_or t 0 0) e)
after_virtual rest Float n e = omega (arith, ap (λ (t : List ℕ). get_or t 0 0) e)

after_x : (rest : List ℕ) (reg : Reg) → IsReg reg → 120 ∷ rest ≡ reg_text reg → AfterX rest reg
after_x rest (Real p) fits e = after_real rest p.class p.number fits e
after_x rest (Virtual index class) fits e = absurd (after_virtual rest class index e)

no_decimal : (n : ℕ) → n < 100 → codes "zr" ≡ decimal n → ⊥
no_decimal n fits e = omega (arith, decimal_first (122 ∷ 114 ∷ []) n (omega arith) e)

number_only : (rest : List ℕ) (n : ℕ) (reg : Reg) → n ≤ 30 → Reads IsBelowHundred decimal rest (Some n) → AfterX rest reg → Some (integer n) ≡ Some reg
number_only rest n reg fits h (inl z) = absurd (no_decimal n h.some.0 (sym z.0 ∙ h.some.1))
number_only rest n reg fits h (inr m) =
    let s : Some n ≡ Some m.0 = h.only m.0 (omega (arith, m.1)) m.2 in
    let k : n ≡ m.0 = cc in
    ap (λ (i : ℕ). Some (integer i)) k ∙ ap (λ (r : Reg). Some r) (sym m.3)

number_text : (n : ℕ) → n ≤ 30 → codes "x" ++ decimal n ≡ integer_text n
number_text n fits = rw (ne_eqb n 31 (λ e. omega arith), ne_eqb n 63 (λ e. omega arith)) refl

is_number : (n : ℕ) → n ≤ 30 → IsRegisterNumber Int n
is_number n fits = grind (arith, fits)

after_front : (token : List ℕ) → get_or token 0 0 ≡ 120 → token ≡ 120 ∷ take (length token - 1) (drop 1 token)
after_front [] h = absurd (omega (arith, h))
after_front (b ∷ bytes) h =
    let less : length (b ∷ bytes) - 1 ≡ length bytes = omega arith in
    rw (h, less, take-length bytes) refl

x_is : (token rest : List ℕ) (n : ℕ) → token ≡ 120 ∷ rest → Reads IsBelowHundred decimal rest (Some n) → n ≤ 30 → Reads IsReg reg_text token (Some (integer n))
x_is token rest n w h fits = record {
  some = (is_number n fits, w ∙ ap (λ (t : List ℕ). 120 ∷ t) h.some.1 ∙ number_text n fits);
  only = λ reg f e. number_only rest n reg fits h (after_x rest reg f (sym w ∙ e));
}

pub is_x : (token : List ℕ) (n : ℕ) → get_or token 0 0 ≡ 120 → Reads IsBelowHundred decimal (take (length token - 1) (drop 1 token)) (Some n) → n ≤ 30 → Reads IsReg reg_text token (Some (integer n))
is_x token n x h fits = x_is token (take (length token - 1) (drop 1 token)) n (after_front token x) h fits

none_so_large : (rest : List ℕ) (n : ℕ) (reg : Reg) → 31 ≤ n → Reads IsBelowHundred decimal rest (Some n) → AfterX rest reg → ⊥
none_so_large rest n reg large h (inl z) = no_decimal n h.some.0 (sym z.0 ∙ h.some.1)
none_so_large rest n reg large h (inr m) =
    let s : Some n ≡ Some m.0 = h.only m.0 (omega (arith, m.1)) m.2 in
    let k : n ≡ m.0 = cc in
    omega (arith, m.1, k)

-- no register has a number so large
pub no_x : (token : List ℕ) (n : ℕ) → get_or token 0 0 ≡ 120 → Reads IsBelowHundred decimal (take (length token - 1) (drop 1 token)) (Some n) → 31 ≤ n → Reads IsReg reg_text token None
no_x token n x h large = record {
  some = tt;
  only = λ reg f e. absurd (none_so_large (take (length token - 1) (drop 1 token)) n reg large h (after_x (take (length token - 1) (drop 1 token)) reg f (sym (after_front token x) ∙ e)));
}

-- ---- registers of the machine

module _ (token : List ℕ) where
  -- a register of the machine is a register
  preg_only : (r : Option Reg) → Reads IsReg reg_text token r → (p : RealRegister) → IsPReg p → token ≡ preg_text p → r ≡ Some (Real p)
  preg_only r h p fits e = h.only (Real p) fits e

  pub no_preg : Reads IsReg reg_text token None → Reads IsPReg preg_text token None
  no_preg h = record { some = tt; only = λ p fits e. let same = preg_only None h p fits e in absurd cc }

  pub is_preg : (p : RealRegister) → Reads IsReg reg_text token (Some (Real p)) → Reads IsPReg preg_text token (Some p)
  is_preg p h = record {
    some = h.some;
    only = λ q fits e. let same = preg_only (Some (Real p)) h q fits e in cc;
  }
