-- Immediates of 5 bits.
use Rattle.std.proofs.Common.{◌≡◌, ℕ, ◌<◌, ◌≤◌, List, Option, Some, None, sym, ap, subst, ◌∙◌, arith}
use Rattle.std.proofs.Math.Bridge.{le_prop}
use Rattle.std.specs.Prelude.{MatchOption}
use Rattle.std.specs.Fmt.{decimal}
use Rattle.a64_imms.specs.declared.unsigned.UImm5.{UImm5}
use Rattle.a64_imms.specs.Unsigned.{uimm5_value}
use Rattle.a64_tokens.specs.Fields.{uimm5_text}
use Rattle.a64_tokens.specs.Reads.{Reads, Always, IsU8}

abbrev uimm5 : (n : ℕ) → n < 32 → UImm5
uimm5 n below = record { value = n; below = below }

same_uimm5 : (x y : UImm5) → x.value ≡ y.value → x ≡ y
same_uimm5 x y e = subst (λ (n : ℕ). (below : n < 32) → x ≡ uimm5 n below) e (λ below. ap (λ (b : x.value < 32). uimm5 x.value b) (le_prop x.below below)) y.below

-- what the constructor makes of the number
pub uimm5_read : (token : List ℕ) (n : ℕ) → Reads IsU8 decimal token (Some n) → (r : Option UImm5) → MatchOption r (32 ≤ n) (λ imm. (n < 32) × (uimm5_value imm ≡ n)) → Reads Always uimm5_text token r
uimm5_read token n h None large = record {
  some = tt;
  only = λ imm fits e. let same = h.only imm.value (omega (arith, imm.below)) e in let k : n ≡ imm.value = cc in absurd (omega (arith, large, imm.below));
}
uimm5_read token n h (Some made) is = record {
  some = (tt, h.some.1 ∙ ap decimal (sym is.1));
  only = λ imm fits e. let same = h.only imm.value (omega (arith, imm.below)) e in let k : n ≡ imm.value = cc in ap (λ (x : UImm5). Some x) (same_uimm5 made imm (is.1 ∙ k));
}
