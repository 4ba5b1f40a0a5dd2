-- The move of a float to all lanes, where the eight bits are none of their size.
use Rattle.std.proofs.Common.{◌≡◌, ℕ, List, None, refl, ap, subst, ◌∙◌}
use Rattle.a64_base.specs.declared.size.ScalarSize.{ScalarSize}
use Rattle.a64_base.specs.declared.size.VectorSize.{VectorSize}
use Rattle.a64_base.specs.VectorSizes.{lane_of}
use Rattle.a64_imms.specs.declared.asimd_fp.ASIMDFPModImm.{ASIMDFPModImm}
use Rattle.a64_tokens.specs.declared.value.Value.{Value}
use Rattle.a64_tokens.specs.Reads.{Reads}
use Rattle.a64_read.specs.At.{u8_at, vector_size_at}
use Rattle.a64_text.specs.FloatImms.{IsFloatAt}
use Rattle.a64_text.specs.Makes.{Makes}
use Rattle.a64_text.specs.Names.{dup_float_name}

pub no_dup : (fields : List Value) (lane : ScalarSize) (size : VectorSize) (bits : ℕ) → size ≡ vector_size_at fields 2 → lane ≡ lane_of size → bits ≡ u8_at fields 1
    → Reads (IsFloatAt lane) (λ (made : ASIMDFPModImm). made.imm) bits None → Makes dup_float_name fields None
unfolding Makes
no_dup fields lane size bits size_is lane_is bits_is h =
    let at_lane = subst (λ (l : ScalarSize). Reads (IsFloatAt l) (λ (made : ASIMDFPModImm). made.imm) bits None) (lane_is ∙ ap lane_of size_is) h in
    (None, subst (λ (b : ℕ). Reads (IsFloatAt (lane_of (vector_size_at fields 2))) (λ (made : ASIMDFPModImm). made.imm) b None) bits_is at_lane, refl)
