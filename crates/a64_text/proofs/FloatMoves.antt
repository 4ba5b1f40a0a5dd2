-- The move of a float: first its eight bits are read, and then the size looks at them.
use Rattle.std.proofs.Common.{◌≡◌, ℕ, List, Option, None, Some, refl, sym, ap, subst, ◌∙◌}
use Rattle.a64_base.specs.declared.reg.Reg.{Reg}
use Rattle.a64_base.specs.declared.size.ScalarSize.{ScalarSize}
use Rattle.a64_imms.specs.declared.asimd_fp.ASIMDFPModImm.{ASIMDFPModImm}
use Rattle.a64_inst.specs.declared.inst.Inst.{Inst}
use Rattle.a64_inst.specs.declared.inst.Inst.TheVariants as insts
use Rattle.a64_text.specs.declared.entry.Entry.{Entry}
use Rattle.a64_tokens.specs.declared.value.Value.{Value}
use Rattle.a64_tokens.specs.Reads.{Reads}
use Rattle.a64_read.specs.At.{reg_at, scalar_size_at, u8_at}
use Rattle.a64_read.specs.Same.{at_their_places}
use Rattle.a64_text.specs.FloatImms.{IsFloatAt}
use Rattle.a64_text.specs.Makes.{emitted, Makes}
use Rattle.a64_text.specs.Names.{float_imm_name, kinds_of}
use Rattle.a64_text.specs.Tokens.{fields_of, IsPlain}

abbrev Move : Type 0
Move = Reg × ASIMDFPModImm × ScalarSize

abbrev entry : Move → Entry
entry x = emitted (insts.FpuMoveFPImm x.0 x.1 x.2)

abbrev pub ReadsImm : ScalarSize → ℕ → Option ASIMDFPModImm → Type 0
ReadsImm size bits r = Reads (IsFloatAt size) (λ (made : ASIMDFPModImm). made.imm) bits r

module _ (fields : List Value) (size : ScalarSize) (bits : ℕ) (size_is : size ≡ scalar_size_at fields 2) (bits_is : bits ≡ u8_at fields 1) where
  -- a move with these fields has the immediate of the bits
  imm_of : (r : Option ASIMDFPModImm) → ReadsImm size bits r → (x : Move) → IsPlain (entry x) → fields_of (entry x) ≡ fields → r ≡ Some x.1
  imm_of r h x is e =
      let same_size : x.2 ≡ size = ap (λ (t : List Value). scalar_size_at t 2) e ∙ sym size_is in
      let same_bits : bits ≡ x.1.imm = bits_is ∙ ap (λ (t : List Value). u8_at t 1) (sym e) in
      h.only x.1 (subst (λ (s : ScalarSize). IsFloatAt s x.1) same_size is.own.0) same_bits

  pub no_move : ReadsImm size bits None → Makes float_imm_name fields None
  unfolding Makes
  no_move h = record { some = λ are. tt; only = λ x is e. let none = imm_of None h x is e in absurd cc }

  pub move : (imm : ASIMDFPModImm) (rd : Reg) → rd ≡ reg_at fields 0 → ReadsImm size bits (Some imm) → Makes float_imm_name fields (Some (entry (rd, imm, size)))
  unfolding Makes
  move imm rd rd_is h = record {
    some = λ are. (refl, rw (rd_is, size_is, sym h.some.1, bits_is) (at_their_places (kinds_of float_imm_name) fields are), (h.some.0, refl));
    only = λ x is e.
        let imms : Some imm ≡ Some x.1 = imm_of (Some imm) h x is e in
        let results : rd ≡ x.0 = rd_is ∙ ap (λ (t : List Value). reg_at t 0) (sym e) in
        let sizes : size ≡ x.2 = size_is ∙ ap (λ (t : List Value). scalar_size_at t 2) (sym e) in
        let inst : insts.FpuMoveFPImm rd imm size ≡ insts.FpuMoveFPImm x.0 x.1 x.2 = cc in
        ap (λ (i : Inst). Some (emitted i)) inst;
  }
