-- An immediate of a vector move is two numbers and a truth value with commas between.
use Rattle.std.proofs.Common.{◌≡◌, ℕ, List, [], ◌∷◌, eqb, Option, Some, None, option_map, refl, sym, ap, subst, ◌∙◌}
use Rattle.std.specs.List.{slice_split, join_with_byte, AllByRecursion}
use Rattle.a64_tokens.specs.declared.value.WrittenMovImm.{WrittenMovImm}
use Rattle.a64_tokens.specs.declared.value.Kind.{Kind}
use Rattle.a64_tokens.specs.declared.value.Kind.TheVariants as kinds
use Rattle.a64_tokens.specs.declared.value.Value.{Value}
use Rattle.a64_tokens.specs.declared.value.Value.TheVariants as values
use Rattle.a64_read.specs.At.{truth_at, u8_at}
use Rattle.a64_read.specs.MovImms.{mov_imm_fields, mov_imm_text, IsWrittenMovImm}
use Rattle.a64_read.specs.Parts.{IsPart}
use Rattle.a64_tokens.specs.Reads.{Reads}
use Rattle.a64_read.specs.RegisterLaws.{comma}
use Rattle.a64_read.specs.Rows.{AreFields, texts}
use Rattle.a64_read.specs.Same.{at_their_places}
use Rattle.a64_read.proofs.Joined.{joined_only}
use Rattle.a64_tokens.proofs.Splits.{joined_some}
use Rattle.a64_read.proofs.Between.{part_value_apart}

abbrev pub three : List Kind
three = kinds.U8 ∷ kinds.U8 ∷ kinds.Bool ∷ []

-- the immediate of three fields
abbrev pub imm_at : List Value → WrittenMovImm
imm_at vs = record { imm = u8_at vs 0; shift = u8_at vs 1; ones = truth_at vs 2 }

module _ (token : List ℕ) where
  abbrev pub ReadsThree : Option (List Value) → Type 0
  ReadsThree r = Reads (AreFields IsPart three) texts (slice_split (λ b. eqb b 44) token) r

  three_of : (r : Option (List Value)) → ReadsThree r → (imm : WrittenMovImm) → IsWrittenMovImm imm → token ≡ mov_imm_text imm → r ≡ Some (mov_imm_fields imm)
  three_of r h imm fits e = joined_only 44 IsPart (part_value_apart 44 comma) three token r h (values.U8 imm.imm) (values.U8 imm.shift ∷ values.Bool imm.ones ∷ []) (refl, fits) e

  pub no_mov_imm : ReadsThree None → Reads IsWrittenMovImm mov_imm_text token None
  no_mov_imm h = record { some = tt; only = λ imm fits e. let none = three_of None h imm fits e in absurd cc }

  pub mov_imm_read : (vs : List Value) → ReadsThree (Some vs) → (imm : WrittenMovImm) → imm ≡ imm_at vs → Reads IsWrittenMovImm mov_imm_text token (Some imm)
  mov_imm_read vs h imm is =
      let same : mov_imm_fields (imm_at vs) ≡ vs = at_their_places three vs h.some.0.0 in
      subst (λ (x : WrittenMovImm). Reads IsWrittenMovImm mov_imm_text token (Some x)) (sym is) (record {
        some = (subst (λ (t : List Value). AllByRecursion IsPart t) (sym same) h.some.0.1, joined_some 44 token (texts vs) h.some.1 ∙ ap (λ (t : List Value). join_with_byte 44 (texts t)) (sym same));
        only = λ x fits e. ap (λ (r : Option (List Value)). option_map imm_at r) (three_of (Some vs) h x fits e);
      })
