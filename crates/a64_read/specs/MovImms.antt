-- The texts of immediates of vector moves: the bits, their shift, and whether ones are shifted in,
-- with commas between.
use Rattle.std.specs.Prelude.{ℕ, List, [], ◌∷◌}
use Rattle.std.specs.List.{AllByRecursion, join_with_byte}
use Rattle.a64_tokens.specs.declared.value.WrittenMovImm.{WrittenMovImm}
use Rattle.a64_tokens.specs.declared.value.Value.{Value}
use Rattle.a64_tokens.specs.declared.value.Value.TheVariants as values
use Rattle.a64_read.specs.Parts.{part_texts, IsPart}

abbrev pub mov_imm_fields : WrittenMovImm → List Value
mov_imm_fields imm = values.U8 imm.imm ∷ values.U8 imm.shift ∷ values.Bool imm.ones ∷ []

abbrev pub mov_imm_text : WrittenMovImm → List ℕ
mov_imm_text imm = join_with_byte 44 (part_texts (mov_imm_fields imm))

abbrev pub IsWrittenMovImm : WrittenMovImm → Type 0
IsWrittenMovImm imm = AllByRecursion IsPart (mov_imm_fields imm)
