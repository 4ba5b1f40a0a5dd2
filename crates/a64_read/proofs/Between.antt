-- No text of a field that may stand with commas between has a byte that stands between fields.
use Rattle.std.specs.Prelude.{ℕ, Bool, true, false, List, [], ◌∷◌, ◌≡◌, refl}
use Rattle.std.proofs.Common.{arith, sym, subst, ap, ◌∙◌}
use Rattle.std.specs.List.{AllByRecursion, join_with_byte}
use Rattle.a64_base.specs.declared.cond.Cond.{Cond}
use Rattle.a64_base.specs.declared.cond.Cond.TheVariants.{Eq}
use Rattle.a64_base.specs.declared.shift.ExtendOp.{ExtendOp}
use Rattle.a64_base.specs.declared.shift.ExtendOp.TheVariants.{UXTB}
use Rattle.a64_base.specs.declared.size.OperandSize.{OperandSize}
use Rattle.a64_base.specs.declared.size.OperandSize.TheVariants.{Size32, Size64}
use Rattle.a64_tokens.specs.declared.label_name.MemLabelName.{MemLabelName}
use Rattle.a64_tokens.specs.declared.label_name.MemLabelName.TheVariants as label_names
use Rattle.a64_tokens.specs.declared.value.Value.{Value}
use Rattle.a64_tokens.specs.declared.value.Value.TheVariants as values
use Rattle.a64_tokens.specs.Fields.{HasNo, size_text}
use Rattle.a64_tokens.specs.Operators.{bool_text, cond_text, extend_text, mem_label_name_text}
use Rattle.a64_read.specs.PartLaws.{part_is}
use Rattle.a64_read.specs.Parts.{part_text, part_texts, IsPart}
use Rattle.a64_read.specs.RegisterLaws.{append_apart, at_each, digits, reg_apart, signed_apart, type_apart, IsBetween}
use Rattle.a64_read.specs.Rows.{texts}
use Rattle.a64_read.specs.Values.{value_text}
use Rattle.a64_read.proofs.Offsets.{offset9_fits}

module _ (c : ℕ) (is : IsBetween c) where
  extend_apart : (x : ExtendOp) → HasNo c (extend_text x)
  extend_apart UXTB = at_each (λ c. HasNo c (extend_text UXTB)) refl refl refl c is
  extend_apart x = at_each (λ c. HasNo c (extend_text x)) refl refl refl c is

  label_name_apart : (x : MemLabelName) → HasNo c (mem_label_name_text x)
  label_name_apart label_names.PCRel = at_each (λ c. HasNo c (mem_label_name_text label_names.PCRel)) refl refl refl c is
  label_name_apart x = at_each (λ c. HasNo c (mem_label_name_text x)) refl refl refl c is

  size_apart : (x : OperandSize) → HasNo c (size_text x)
  size_apart Size32 = at_each (λ c. HasNo c (size_text Size32)) refl refl refl c is
  size_apart Size64 = at_each (λ c. HasNo c (size_text Size64)) refl refl refl c is

  cond_apart : (x : Cond) → HasNo c (cond_text x)
  cond_apart Eq = at_each (λ c. HasNo c (cond_text Eq)) refl refl refl c is
  cond_apart x = at_each (λ c. HasNo c (cond_text x)) refl refl refl c is

  bool_apart : (x : Bool) → HasNo c (bool_text x)
  bool_apart false = at_each (λ c. HasNo c (bool_text false)) refl refl refl c is
  bool_apart true = at_each (λ c. HasNo c (bool_text true)) refl refl refl c is

  -- a line for each kind
  pub part_apart : (v : Value) → IsPart v → HasNo c (part_text v)
  part_apart (values.Reg x) fits = reg_apart c is x fits
  part_apart (values.Extend x) fits = extend_apart x
  part_apart (values.U32 x) fits = digits c is x (omega (arith, fits))
  part_apart (values.I64 x) fits = signed_apart c is x fits
  part_apart (values.Offset9 x) fits = signed_apart c is x.value (offset9_fits x fits)
  part_apart (values.Type x) fits = type_apart c is x
  part_apart (values.MemLabelName x) fits = label_name_apart x
  part_apart (values.Size x) fits = size_apart x
  part_apart (values.Cond x) fits = cond_apart x
  part_apart (values.Bool x) fits = bool_apart x
  part_apart (values.U8 x) fits = digits c is x (omega (arith, fits))
  part_apart _ fits = absurd fits

  pub parts_apart : (vs : List Value) → AllByRecursion IsPart vs → AllByRecursion (HasNo c) (part_texts vs)
  parts_apart [] are = tt
  parts_apart (v ∷ vs) are = (part_apart v are.0, parts_apart vs are.1)

  pub part_value_apart : (v : Value) → IsPart v → HasNo c (value_text v)
  part_value_apart v fits = subst (λ (t : List ℕ). HasNo c t) (sym (part_is v fits).1) (part_apart v fits)

-- the texts of such fields
pub same_texts : (vs : List Value) → AllByRecursion IsPart vs → texts vs ≡ part_texts vs
same_texts [] are = refl
same_texts (v ∷ vs) are = ap (λ (t : List ℕ). t ∷ texts vs) (part_is v are.0).1 ∙ ap (λ (ts : List (List ℕ)). part_text v ∷ ts) (same_texts vs are.1)

-- with commas between, they have no space
pub join_plain : (ts : List (List ℕ)) → AllByRecursion (HasNo 32) ts → HasNo 32 (join_with_byte 44 ts)
join_plain [] are = refl
join_plain (t ∷ []) are = are.0
join_plain (t ∷ u ∷ ts) are = append_apart 32 t (44 ∷ join_with_byte 44 (u ∷ ts)) are.0 (join_plain (u ∷ ts) are.1)
