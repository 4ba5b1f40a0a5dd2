-- The texts of what conditional branches test: a name, and behind it its fields in parentheses.
use Rattle.std.specs.Prelude.{ℕ, List, [], ◌∷◌, codes}
use Rattle.std.specs.List.{join_with_byte, AllByRecursion}
use Rattle.a64_base.specs.declared.cond.CondBrKind.{CondBrKind}
use Rattle.a64_base.specs.declared.cond.CondBrKind.TheVariants as cond_brs
use Rattle.a64_read.specs.declared.branch_name.CondBrName.{CondBrName}
use Rattle.a64_read.specs.declared.branch_name.CondBrName.TheVariants as cond_br_names
use Rattle.a64_tokens.specs.declared.value.Kind.{Kind}
use Rattle.a64_tokens.specs.declared.value.Kind.TheVariants as kinds
use Rattle.a64_tokens.specs.declared.value.Value.{Value}
use Rattle.a64_tokens.specs.declared.value.Value.TheVariants as values
use Rattle.a64_tokens.specs.Fields.{call_text}
use Rattle.a64_read.specs.Heading.{Heading}
use Rattle.a64_read.specs.Parts.{part_texts, IsPart}

abbrev pub cond_br_heading : CondBrName → Heading
cond_br_heading cond_br_names.Zero = record {
  text = codes "Zero";
  kinds = kinds.Reg ∷ kinds.Size ∷ [];
}
cond_br_heading cond_br_names.NotZero = record {
  text = codes "NotZero";
  kinds = kinds.Reg ∷ kinds.Size ∷ [];
}
cond_br_heading cond_br_names.Cond = record { text = codes "Cond"; kinds = kinds.Cond ∷ [] }

abbrev pub cond_br_name_text : CondBrName → List ℕ
cond_br_name_text name = (cond_br_heading name).text

abbrev pub cond_br_kinds : CondBrName → List Kind
cond_br_kinds name = (cond_br_heading name).kinds

-- the name of a test, and its fields
pub record CondBrParts : Type 0 where
  pub name : CondBrName
  pub fields : List Value

abbrev pub cond_br_parts : CondBrKind → CondBrParts
cond_br_parts (cond_brs.Zero reg size) = record {
  name = cond_br_names.Zero;
  fields = values.Reg reg ∷ values.Size size ∷ [];
}
cond_br_parts (cond_brs.NotZero reg size) = record {
  name = cond_br_names.NotZero;
  fields = values.Reg reg ∷ values.Size size ∷ [];
}
cond_br_parts (cond_brs.Cond cond) = record {
  name = cond_br_names.Cond;
  fields = values.Cond cond ∷ [];
}

abbrev pub cond_br_name_of : CondBrKind → CondBrName
cond_br_name_of kind = (cond_br_parts kind).name

abbrev pub cond_br_fields : CondBrKind → List Value
cond_br_fields kind = (cond_br_parts kind).fields

abbrev pub IsOwnCondBr : CondBrKind → Type 0
IsOwnCondBr kind = Unit {0}

abbrev pub cond_br_text : CondBrKind → List ℕ
cond_br_text kind =
    call_text
    (cond_br_name_text (cond_br_name_of kind), join_with_byte 44 (part_texts (cond_br_fields kind)))

abbrev pub IsCondBr : CondBrKind → Type 0
IsCondBr kind = AllByRecursion IsPart (cond_br_fields kind) × IsOwnCondBr kind
