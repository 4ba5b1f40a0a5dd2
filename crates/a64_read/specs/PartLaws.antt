-- Fields that may stand with commas between are fields.
use Rattle.std.specs.Prelude.{◌≡◌, true, refl}
use Rattle.std.proofs.lemmas.Bool.{false≢true}
use Rattle.a64_tokens.specs.declared.value.Value.{Value}
use Rattle.a64_tokens.specs.declared.value.Value.TheVariants as values
use Rattle.a64_read.specs.Parts.{is_part, part_text, IsPart}
use Rattle.a64_read.specs.Values.{kind_of, value_text, IsValue}

-- a line for each kind
pub part_is : (v : Value) → IsPart v
    → IsValue v × (value_text v ≡ part_text v) × (is_part (kind_of v) ≡ true)
part_is (values.Reg x) fits = (fits, refl, refl)
part_is (values.Extend x) fits = (fits, refl, refl)
part_is (values.U32 x) fits = (fits, refl, refl)
part_is (values.I64 x) fits = (fits, refl, refl)
part_is (values.Offset9 x) fits = (fits, refl, refl)
part_is (values.Type x) fits = (fits, refl, refl)
part_is (values.MemLabelName x) fits = (fits, refl, refl)
part_is (values.Size x) fits = (fits, refl, refl)
part_is (values.Cond x) fits = (fits, refl, refl)
part_is (values.Bool x) fits = (fits, refl, refl)
part_is (values.U8 x) fits = (fits, refl, refl)
part_is _ fits = absurd fits

-- nothing else of these kinds has a text
pub part_of : (v : Value) → is_part (kind_of v) ≡ true → IsValue v → IsPart v
part_of (values.Reg x) is fits = fits
part_of (values.Extend x) is fits = fits
part_of (values.U32 x) is fits = fits
part_of (values.I64 x) is fits = fits
part_of (values.Offset9 x) is fits = fits
part_of (values.Type x) is fits = fits
part_of (values.MemLabelName x) is fits = fits
part_of (values.Size x) is fits = fits
part_of (values.Cond x) is fits = fits
part_of (values.Bool x) is fits = fits
part_of (values.U8 x) is fits = fits
part_of _ is fits = absurd (false≢true is)

pub part_field : (v : Value) → IsPart v → IsValue v
part_field v fits = (part_is v fits).0
