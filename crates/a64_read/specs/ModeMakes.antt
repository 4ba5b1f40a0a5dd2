-- What the name of an addressing mode makes of the fields behind it.
use Rattle.std.specs.Prelude.{List, Option, Some, ◌≡◌, option_map}
use Rattle.a64_inst.specs.declared.mode.AMode.{AMode}
use Rattle.a64_inst.specs.declared.mode.AMode.TheVariants as modes
use Rattle.a64_tokens.specs.declared.pair_mode.WrittenPairMode.{WrittenPairMode}
use Rattle.a64_tokens.specs.declared.pair_mode.WrittenPairMode.TheVariants as pair_modes
use Rattle.a64_read.specs.declared.mode_name.ModeName.{ModeName}
use Rattle.a64_read.specs.declared.mode_name.ModeName.TheVariants as mode_names
use Rattle.a64_read.specs.declared.mode_name.PairModeName.{PairModeName}
use Rattle.a64_read.specs.declared.mode_name.PairModeName.TheVariants as pair_names
use Rattle.a64_tokens.specs.declared.value.Value.{Value}
use Rattle.a64_read.specs.At.{extend_at, i64_at, mem_label_name_at, offset9_at, reg_at, type_at}
use Rattle.a64_read.specs.At.{u32_at}
use Rattle.a64_read.specs.Modes.{IsScaled, scaled_parts, IsMemLabel, mem_label_parts}
use Rattle.a64_tokens.specs.Reads.{Reads}

-- what is made of the X whose parts are these, where there is one
abbrev pub MakesOf : {X T M : Type 0} → (X → Type 0) → (X → T) → T → (X → M) → Option M → Type 0
MakesOf {X} fits parts token make result =
    (r : Option X) × Reads fits parts token r × (result ≡ option_map make r)

-- the mode of this name with these fields, where it needs nothing but these
abbrev pub mode_of : ModeName → List Value → AMode
mode_of mode_names.RegReg values = modes.RegReg (reg_at values 0) (reg_at values 1)
mode_of mode_names.RegScaled values = modes.RegScaled (reg_at values 0) (reg_at values 1)
mode_of mode_names.RegScaledExtended values =
    modes.RegScaledExtended (reg_at values 0) (reg_at values 1) (extend_at values 2)
mode_of mode_names.RegExtended values =
    modes.RegExtended (reg_at values 0) (reg_at values 1) (extend_at values 2)
mode_of mode_names.Unscaled values = modes.Unscaled (reg_at values 0) (offset9_at values 1)
mode_of mode_names.SPPreIndexed values = modes.SPPreIndexed (offset9_at values 0)
mode_of mode_names.SPPostIndexed values = modes.SPPostIndexed (offset9_at values 0)
mode_of mode_names.FPOffset values = modes.FPOffset (i64_at values 0)
mode_of mode_names.IncomingArg values = modes.IncomingArg (i64_at values 0)
mode_of mode_names.SlotOffset values = modes.SlotOffset (i64_at values 0)
mode_of mode_names.RegOffset values = modes.RegOffset (reg_at values 0) (i64_at values 1)
mode_of mode_names.Const values = modes.Const (record { 0 = u32_at values 0 })
mode_of _ values = modes.SPOffset (i64_at values 0)

unfoldable pub MakesMode : ModeName → List Value → Option AMode → Type 0
MakesMode mode_names.UnsignedOffset values result =
    MakesOf IsScaled scaled_parts (i64_at values 1, type_at values 2)
    (λ imm. modes.UnsignedOffset (reg_at values 0) imm) result
MakesMode mode_names.Label values result =
    MakesOf IsMemLabel mem_label_parts (mem_label_name_at values 0, i64_at values 1)
    (λ label. modes.Label label) result
MakesMode name values result = result ≡ Some (mode_of name values)

abbrev pub pair_of : PairModeName → List Value → WrittenPairMode
pair_of pair_names.SignedOffset values = pair_modes.SignedOffset (reg_at values 0) (i64_at values 1)
pair_of pair_names.SPPreIndexed values = pair_modes.SPPreIndexed (i64_at values 0)
pair_of pair_names.SPPostIndexed values = pair_modes.SPPostIndexed (i64_at values 0)

unfoldable pub MakesPair : PairModeName → List Value → Option WrittenPairMode → Type 0
MakesPair name values result = result ≡ Some (pair_of name values)
