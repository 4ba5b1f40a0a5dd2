-- The names of addressing modes, and what they make of their fields.
use Rattle.std.specs.Prelude.{ℤ, List, [], ◌∷◌, length, map, ◌≡◌, ◌≤◌, ◌<◌, Option, Some, None}
use Rattle.std.specs.Prelude.{IfSome, option_map, refl}
use Rattle.std.proofs.Common.{lit≤, lit<, sym, ap, ◌∙◌}
use Rattle.std.specs.List.{AllByRecursion}
use Rattle.a64_base.specs.declared.ir_type.IrType.{IrType}
use Rattle.a64_inst.specs.declared.mode.AMode.{AMode}
use Rattle.a64_inst.specs.declared.mode.AMode.TheVariants as modes
use Rattle.a64_tokens.specs.declared.pair_mode.WrittenPairMode.{WrittenPairMode}
use Rattle.a64_tokens.specs.declared.pair_mode.WrittenPairMode.TheVariants as pair_modes
use Rattle.a64_read.specs.declared.mode_name.TheConstants.{MODE_HOMES, MODES, PAIR_MODE_HOMES}
use Rattle.a64_read.specs.declared.mode_name.TheConstants.{PAIR_MODES}
use Rattle.a64_tokens.specs.declared.label_name.MemLabelName.{MemLabelName}
use Rattle.a64_read.specs.declared.mode_name.ModeName.{ModeName}
use Rattle.a64_read.specs.declared.mode_name.ModeName.TheVariants as mode_names
use Rattle.a64_read.specs.declared.mode_name.PairModeName.{PairModeName}
use Rattle.a64_read.specs.declared.mode_name.PairModeName.TheVariants as pair_names
use Rattle.a64_tokens.specs.declared.value.Value.{Value}
use Rattle.a64_tokens.specs.declared.value.Value.TheVariants as values
use Rattle.a64_read.specs.At.{i64_at, mem_label_name_at, reg_at, type_at}
use Rattle.a64_tokens.specs.Fields.{HasNo}
use Rattle.a64_tokens.specs.Hash.{look_up}
use Rattle.a64_read.specs.ModeMakes.{mode_of, MakesMode, pair_of, MakesPair}
use Rattle.a64_read.specs.Modes.{mode_name_text, mode_kinds, mode_name_of, mode_fields, IsOwnMode}
use Rattle.a64_read.specs.Modes.{scaled_parts, IsScaled, mem_label_parts, IsMemLabel}
use Rattle.a64_read.specs.Modes.{pair_name_text, pair_kinds, pair_name_of, pair_fields, IsOwnPair}
use Rattle.a64_tokens.specs.Reads.{Reads}
use Rattle.a64_read.specs.Same.{at_their_places}
use Rattle.a64_read.specs.Values.{kind_of, IsValue}

-- ---- names

pub mode_found : (x : ModeName)
    → look_up MODE_HOMES (λ _. map (λ row. row.2) MODES) (mode_name_text x) ≡ Some x
mode_found mode_names.RegReg = refl
mode_found _ = refl

pub few_mode_kinds : (name : ModeName) → length (mode_kinds name) ≤ 4
few_mode_kinds mode_names.RegReg = lit≤ tt
few_mode_kinds _ = lit≤ tt

pub mode_apart : (name : ModeName) → HasNo 40 (mode_name_text name)
mode_apart mode_names.RegReg = refl
mode_apart _ = refl

pub some_mode_field : (mode : AMode) → 0 < length (mode_fields mode)
some_mode_field (modes.RegReg rn rm) = lit< tt
some_mode_field _ = lit< tt

pub pair_found : (x : PairModeName)
    → look_up PAIR_MODE_HOMES (λ _. map (λ row. row.2) PAIR_MODES) (pair_name_text x) ≡ Some x
pair_found pair_names.SignedOffset = refl
pair_found _ = refl

pub few_pair_kinds : (name : PairModeName) → length (pair_kinds name) ≤ 4
few_pair_kinds pair_names.SignedOffset = lit≤ tt
few_pair_kinds _ = lit≤ tt

pub pair_apart : (name : PairModeName) → HasNo 40 (pair_name_text name)
pair_apart pair_names.SignedOffset = refl
pair_apart _ = refl

pub some_pair_field : (mode : WrittenPairMode) → 0 < length (pair_fields mode)
some_pair_field (pair_modes.SignedOffset reg offset) = lit< tt
some_pair_field _ = lit< tt

-- ---- what is made

made : {M : Type 0} (P : M → Type 0) (r : Option M) (m : M) → r ≡ Some m → P m → IfSome r P
made P r m is h = rw is h

-- what is made of something that is read of some fields
pub made_of : {X T M : Type 0} (fits : X → Type 0) (parts : X → T) (token : T) (make : X
    → M) (P : M → Type 0) → ((x : X) → fits x → token ≡ parts x → P (make x)) → (q : Option X)
    → Reads fits parts token q → (r : Option M) → r ≡ option_map make q → IfSome r P
made_of fits parts token make P each None reads r is = rw is tt
made_of fits parts token make P each (Some x) reads r is = rw is (each x reads.some.0 reads.some.1)

abbrev pub IsMadeMode : ModeName → List Value → AMode → Type 0
IsMadeMode name values mode =
    (mode_name_of mode ≡ name) × (mode_fields mode ≡ values) × IsOwnMode mode

pub mode_made_some : (name : ModeName) (vs : List Value) (r : Option AMode) → MakesMode name vs r
    → map kind_of vs ≡ mode_kinds name → IfSome r (IsMadeMode name vs)
unfolding MakesMode
mode_made_some mode_names.UnsignedOffset vs r h are =
    made_of IsScaled scaled_parts (i64_at vs 1, type_at vs 2)
    (λ imm. modes.UnsignedOffset (reg_at vs 0) imm) (IsMadeMode mode_names.UnsignedOffset vs)
    (λ imm own is. (
      refl,
      ap (λ (p : ℤ × IrType). values.Reg (reg_at vs 0) ∷ values.I64 p.0
          ∷ values.Type p.1 ∷ []) (sym is)
          ∙ at_their_places (mode_kinds mode_names.UnsignedOffset) vs are,
      own,
    ))
    h.0 h.1 r h.2
mode_made_some mode_names.Label vs r h are =
    made_of IsMemLabel mem_label_parts (mem_label_name_at vs 0, i64_at vs 1)
    (λ label. modes.Label label) (IsMadeMode mode_names.Label vs)
    (λ label own is. (
      refl,
      ap (λ (p : MemLabelName × ℤ). values.MemLabelName p.0 ∷ values.I64 p.1
          ∷ []) (sym is) ∙ at_their_places (mode_kinds mode_names.Label) vs are,
      own,
    ))
    h.0 h.1 r h.2
mode_made_some name vs r h are =
    made (IsMadeMode name vs) r (mode_of name vs) h
    (refl, at_their_places (mode_kinds name) vs are, tt)

pub mode_made_only : (mode : AMode) (vs : List Value) (r : Option AMode)
    → MakesMode (mode_name_of mode) vs r → AllByRecursion IsValue (mode_fields mode)
    → IsOwnMode mode → mode_fields mode ≡ vs → r ≡ Some mode
unfolding MakesMode
mode_made_only (modes.UnsignedOffset rn uimm12) vs r h fits own e =
    h.2
    ∙ ap (λ o. option_map (λ imm. modes.UnsignedOffset (reg_at vs 0) imm) o)
    (h.1.only uimm12 own (ap (λ (t : List Value). (i64_at t 1, type_at t 2)) (sym e)))
    ∙ ap (λ (t : List Value). Some (modes.UnsignedOffset (reg_at t 0) uimm12)) (sym e)
mode_made_only (modes.Label label) vs r h fits own e =
    h.2 ∙ ap (λ o. option_map (λ l. modes.Label l) o)
    (h.1.only label own (ap (λ (t : List Value). (mem_label_name_at t 0, i64_at t 1)) (sym e)))
mode_made_only mode vs r h fits own e =
    h ∙ ap (λ (t : List Value). Some (mode_of (mode_name_of mode) t)) (sym e)

pub mode_fields_kinds : (mode : AMode)
    → map kind_of (mode_fields mode) ≡ mode_kinds (mode_name_of mode)
mode_fields_kinds (modes.RegReg rn rm) = refl
mode_fields_kinds mode = refl

abbrev pub IsMadePair : PairModeName → List Value → WrittenPairMode → Type 0
IsMadePair name values mode =
    (pair_name_of mode ≡ name) × (pair_fields mode ≡ values) × IsOwnPair mode

pub pair_made_some : (name : PairModeName) (vs : List Value) (r : Option WrittenPairMode)
    → MakesPair name vs r → map kind_of vs ≡ pair_kinds name → IfSome r (IsMadePair name vs)
unfolding MakesPair
pair_made_some pair_names.SignedOffset vs r h are =
    made (IsMadePair pair_names.SignedOffset vs) r (pair_of pair_names.SignedOffset vs) h
    (refl, at_their_places (pair_kinds pair_names.SignedOffset) vs are, tt)
pair_made_some name vs r h are =
    made (IsMadePair name vs) r (pair_of name vs) h
    (refl, at_their_places (pair_kinds name) vs are, tt)

pub pair_made_only : (mode : WrittenPairMode) (vs : List Value) (r : Option WrittenPairMode)
    → MakesPair (pair_name_of mode) vs r → AllByRecursion IsValue (pair_fields mode)
    → IsOwnPair mode → pair_fields mode ≡ vs → r ≡ Some mode
unfolding MakesPair
pair_made_only (pair_modes.SignedOffset reg offset) vs r h fits own e =
    h ∙ ap (λ (t : List Value). Some (pair_of pair_names.SignedOffset t)) (sym e)
pair_made_only mode vs r h fits own e =
    h ∙ ap (λ (t : List Value). Some (pair_of (pair_name_of mode) t)) (sym e)

pub pair_fields_kinds : (mode : WrittenPairMode)
    → map kind_of (pair_fields mode) ≡ pair_kinds (pair_name_of mode)
pair_fields_kinds (pair_modes.SignedOffset reg offset) = refl
pair_fields_kinds mode = refl
