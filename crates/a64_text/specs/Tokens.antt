-- The line of an entry: its name and its fields, with one space between.
use Rattle.std.specs.Prelude.{ℕ, ◌≡◌, List, [], ◌∷◌, ◌++◌, codes, map, Option, None}
use Rattle.std.specs.List.{join_with_byte, AllByRecursion}
use Rattle.a64_base.specs.declared.entity.UserStackMap.{UserStackMap}
use Rattle.a64_base.specs.VectorSizes.{lane_of}
use Rattle.a64_imms.specs.Logic.{logic_value, IsLogicOf}
use Rattle.a64_inst.specs.declared.inst.Inst.{Inst}
use Rattle.a64_inst.specs.declared.inst.Inst.TheVariants as insts
use Rattle.a64_inst.specs.declared.item.Item.{Item}
use Rattle.a64_inst.specs.declared.item.Item.TheVariants.{Bind, Emit}
use Rattle.a64_text.specs.declared.entry.Entry.{Entry}
use Rattle.a64_text.specs.declared.entry.Entry.TheVariants as entries
use Rattle.a64_text.specs.declared.name.PairName.TheVariants as pair
use Rattle.a64_text.specs.declared.name.Name.{Name}
use Rattle.a64_text.specs.declared.name.Name.TheVariants as names
use Rattle.a64_tokens.specs.declared.value.Value.{Value}
use Rattle.a64_tokens.specs.declared.value.Value.TheVariants as values
use Rattle.a64_read.specs.Calls.{IsCallArg, AreCallLists}
use Rattle.a64_tokens.specs.Fields.{IsLabel}
use Rattle.a64_tokens.specs.Hex.{hex_text}
use Rattle.a64_text.specs.Constants.{HasHex}
use Rattle.a64_tokens.specs.PairModes.{IsPairAt}
use Rattle.a64_text.specs.FloatImms.{IsFloatAt}
use Rattle.a64_text.specs.MovImms.{IsMovAt}
use Rattle.a64_text.specs.InstParts.{inst_parts}
use Rattle.a64_text.specs.Names.{name_text}
use Rattle.a64_text.specs.Pairs.{pair_scale}
use Rattle.a64_text.specs.Parts.{Parts}
use Rattle.a64_read.specs.RegisterPairs.{IsArgPair, IsRetPair}
use Rattle.a64_read.specs.Values.{value_text, IsValue}

-- a call alone has a field for its map, behind the others
abbrev pub map_fields : Inst → Option UserStackMap → List Value
map_fields (insts.Call info) map = values.Map map ∷ []
map_fields (insts.CallInd info) map = values.Map map ∷ []
map_fields inst map = []

abbrev pub item_parts : Item → Parts
item_parts (Bind label) = record { name = names.Bind; fields = values.Label label ∷ [] }
item_parts (Emit inst map) = record {
  name = (inst_parts inst).name;
  fields = (inst_parts inst).fields ++ map_fields inst map;
}

abbrev pub parts : Entry → Parts
parts (entries.Item item) = item_parts item
parts (entries.Constant addr bytes) = record {
  name = names.Const;
  fields = values.U32 addr.0 ∷ values.List (hex_text bytes) ∷ [];
}
parts (entries.Frame field bytes) = record {
  name = names.Frame;
  fields = values.FrameField field ∷ values.U32 bytes ∷ [];
}
parts (entries.Flag flag) = record { name = names.Flag; fields = values.EmitFlag flag ∷ [] }
parts (entries.Restore inst) = item_parts (Emit inst None)

abbrev pub name_of : Entry → Name
name_of entry = (parts entry).name

abbrev pub fields_of : Entry → List Value
fields_of entry = (parts entry).fields

-- what an instruction asks beside that its fields have texts
abbrev pub IsOwnInst : Inst → Type 0
IsOwnInst (insts.AluRRImmLogic alu_op size rd rn imml) = IsLogicOf size (logic_value imml) imml
IsOwnInst (insts.FpuMoveFPImm rd imm scalar) = IsFloatAt scalar imm
IsOwnInst (insts.VecDupFPImm rd imm size) = IsFloatAt (lane_of size) imm
IsOwnInst (insts.VecDupImm rd imm invert size) = IsMovAt (lane_of size) imm
IsOwnInst (insts.LoadP64 rt rt2 mem flags) = IsPairAt (pair_scale pair.LoadP64) mem
IsOwnInst (insts.StoreP64 rt rt2 mem flags) = IsPairAt (pair_scale pair.StoreP64) mem
IsOwnInst (insts.FpuLoadP64 rt rt2 mem flags) = IsPairAt (pair_scale pair.FpuLoadP64) mem
IsOwnInst (insts.FpuStoreP64 rt rt2 mem flags) = IsPairAt (pair_scale pair.FpuStoreP64) mem
IsOwnInst (insts.FpuLoadP128 rt rt2 mem flags) = IsPairAt (pair_scale pair.FpuLoadP128) mem
IsOwnInst (insts.FpuStoreP128 rt rt2 mem flags) = IsPairAt (pair_scale pair.FpuStoreP128) mem
IsOwnInst (insts.IndirectBr rn targets) = AllByRecursion IsLabel targets
IsOwnInst (insts.Args args) = AllByRecursion IsArgPair args
IsOwnInst (insts.Rets rets) = AllByRecursion IsRetPair rets
IsOwnInst (insts.JTSequence default targets ridx rtmp1 rtmp2) = AllByRecursion IsLabel targets
IsOwnInst (insts.Call info) = AreCallLists (info.uses, info.defs, info.clobbers)
IsOwnInst (insts.CallInd info) = AreCallLists (info.uses, info.defs, info.clobbers)
IsOwnInst (insts.ReturnCall info) = AllByRecursion IsCallArg info.uses
IsOwnInst (insts.ReturnCallInd info) = AllByRecursion IsCallArg info.uses
IsOwnInst _ = Unit {0}

-- other instructions have no map
abbrev pub IsMap : Inst → Option UserStackMap → Type 0
IsMap (insts.Call info) map = Unit {0}
IsMap (insts.CallInd info) map = Unit {0}
IsMap inst map = map ≡ None

abbrev pub IsOwnItem : Item → Type 0
IsOwnItem (Bind label) = Unit {0}
IsOwnItem (Emit inst map) = IsOwnInst inst × IsMap inst map

abbrev pub IsOwn : Entry → Type 0
IsOwn (entries.Item item) = IsOwnItem item
IsOwn (entries.Constant addr bytes) = HasHex bytes
IsOwn (entries.Frame field bytes) = Unit {0}
IsOwn (entries.Flag flag) = Unit {0}
IsOwn (entries.Restore inst) = ⊥

-- an entry whose line is its name and its fields
pub record IsPlain (entry : Entry) : Type 0 where
  pub fields : AllByRecursion IsValue (fields_of entry)
  pub own : IsOwn entry

-- their tokens, and this line
abbrev pub tokens_of : Entry → List (List ℕ)
tokens_of entry = name_text (name_of entry) ∷ map value_text (fields_of entry)

abbrev pub plain_line : Entry → List ℕ
plain_line entry = join_with_byte 32 (tokens_of entry)

-- an entry that has a line. An instruction that is restored has the line of the item that is the
-- instruction without a map, behind a word
abbrev pub IsEntry : Entry → Type 0
IsEntry (entries.Restore inst) = IsPlain (entries.Item (Emit inst None))
IsEntry entry = IsPlain entry

abbrev pub line_of : Entry → List ℕ
line_of (entries.Restore inst) = codes "restore " ++ plain_line (entries.Item (Emit inst None))
line_of entry = plain_line entry
