-- The texts of instructions of all groups, when they may be printed, and listings.
use Rattle.std.specs.Prelude.{ℕ, ◌≡◌, true, List, ◌++◌, codes}
use Rattle.std.specs.Fmt.{decimal}
use Rattle.std.specs.List.{flat_map}
use Rattle.a64_inst.specs.declared.emission.EmitFlags.{EmitFlags}
use Rattle.a64_inst.specs.declared.frame.FrameLayout.{FrameLayout}
use Rattle.a64_inst.specs.declared.group.Group.TheVariants as groups
use Rattle.a64_inst.specs.declared.inst.Inst.{Inst}
use Rattle.a64_inst.specs.declared.item.Item.{Item}
use Rattle.a64_inst.specs.declared.item.Item.TheVariants.{Bind, Emit}
use Rattle.a64_operand.specs.declared.virtuals.VirtualRegisters.TheVariants.{Allowed}
use Rattle.a64_inst.specs.Faults.{has_operands, has_mode}
use Rattle.a64_inst.specs.Groups.{group_of}
use Rattle.a64_operand_text.specs.FrameTexts.{memory_text}
use Rattle.a64_operand_text.specs.Texts.{own_text}

-- the text of an instruction; of loads, stores and addresses it depends on the frame
abbrev pub text_of : FrameLayout → Inst → List ℕ
text_of frame inst = elim (group_of inst) [
  | groups.Plain group ↦ own_text inst
  | groups.Control ↦ own_text inst
  | groups.Sequence ↦ own_text inst
  | groups.Call ↦ own_text inst
  | groups.Memory ↦ memory_text frame inst
]

-- settings that allow whatever a setting can
abbrev pub all_settings : EmitFlags
all_settings = record {
  enable_probestack = true;
  enable_table_access_spectre_mitigation = true;
  use_csdb = true;
}

-- an instruction may be printed: its operands are in their sets, where registers may be virtual and
-- each setting is on, and its addressing mode exists. How long its constant is does not count
pub record CanPrint (frame : FrameLayout) (inst : Inst) : Type 0 where
  pub operands : has_operands frame all_settings Allowed inst ≡ true
  pub mode : has_mode inst ≡ true

-- the text of an item: of a binding, its label and a colon
abbrev pub item_text : FrameLayout → Item → List ℕ
item_text frame (Bind label) = codes "label" ++ (decimal label.0 ++ codes ":")
item_text frame (Emit inst map) = text_of frame inst

abbrev pub item_line : FrameLayout → Item → List ℕ
item_line frame item = item_text frame item ++ codes "\n"

-- a listing: a line for each item
abbrev pub listing_of : FrameLayout → List Item → List ℕ
listing_of frame items = flat_map (item_line frame) items
