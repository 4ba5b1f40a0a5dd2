-- What cells are: forms of rows, or data.
use Rattle.std.specs.Prelude.{All, ◌<◌, ◌^◌}
use Rattle.a64_inst.specs.declared.frame.FrameLayout.{FrameLayout}
use Rattle.a64_inst.specs.declared.inst.Inst.{Inst}
use Rattle.a64_inst.specs.declared.inst.Inst.TheVariants as insts
use Rattle.a64_inst.specs.declared.item.Item.{Item}
use Rattle.a64_inst.specs.declared.item.Item.TheVariants.{Bind, Emit}
use Rattle.a64_rows.specs.Forms.{IsFormOf}
use Rattle.a64_cells.specs.Shapes.{Body, FormOf, Data, Cell}

-- a form has as many values as its row has fields, each in its width, and they meet the row's
-- limits
abbrev pub IsFormBody : Body → Type 0
IsFormBody (FormOf form) = IsFormOf form
IsFormBody (Data word) = Unit {0}

abbrev pub IsFormCell : Cell → Type 0
IsFormCell cell = IsFormBody cell.body

-- the halfword that a wide move holds has 16 bits
abbrev pub HasHalfword : Inst → Type 0
HasHalfword (insts.MovWide op rd imm size) = imm.bits < 2 ^ 16
HasHalfword (insts.MovK rd rn imm size) = imm.bits < 2 ^ 16
HasHalfword _ = Unit {0}

-- those of what a frame restores
abbrev pub RestoresHalfwords : FrameLayout → Type 0
RestoresHalfwords frame = All HasHalfword frame.restore

-- and that of an item, where it is a wide move
abbrev pub HoldsHalfword : Item → Type 0
HoldsHalfword (Bind label) = Unit {0}
HoldsHalfword (Emit inst map) = HasHalfword inst
