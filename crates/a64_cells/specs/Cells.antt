-- The words that items are made of: those of instructions, by their shapes.
use Rattle.std.specs.Prelude.{ℕ, ℤ, pos, ◌-ℤ◌, Bool, true, false, ◌+◌, ◌*◌, ◌&&◌, ◌||◌, nat_eq}
use Rattle.std.specs.Prelude.{nat_lt, List, [], ◌∷◌, ◌++◌, length, map, if◌then◌else◌, not, is_none}
use Rattle.std.specs.Prelude.{Option, None, Some}
use Rattle.std.specs.Ordering.{int_eq}
use Rattle.std.specs.Int.RustNames.{unsigned_abs}
use Rattle.a64_base.specs.declared.entity.MachLabel.{MachLabel}
use Rattle.a64_base.specs.declared.entity.Reloc.TheVariants.{Arm64Call}
use Rattle.a64_base.specs.declared.entity.UserStackMap.{UserStackMap}
use Rattle.a64_base.specs.declared.key.APIKey.{APIKey}
use Rattle.a64_base.specs.declared.shift.ExtendOp.TheVariants.{UXTX}
use Rattle.a64_base.specs.declared.reg.Reg.{Reg}
use Rattle.a64_base.specs.declared.ir_type.IrType.TheVariants.{I64}
use Rattle.a64_base.specs.Registers.{integer_register}
use Rattle.a64_plan.specs.Plans.{plan_of}
use Rattle.a64_inst.specs.declared.access.Access.{Access}
use Rattle.a64_inst.specs.declared.call.CallRetPair.{CallRetPair}
use Rattle.a64_inst.specs.declared.call.RetLocation.{RetLocation}
use Rattle.a64_inst.specs.declared.call.RetLocation.TheVariants as locations
use Rattle.a64_inst.specs.declared.mode.PairAMode.TheVariants as pairs
use Rattle.a64_inst.specs.declared.mode.AMode.{AMode}
use Rattle.a64_inst.specs.declared.mode.AMode.TheVariants as modes
use Rattle.a64_inst.specs.declared.mode.MemLabel.{MemLabel}
use Rattle.a64_inst.specs.declared.mode.MemLabel.TheVariants.{PCRel, Mach, Pool}
use Rattle.a64_inst.specs.Accesses.{access_of, inst_with, load_op, type_has_load_form}
use Rattle.a64_inst.specs.MemoryOperands.{is_addend}
use Rattle.std.specs.List.{flat_map, filter_map}
use Rattle.a64_base.specs.declared.size.OperandSize.TheVariants.{Size64}
use Rattle.a64_base.specs.declared.target.BranchTarget.TheVariants as branch_targets
use Rattle.a64_inst.specs.declared.emission.EmitFlags.{EmitFlags}
use Rattle.a64_inst.specs.declared.frame.FrameLayout.{FrameLayout}
use Rattle.a64_inst.specs.declared.inst.Inst.{Inst}
use Rattle.a64_inst.specs.declared.inst.Inst.TheVariants as insts
use Rattle.a64_buffer.specs.declared.site.Target.{Target}
use Rattle.a64_buffer.specs.declared.site.Target.TheVariants.{Label, Constant}
use Rattle.a64_cells.specs.declared.callee.Callee.{Callee}
use Rattle.a64_cells.specs.declared.callee.Callee.TheVariants.{Symbol, Address}
use Rattle.a64_label_use.specs.declared.label_use.LabelUse.TheVariants as uses
use Rattle.a64_cells.specs.declared.site.Site.{Site}
use Rattle.a64_cells.specs.declared.site.CellUse.{CellUse}
use Rattle.a64_cells.specs.declared.site.Uses.{Uses}
use Rattle.a64_inst.specs.declared.item.Item.{Item}
use Rattle.a64_inst.specs.declared.item.Item.TheVariants.{Bind, Emit}
use Rattle.a64_rows.specs.Forms.{Form, form_word}
use Rattle.a64_cells.specs.IntegerForms as integer
use Rattle.a64_cells.specs.ControlForms as control
use Rattle.a64_cells.specs.MemoryForms as memory
use Rattle.a64_cells.specs.Shapes.{Body, FormOf, Data, Relocation, Marks, Cell, plain, several}
use Rattle.a64_cells.specs.Shapes.{Shape, OneWord, Several, Words, table_labels, entry_site}
use Rattle.a64_cells.specs.PlainShapes.{plain_shape}

-- the word of a body
abbrev pub body_word : Body → ℕ
body_word (FormOf form) = form_word form
body_word (Data word) = word

-- the word of a cell, before its use is resolved
abbrev pub cell_word : Cell → ℕ
cell_word cell = body_word cell.body

-- the use that a load of a literal is, where a label says its place, or the literal is a constant
abbrev pub literal_site : MemLabel → Option Site
literal_site (PCRel offset) = None
literal_site (Mach label) = Some (record { kind = uses.Ldr19; target = Label label })
literal_site (Pool addr) = Some (record { kind = uses.Ldr19; target = Constant addr })

-- the use by which an access leads to something
abbrev pub literal_use : Target → Site
literal_use target = record { kind = uses.Ldr19; target = target }

abbrev pub mode_site : AMode → Option Site
mode_site (modes.Label label) = literal_site label
mode_site (modes.Const addr) = literal_site (Pool addr)
mode_site _ = None

-- the use that a load or a store of one register is, where it is one
abbrev pub memory_site : Inst → Option Site
memory_site inst = elim (access_of inst) [ None ↦ None | Some access ↦ mode_site access.mem ]

abbrev pub access_shape : FrameLayout → Access → Shape
access_shape frame access =
    Several (memory.access_steps frame access) (FormOf (memory.access_form frame access))
    (mode_site access.mem) access.flags

abbrev pub shape_cells : Shape → List Cell
shape_cells (OneWord form) = plain form ∷ []
shape_cells (Several forms body site trap) = several forms body site trap
shape_cells (Words cells) = cells

-- ---- calls

-- the stack pointer moves by so many bytes: by an addition where one holds the number, and else
-- over x16
abbrev pub adjust_forms : ℤ → List Form
adjust_forms amount =
    if int_eq amount (pos 0) then []
    else if is_addend (unsigned_abs amount)
    then memory.addend_form (integer_register 63) (integer_register 63) amount ∷ []
    else memory.step_forms memory.offset_register (plan_of (unsigned_abs amount))
    ++ integer.alu_rrr_extend_form (memory.sum_op amount) Size64 (integer_register 63)
    (integer_register 63) memory.offset_register UXTX ∷ []

-- what is recorded at the word of a call: that it returns behind it, and the symbol, which a linker
-- fills in
abbrev pub callee_reloc : Callee → Option Relocation
callee_reloc (Symbol name) = Some (Arm64Call, name, pos 0)
callee_reloc (Address reg) = None

abbrev pub call_marks : Callee → Option ℕ → Marks
call_marks callee patchable = record {
  trap = None;
  reloc = callee_reloc callee;
  call = true;
  map = None;
  patchable = patchable;
}

abbrev pub call_form : Callee → Form
call_form (Symbol name) = control.branch_link_form
call_form (Address reg) = control.branch_link_register_form reg

abbrev pub call_cell : Callee → Option ℕ → Cell
call_cell callee patchable = record {
  body = FormOf (call_form callee);
  site = None;
  marks = call_marks callee patchable;
}

-- the load of a result that the function left on the stack, where one load loads it
abbrev pub load_at : Reg → RetLocation → Option Inst
load_at vreg (locations.Reg preg ty) = None
load_at vreg (locations.Stack offset ty) =
    if type_has_load_form ty then Some (inst_with (load_op ty) vreg (modes.SPOffset offset) None)
    else None

abbrev pub result_load : CallRetPair → Option Inst
result_load pair = load_at pair.vreg pair.location

abbrev pub result_cells : FrameLayout → CallRetPair → List Cell
result_cells frame pair = elim (result_load pair) [
  | None ↦ []
  | Some load ↦ elim (access_of load) [
    | None ↦ []
    | Some access ↦ shape_cells (access_shape frame access)
  ]
]

-- the function that was called has taken its arguments off the stack, and the stack pointer comes
-- back to where it was
abbrev pub pop_forms : ℕ → List Form
pop_forms pop = adjust_forms (pos 0 -ℤ pos pop)

-- a call, and behind it the loads of its results
abbrev pub call_cells : FrameLayout → Callee → List CallRetPair → ℕ → List Cell
call_cells frame callee defs pop =
    call_cell callee None ∷ map plain (pop_forms pop) ++ flat_map (result_cells frame) defs

-- a call that may be changed later, with all of its words
abbrev pub patchable_cells : Callee → ℕ → List Cell
patchable_cells callee pop =
    call_cell callee (Some (4 * (length (pop_forms pop) + 1))) ∷ map plain (pop_forms pop)

-- the first of some words, as no use; where there is none, one that does nothing
abbrev pub lone_cell : List Cell → Cell
lone_cell [] = plain integer.nop4_form
lone_cell (c ∷ cs) = record c { site = None }

-- some words are one, which is no use, and at which no call is recorded
abbrev pub is_lone_cells : List Cell → Bool
is_lone_cells [] = false
is_lone_cells (c ∷ []) = is_none c.site && not c.marks.call
is_lone_cells (c ∷ d ∷ cs) = false

-- an instruction of a list that a frame restores is its only word, which is no use; no instruction
-- with other words may stand there
abbrev pub restored_cell : FrameLayout → EmitFlags → Inst → Cell
restored_cell frame flags inst =
    lone_cell (shape_cells (elim (access_of inst) [
      | None ↦ plain_shape frame flags inst
      | Some access ↦ access_shape frame access
    ]))

-- the saved frame pointer and return address, where they were saved
abbrev pub frame_forms : ℕ → List Form
frame_forms setup =
    if nat_eq setup 0 then []
    else memory.pair_form 1 (integer_register 29) (integer_register 30)
    (pairs.SPPostIndexed (record { value = pos setup; scale_ty = I64 })) ∷ []

-- the return address is authenticated, where a key says so, and where it was saved or all return
-- addresses are signed
abbrev pub key_forms : ℕ → Bool → Option APIKey → List Form
key_forms setup all None = []
key_forms setup all (Some key) = if nat_lt 0 setup || all then control.auti_form key ∷ [] else []

-- the words before the branch of a return that calls, behind the restored instructions
abbrev pub leave_forms : FrameLayout → ℕ → Option APIKey → Bool → List Form
leave_forms frame size key all =
    frame_forms frame.setup_area_size ++ adjust_forms (pos frame.tail_args_size -ℤ pos size)
    ++ key_forms frame.setup_area_size all key

-- the branch, behind which no function returns but from which this one is left as by a call
abbrev pub return_form : Callee → Form
return_form (Symbol name) = control.jump_form (branch_targets.ResolvedOffset (pos 0))
return_form (Address reg) = control.indirect_br_form reg

abbrev pub return_cell : Callee → Cell
return_cell callee = record {
  body = FormOf (return_form callee);
  site = None;
  marks = call_marks callee None;
}

-- a return that calls another function
abbrev pub return_cells : FrameLayout → EmitFlags → Callee → ℕ → Option APIKey → Bool → List Cell
return_cells frame flags callee size key all =
    map (restored_cell frame flags) frame.restore ++ map plain (leave_forms frame size key all)
    ++ return_cell callee ∷ []

-- an instruction that is no load or store of one register
abbrev pub other_shape : FrameLayout → EmitFlags → Inst → Shape
other_shape frame flags (insts.Call info) =
    Words (if info.patchable then patchable_cells (Symbol info.dest) info.callee_pop_size
    else call_cells frame (Symbol info.dest) info.defs info.callee_pop_size)
other_shape frame flags (insts.CallInd info) =
    Words (call_cells frame (Address info.dest) info.defs info.callee_pop_size)
other_shape frame flags (insts.ReturnCall info) =
    Words (return_cells frame flags (Symbol info.dest) info.new_stack_arg_size info.key
    info.sign_return_address_all)
other_shape frame flags (insts.ReturnCallInd info) =
    Words (return_cells frame flags (Address info.dest) info.new_stack_arg_size info.key
    info.sign_return_address_all)
other_shape frame flags inst = plain_shape frame flags inst

abbrev pub shape_of : FrameLayout → EmitFlags → Inst → Shape
shape_of frame flags inst =
    elim (access_of inst) [
      | None ↦ other_shape frame flags inst
      | Some access ↦ access_shape frame access
    ]

-- the word of an instruction that is one word without a use
abbrev pub only_word : Shape → Option ℕ
only_word (OneWord form) = Some (form_word form)
only_word (Several forms body site trap) = None
only_word (Words cells) = None

-- the words of another instruction
abbrev pub other_cells : Shape → List Cell
other_cells (OneWord form) = []
other_cells (Several forms body site trap) = several forms body site trap
other_cells (Words cells) = cells

-- the words of an instruction
abbrev pub inst_cells : FrameLayout → EmitFlags → Inst → List Cell
inst_cells frame flags inst = shape_cells (shape_of frame flags inst)

-- the map of the stack that is kept at an instruction counts where it is a call that returns behind
-- it
abbrev pub kept_by : Inst → Option UserStackMap → Option UserStackMap
kept_by (insts.Call info) kept = kept
kept_by (insts.CallInd info) kept = kept
kept_by _ kept = None

-- words with a map of the stack recorded at the first, where there is one
abbrev pub keep : Option UserStackMap → List Cell → List Cell
keep None cells = cells
keep (Some kept) [] = []
keep (Some kept) (c ∷ cs) = record c { marks = record c.marks { map = Some kept } } ∷ cs

-- the words of an instruction at which a map is kept
abbrev pub kept_cells : FrameLayout → EmitFlags → Inst → Option UserStackMap → List Cell
kept_cells frame flags inst kept = keep (kept_by inst kept) (inst_cells frame flags inst)

-- the words of an item
abbrev pub cells_of : FrameLayout → EmitFlags → Item → List Cell
cells_of frame flags (Bind label) = []
cells_of frame flags (Emit inst kept) = kept_cells frame flags inst kept

-- the words of all items, in order
abbrev pub all_cells : FrameLayout → EmitFlags → List Item → List Cell
all_cells frame flags items = flat_map (cells_of frame flags) items

-- ---- uses

-- the uses of words, in order
abbrev pub sites_of : List Cell → List Site
sites_of cells = filter_map (λ cell. cell.site) cells

-- the use of a word, which has this index
abbrev pub use_of : ℕ → Option Site → List CellUse
use_of n None = []
use_of n (Some site) = record { cell = n; site = site } ∷ []

-- the uses of words with the words' indices, of which the first is n
abbrev pub uses_of : ℕ → List Cell → List CellUse
uses_of n [] = []
uses_of n (c ∷ cs) = use_of n c.site ++ uses_of (n + 1) cs

-- the uses of an instruction's words
abbrev pub inst_uses : FrameLayout → EmitFlags → Inst → List CellUse
inst_uses frame flags inst = uses_of 0 (inst_cells frame flags inst)

-- the uses of words of which only the first two may be uses
abbrev pub two_uses : Option Site → Option Site → List CellUse
two_uses first second = use_of 0 first ++ use_of 1 second

-- the uses of the entries of a table, of which the first is the word with this index
abbrev pub table_uses : ℕ → List MachLabel → List CellUse
table_uses n [] = []
table_uses n (label ∷ labels) = use_of n (Some (entry_site label)) ++ table_uses (n + 1) labels

-- the uses of an instruction's words: of the first two, or of the entries of a table behind those
abbrev pub listed_uses : Uses → List CellUse
listed_uses uses = two_uses uses.first uses.second ++ elim uses.table [
  | None ↦ []
  | Some table ↦ table_uses table.first (table_labels table.default table.targets.now)
]
