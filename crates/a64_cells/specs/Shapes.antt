-- Cells, which are the words of instructions, and shapes, which are what instructions are made of.
use Rattle.std.specs.Prelude.{ℕ, ℤ, pos, negsuc, Bool, false, ◌+◌, ◌*◌, ◌&&◌, List, [], ◌∷◌, ◌++◌}
use Rattle.std.specs.Prelude.{length, map, if◌then◌else◌, Option, None, Some}
use Rattle.std.specs.Ordering.{int_eq}
use Rattle.std.specs.Int.RustNames.{unsigned_abs}
use Rattle.a64_base.specs.declared.cond.Cond.TheVariants.{Gt, Lo}
use Rattle.a64_base.specs.declared.cond.Cond.{Cond}
use Rattle.a64_base.specs.declared.cond.CondBrKind.TheVariants as tests
use Rattle.a64_base.specs.declared.entity.ExternalName.{ExternalName}
use Rattle.a64_base.specs.declared.entity.MachLabel.{MachLabel}
use Rattle.a64_base.specs.declared.entity.Reloc.{Reloc}
use Rattle.a64_base.specs.declared.entity.Reloc.TheVariants.{Abs8, Aarch64AdrGotPage21}
use Rattle.a64_base.specs.declared.entity.Reloc.TheVariants.{Aarch64Ld64GotLo12Nc}
use Rattle.a64_base.specs.declared.entity.Reloc.TheVariants.{Aarch64AdrPrelPgHi21}
use Rattle.a64_base.specs.declared.entity.Reloc.TheVariants.{Aarch64AddAbsLo12Nc}
use Rattle.a64_base.specs.declared.entity.TrapCode.{TrapCode}
use Rattle.a64_base.specs.declared.entity.UserStackMap.{UserStackMap}
use Rattle.a64_base.specs.declared.reg.Reg.{Reg}
use Rattle.a64_base.specs.declared.ir_type.IrType.{IrType}
use Rattle.a64_base.specs.Registers.{integer_register}
use Rattle.a64_imms.specs.declared.imm12.Imm12.{Imm12}
use Rattle.a64_ops.specs.declared.access.AccessOp.TheVariants.{SLoad32, Store32, ULoad64}
use Rattle.a64_ops.specs.declared.operator.ALUOp.TheVariants as alu
use Rattle.a64_ops.specs.declared.operator.AtomicRMWLoopOp.{AtomicRMWLoopOp}
use Rattle.a64_plan.specs.Plans.{plan_of}
use Rattle.a64_inst.specs.declared.mode.AMode.TheVariants as modes
use Rattle.a64_inst.specs.FinalModes.{FinalMode, SignedOffset, ScaledOffset, Other}
use Rattle.a64_inst.specs.MemoryOperands.{is_addend}
use Rattle.a64_operand.specs.Operands.{is_same_register}
use Rattle.a64_base.specs.declared.size.OperandSize.TheVariants.{Size64}
use Rattle.a64_base.specs.declared.target.BranchTarget.{BranchTarget}
use Rattle.a64_base.specs.declared.target.BranchTarget.TheVariants as branch_targets
use Rattle.a64_inst.specs.declared.emission.EmitFlags.{EmitFlags}
use Rattle.a64_buffer.specs.declared.site.Target.TheVariants.{Label, Trap}
use Rattle.a64_label_use.specs.declared.label_use.LabelUse.{LabelUse}
use Rattle.a64_label_use.specs.declared.label_use.LabelUse.TheVariants as uses
use Rattle.a64_cells.specs.declared.site.Site.{Site}
use Rattle.a64_rows.specs.Forms.{Form}
use Rattle.a64_cells.specs.FloatForms as float
use Rattle.a64_cells.specs.IntegerForms as integer
use Rattle.a64_cells.specs.LoopForms as loops
use Rattle.a64_cells.specs.ControlForms as control
use Rattle.a64_cells.specs.MemoryForms as memory

-- what a word is: a form of a row, or data
pub data Body : Type 0 where
  FormOf : Form → Body
  Data : ℕ → Body

-- a relocation: its kind, the symbol and the addend
abbrev pub Relocation : Type 0
Relocation = Reloc × ExternalName × ℤ

-- what is recorded at the place of a word: a trap, a relocation; and behind it: that a call returns
-- there, a map of the stack, and that a call ends there which may be changed later, of which this
-- word and those behind it are so many bytes
pub record Marks : Type 0 where
  pub trap : Option TrapCode
  pub reloc : Option Relocation
  pub call : Bool
  pub map : Option UserStackMap
  pub patchable : Option ℕ

abbrev pub no_marks : Marks
no_marks = record { trap = None; reloc = None; call = false; map = None; patchable = None }

-- what is recorded at a word that may trap
abbrev pub trap_marks : Option TrapCode → Marks
trap_marks trap = record no_marks { trap = trap }

-- at a word whose address or distance a linker fills in
abbrev pub reloc_marks : Reloc → ExternalName → ℤ → Marks
reloc_marks kind name addend = record no_marks { reloc = Some (kind, name, addend) }

-- one word of an item, with at most one use, and what is recorded at it. The field of a use is
-- zero; a use that adds its distance has its addend there.
pub record Cell : Type 0 where
  pub body : Body
  pub site : Option Site
  pub marks : Marks

-- a word without a use, at which nothing is recorded
abbrev pub plain : Form → Cell
plain form = record { body = FormOf form; site = None; marks = no_marks }

-- a word that may be a use, and may trap
abbrev pub last_cell : Body → Option Site → Option TrapCode → Cell
last_cell body site trap = record { body = body; site = site; marks = trap_marks trap }

-- a word without a use, at which a relocation is recorded
abbrev pub reloc_cell : Body → Reloc → ExternalName → ℤ → Cell
reloc_cell body kind name addend = record {
  body = body;
  site = None;
  marks = reloc_marks kind name addend;
}

-- words of which only the last may be a use, and may trap
abbrev pub several : List Form → Body → Option Site → Option TrapCode → List Cell
several forms body site trap = map plain forms ++ last_cell body site trap ∷ []

-- a branch, whose field is a use of the label, or has the offset already
abbrev pub branch_site : LabelUse → BranchTarget → Option Site
branch_site kind (branch_targets.Label label) = Some (record { kind = kind; target = Label label })
branch_site kind (branch_targets.ResolvedOffset offset) = None

abbrev pub branch : Form → LabelUse → BranchTarget → Cell
branch form kind dest = record {
  body = FormOf form;
  site = branch_site kind dest;
  marks = no_marks;
}

-- a branch to a trap word, which is still to come
abbrev pub trap_site : TrapCode → Site
trap_site code = record { kind = uses.Branch19; target = Trap code }

-- a conditional branch, and behind it a jump
abbrev pub branches : Form → LabelUse → BranchTarget → BranchTarget → List Cell
branches form kind taken not_taken =
    branch form kind taken ∷ branch (control.jump_form not_taken) uses.Branch26 not_taken ∷ []

-- a data word, at which nothing is recorded
abbrev pub data_cell : ℕ → Cell
data_cell word = last_cell (Data word) None None

-- an instruction is one word without a use, or several of which only the last may be a use and may
-- trap, or other words
pub data Shape : Type 0 where
  OneWord : Form → Shape
  Several : List Form → Body → Option Site → Option TrapCode → Shape
  Words : List Cell → Shape

-- words that are no use and do not trap
abbrev pub quiet : List Form → Form → Shape
quiet forms form = Several forms (FormOf form) None None

-- the address of a base and an offset: nothing where they are the result already, one addition
-- where it holds the offset, and else one of x17, which gets the offset before
abbrev pub sum_shape : Reg → Reg → ℤ → Shape
sum_shape rd rn offset =
    if int_eq offset (pos 0)
    then (if is_same_register rd rn then Words [] else quiet [] (integer.mov_form Size64 rd rn))
    else if is_addend (unsigned_abs offset) then quiet [] (memory.addend_form rd rn offset)
    else quiet (memory.step_forms memory.addend_register (plan_of (unsigned_abs offset)))
    (memory.sum_form rd rn offset)

-- the address of a mode, with the steps before it; other modes have none
abbrev pub address_shape : Reg → List Form → FinalMode → Shape
address_shape rd before (SignedOffset rn offset) = sum_shape rd rn offset
address_shape rd before (ScaledOffset rn offset ty) = sum_shape rd rn (pos offset)
address_shape rd before (Other (modes.RegExtended rn rm extendop)) =
    quiet before (integer.alu_rrr_extend_form alu.Add Size64 rd rn rm extendop)
address_shape rd before (Other _) = Words []

-- ---- sequences around tables, symbols and the stack

-- the labels of a table: its targets, and behind them the default
abbrev pub table_labels : MachLabel → List MachLabel → List MachLabel
table_labels default targets = targets ++ default ∷ []

-- the use that an entry of a table is
abbrev pub entry_site : MachLabel → Site
entry_site label = record { kind = uses.PCRel32; target = Label label }

-- the entries of a table from the one with this index on: each holds how far it stands from the
-- first, and its use adds the distance to its label
abbrev pub table_cells : ℕ → List MachLabel → List Cell
table_cells k [] = []
table_cells k (label ∷ labels) =
    last_cell (Data (4 * k)) (Some (entry_site label)) None ∷ table_cells (k + 1) labels

-- a barrier, where the settings ask for one behind the choice of an index
abbrev pub barrier_forms : EmitFlags → List Form
barrier_forms flags =
    if flags.enable_table_access_spectre_mitigation && flags.use_csdb then control.csdb_form ∷ []
    else []

-- a jump through a table of so many targets, which stands behind it: the index, or the number of
-- targets where it is none of theirs by the flags; the table's address; the entry; and both added
abbrev pub table_forms : EmitFlags → ℕ → Reg → Reg → Reg → List Form
table_forms flags n ridx rtmp1 rtmp2 =
    memory.step_forms rtmp2 (plan_of n)
    ++ integer.csel_form rtmp2 ridx rtmp2 Lo
    ∷ barrier_forms flags
    ++ integer.adr_form rtmp1 (pos 16)
    ∷ memory.indexed_form SLoad32 rtmp2 rtmp1 rtmp2 2 1
    ∷ integer.alu_rrr_form alu.Add Size64 rtmp1 rtmp1 rtmp2
    ∷ control.indirect_br_form rtmp1 ∷ []

abbrev pub table_jump : EmitFlags → MachLabel → List MachLabel → Reg → Reg → Reg → List Cell
table_jump flags default targets ridx rtmp1 rtmp2 =
    map plain (table_forms flags (length targets) ridx rtmp1 rtmp2)
    ++ table_cells 0 (table_labels default targets)

-- the address of a symbol: of the page of its entry in the global offset table, and the entry
abbrev pub got_cells : Reg → ExternalName → List Cell
got_cells rd name =
    reloc_cell (FormOf (integer.adrp_form rd (pos 0))) Aarch64AdrGotPage21 name (pos 0)
    ∷ reloc_cell (FormOf (memory.unsigned_form ULoad64 rd rd 0)) Aarch64Ld64GotLo12Nc name (pos 0)
    ∷ []

-- of its page, and its place there
abbrev pub near_cells : Reg → ExternalName → ℤ → List Cell
near_cells rd name offset =
    reloc_cell (FormOf (integer.adrp_form rd (pos 0))) Aarch64AdrPrelPgHi21 name offset
    ∷ reloc_cell (FormOf (integer.alu_rr_imm12_form alu.Add Size64 rd rd (record {
      bits = 0;
      shift12 = false;
    }))) Aarch64AddAbsLo12Nc name offset ∷ []

-- of eight bytes that hold it, behind a branch over them
abbrev pub far_cells : Reg → ExternalName → ℤ → List Cell
far_cells rd name offset =
    plain (memory.literal_form ULoad64 rd 2)
    ∷ plain (control.jump_form (branch_targets.ResolvedOffset (pos 12)))
    ∷ reloc_cell (Data 0) Abs8 name offset
    ∷ data_cell 0 ∷ []

-- a step down, a store of zero there, a comparison with the negated end, and a branch out of the
-- loop behind the one that goes on
abbrev pub probe_forms : Reg → Reg → Imm12 → List Form
probe_forms start end step =
    integer.alu_rr_imm12_form alu.Sub Size64 start start step
    ∷ memory.indexed_form Store32 (integer_register 31) (integer_register 63) start 3 0
    ∷ integer.alu_rrr_form alu.AddS Size64 (integer_register 31) start end
    ∷ control.cond_br_form (branch_targets.ResolvedOffset (negsuc 11)) (tests.Cond Gt)
    ∷ control.jump_form (branch_targets.ResolvedOffset (pos 4)) ∷ []

-- a branch over the next two words where the condition holds; the move of what the result is else,
-- and a branch over the next word; and the move of what it is where the condition holds
abbrev pub vector_select_forms : Reg → Reg → Reg → Cond → List Form
vector_select_forms rd rn rm cond =
    control.cond_br_form (branch_targets.ResolvedOffset (pos 12)) (tests.Cond cond)
    ∷ float.move_vector_form rd rm
    ∷ control.jump_form (branch_targets.ResolvedOffset (pos 8))
    ∷ float.move_vector_form rd rn ∷ []

-- ---- loops of atomic accesses

-- an exclusive load and an exclusive store, each of which may trap, words between them, and a
-- branch back to the load
abbrev pub loop_cells : IrType → List Form → Reg → Option TrapCode → List Cell
loop_cells ty between stored trap =
    last_cell (FormOf (loops.load_exclusive_form ty loops.old_register loops.address_register))
    None trap
    ∷ several between
    (FormOf (loops.store_exclusive_form ty loops.failed_register stored
    loops.address_register)) None trap
    ++ plain (loops.back_form (length between)) ∷ []

-- of an operation, and of a compare and swap
abbrev pub rmw_loop_cells : IrType → AtomicRMWLoopOp → Option TrapCode → List Cell
rmw_loop_cells ty op trap =
    loop_cells ty (loops.operator_forms ty op) (loops.stored_register op) trap

abbrev pub cas_loop_cells : IrType → Option TrapCode → List Cell
cas_loop_cells ty trap = loop_cells ty (loops.awaited_forms ty) loops.new_register trap
