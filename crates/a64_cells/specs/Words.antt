-- What the words of instructions are asked for, and how they are put.
use Rattle.std.specs.Prelude.{ℕ, ◌≡◌, Bool, true, ◌&&◌, ◌||◌, nat_eq, List, [], ◌∷◌, ◌++◌, map}
use Rattle.std.specs.Prelude.{Option, None, Some, IfSome, IsSome}
use Rattle.std.specs.Ordering.{nat_cmp}
use Rattle.std.specs.FinMap.{FinMap, get}
use Rattle.a64_base.specs.declared.cond.CondBrKind.{CondBrKind}
use Rattle.a64_base.specs.declared.cond.TestBitAndBranchKind.{TestBitAndBranchKind}
use Rattle.a64_base.specs.declared.entity.MachLabel.{MachLabel}
use Rattle.a64_base.specs.declared.entity.TrapCode.{TrapCode}
use Rattle.a64_base.specs.declared.entity.UserStackMap.{UserStackMap}
use Rattle.a64_base.specs.declared.reg.Reg.{Reg}
use Rattle.a64_base.specs.declared.target.BranchTarget.{BranchTarget}
use Rattle.a64_base.specs.declared.target.BranchTarget.TheVariants as targets
use Rattle.a64_imms.specs.Scales.{type_bytes}
use Rattle.a64_ops.specs.declared.access.AccessOp.{AccessOp}
use Rattle.a64_plan.specs.declared.step.ConstStep.{ConstStep}
use Rattle.a64_plan.specs.declared.step.ConstStep.TheVariants as steps
use Rattle.a64_inst.specs.declared.emission.EmitFlags.{EmitFlags}
use Rattle.a64_inst.specs.declared.frame.FrameLayout.{FrameLayout}
use Rattle.a64_inst.specs.declared.inst.Inst.{Inst}
use Rattle.a64_operand.specs.declared.virtuals.VirtualRegisters.TheVariants.{Refused}
use Rattle.a64_inst.specs.Accesses.{access_type}
use Rattle.a64_inst.specs.Faults.{named_constant}
use Rattle.a64_inst.specs.FinalModes.{FinalMode, SignedOffset, ScaledOffset, Other}
use Rattle.a64_inst.specs.MemoryOperands as memory
use Rattle.a64_inst.specs.Modes.{is_offset9}
use Rattle.a64_operand.specs.Operands.{is_logic_of, is_register_or_stack, is_register_or_zero}
use Rattle.a64_operand.specs.Operands.{is_wide_in}
use Rattle.a64_rows.specs.Forms.{form_word}
use Rattle.a64_buffer.specs.declared.site.Target.TheVariants.{Label, Constant, Trap, IslandEnd}
use Rattle.a64_label_use.specs.declared.label_use.LabelUse.{LabelUse}
use Rattle.a64_label_use.specs.declared.label_use.LabelUse.TheVariants.{Adr21, Branch14, Branch19}
use Rattle.a64_label_use.specs.declared.label_use.LabelUse.TheVariants.{Branch26}
use Rattle.a64_cells.specs.declared.site.Site.{Site}
use Rattle.a64_label_use.specs.LabelUses.{urgency_of}
use Rattle.a64_cells.specs.ControlForms.{cond_br_form, jump_form, label_address_form}
use Rattle.a64_cells.specs.ControlForms.{test_bit_and_branch_form, trap_if_form}
use Rattle.a64_cells.specs.declared.word.exclusive.LoopWords.{LoopWords}
use Rattle.a64_cells.specs.declared.callee.Callee.{Callee}
use Rattle.a64_cells.specs.declared.callee.Callee.TheVariants.{Symbol, Address}
use Rattle.a64_cells.specs.Shapes.{Data, Cell, Shape, OneWord, Several, Words, last_cell}
use Rattle.a64_cells.specs.Shapes.{branch_site, trap_site}
use Rattle.a64_cells.specs.Cells.{body_word, call_marks, cell_word, shape_of, other_cells}

-- the immediate of a step is in its set
abbrev pub CanStep : ConstStep → Type 0
CanStep (steps.MovZ imm size) = is_wide_in size imm ≡ true
CanStep (steps.MovN imm size) = is_wide_in size imm ≡ true
CanStep (steps.MovK imm size) = is_wide_in size imm ≡ true
CanStep (steps.Orr imm) = is_logic_of imm.size imm ≡ true

-- the parts of a mode that stands in an instruction are in their sets, and the access has the mode
abbrev pub are_held_parts : AccessOp → FinalMode → Bool
are_held_parts op (SignedOffset rn offset) = is_register_or_stack Refused rn && is_offset9 offset
are_held_parts op (ScaledOffset rn offset ty) =
    is_register_or_stack Refused rn
    && (nat_eq offset 0 || nat_eq (type_bytes ty) (type_bytes (access_type op)))
are_held_parts op (Other mode) =
    memory.are_mode_parts Refused mode && memory.has_access_mode op mode

-- words are those of several cells, of which only the last may be a use and may trap
abbrev pub AreSeveral : List ℕ → ℕ → Option Site → Option TrapCode → Shape → Type 0
AreSeveral first last site trap (Several forms body own code) =
    (first ≡ map form_word forms) × (last ≡ body_word body) × (site ≡ own) × (trap ≡ code)
AreSeveral first last site trap (OneWord form) = ⊥
AreSeveral first last site trap (Words cells) = ⊥

-- a use may be put: it is of a label, of a constant that is there, or of a trap. Those that are not
-- of a label are of urgency 2.
abbrev pub MayBePut : FinMap nat_cmp (List ℕ) → Site → Type 0
MayBePut constants site = elim site.target [
  | Label label ↦ Unit {0}
  | Constant constant ↦ (urgency_of site.kind ≡ 2) × IsSome (get constants constant.0)
  | Trap code ↦ urgency_of site.kind ≡ 2
  | IslandEnd ↦ ⊥
]

-- the constant that an instruction loads, where it loads one, is there
abbrev pub IsThere : FinMap nat_cmp (List ℕ) → Inst → Type 0
IsThere constants inst = IfSome (named_constant inst) (λ addr. IsSome (get constants addr.0))

-- a word as it is put, which may be a use and may trap
abbrev pub put_cell : ℕ → Option Site → Option TrapCode → Cell
put_cell word site trap = last_cell (Data word) site trap

-- words as they are put, of which only the last may be a use and may trap
abbrev pub put_cells : List ℕ → ℕ → Option Site → Option TrapCode → List Cell
put_cells first last site trap =
    map (λ word. put_cell word None None) first ++ put_cell last site trap ∷ []

-- a jump as its word is put
abbrev pub put_jump : BranchTarget → List Cell
put_jump dest = put_cell (form_word (jump_form dest)) (branch_site Branch26 dest) None ∷ []

-- a conditional branch as its word is put, and behind it a jump
abbrev pub put_branches : ℕ → LabelUse → BranchTarget → BranchTarget → List Cell
put_branches word kind taken not_taken =
    put_cell word (branch_site kind taken) None ∷ put_jump not_taken

-- a branch on a condition, and one on a bit of a register, each with a jump behind it
abbrev pub put_cond_br : BranchTarget → BranchTarget → CondBrKind → List Cell
put_cond_br taken not_taken kind =
    put_branches (form_word (cond_br_form taken kind)) Branch19 taken not_taken

abbrev pub put_test_bit : TestBitAndBranchKind → BranchTarget → BranchTarget → Reg → ℕ → List Cell
put_test_bit kind taken not_taken rn bit =
    put_branches (form_word (test_bit_and_branch_form kind taken rn bit)) Branch14 taken not_taken

-- a word that branches to a trap word
abbrev pub put_trap_if : CondBrKind → TrapCode → List Cell
put_trap_if kind code = put_cell (form_word (trap_if_form kind)) (Some (trap_site code)) None ∷ []

-- the address of a label
abbrev pub put_label_address : Reg → MachLabel → List Cell
put_label_address dst label =
    put_cell (form_word (label_address_form dst)) (branch_site Adr21 (targets.Label label)) None
    ∷ []

-- a cell as its word is put
abbrev pub as_put : Cell → Cell
as_put cell = record { body = Data (cell_word cell); site = cell.site; marks = cell.marks }

-- the words of a loop as they are put: its store and the words between, and behind it the branch
-- back
abbrev pub put_rest : LoopWords → List Cell
put_rest words =
    put_cells words.store.first.items words.store.last None words.store.trap
    ++ put_cell words.back None None ∷ []

-- and before them the load, with its trap
abbrev pub put_loop : LoopWords → List Cell
put_loop words = put_cell words.load None words.load_trap ∷ put_rest words

-- words are those of a loop, none of which is a use
pub record AreLoop (words : LoopWords) (cells : List Cell) : Type 0 where
  pub site : words.store.site ≡ None
  pub put : put_loop words ≡ map as_put cells

-- what is put for an instruction that is not one word without a use
abbrev pub put_for : FrameLayout → EmitFlags → Inst → List Cell
put_for frame flags inst = map as_put (other_cells (shape_of frame flags inst))

-- an address that is called stands in a register
abbrev pub IsCalled : Callee → Type 0
IsCalled (Symbol name) = Unit {0}
IsCalled (Address reg) = is_register_or_zero Refused reg ≡ true

-- the word of a call as it is put, with a map of the stack behind it
abbrev pub put_kept : ℕ → Callee → Option UserStackMap → Cell
put_kept word callee kept = record {
  body = Data word;
  site = None;
  marks = record (call_marks callee None) { map = kept };
}
