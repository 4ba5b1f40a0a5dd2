-- Items that are added one after another, and what their assembly is told beside them.
use Rattle.std.specs.Prelude.{
  ℕ,
  ◌≡◌,
  ◌⊎◌,
  ◌+◌,
  ◌^◌,
  ◌≤◌,
  List,
  [],
  ◌∷◌,
  ◌++◌,
  length,
  false,
  Option,
  None,
  OnOk,
  OnErr,
  Result,
  IfErr,
  ⊤,
}
use Rattle.std.specs.FinMap.{FinMap, empty, get}
use Rattle.std.specs.Ordering.{nat_cmp}
use Rattle.a64_base.specs.declared.convention.CallConv.TheVariants.{SystemV}
use Rattle.a64_base.specs.declared.entity.MachLabel.{MachLabel}
use Rattle.a64_base.specs.declared.reg.PReg.{PReg}
use Rattle.a64_base.specs.declared.cond.CondBrKind.{CondBrKind}
use Rattle.a64_base.specs.declared.target.BranchTarget.TheVariants.{Label}
use Rattle.a64_base.specs.Sets.{has}
use Rattle.a64_buffer.specs.declared.force.ForceVeneers.{ForceVeneers}
use Rattle.a64_buffer.specs.declared.force.ForceVeneers.TheVariants.{No}
use Rattle.a64_inst.specs.declared.call.CallInfo.{CallInfo}
use Rattle.a64_inst.specs.declared.emission.EmitFlags.{EmitFlags}
use Rattle.a64_inst.specs.declared.frame.FrameLayout.{FrameLayout}
use Rattle.a64_inst.specs.declared.inst.Inst.{Inst}
use Rattle.a64_inst.specs.declared.inst.Inst.TheVariants.{CondBr}
use Rattle.a64_inst.specs.declared.item.Item.{Item}
use Rattle.a64_inst.specs.declared.item.Item.TheVariants.{Bind, Emit}
use Rattle.a64_emit.specs.declared.error.EmitError.{EmitError}
use Rattle.a64_emit.specs.ShownFaults.{first_shown_fault}
use Rattle.a64_assembler.specs.declared.error.AddError.{AddError}
use Rattle.a64_assembler.specs.declared.error.AddError.TheVariants.{TooMany, BadLength, OutOfMemory}

-- constants by their numbers, and how many numbers were given out
pub record Pool : Type 0 where
  pub constants : FinMap nat_cmp (List ℕ)
  pub numbers : ℕ

-- no constant has this number or a greater one
abbrev pub IsFresh : FinMap nat_cmp (List ℕ) → ℕ → Type 0
IsFresh constants number = (k : ℕ) → number ≤ k → get constants k ≡ None

-- what was added: items in their order and constants by their numbers; what their assembly is told
-- beside these; and how many labels and constants were given out
pub record Assembly : Type 0 where
  pub items : List Item
  pub constants : FinMap nat_cmp (List ℕ)
  pub frame : FrameLayout
  pub flags : EmitFlags
  pub force : ForceVeneers
  pub labels : ℕ
  pub numbers : ℕ

-- nothing: no frame, and no setting is on
abbrev pub nothing : Assembly
nothing = record {
  items = [];
  constants = empty;
  frame = record {
    setup_area_size = 0;
    tail_args_size = 0;
    clobber_size = 0;
    fixed_frame_storage_size = 0;
    outgoing_args_size = 0;
    restore = [];
  };
  flags = record {
    enable_probestack = false;
    enable_table_access_spectre_mitigation = false;
    use_csdb = false;
  };
  force = No;
  labels = 0;
  numbers = 0;
}

-- the same with some items more
abbrev pub with_items : Assembly → List Item → Assembly
with_items a more = record a { items = a.items ++ more }

-- why the items are not listed, where one of them cannot be shown
abbrev pub shown_fault_in : Assembly → Option EmitError
shown_fault_in a = first_shown_fault a.frame a.flags a.constants a.items

-- instructions as items without maps of the stack
abbrev pub emitted : Inst → Item
emitted inst = Emit inst None

-- of its kind there would be 2^32
abbrev pub IsFull : ℕ → ℕ → Type 0
IsFull count more = 2 ^ 32 ≤ count + more

-- why no more items were added: there would be too many, or memory was missing
abbrev pub IsCause : ℕ → ℕ → AddError → Type 0
IsCause count more TooMany = IsFull count more
IsCause count more BadLength = ⊥
IsCause count more OutOfMemory = ⊤

-- what a call leaves that adds items: they stand behind the others, or nothing has changed
pub record Adds {T : Type 0} (more : List Item) (result : Result T AddError) (a a' : Assembly) :
    Type 0 where
  pub ok : OnOk result (a' ≡ with_items a more)
  pub err : OnErr result (a' ≡ a)
  pub cause : IfErr result (IsCause (length a.items) (length more))

-- the label with this number
abbrev pub label_at : ℕ → MachLabel
label_at number = record { 0 = number }

-- a branch where a test succeeds, to a label; else execution goes on behind it, where this label is
-- bound
abbrev pub branch_items : CondBrKind → MachLabel → MachLabel → List Item
branch_items kind taken next = emitted (CondBr (Label taken) (Label next) kind) ∷ Bind next ∷ []

-- why no branch was added: there would be too many items or labels, or memory was missing
abbrev pub IsBranchCause : Assembly → AddError → Type 0
IsBranchCause a TooMany = IsFull (length a.items) 2 ⊎ IsFull a.labels 1
IsBranchCause a BadLength = ⊥
IsBranchCause a OutOfMemory = ⊤

-- what a conditional branch leaves: its items, and one label less to give out; or nothing has
-- changed
pub record AddsBranch {T : Type 0} (kind : CondBrKind) (taken : MachLabel)
    (result : Result T AddError) (a a' : Assembly) : Type 0 where
  pub ok : OnOk result (a'
      ≡ record (with_items a (branch_items kind taken (label_at a.labels)))
      { labels = a.labels + 1 })
  pub err : OnErr result (a' ≡ a)
  pub cause : IfErr result (IsBranchCause a)

-- a call that passes nothing and gets nothing back, by the standard convention
pub record IsPlainCall {T : Type 0} (to : T) (info : CallInfo T) : Type 0 where
  pub dest : info.dest ≡ to
  pub uses : info.uses ≡ []
  pub defs : info.defs ≡ []
  pub clobbers : (reg : PReg) → has info.clobbers reg ≡ false
  pub caller : info.caller_conv ≡ SystemV
  pub callee : info.callee_conv ≡ SystemV
  pub pop : info.callee_pop_size ≡ 0
  pub patchable : info.patchable ≡ false

-- an instruction is a call that passes nothing and gets nothing back: of a symbol by `Call`, of an
-- address in a register by `CallInd`
abbrev pub IsPlain : {T : Type 0} → (CallInfo T → Inst) → T → Inst → Type 0
IsPlain {T} call to inst = (info : CallInfo T) × IsPlainCall to info × (inst ≡ call info)

-- what adding such a call leaves
abbrev pub AddsCall : {T S : Type 0} → (CallInfo S → Inst) → S → Result T AddError → Assembly
    → Assembly → Type 0
AddsCall call to result a a' =
    (inst : Inst) × IsPlain call to inst × Adds (emitted inst ∷ []) result a a'
