-- The texts of sequences.
use Rattle.std.specs.Prelude.{ℕ, pos, List, [], ◌∷◌, ◌++◌, codes, length}
use Rattle.std.specs.Fmt.{decimal}
use Rattle.std.specs.List.{flat_map}
use Rattle.a64_base.specs.declared.cond.Cond.{Cond}
use Rattle.a64_base.specs.declared.cond.Cond.TheVariants.{Lo}
use Rattle.a64_base.specs.declared.entity.MachLabel.{MachLabel}
use Rattle.a64_base.specs.declared.ir_type.IrType.{IrType}
use Rattle.a64_base.specs.declared.reg.Reg.{Reg}
use Rattle.a64_base.specs.declared.size.OperandSize.TheVariants.{Size64}
use Rattle.a64_base.specs.declared.target.BranchTarget.TheVariants.{Label}
use Rattle.a64_base.specs.RegisterText.{sized_text}
use Rattle.a64_base.specs.Types.{type_bits}
use Rattle.a64_inst.specs.declared.pair.ArgPair.{ArgPair}
use Rattle.a64_inst.specs.declared.pair.RetPair.{RetPair}
use Rattle.a64_ops.specs.declared.operator.AtomicRMWLoopOp.{AtomicRMWLoopOp}
use Rattle.a64_ops.specs.Names.{atomic_rmw_loop_op_name}
use Rattle.a64_operand_text.specs.declared.operand.Operand.TheVariants as operand
use Rattle.a64_operand_text.specs.Lines.{line_text, two_lines_text}

-- the register that a function knows a value by, and that in which the value is passed
abbrev pub pair_text : Reg → Reg → List ℕ
pair_text vreg preg = codes " " ++ (sized_text Size64 vreg ++ (codes "=" ++ sized_text Size64 preg))

abbrev pub arg_text : ArgPair → List ℕ
arg_text pair = pair_text pair.vreg pair.preg

abbrev pub ret_text : RetPair → List ℕ
ret_text pair = pair_text pair.vreg pair.preg

-- the registers in which arguments come, and those in which results go
abbrev pub args_text : List ArgPair → List ℕ
args_text args = codes "args" ++ flat_map arg_text args

abbrev pub rets_text : List RetPair → List ℕ
rets_text rets = codes "rets" ++ flat_map ret_text rets

-- a label behind another
abbrev pub behind_label_text : MachLabel → List ℕ
behind_label_text label = codes ", label" ++ decimal label.0

-- labels, with commas between them
unfoldable pub labels_text : List MachLabel → List ℕ
labels_text [] = []
labels_text (first ∷ rest) = codes "label" ++ (decimal first.0 ++ flat_map behind_label_text rest)

-- a list of labels behind a name
unfoldable pub label_list_text : List ℕ → List MachLabel → List ℕ
label_list_text name labels = name ++ (codes " [" ++ (labels_text labels ++ codes "]"))

-- the part of a jump by a table that keeps the index below the number of entries
unfoldable pub table_bound_text : ℕ → Reg → Reg → List ℕ
table_bound_text count ridx rtmp2 =
    two_lines_text (codes "mov") (operand.X rtmp2 ∷ operand.Number count ∷ [])
    (codes "csel") (operand.X rtmp2 ∷ operand.X ridx ∷ operand.X rtmp2 ∷ operand.Condition Lo ∷ [])

-- the part that reads the entry, which stands behind the jump
unfoldable pub table_entry_text : Reg → Reg → List ℕ
table_entry_text rtmp1 rtmp2 =
    two_lines_text (codes "adr") (operand.X rtmp1 ∷ operand.Near (pos 16) ∷ [])
    (codes "ldrsw") (operand.X rtmp2 ∷ operand.TableEntry rtmp1 rtmp2 ∷ [])

-- the part that adds the entry to the table's address, and jumps there
unfoldable pub table_jump_text : Reg → Reg → List ℕ
table_jump_text rtmp1 rtmp2 =
    two_lines_text (codes "add") (operand.X rtmp1 ∷ operand.X rtmp1 ∷ operand.X rtmp2 ∷ [])
    (codes "br") (operand.X rtmp1 ∷ [])

-- the entries, and where the jump goes without one
unfoldable pub table_targets_text : MachLabel → List MachLabel → List ℕ
table_targets_text default targets =
    label_list_text (codes "jt_entries") targets
    ++ (codes " ; " ++ line_text (codes "default") (operand.Target (Label default) ∷ []))

-- a jump by a table
unfoldable pub jt_sequence_text : MachLabel → List MachLabel → Reg → Reg → Reg → List ℕ
jt_sequence_text default targets ridx rtmp1 rtmp2 =
    table_bound_text (length targets) ridx rtmp2
    ++ (codes " ; csdb ; "
    ++ (table_entry_text rtmp1 rtmp2
    ++ (codes " ; "
    ++ (table_jump_text rtmp1 rtmp2 ++ (codes " ; " ++ table_targets_text default targets)))))

-- a register behind its name
abbrev pub named_text : List ℕ → Reg → List ℕ
named_text name reg = name ++ sized_text Size64 reg

-- the registers of a loop that changes memory by an operator
unfoldable pub rmw_loop_registers_text : Reg → Reg → Reg → Reg → Reg → List ℕ
rmw_loop_registers_text addr value oldval scratch1 scratch2 =
    named_text (codes " addr=") addr
    ++ (named_text (codes " operand=") value
    ++ (named_text (codes " oldval=") oldval
    ++ (named_text (codes " scratch1=") scratch1 ++ named_text (codes " scratch2=") scratch2)))

-- the name of a loop that changes memory by an operator, with the operator and the bits
unfoldable pub rmw_loop_name : AtomicRMWLoopOp → IrType → List ℕ
rmw_loop_name op ty =
    codes "atomic_rmw_loop_"
    ++ (atomic_rmw_loop_op_name op ++ (codes "_" ++ decimal (type_bits ty)))

-- the registers of a loop that compares memory and replaces it
unfoldable pub cas_loop_registers_text : Reg → Reg → Reg → Reg → Reg → List ℕ
cas_loop_registers_text addr expected replacement oldval scratch =
    named_text (codes " addr=") addr
    ++ (named_text (codes ", expect=") expected
    ++ (named_text (codes ", replacement=") replacement
    ++ (named_text (codes ", oldval=") oldval ++ named_text (codes ", scratch=") scratch)))

-- a loop that changes memory by an operator
unfoldable pub rmw_loop_text : AtomicRMWLoopOp → IrType → Reg → Reg → Reg → Reg → Reg → List ℕ
rmw_loop_text op ty addr value oldval scratch1 scratch2 =
    rmw_loop_name op ty ++ rmw_loop_registers_text addr value oldval scratch1 scratch2

-- a loop that compares memory and replaces it: its name with the bits, and its registers
unfoldable pub cas_loop_text : IrType → Reg → Reg → Reg → Reg → Reg → List ℕ
cas_loop_text ty addr expected replacement oldval scratch =
    codes "atomic_cas_loop_"
    ++ (decimal (type_bits ty)
    ++ cas_loop_registers_text addr expected replacement oldval scratch)

-- a choice between vectors
unfoldable pub vec_csel_text : Reg → Reg → Reg → Cond → List ℕ
vec_csel_text rd rn rm cond =
    line_text (codes "vcsel") (operand.Bytes rd ∷ operand.Bytes rn ∷ operand.Bytes rm
    ∷ operand.Condition cond ∷ []) ++ codes " (if-then-else diamond)"
