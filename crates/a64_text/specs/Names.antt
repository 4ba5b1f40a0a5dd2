-- The names of entries, each with the kinds of its fields.
use Rattle.std.specs.Prelude.{ℕ, Bool, true, false, List, [], ◌∷◌, codes}
use Rattle.a64_text.specs.declared.name.ImmediateName.TheVariants as immediate
use Rattle.a64_text.specs.declared.name.FloatName.TheVariants as float
use Rattle.a64_text.specs.declared.name.VectorMoveName.TheVariants as vector_move
use Rattle.a64_text.specs.declared.name.Name.{Name}
use Rattle.a64_text.specs.declared.name.Name.TheVariants.{Immediate, Register, Float, Vector}
use Rattle.a64_text.specs.declared.name.Name.TheVariants.{VectorMove, System, Control, Sequence}
use Rattle.a64_text.specs.declared.name.Name.TheVariants.{Call, Pair, Memory, Access, Bind, Const}
use Rattle.a64_text.specs.declared.name.Name.TheVariants.{Frame, Flag}
use Rattle.a64_text.specs.Headings.{access_heading, call_heading, control_heading, float_heading}
use Rattle.a64_text.specs.Headings.{immediate_heading, memory_heading, pair_heading}
use Rattle.a64_text.specs.Headings.{register_heading, sequence_heading, system_heading}
use Rattle.a64_text.specs.Headings.{vector_heading, vector_move_heading}
use Rattle.a64_read.specs.Heading.{Heading}
use Rattle.a64_tokens.specs.declared.value.Kind.{Kind}
use Rattle.a64_tokens.specs.declared.value.Kind.TheVariants as kinds

-- the operation with a bitmask immediate, and the moves of floats and to lanes, whose immediates
-- their constructors give
abbrev pub logic_name : Name
logic_name = Immediate immediate.AluRRImmLogic

abbrev pub float_imm_name : Name
float_imm_name = Float float.FpuMoveFPImm

abbrev pub dup_float_name : Name
dup_float_name = VectorMove vector_move.VecDupFPImm

abbrev pub dup_name : Name
dup_name = VectorMove vector_move.VecDupImm

abbrev pub heading : Name → Heading
heading (Immediate name) = immediate_heading name
heading (Register name) = register_heading name
heading (Float name) = float_heading name
heading (Vector name) = vector_heading name
heading (VectorMove name) = vector_move_heading name
heading (System name) = system_heading name
heading (Control name) = control_heading name
heading (Sequence name) = sequence_heading name
heading (Call name) = call_heading name
heading (Pair name) = pair_heading name
heading (Memory name) = memory_heading name
heading (Access op) = access_heading op
heading Bind = record { text = codes "bind"; kinds = kinds.Label ∷ [] }
heading Const = record { text = codes "const"; kinds = kinds.U32 ∷ kinds.List ∷ [] }
heading Frame = record { text = codes "frame"; kinds = kinds.FrameField ∷ kinds.U32 ∷ [] }
heading Flag = record { text = codes "flag"; kinds = kinds.EmitFlag ∷ [] }

abbrev pub name_text : Name → List ℕ
name_text name = (heading name).text

abbrev pub kinds_of : Name → List Kind
kinds_of name = (heading name).kinds

-- whether a name is that of an instruction
abbrev pub names_inst : Name → Bool
names_inst Bind = false
names_inst Const = false
names_inst Frame = false
names_inst Flag = false
names_inst name = true
