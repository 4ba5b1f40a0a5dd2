-- Operands in the text of an instruction.
use Rattle.std.specs.Prelude.{ℕ, List, [], ◌++◌, codes}
use Rattle.std.specs.Fmt.{decimal, signed_decimal}
use Rattle.a64_base.specs.declared.entity.ExternalName.{ExternalName}
use Rattle.a64_base.specs.declared.size.OperandSize.TheVariants.{Size64}
use Rattle.a64_base.specs.declared.size.ScalarSize.{ScalarSize}
use Rattle.a64_base.specs.declared.size.ScalarSize.TheVariants as scalars
use Rattle.a64_base.specs.declared.size.VectorSize.TheVariants.{Size8x16}
use Rattle.a64_base.specs.Conditions.{condition_name}
use Rattle.a64_base.specs.RegisterText.{sized_text, scalar_text, vector_text, element_text}
use Rattle.a64_base.specs.Shifts.{shift_text, extend_name}
use Rattle.a64_base.specs.Target.{target_text}
use Rattle.a64_imms.specs.declared.asimd_fp.ASIMDFPModImm.{ASIMDFPModImm}
use Rattle.a64_imms.specs.Flags.{flags_of, nzcv_text}
use Rattle.a64_imms.specs.FloatImms.{float_text}
use Rattle.a64_imms.specs.MovImms.{mov_text}
use Rattle.a64_imms.specs.MoveWides.{wide_text}
use Rattle.a64_imms.specs.Texts.{number_text}
use Rattle.a64_inst.specs.ModeTexts.{pair_text}
use Rattle.a64_operand_text.specs.declared.operand.Operand.{Operand}
use Rattle.a64_operand_text.specs.declared.operand.Operand.TheVariants as operand

-- a float immediate; none at a size that has no floats
abbrev pub sized_float_text : ScalarSize → ASIMDFPModImm → List ℕ
sized_float_text scalars.Size8 imm = []
sized_float_text scalars.Size128 imm = []
sized_float_text _ imm = float_text imm

-- a symbol
abbrev pub symbol_text : ExternalName → List ℕ
symbol_text name = codes "userextname" ++ decimal name.0

-- an operand
abbrev pub operand_text : Operand → List ℕ
operand_text (operand.X reg) = sized_text Size64 reg
operand_text (operand.Sized size reg) = sized_text size reg
operand_text (operand.Scalar scalar reg) = scalar_text scalar reg
operand_text (operand.Bytes reg) = vector_text Size8x16 reg
operand_text (operand.Vector size reg) = vector_text size reg
operand_text (operand.Element idx scalar reg) = element_text idx scalar reg
operand_text (operand.Table size reg) = codes "{ " ++ (vector_text size reg ++ codes " }")
operand_text (operand.TablePair reg second) =
    codes "{ "
    ++ (vector_text Size8x16 reg ++ (codes ", " ++ (vector_text Size8x16 second ++ codes " }")))
operand_text (operand.Number number) = number_text number
operand_text operand.FloatZero = codes "#0.0"
operand_text (operand.Wide imm) = wide_text imm
operand_text (operand.VectorImm imm) = mov_text imm
operand_text (operand.FloatImm imm) = sized_float_text imm.size imm
operand_text (operand.Flags nzcv) = nzcv_text (flags_of nzcv)
operand_text operand.Nzcv = codes "nzcv"
operand_text (operand.Near offset) = codes "pc+" ++ signed_decimal offset
operand_text (operand.Target target) = target_text target
operand_text (operand.Trap code) = codes "#trap=" ++ decimal code.0
operand_text (operand.Condition cond) = condition_name cond
operand_text (operand.Shift shifted) = shift_text shifted
operand_text (operand.Extend op) = extend_name op
operand_text (operand.Base reg) = codes "[" ++ (sized_text Size64 reg ++ codes "]")
operand_text (operand.TableEntry base index) =
    codes "["
    ++ (sized_text Size64 base ++ (codes ", " ++ (sized_text Size64 index ++ codes ", uxtw #2]")))
operand_text (operand.PairMode mem) = pair_text mem
operand_text (operand.Symbol name) = symbol_text name
operand_text (operand.SymbolOffset name offset) =
    symbol_text name ++ (codes "+" ++ signed_decimal offset)
