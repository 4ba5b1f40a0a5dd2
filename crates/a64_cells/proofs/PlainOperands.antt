-- What holds of the operands of an instruction that is one plain word beside the classes of its registers.
use Rattle.std.proofs.Common.{◌≡◌, Bool, true, List, [], ◌∷◌}
use Rattle.std.proofs.lemmas.Bool.{and_parts}
use Rattle.a64_inst.specs.declared.inst.Inst.{Inst}
use Rattle.a64_operand.specs.declared.virtuals.VirtualRegisters.TheVariants.{Refused}
use Rattle.a64_inst.specs.Fields.{Field, Def, Use, Is}
use Rattle.a64_inst.specs.PlainWords.{fields_fit}
use Rattle.a64_inst.specs.Sheets.{has_rest, sheet}
use Rattle.a64_operand.specs.Operands.{is_of}

rest_holds : (fields : List Field) (rest : Bool) → fields_fit Refused fields rest ≡ true → rest ≡ true
rest_holds [] rest e = e
rest_holds (Def class reg ∷ others) rest e = rest_holds others rest (and_parts (is_of Refused class reg) (fields_fit Refused others rest) e).1
rest_holds (Use class reg ∷ others) rest e = rest_holds others rest (and_parts (is_of Refused class reg) (fields_fit Refused others rest) e).1
rest_holds (Is operand ∷ others) rest e = rest_holds others rest e

pub rest_of : (inst : Inst) → fields_fit Refused (sheet inst) (has_rest Refused inst) ≡ true → has_rest Refused inst ≡ true
rest_of inst e = rest_holds (sheet inst) (has_rest Refused inst) e
