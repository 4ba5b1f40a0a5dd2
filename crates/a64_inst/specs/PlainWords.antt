-- What plain words are, and when their fields fit.
use Rattle.std.specs.Prelude.{Bool, true, false, ◌&&◌, List, [], ◌∷◌}
use Rattle.a64_inst.specs.declared.group.Group.{Group}
use Rattle.a64_inst.specs.declared.group.Group.TheVariants as groups
use Rattle.a64_operand.specs.declared.virtuals.VirtualRegisters.{VirtualRegisters}
use Rattle.a64_inst.specs.Fields.{Field, Def, Use, Is}
use Rattle.a64_operand.specs.Operands.{is_of}

-- a group whose instructions are one plain word each
abbrev pub is_plain : Group → Bool
is_plain (groups.Plain group) = true
is_plain _ = false

-- the registers are of their classes, and the rest holds
abbrev pub fields_fit : VirtualRegisters → List Field → Bool → Bool
fields_fit virtuals [] rest = rest
fields_fit virtuals (Def class reg ∷ others) rest =
    is_of virtuals class reg && fields_fit virtuals others rest
fields_fit virtuals (Use class reg ∷ others) rest =
    is_of virtuals class reg && fields_fit virtuals others rest
fields_fit virtuals (Is operand ∷ others) rest = fields_fit virtuals others rest
