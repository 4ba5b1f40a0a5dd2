-- A name and its operands, and the pairs of registers behind a name.
use Rattle.std.specs.Prelude.{ℕ, List, [], ◌∷◌, ◌++◌, codes}
use Rattle.std.specs.List.{flat_map}
use Rattle.a64_operand_text.specs.declared.operand.Operand.{Operand}
use Rattle.a64_operand_text.specs.Operands.{operand_text}

-- an operand behind another
abbrev pub behind_text : Operand → List ℕ
behind_text operand = codes ", " ++ operand_text operand

-- a name, and the operands behind it
unfoldable pub line_text : List ℕ → List Operand → List ℕ
line_text name [] = name
line_text name (first ∷ rest) =
    name ++ (codes " " ++ (operand_text first ++ flat_map behind_text rest))

-- two lines of one instruction
unfoldable pub two_lines_text : List ℕ → List Operand → List ℕ → List Operand → List ℕ
two_lines_text name operands second_name second_operands =
    line_text name operands ++ (codes " ; " ++ line_text second_name second_operands)
