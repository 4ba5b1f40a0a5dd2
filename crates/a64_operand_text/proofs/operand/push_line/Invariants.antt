use Rattle.std.proofs.Common.{◌≡◌, ◌++◌, drop}
use Rattle.std.specs.String.{string_bytes}
use Rattle.a64_operand_text.proofs.LineSteps.{operands_text}
use Rattle.a64_operand_text.specs.Lines.{line_text}
use Rattle.a64_operand_text.proofs.operand.push_line.Given as goal

-- the operands that are left make the text whole
abbrev pub invariant-loop-operand : goal.invariant-loop-operand
invariant-loop-operand l =
    string_bytes l.out ++ operands_text l.is_first (drop l.operand-index l.operands) ≡ string_bytes l.fn.out ++ line_text l.name l.operands
