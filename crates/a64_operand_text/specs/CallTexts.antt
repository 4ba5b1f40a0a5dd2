-- The texts of calls, and of returns that call.
use Rattle.std.specs.Prelude.{ℕ, List, [], ◌∷◌, ◌++◌, codes}
use Rattle.std.specs.Fmt.{decimal}
use Rattle.std.specs.List.{flat_map}
use Rattle.a64_inst.specs.declared.call.CallArgPair.{CallArgPair}
use Rattle.a64_operand_text.specs.declared.operand.Operand.{Operand}
use Rattle.a64_operand_text.specs.Lines.{line_text}
use Rattle.a64_operand_text.specs.SequenceTexts.{pair_text}

abbrev pub call_arg_text : CallArgPair → List ℕ
call_arg_text pair = pair_text pair.vreg pair.preg

-- what stands behind the function of a return that calls: the bytes of its arguments, and its
-- registers
unfoldable pub return_part : ℕ → List CallArgPair → List ℕ
return_part bytes uses =
    codes " new_stack_arg_size:" ++ (decimal bytes ++ flat_map call_arg_text uses)

-- a return that calls: its name, its function, and what stands behind that
abbrev pub return_call_text : List ℕ → Operand → ℕ → List CallArgPair → List ℕ
return_call_text name callee bytes uses = line_text name (callee ∷ []) ++ return_part bytes uses
