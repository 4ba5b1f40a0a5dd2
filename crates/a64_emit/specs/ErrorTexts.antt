-- What refusals say.
use Rattle.std.specs.Prelude.{ℕ, ◌++◌, List, codes}
use Rattle.std.specs.Fmt.{decimal}
use Rattle.a64_emit.specs.declared.error.EmitError.{EmitError}
use Rattle.a64_emit.specs.declared.error.EmitError.TheVariants as errors

-- the sentence of each refusal
abbrev pub error_text : EmitError → List ℕ
error_text (errors.BadOperand i) = codes "item " ++ decimal i ++ codes ": bad operand"
error_text (errors.BadMode i) = codes "item " ++ decimal i ++ codes ": bad addressing mode"
error_text (errors.ScratchConflict i) =
    codes "item " ++ decimal i ++ codes ": scratch register in use"
error_text (errors.UnknownConstant i) = codes "item " ++ decimal i ++ codes ": unknown constant"
error_text (errors.LabelBoundTwice label) =
    codes "label L" ++ decimal label.0 ++ codes ": bound twice"
error_text (errors.UnboundLabel label) = codes "label L" ++ decimal label.0 ++ codes ": not bound"
error_text errors.TooLarge = codes "code too large"
error_text (errors.OutOfReach label) = codes "label L" ++ decimal label.0 ++ codes ": out of reach"
error_text errors.OutOfMemory = codes "out of memory"
