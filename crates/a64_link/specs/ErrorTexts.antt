-- What refusals say.
use Rattle.std.specs.Prelude.{ℕ, ◌++◌, List, codes}
use Rattle.std.specs.Fmt.{decimal}
use Rattle.a64_link.specs.declared.error.LinkError.{LinkError}
use Rattle.a64_link.specs.declared.error.LinkError.TheVariants as errors

-- the sentence of each refusal
abbrev pub error_text : LinkError → List ℕ
error_text (errors.BadDefine i name) =
    codes "unit " ++ decimal i ++ (codes ": bad symbol " ++ decimal name.0)
error_text (errors.UnsupportedReloc i place) =
    codes "unit " ++ decimal i ++ (codes ": unsupported relocation " ++ decimal place)
error_text (errors.BadSite i place) =
    codes "unit " ++ decimal i ++ (codes ": bad site " ++ decimal place)
error_text (errors.DefinedTwice name) = codes "symbol " ++ decimal name.0 ++ codes ": defined twice"
error_text (errors.Undefined name) = codes "symbol " ++ decimal name.0 ++ codes ": not defined"
error_text (errors.UnitTooLarge i) = codes "unit " ++ decimal i ++ codes ": too large"
error_text errors.TooLarge = codes "code too large"
error_text errors.OutOfMemory = codes "out of memory"
