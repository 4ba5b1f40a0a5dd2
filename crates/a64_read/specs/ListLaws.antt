-- Texts that may stand in a list.
use Rattle.std.specs.Prelude.{◌≡◌, List, ◌∷◌, map, codes}
use Rattle.std.specs.List.{join_with_byte, AllByRecursion}
use Rattle.std.proofs.Common.{arith, inl, lit<}
use Rattle.a64_base.specs.declared.entity.MachLabel.{MachLabel}
use Rattle.a64_tokens.specs.DigitLaws.{decimal_apart}
use Rattle.a64_tokens.specs.Fields.{label_text, IsLabel}
use Rattle.a64_tokens.specs.SplitLaws.{comma_apart}
use Rattle.a64_tokens.specs.Splitting.{comma_tokens}

pub label_apart : (label : MachLabel) (labels : List MachLabel)
    → AllByRecursion IsLabel (label ∷ labels)
    → comma_tokens (join_with_byte 44 (map label_text (label ∷ labels)))
    ≡ map label_text (label ∷ labels)
label_apart =
    comma_apart label_text IsLabel
    (λ label fits. decimal_apart 44 label.0 (inl (lit< tt)) (omega (arith, fits)))

pub label_no_dash : (label : MachLabel) → IsLabel label → label_text label ≡ codes "-" → ⊥
label_no_dash label fits e = cc
