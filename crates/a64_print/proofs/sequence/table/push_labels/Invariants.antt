use Rattle.std.proofs.Common.{◌≡◌, ◌++◌, drop}
use Rattle.std.specs.String.{string_bytes}
use Rattle.a64_print.proofs.LabelSteps.{labels_left}
use Rattle.a64_operand_text.specs.SequenceTexts.{labels_text}
use Rattle.a64_print.proofs.sequence.table.push_labels.Given as goal

-- the labels that are left make the text whole
abbrev pub invariant-loop-label : goal.invariant-loop-label
invariant-loop-label l =
    string_bytes l.out ++ labels_left l.is_first (drop l.label-index l.labels) ≡ string_bytes l.fn.out ++ labels_text l.labels
