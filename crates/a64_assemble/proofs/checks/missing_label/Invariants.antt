use Rattle.std.proofs.Common.{◌≡◌, List, drop}
use Rattle.a64_base.specs.declared.entity.MachLabel.{MachLabel}
use Rattle.a64_emit.specs.Faults.{first_missing, HasLabels}
use Rattle.a64_assemble.proofs.checks.missing_label.Given as goal

-- the first of the labels that are left that is not bound is that of all
abbrev pub invariant-loop-label : goal.invariant-loop-label
invariant-loop-label l = (among : List MachLabel) → HasLabels l.bound among → first_missing among (drop l.label-index l.labels) ≡ first_missing among l.labels
