use Rattle.std.proofs.Common.{ℕ, ◌≡◌, ◌<◌, drop, get_or}
use Rattle.std.specs.Prelude.{IfSome}
use Rattle.std.specs.Option.{option_or}
use Rattle.a64_inst.specs.declared.item.Item.{Item}
use Rattle.a64_emit.specs.Faults.{bindings, own_fault, own_fault_from}
use Rattle.a64_cells.specs.FormCells.{HoldsHalfword}
use Rattle.a64_assemble.proofs.Bindings.{missing_of}
use Rattle.a64_assemble.proofs.Looked.{AreTotals}
use Rattle.a64_assemble.proofs.checks.check_items.Given as goal

-- the first fault of the items that are left is that of all, and those before them have halfwords of 16 bits; the first
-- missing label of the items so far, or else of those that are left, is that of all, where it is known which are bound; and
-- what is found so far is that of the items so far
abbrev pub invariant-loop-i : goal.invariant-loop-i
invariant-loop-i l = record {
  own_is : own_fault_from l.frame l.info l.constants l.i (drop l.i l.items) ≡ own_fault l.frame l.info l.constants l.items;
  halfwords : (j : ℕ) (d : Item) → j < l.i → HoldsHalfword (get_or l.items j d);
  missing_is : IfSome l.bound (λ _. option_or l.totals.missing (missing_of l.frame l.info (bindings l.items) (drop l.i l.items)) ≡ missing_of l.frame l.info (bindings l.items) l.items);
  totals_are : AreTotals l.frame l.info l.items l.i l.size l.totals;
}
